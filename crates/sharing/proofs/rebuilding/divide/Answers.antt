use Rattle.std.proofs.Common.{◌≡◌, ℕ, map, get_or, arith, ap, ◌∙◌}
use Rattle.std.proofs.lemmas.List.{at_drop_all}
use Rattle.kinds.specs.Kind.{difference}
use Rattle.sharing.proofs.InPlace.{done_step, left_step, all_done}
use Rattle.sharing.proofs.Dividing.{divided_at, divided_more, seats-divided, values-divided}
use Rattle.sharing.proofs.rebuilding.divide.Goals as goal

pub loop-other-preserved : goal.loop-other-preserved
loop-other-preserved g c =
    let o = g.K.Kind.ops in
    let now = c.loop-other.pairs in
    let i = c.loop-other.other-index in
    let p : ℕ × ℕ = get_or now i (0, 0) in
    let value : c.product.result ≡ o.product (difference o p.1 c.args.value) (o.reciprocal p.0 c.args.seat) = cc in (
      done_step now i (p.0, c.product.result) _ _ _ (omega arith) c.loop-other.invariant.0
          (divided_more o c.args.seat c.args.value now c.args.pairs.now i (p.0, c.product.result) (0, 0) (omega arith) c.loop-other.invariant.1 (ap (λ (z : ℕ). (p.0, z)) value)),
      left_step now c.args.pairs.now i (p.0, c.product.result) c.loop-other.invariant.1,
    )

pub returns : goal.returns
returns g c =
    let o = g.K.Kind.ops in
    let was = c.args.pairs.now in
    let all : c.loop-other.pairs ≡ map (divided_at o c.args.seat c.args.value) was =
    all_done c.loop-other.pairs c.loop-other.other-index _ _ (omega arith)
    (at_drop_all (map (divided_at o c.args.seat c.args.value)) was c.loop-other.other-index (omega arith)) c.loop-other.invariant.0 in
    record {
      seats = ap (map (λ (p : ℕ × ℕ). p.0)) all ∙ seats-divided o c.args.seat c.args.value was;
      values = ap (map (λ (p : ℕ × ℕ). p.1)) all ∙ values-divided o c.args.seat c.args.value was;
    }
