use Rattle.std.proofs.Common.{◌≡◌, get_or, arith}
use Rattle.std.proofs.lemmas.List.{at_drop_all}
use Rattle.kinds.specs.Kind.{difference}
use Rattle.sharing.specs.Masks.{grown}
use Rattle.sharing.proofs.InPlace.{done_step, left_step, all_done}
use Rattle.sharing.proofs.Growing.{grown_more}
use Rattle.sharing.proofs.masks.grow.Goals as goal

pub loop-code-preserved : goal.loop-code-preserved
loop-code-preserved g c =
    let o = g.K.Kind.ops in
    let now = c.loop-code.strip in
    let i = c.loop-code.code-index in
    let was : get_or now i 0 ≡ c.replace-before.result = cc in
    let value : c.replace-before.new.dest ≡ difference o (get_or now i 0) (o.product c.args.r c.loop-code.before) = cc in (
      done_step now i c.replace-before.new.dest _ _ _ (omega arith) c.loop-code.invariant.0
          (rw was at (grown_more o c.args.r c.loop-code.before now c.args.strip.now i c.replace-before.new.dest (omega arith) c.loop-code.invariant.1 value)),
      left_step now c.args.strip.now i c.replace-before.new.dest c.loop-code.invariant.1,
    )

pub returns : goal.returns
returns g c =
    all_done c.loop-code.strip c.loop-code.code-index _ _ (omega arith)
    (at_drop_all (grown g.K.Kind.ops c.args.r c.loop-code.before) c.args.strip.now c.loop-code.code-index (omega arith)) c.loop-code.invariant.0
