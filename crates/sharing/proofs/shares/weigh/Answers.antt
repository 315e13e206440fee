use Rattle.std.proofs.Common.{◌≡◌, ℕ, ◌+◌, Bool, cond, length, get_or, set, sym, ap, ◌∙◌, arith}
use Rattle.std.proofs.lemmas.List.Edits.{fill_by_more}
use Rattle.std.proofs.lemmas.Bool.{le-ltb}
use Rattle.sharing.specs.Shares.{weight_among, weights_of, seats_to, most_seats}
use Rattle.sharing.proofs.Weighing.{filled_seats}
use Rattle.sharing.proofs.shares.weigh.Goals as goal

pub loop-i-preserved : goal.loop-i-preserved
loop-i-preserved g c k h =
    let f : ℕ → ℕ = λ i. weight_among g.K.Kind.ops (seats_to (length c.args.list.now)) (i + 1) in
    let value : c.weight.result ≡ f c.loop-i.i = cc in
    ap (λ (w : ℕ). get_or (set c.loop-i.list c.loop-i.i w) k 0) value
    ∙ fill_by_more f c.loop-i.list c.loop-i.i 0 (omega arith) c.loop-i.invariant k h

pub returns-clause-written : goal.returns-clause-written
returns-clause-written g c =
    let n = length c.args.list.now in
    let few = le-ltb most_seats n (omega arith) in
    filled_seats (weight_among g.K.Kind.ops (seats_to n)) c.loop-i.list n (omega arith) (λ k h. c.loop-i.invariant k (omega arith))
    ∙ ap (λ (t : Bool). cond t c.args.list.now (weights_of g.K.Kind.ops n)) (sym few)
