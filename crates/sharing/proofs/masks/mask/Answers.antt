use Rattle.std.proofs.Common.{◌≡◌, ℕ, ◌+◌, get_or, drop, sym, ap, ◌∙◌}
use Rattle.std.proofs.lemmas.List.{at_drop_more, at_drop_all}
use Rattle.sharing.specs.Masks.{masked, grown}
use Rattle.sharing.proofs.Promises.{masks, hides}
use Rattle.sharing.proofs.masks.mask.Goals as goal

pub loop-seat-preserved : goal.loop-seat-preserved
loop-seat-preserved g c =
    let o = g.K.Kind.ops in
    let group = c.args.group.now in
    let i = c.loop-seat.seat-index in
    let grown-is : c.grow.new.strip ≡ grown o (o.reciprocal (get_or group i 0) 0) o.unit c.loop-seat.strip = c.grow.ensures ∙ ap (λ (r : ℕ). grown o r o.unit c.loop-seat.strip) c.reciprocal.ensures in
    sym (at_drop_more (λ seats. masked o seats c.loop-seat.strip) group i 0 c.loop-seat-test.true ∙ ap (masked o (drop (i + 1) group)) (sym grown-is))
    ∙ c.loop-seat.invariant

pub returns : goal.returns
returns g c =
    let o = g.K.Kind.ops in
    record {
      written =
          sym (at_drop_all (λ seats. masked o seats c.loop-seat.strip) c.args.group.now c.loop-seat.seat-index c.loop-seat-test.false) ∙ c.loop-seat.invariant
          ∙ ap (masked o c.args.group.now) (c.fill.ensures.after (λ y e. e));
      masks = masks o g.met.K.Kind.lawful;
      hides = hides o g.met.K.Kind.lawful;
    }
