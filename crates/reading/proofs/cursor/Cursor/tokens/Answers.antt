use Rattle.std.proofs.Common.{◌≡◌, [], ◌∷◌, ◌++◌, vec_items, sym, ap, ◌∙◌, subst}
use Rattle.reading.specs.declared.token.Token.TheVariants.{Word as WordToken}
use Rattle.reading.proofs.Items.{Items, items_more, line_whole}
use Rattle.reading.proofs.cursor.Cursor.tokens.Goals as goal
use Rattle.reading.proofs.cursor.Cursor.tokens.Goals.{In_ok-push}

-- the word is the first token
first : (c : In_ok-push) → vec_items c.push.new.self ≡ WordToken c.in_ok-word.field-0 ∷ []
first c = c.in_ok-push.ensures.items ∙ ap (λ l. l ++ WordToken c.in_ok-word.field-0 ∷ []) c.new-tokens.ensures.items

pub loop-tokens-preserved : goal.loop-tokens-preserved
loop-tokens-preserved c =
    let old = vec_items c.push.new.self in
    subst (Items c.word.new.self c.item.new.self old) (sym c.in_ok-push-2.ensures.items)
    (items_more c.word.new.self c.loop-tokens.self c.skip.new.self old (vec_items c.loop-tokens.tokens) c.loop-tokens.invariant c.loop-tokens-test.ensures.next c.item.new.self c.in_ok-item.field-0 c.in_ok-item.ensures)

pub returns : goal.returns
returns c =
    let old = vec_items c.push.new.self in
    let ts = vec_items c.loop-tokens.tokens in
    line_whole c.args.self.now c.expect.new.self c.word.new.self c.in_ok-word.field-0 c.in_ok-expect.ensures.next c.in_ok-word.ensures
    c.skip.new.self old ts (subst (λ x. Items c.word.new.self x old ts) (sym c.loop-tokens-test.ensures.stays) c.loop-tokens.invariant)
    c.expect-2.new.self c.expect-3.new.self (first (goal.at.returns c).In_ok-push) c.in_ok-expect-2.ensures.next c.in_ok-expect-3.ensures.next
