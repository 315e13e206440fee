-- The numbers of a list, one after the other. Assumes nothing.
use Rattle.std.proofs.Common.{◌≡◌, ℕ, ◌+◌, ◌-◌, ◌<◌, ◌≤◌, false, eqb, List, [], ◌∷◌, ◌++◌, length, take, Ok, Err, Result, IfErr, sym, refl, ap, ◌∙◌, subst, append_assoc, arith, MatchResult}
use Rattle.std.proofs.lemmas.List.{length_push, length-append, take_at}
use Rattle.reading.specs.Forms.{Form, number, numbers, spell_piece, begins, spaced}
use Rattle.reading.specs.Faults.{lead}
use Rattle.reading.specs.Read.{at_item, at_list, at_number}
use Rattle.reading.specs.Told.{number_at, list_at}
use Rattle.reading.specs.Steps.{run_from, Passes, NotNext, Faults, NumberRead, ListRead, ItemRead}
use Rattle.reading.specs.declared.cursor.Cursor.{Cursor}
use Rattle.reading.specs.declared.token.Cause.TheVariants.{Byte, TenthNumber}
use Rattle.reading.specs.declared.token.Part.{Part}
use Rattle.reading.specs.declared.token.ReadFault.{ReadFault}
use Rattle.reading.specs.declared.token.Token.TheVariants.{Number as NumberToken, List as ListToken}
use Rattle.reading.proofs.Along.{fault_at, item_number, item_fault, passes_on, list_more, list_closes, list_breaks, list_tenth, list_fault}
use Rattle.reading.proofs.Spells.{lead_more, spaced_more}

-- from a to m stand k numbers, each with a space behind it
abbrev pub Listing : Cursor → Cursor → ℕ → Type 0
Listing a m k =
    (ns : List (List ℕ)) × (length ns ≡ k) × Passes a m (lead ns) × ((f : Form) → run_from (at_list f) a ≡ run_from (at_number f ns) m)

pub listing_fault : (a m b : Cursor) (k : ℕ) (e : ReadFault) → Listing a m k → NumberRead m b (Err e) → ListRead a b (Err e)
listing_fault a m b k e l w =
    λ f. fault_at a m e e.cause _ l.2.level w.0 refl (l.3 f ∙ list_fault f l.0 m e.cause w.1)

module _ (a m n : Cursor) (k : ℕ) (p : Part) (l : Listing a m k) (r : NumberRead m n (Ok p)) where
  passed : Passes a n (lead l.0 ++ p.bytes.now)
  passed = passes_on a m n (lead l.0) p.bytes.now l.2 r.0.over

  pub listing_more : (d : Cursor) → k < 9 → Passes n d (32 ∷ []) → Listing a d (k + 1)
  listing_more d h s = (
    l.0 ++ p.bytes.now ∷ [],
    length_push l.0 p.bytes.now ∙ ap (λ j. j + 1) l.1,
    subst (Passes a d) (append_assoc (lead l.0) p.bytes.now (32 ∷ []) ∙ sym (lead_more l.0 p.bytes.now)) (passes_on a n d _ (32 ∷ []) passed s),
    λ f. l.3 f ∙ list_more f l.0 m n p r.0 r.1 r.2 d (omega (arith, l.1)) s,
  )

  pub listing_ends : (d : Cursor) (x : Result (Unit {0}) ReadFault) → k < 9 → NotNext 32 n.rest.now → MatchResult x (λ _. Passes n d (41 ∷ [])) (λ _. NotNext 41 n.rest.now) → IfErr x (λ e. (e.place ≡ n.place) × (e.cause ≡ Byte)) → ListRead a d x
  listing_ends d (Ok u) h s close fault = (
    l.0 ++ p.bytes.now ∷ [],
    subst (Passes a d) (ap (λ t. t ++ 41 ∷ []) (sym (spaced_more l.0 p.bytes.now))) (passes_on a n d _ (41 ∷ []) passed close),
    λ f. l.3 f ∙ list_closes f l.0 m n p r.0 r.1 r.2 d (omega (arith, l.1)) close,
  )
  listing_ends d (Err e) h s next fault =
      λ f. fault_at a n e Byte _ passed.level fault.0 fault.1 (l.3 f ∙ list_breaks f l.0 m n p r.0 r.1 r.2 (omega (arith, l.1)) s next)

  pub listing_tenth : (e : ReadFault) → 9 ≤ k → e.place ≡ m.place → e.cause ≡ TenthNumber → (f : Form) → Faults a e (run_from (at_list f) a)
  listing_tenth e h at cause f = grind (arith, list_tenth f l.0 m n p)

-- an item that is a number
pub item_is_number : (a b : Cursor) (p : Part) → NumberRead a b (Ok p) → ItemRead a b (Ok (NumberToken p))
item_is_number a b p r = (number p.bytes.now, (λ i. number_at p.bytes.now (r.0.place i).line (r.0.place i).column), r.0.over, λ f. item_number f a b p r.0 r.1 r.2)

pub item_no_number : (a b : Cursor) (e : ReadFault) → begins (λ x. eqb x 40) a.rest.now ≡ false → NumberRead a b (Err e) → ItemRead a b (Err e)
item_no_number a b e o w = λ f. grind (arith, item_fault f a)

-- an item that is a list, whose "(" stands between a and m
module _ (a m b : Cursor) (open_list : Passes a m (40 ∷ [])) where
  into : (f : Form) → run_from (at_item f) a ≡ run_from (at_list f) m
  into f = grind arith

  pub item_no_list : (e : ReadFault) → ListRead m b (Err e) → ItemRead a b (Err e)
  item_no_list e w f = let h = w f in grind (arith, into f)

  pub list_over : (x : Unit {0}) (r : ListRead m b (Ok x)) → Passes a b (spell_piece (numbers r.0))
  list_over x r = passes_on a m b (40 ∷ []) (spaced r.0 ++ 41 ∷ []) open_list r.1

  pub item_is_list : (x : Unit {0}) (p : Part) → ListRead m b (Ok x) → p.bytes.now ≡ take (length a.rest.now - length b.rest.now) a.rest.now → p.place ≡ a.place → ItemRead a b (Ok (ListToken p))
  item_is_list x p r bytes at =
      let over = list_over x r in
      let all_of = spell_piece (numbers r.0) in
      let sizes = ap length over.split ∙ length-append all_of b.rest.now in
      let long : length all_of ≡ length a.rest.now - length b.rest.now = omega arith in
      let is : p.bytes.now ≡ all_of = bytes ∙ ap (λ l. take (length a.rest.now - length b.rest.now) l) over.split ∙ take_at all_of b.rest.now _ long in
      (numbers r.0, (λ i. list_at (is i) (at i).line (at i).column), over, λ f. into f ∙ r.2 f)
