-- The items of a line, one after the other. Assumes nothing.
use Rattle.std.proofs.Common.{◌≡◌, ℕ, ◌+◌, List, [], ◌∷◌, ◌++◌, map, length, Ok, sym, ap, ◌∙◌, subst, append_assoc, add-zero, arith}
use Rattle.std.specs.List.{flat_map}
use Rattle.std.proofs.lemmas.List.{length-append, map_push, flat_map_more}
use Rattle.reading.specs.Forms.{Form, Piece, spell_piece, spell_item}
use Rattle.reading.specs.Read.{form_read, before, in_word, after_item, at_item, closed, form_of}
use Rattle.reading.specs.Told.{told, word_at, piece_at, placed}
use Rattle.reading.specs.Steps.{run_from, Passes, WordRead, ItemRead, TokensRead}
use Rattle.reading.specs.declared.cursor.Cursor.{Cursor}
use Rattle.reading.specs.declared.token.Part.{Part}
use Rattle.reading.specs.declared.token.Token.{Token}
use Rattle.reading.specs.declared.token.Token.TheVariants.{Word as WordToken}
use Rattle.reading.proofs.Along.{passes_on}

abbrev pub with_items : Form → List Piece → Form
with_items f ps = record { word = f.word; items = f.items ++ ps }

-- one byte of a state that judges nothing
pub line_opens : (a b : Cursor) → Passes a b (40 ∷ []) → run_from before a ≡ run_from (in_word []) b
line_opens a b s = grind arith

pub item_opens : (f : Form) (a b : Cursor) → Passes a b (32 ∷ []) → run_from (after_item f) a ≡ run_from (at_item f) b
item_opens f a b s = grind arith

pub line_closes : (f : Form) (a b : Cursor) → Passes a b (41 ∷ []) → run_from (after_item f) a ≡ run_from (closed f) b
line_closes f a b s = grind arith

pub line_ends : (f : Form) (a b : Cursor) → Passes a b (10 ∷ []) → run_from (closed f) a ≡ form_read f b.rest.now
line_ends f a b s = grind arith

placed_more : (line c : ℕ) (ps : List Piece) (p : Piece) → placed line c (ps ++ p ∷ []) ≡ placed line c ps ++ piece_at line (c + length (flat_map spell_item ps) + 1) p ∷ []
placed_more line c [] p = ap (λ n. piece_at line (n + 1) p ∷ []) (sym (add-zero c))
placed_more line c (q ∷ ps) p =
    grind (arith, placed_more line (c + 1 + length (spell_piece q)) ps p, length-append (spell_piece q) (flat_map spell_item ps))

-- from a to m stand items, whose tokens ts are behind those of before
abbrev pub Items : Cursor → Cursor → List Token → List Token → Type 0
Items a m old ts =
    (ps : List Piece) × Passes a m (flat_map spell_item ps) × (map told ts ≡ map told old ++ placed a.place.line a.place.column ps) × ((f : Form) → run_from (after_item f) a ≡ run_from (after_item (with_items f ps)) m)

-- the space before an item stands between m and n
module _ (a m n : Cursor) (old ts : List Token) (l : Items a m old ts) (space : Passes m n (32 ∷ [])) where
  pub items_more : (d : Cursor) (t : Token) → ItemRead n d (Ok t) → Items a d old (ts ++ t ∷ [])
  items_more d t r = (
    l.0 ++ r.0 ∷ [],
    subst (Passes a d) (flat_map_more spell_item [] l.0 r.0) (passes_on a m d (flat_map spell_item l.0) (spell_item r.0) l.1 (passes_on m n d (32 ∷ []) (spell_piece r.0) space r.2)),
    map_push told ts t ∙ (λ i. l.2 i ++ at_column i ∷ []) ∙ append_assoc (map told old) (placed a.place.line a.place.column l.0) _ ∙ ap (λ x. map told old ++ x) (sym (placed_more a.place.line a.place.column l.0 r.0)),
    λ f.
        l.3 f ∙ item_opens (with_items f l.0) m n space ∙ r.3 (with_items f l.0)
        ∙ ap (λ x. run_from (after_item (record { word = f.word; items = x })) d) (append_assoc f.items l.0 (r.0 ∷ [])),
  )
    where
      at_column : told t ≡ piece_at a.place.line (a.place.column + length (flat_map spell_item l.0) + 1) r.0
      at_column = r.1 ∙ (λ i. piece_at ((space.level ∙ l.1.level) i) ((space.moved ∙ ap (λ c. c + 1) l.1.moved) i) r.0)

-- a line whose "(" is between a and b, and its word between b and w
module _ (a b w : Cursor) (p : Part) (opens : Passes a b (40 ∷ [])) (word : WordRead b w (Ok p)) where
  begun : run_from before a ≡ run_from (after_item (form_of p.bytes.now)) w
  begun = line_opens a b opens ∙ word.1

  module _ (m : Cursor) (old ts : List Token) (l : Items w m old ts) where
    read_items : run_from before a ≡ run_from (after_item (with_items (form_of p.bytes.now) l.0)) m
    read_items = begun ∙ l.3 (form_of p.bytes.now)

    level : m.place.line ≡ a.place.line
    level = l.1.level ∙ word.0.over.level ∙ opens.level

    pub line_whole : (d e : Cursor) → old ≡ WordToken p ∷ [] → Passes m d (41 ∷ []) → Passes d e (10 ∷ []) → TokensRead a e ts
    line_whole d e is close end =
        let o = opens.moved in
        let x = word.0.over.moved in
        let y = l.1.moved in
        let z = close.moved in
        let v = end.moved in (
          with_items (form_of p.bytes.now) l.0,
          read_items ∙ line_closes _ m d close ∙ line_ends _ d e end,
          l.2 ∙ ap (λ t. map told t ++ placed w.place.line w.place.column l.0) is
              ∙ (λ i. word_at p.bytes.now ((ap (λ q. q.line) word.0.place ∙ opens.level) i) ((ap (λ q. q.column) word.0.place ∙ opens.moved) i) ∷ placed ((word.0.over.level ∙ opens.level) i) ((word.0.over.moved ∙ ap (λ c. c + length p.bytes.now) opens.moved) i) l.0),
          end.level ∙ close.level ∙ level,
          omega arith,
        )
