-- The steps of a loop that rewrites a list in place: what is done stands in front, what is left is as it was.
-- Assumes nothing.
use Rattle.std.proofs.Common.{◌≡◌, ℕ, ◌+◌, ◌<◌, ◌≤◌, List, [], ◌∷◌, ◌++◌, length, get_or, take, drop, set, sym, ap, ◌∙◌, ap₂, append_assoc, append-nil, arith}
use Rattle.std.proofs.lemmas.List.{take_more_set, drop-set-lt, drop-drop, get_or-drop, take_all}

-- one more element rewritten to v
pub done_step : {X : Type 0} (now : List X) (i : ℕ) (v : X) (todo later whole : List X) → i < length now → take i now ++ todo ≡ whole → todo ≡ v ∷ later
    → take (i + 1) (set now i v) ++ later ≡ whole
done_step now i v todo later whole inside inv e =
    ap (λ xs. xs ++ later) (take_more_set now i v inside) ∙ append_assoc (take i now) (v ∷ []) later ∙ ap (λ xs. take i now ++ xs) (sym e) ∙ inv

pub left_step : {X : Type 0} (now was : List X) (i : ℕ) (v : X) → drop i now ≡ drop i was → drop (i + 1) (set now i v) ≡ drop (i + 1) was
left_step now was i v left = drop-set-lt (i + 1) now i v (omega arith) ∙ sym (drop-drop 1 i now) ∙ ap (drop 1) left ∙ drop-drop 1 i was

pub left_here : {X : Type 0} (d : X) (now was : List X) (i : ℕ) → drop i now ≡ drop i was → get_or now i d ≡ get_or was i d
left_here d now was i left =
    let a = get_or-drop i now 0 d in
    let b = get_or-drop i was 0 d in
    let e : i + 0 ≡ i = omega arith in
    cc

pub all_done : {X : Type 0} (now : List X) (i : ℕ) (todo whole : List X) → length now ≤ i → todo ≡ [] → take i now ++ todo ≡ whole → now ≡ whole
all_done now i todo whole out none inv = sym (ap₂ ◌++◌ (take_all i now out) none ∙ append-nil now) ∙ inv
