-- Arrays that are made place by place, and rows among them. Assumes nothing.
use Rattle.std.proofs.Common.{◌≡◌, ℕ, zero, suc, ◌+◌, ◌<◌, ◌≤◌, cond, leb, List, ◌∷◌, map, take, drop, length, refl, ap, ap₂, subst, ◌∙◌, arith}
use denote.Param.Members.{Mut}
use Rattle.std.specs.Array.{IsFromFnResult, IsFromFnResultFrom}
use Rattle.std.specs.Fn.{Called}
use Rattle.std.specs.List.{range_with_len}
use Rattle.std.proofs.lemmas.List.{drop_more, drop_all}
use Rattle.std.proofs.lemmas.List.FromFn.{length-map-range_with_len, get_or-map-range_with_len, take-map-range_with_len}
use Rattle.std.proofs.lemmas.Bool.{cond-true, le-leb}
use Rattle.sharing.specs.Shares.{most_seats, seats_to}
use Rattle.sharing.proofs.Weighing.{filled_seats}
use Rattle.book.specs.Secrets.{by_seat}

-- calls at each place below n that change nothing, and give the value of its number, counted from the first
module _ {F B : Type 0} (g : Mut F (ℕ × Unit {0}) B) (f : F) (value : ℕ → B) (first n : ℕ)
    (each : (i : ℕ) (y : B) (q : F) → i < n → Called g f (i, tt) y q → (y ≡ value (first + i)) × (q ≡ f)) where
  numbered_from : (left i j : ℕ) (p : F) (ys : List B) → length ys ≡ n → i + left ≡ n → first + i ≡ j → p ≡ f → IsFromFnResultFrom g p ys i left
      → drop i ys ≡ map value (range_with_len j left)
  numbered_from zero i j p ys long all at same h = drop_all i ys (omega arith)
  numbered_from (suc left) i j p ys long all at same (q, y, is, call, rest) =
      let here = each i y q (omega arith) (subst (λ (s : F). Called g s (i, tt) y q) same call) in
      drop_more ys i y (omega arith)
      ∙ ap₂ ◌∷◌ (is.0 ∙ here.0 ∙ ap value at) (numbered_from left (i + 1) (j + 1) q ys long (omega arith) (omega arith) here.1 rest)

  -- what `from_fn` makes of them
  pub numbered_by : (ys : List B) → IsFromFnResult g f ys n → ys ≡ map value (range_with_len first n)
  numbered_by ys h = numbered_from n 0 first f ys h.long (omega arith) (omega arith) refl h.each

-- the codes of the seats, without the zeros past them
pub take-by_seat : (n m : ℕ) (f : ℕ → ℕ) (row : List ℕ) → row ≡ by_seat n f → m ≡ n → n ≤ most_seats → take m row ≡ map f (seats_to n)
take-by_seat n m f row is at few =
    let g : ℕ → ℕ = λ i. cond (leb i n) (f i) 0 in
    ap₂ take at is ∙ take-map-range_with_len g 1 most_seats n few
    ∙ filled_seats f (map g (seats_to n)) n (length-map-range_with_len g 1 n)
    (λ k h. get_or-map-range_with_len g 1 n k (k + 1) 0 h (omega arith) ∙ cond-true (leb (k + 1) n) (f (k + 1)) 0 (le-leb (k + 1) n (omega arith)))
