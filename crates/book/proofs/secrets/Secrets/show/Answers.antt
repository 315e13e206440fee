use Rattle.std.proofs.Common.{◌≡◌, ℕ, List, ◌++◌, map, ap, ◌∙◌, ap₂, rules}
use Rattle.std.proofs.lemmas.List.Folds.{flat_map-map}
use Rattle.std.specs.List.{range_with_len, flat_map}
use Rattle.book.specs.Secrets.{share_held, letter_held, entry_if}
use Rattle.book.specs.Slates.{flag, holds_share}
use Rattle.book.proofs.secrets.Secrets.show.Goals as goal

-- the entries of n numbers, one after the other
joined : (entries : ℕ → List ℕ) (first n : ℕ) (all : List (List ℕ)) → all ≡ map entries (range_with_len first n)
    → flat_map (λ e. e) all ≡ flat_map entries (range_with_len first n)
joined entries first n all is = ap (flat_map (λ (e : List ℕ). e)) is ∙ flat_map-map (λ e. e) entries (range_with_len first n)

pub returns : goal.returns
returns c =
    let x = c.args.self.now in
    let s = c.args.slate.now in
    let seat = c.args.seat in
    let of_line : ℕ → List ℕ = λ r. entry_if (holds_share s seat r) (share_held x seat r) in
    let of_sender : ℕ → List ℕ = λ i. entry_if (flag s.dealt i) (letter_held x seat i) in
    ap₂ ◌++◌ (c.copy_from_slice.ensures.after ∙ c.as_flattened.ensures.value ∙ joined of_line 0 32 _ (c.numbered-shares.ensures of_line (λ i v k. search rules)))
    (c.copy_from_slice-2.ensures.after ∙ c.as_flattened-2.ensures.value ∙ joined of_sender 1 9 _ (c.numbered-letters.ensures of_sender (λ i v k. search rules)))
