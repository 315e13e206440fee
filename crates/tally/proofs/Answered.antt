-- What the reader's answer says of the reading of its line. Assumes nothing.
use Rattle.std.proofs.Common.{◌≡◌, ℕ, ◌+◌, ◌<◌, List, length, sym, refl, ◌∙◌, subst}
use Rattle.std.proofs.lemmas.Bool.{cond-true, cond_both, lt-ltb, ltb-true}
use Rattle.reading.specs.Forms.{Form}
use Rattle.reading.specs.Line.{LineAnswer, line_tokens, line_fault, too_long, most_left, reading_answer, line_answer}
use Rattle.reading.specs.Read.{Reading, form_read, faulted, read}
use Rattle.reading.specs.Told.{tokens_of}

-- the tokens are those of the form that is read, and rest is left; the fault is the one at which the reading ends
abbrev pub Says : List ℕ → ℕ → LineAnswer → Type 0
Says bytes line (line_tokens ts rest) = (f : Form) × (read bytes ≡ form_read f rest) × (ts ≡ tokens_of line f)
Says bytes line (line_fault cause at column) = (read bytes ≡ faulted cause column) × (at ≡ line)
Says bytes line too_long = most_left < line + length bytes

module _ (bytes : List ℕ) (line : ℕ) where
  reading_says : (r : Reading) → read bytes ≡ r → Says bytes line (reading_answer line r)
  reading_says (form_read f rest) e = (f, e, refl)
  reading_says (faulted cause column) e = (e, refl)

  pub answer_says : (a : LineAnswer) → a ≡ line_answer bytes line → Says bytes line a
  answer_says a e =
      subst (Says bytes line) (sym e)
      (cond_both _ _ _ (Says bytes line) (ltb-true most_left (line + length bytes)) (λ _. reading_says (read bytes) refl))

  pub long_answer : (a : LineAnswer) → a ≡ line_answer bytes line → most_left < line + length bytes → a ≡ too_long
  long_answer a e long = e ∙ cond-true _ _ _ (lt-ltb most_left (line + length bytes) long)
