-- The loop over a sheet's lines: what is written so far, and what the rest writes. Assumes nothing.
use Rattle.std.proofs.Common.{◌≡◌, ℕ, ◌+◌, ◌<◌, ◌≤◌, Bool, true, false, cond, eqb, ltb, List, [], ◌++◌, length, Some, None, Ok, Err, Option, Result, sym, refl, ap, ◌∙◌, subst, ap₂, inl, inr, append_assoc, append-nil, arith}
use Rattle.std.proofs.lemmas.List.{nil_from_length}
use Rattle.std.proofs.lemmas.Bool.{cond-true, cond-false, lt-ltb, le-ltb, ltb-true, ltb-false, eqb-true, eqb-false, true≢false, cases_eq}
use Rattle.reading.specs.Line.{most_left}
use Rattle.forms.specs.declared.fault.FormFault.{FormFault}
use Rattle.tally.specs.Desks.{Answer, Desk, answer_of}
use Rattle.tally.specs.Sheets.{cut, goes_on, lines_text, turn_text}
use Rattle.tally.specs.Taking.{Taken, Turned, Written}
use Rattle.tally.specs.Texts.{answer_text, fault_text, form_fault, too_long}
use Rattle.tally.specs.declared.answer.Answer.{Answer as Answered}
use Rattle.tally.specs.declared.fault.SheetFault.{SheetFault}
use Rattle.tally.specs.declared.fault.SheetFault.TheVariants.{TooLong, Reading, Form, NoMemory}

-- what the bytes from a line on write
abbrev pub rest_text : Desk → ℕ → List ℕ → List ℕ
rest_text d line bytes = cond (ltb most_left (line + length bytes)) (fault_text too_long) (lines_text d line (cut bytes))

pub short_rest : (d : Desk) (line : ℕ) (bytes : List ℕ) → line + length bytes ≤ most_left → rest_text d line bytes ≡ lines_text d line (cut bytes)
short_rest d line bytes h = cond-false _ _ _ (le-ltb most_left (line + length bytes) h)

pub long_rest : (d : Desk) (line : ℕ) (bytes : List ℕ) → most_left < line + length bytes → rest_text d line bytes ≡ fault_text too_long
long_rest d line bytes h = cond-true _ _ _ (lt-ltb most_left (line + length bytes) h)

-- at the sheet's end nothing is
pub at_end : (d : Desk) (line : ℕ) → line ≤ most_left → rest_text d line [] ≡ []
at_end d line h = short_rest d line [] (omega (arith, h))

-- ---- one line

module _ (d after : Desk) (line next : ℕ) (bytes rest : List ℕ) where
  -- a sheet that is not too long is not so later
  within : {r e : Result Answered SheetFault} → (most_left < line + length bytes → r ≡ e) → (r ≡ e → ◌≡◌ {A = ℕ} 0 1) → line + length bytes ≤ most_left
  within {r} {e} long clash = at (ltb most_left (line + length bytes)) refl
    where
      at : (b : Bool) → ltb most_left (line + length bytes) ≡ b → line + length bytes ≤ most_left
      at true t = omega (arith, clash (long (ltb-true most_left (line + length bytes) t)))
      at false t = ltb-false most_left (line + length bytes) t

  -- a form was taken
  by_turn : (answer : Result Answer FormFault) → Turned d line bytes answer after next rest → line + length bytes ≤ most_left
      → rest_text d line bytes ≡ turn_text line (record { answer = answer; desk = after }) (λ e. rest_text e next rest)
  by_turn (Ok a) t short =
      short_rest d line bytes short ∙ t.0 ∙ ap (λ (l : List ℕ). answer_text a ++ l) (sym (short_rest after next rest (omega (arith, t.1, t.2, short))))
  by_turn (Err fault) t short =
      short_rest d line bytes short ∙ t.0
      ∙ ap (λ (l : List ℕ). fault_text (form_fault line fault) ++ cond (goes_on fault) l []) (sym (short_rest after next rest (omega (arith, t.1, t.2, short))))

  pub stepped : (r : Result Answered SheetFault) (text : List ℕ) (goes : Bool) → 0 < length bytes → Taken d line bytes r after next rest
      → (most_left < line + length bytes → r ≡ Err TooLong) → Written line r text goes
      → rest_text d line bytes ≡ text ++ cond goes (rest_text after next rest) []
  stepped (Ok a) text goes some t long w =
      by_turn (Ok (answer_of a)) t (within long (λ e. cc)) ∙ ap₂ (λ (x : List ℕ) (g : Bool). x ++ cond g (rest_text after next rest) []) (sym w.0) (sym w.1)
  stepped (Err (Form fault)) text goes some t long w =
      by_turn (Err fault) t (within long (λ e. cc))
      ∙ ap₂ (λ (x : List ℕ) (g : Bool). x ++ cond g (rest_text after next rest) []) (ap (λ o. elim o [ Some ns ↦ fault_text ns | None ↦ [] ]) w.1 ∙ sym w.2) (sym w.3)
  stepped (Err (Reading fault)) text goes some t long w =
      short_rest d line bytes (within long (λ e. cc)) ∙ t some ∙ sym (append-nil _)
      ∙ ap₂ (λ (x : List ℕ) (g : Bool). x ++ cond g (rest_text after next rest) []) (ap (λ o. elim o [ Some ns ↦ fault_text ns | None ↦ [] ]) w.1 ∙ sym w.2) (sym w.3)
  stepped (Err TooLong) text goes some t long w =
      long_rest d line bytes t ∙ sym (append-nil _)
      ∙ ap₂ (λ (x : List ℕ) (g : Bool). x ++ cond g (rest_text after next rest) []) (ap (λ o. elim o [ Some ns ↦ fault_text ns | None ↦ [] ]) w.1 ∙ sym w.2) (sym w.3)
  stepped (Err NoMemory) text goes some t long w = let e = w.1 in cc

  -- where the sheet goes on, the rest is shorter, and its first line is within the bounds
  pub goes_down : (r : Result Answered SheetFault) (text : List ℕ) → Taken d line bytes r after next rest → (most_left < line + length bytes → r ≡ Err TooLong) → Written line r text true
      → (length rest < length bytes) × (next ≤ most_left)
  goes_down (Ok a) text t long w = (t.1, omega (arith, t.1, t.2, within long (λ e. cc)))
  goes_down (Err (Form fault)) text t long w = (t.1, omega (arith, t.1, t.2, within long (λ e. cc)))
  goes_down (Err (Reading fault)) text t long w = elim (true≢false w.3) [ ]
  goes_down (Err TooLong) text t long w = elim (true≢false w.3) [ ]
  goes_down (Err NoMemory) text t long w = elim (true≢false w.3) [ ]

  -- what is written with the line, and what the rest writes
  pub wrote_on : (r : Result Answered SheetFault) (n : ℕ) (out new whole text : List ℕ) (goes : Bool) → 0 < length bytes
      → out ++ rest_text d line bytes ≡ whole → Taken d line bytes r after next rest → (most_left < line + length bytes → r ≡ Err TooLong)
      → n ≡ line → new ≡ out ++ text → Written n r text goes → new ++ cond goes (rest_text after next rest) [] ≡ whole
  wrote_on r n out new whole text goes some so_far t long is more w =
      ap (λ (l : List ℕ). l ++ cond goes (rest_text after next rest) []) more
      ∙ append_assoc out text (cond goes (rest_text after next rest) [])
      ∙ ap (λ (l : List ℕ). out ++ l) (sym (stepped r text goes some t long (subst (λ m. Written m r text goes) is w)))
      ∙ so_far

-- where a line is next, some bytes are left, and the line's number is at hand
pub line_next : (n line at : ℕ) (r : Option ℕ) → r ≡ cond (eqb n 0) None (Some line) → r ≡ Some at → (0 < n) × (at ≡ line)
line_next n line at r e is = told (eqb n 0) refl (sym is ∙ e)
  where
    told : (b : Bool) → eqb n 0 ≡ b → Some at ≡ cond b None (Some line) → (0 < n) × (at ≡ line)
    told true t x = elim (true≢false (ap (λ o. elim o [ Some y ↦ true | None ↦ false ]) x)) [ ]
    told false t x = (elim (cases_eq n 0) [ inl z ↦ elim (eqb-false n 0 t z) [ ] | inr z ↦ omega (arith, z) ], ap (λ o. elim o [ Some y ↦ y | None ↦ 0 ]) x)

-- where none is, no byte is left
pub none_next : (bytes : List ℕ) (line : ℕ) (r : Option ℕ) → r ≡ cond (eqb (length bytes) 0) None (Some line) → r ≡ None → bytes ≡ []
none_next bytes line r e is = told (eqb (length bytes) 0) refl (sym is ∙ e)
  where
    told : (b : Bool) → eqb (length bytes) 0 ≡ b → None ≡ cond b None (Some line) → bytes ≡ []
    told true t x = nil_from_length bytes (eqb-true (length bytes) 0 t)
    told false t x = elim (true≢false (ap (λ o. elim o [ Some y ↦ false | None ↦ true ]) x)) [ ]

-- all is written at the sheet's end
pub wrote_up : (d : Desk) (line : ℕ) (bytes out whole : List ℕ) → bytes ≡ [] → line ≤ most_left → out ++ rest_text d line bytes ≡ whole → out ≡ whole
wrote_up d line bytes out whole none h so_far =
    sym (append-nil out) ∙ ap (λ (l : List ℕ). out ++ l) (sym (at_end d line h)) ∙ ap (λ (l : List ℕ). out ++ rest_text d line l) (sym none) ∙ so_far
