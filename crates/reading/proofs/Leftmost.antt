-- A fault is the leftmost of its line. Assumes nothing.
use Rattle.std.proofs.Common.{◌≡◌, ℕ, ◌+◌, ◌-◌, ◌≤◌, true, false, ◌⊎◌, List, [], ◌∷◌, ◌++◌, length, sym, refl, ap, ◌∙◌, subst, inl, inr, ⊎_elim, append_assoc, append-nil, arith}
use Rattle.std.proofs.lemmas.List.{length_push, length-append}
use Rattle.std.proofs.lemmas.Bool.{cases_Bool, cond-true, cond-false, both_ways}
use Rattle.reading.specs.Forms.{Form, Piece, number, numbers, is_digit, is_number, begins, spell_item, opened, spell, Word, Each, Number, Run, ProperPiece, LoosePiece}
use Rattle.reading.specs.Read.{Reading, State, Step, faulted, goes, ends, refuses, before, in_word, after_item, at_item, in_number, at_list, at_number, in_list, closed, step, run, judged, form_of, with_item}
use Rattle.reading.specs.Faults.{lead, so_far, CleanState, Inside, Begins, WrongByte, Leftmost, FaultIsLeftmost}
use Rattle.reading.proofs.Forward.{then-run}
use Rattle.reading.proofs.Loose.{fed, feed, feed_on, feed_line}
use Rattle.reading.proofs.Spells.{spaced_more, opened_more, Spells, step_spells, each_more, Rules, Whole, Keeps, Kept, Passed, step_keeps, Short, Ninth, strict, Sound}

loose : Rules LoosePiece (Each Run) (λ _. Unit {0}) (λ _ _. Unit {0})
loose = record { none = tt; list = λ ns n. n; item = λ ds r _. r; more = λ ns ds n r _. each_more Run ns ds n r }

abbrev Loosely : State → Type 0
Loosely s = Keeps LoosePiece (Each Run) s

loose_passed : (s : State) → Passed (λ _. Unit {0}) (λ _ _. Unit {0}) s
loose_passed before = tt
loose_passed (in_word w) = tt
loose_passed (after_item f) = tt
loose_passed (at_item f) = tt
loose_passed (in_number f ds) = tt
loose_passed (at_list f) = tt
loose_passed (at_number f ns) = tt
loose_passed (in_list f ns ds) = tt
loose_passed (closed f) = tt

-- how a line goes on from each state
short_word : Word (97 ∷ [])
short_word = (omega arith, omega arith, refl)

nought : Run (48 ∷ [])
nought = (omega arith, refl)

closes : (f : Form) (p : Piece) (tail : List ℕ) (x : ℕ) (rest : List ℕ) → tail ++ x ∷ rest ≡ spell_item p ++ 41 ∷ 10 ∷ [] → (opened f ++ tail) ++ x ∷ rest ≡ spell (with_item f p)
closes f p tail x rest e = grind (arith, append_assoc, opened_more)

item_more : (f : Form) (p : Piece) → Whole LoosePiece f → LoosePiece p → Whole LoosePiece (with_item f p)
item_more f p h q = (h.0, each_more LoosePiece f.items p h.1 q)

listed_end : (ns : List (List ℕ)) (ds : List ℕ) → 32 ∷ 40 ∷ (lead ns ++ ds) ++ 41 ∷ 41 ∷ 10 ∷ [] ≡ spell_item (numbers (ns ++ ds ∷ [])) ++ 41 ∷ 10 ∷ []
listed_end ns ds = grind (arith, spaced_more, append_assoc)

inside : (s : State) → Loosely s → Inside (so_far s)
inside before h = (form_of (97 ∷ []), 40, 97 ∷ 41 ∷ 10 ∷ [], (short_word, tt), refl)
inside (in_word []) h = (form_of (97 ∷ []), 97, 41 ∷ 10 ∷ [], (short_word, tt), refl)
inside (in_word (y ∷ ys)) h =
    (form_of (y ∷ ys), 41, 10 ∷ [], ((omega arith, h.0, h.1), tt), ap (λ l. l ++ 41 ∷ 10 ∷ []) (sym (append-nil (40 ∷ y ∷ ys))))
inside (after_item f) h = (f, 41, 10 ∷ [], h, refl)
inside (at_item f) h = (with_item f (number (48 ∷ [])), 48, 41 ∷ 10 ∷ [], item_more f (number (48 ∷ [])) h nought, closes f (number (48 ∷ [])) (32 ∷ []) 48 (41 ∷ 10 ∷ []) refl)
inside (in_number f ds) h = (with_item f (number ds), 41, 10 ∷ [], item_more f (number ds) h.0 h.1, closes f (number ds) (32 ∷ ds) 41 (10 ∷ []) refl)
inside (at_list f) h = (with_item f (numbers []), 41, 41 ∷ 10 ∷ [], item_more f (numbers []) h tt, closes f (numbers []) (32 ∷ 40 ∷ []) 41 (41 ∷ 10 ∷ []) refl)
inside (at_number f ns) h =
    let p = numbers (ns ++ (48 ∷ []) ∷ []) in
    (with_item f p, 48, 41 ∷ 41 ∷ 10 ∷ [], item_more f p h.0 (each_more Run ns (48 ∷ []) h.1 nought), closes f p (32 ∷ 40 ∷ lead ns) 48 (41 ∷ 41 ∷ 10 ∷ []) (ap (λ l. 32 ∷ 40 ∷ l) (sym (append_assoc (lead ns) (48 ∷ []) (41 ∷ 41 ∷ 10 ∷ []))) ∙ listed_end ns (48 ∷ [])))
inside (in_list f ns ds) h =
    let p = numbers (ns ++ ds ∷ []) in
    (with_item f p, 41, 41 ∷ 10 ∷ [], item_more f p h.0 (each_more Run ns ds h.1 h.2), closes f p (32 ∷ 40 ∷ (lead ns ++ ds)) 41 (41 ∷ 10 ∷ []) (listed_end ns ds))
inside (closed f) h = (f, 10, [], h, append_assoc (opened f) (41 ∷ []) (10 ∷ []))

clean : (s : State) → Sound s → Passed Number Ninth s → CleanState s
clean before h p = tt
clean (in_word w) h p = h.1
clean (after_item f) h p = h
clean (at_item f) h p = h
clean (in_number f ds) h p = (h.0, p)
clean (at_list f) h p = h
clean (at_number f ns) h p = (h.0, h.1.0, h.1.1)
clean (in_list f ns ds) h p = (h.0, omega (arith, length_push ns ds, p.1), each_more Number ns ds h.1.1 p.0)
clean (closed f) h p = h

-- the reading of the bytes stands at s, with bs to come
record At (bytes : List ℕ) (s : State) (c : ℕ) (bs : List ℕ) : Type 0 where
  here : so_far s ++ bs ≡ bytes
  column : c ≡ length (so_far s) + 1
  sound : Sound s
  loosely : Loosely s
  led : feed before (so_far s) ≡ goes s

-- the steps behind a first one
abbrev feed_step : Step → List ℕ → Step
feed_step x rest = fed x (λ t. feed t rest)

no_line : (s : State) (b : ℕ) → step s b ≡ refuses → feed before (so_far s) ≡ goes s → Begins (so_far s ++ b ∷ []) → ⊥
no_line s b r led t =
    let f = t.0 in
    let rest = t.1 in
    let over = sym (feed_line f t.2) ∙ ap (feed before) (sym t.3 ∙ append_assoc (so_far s) (b ∷ []) rest) ∙ feed_on (so_far s) before s (b ∷ rest) led in
    never f (over ∙ stops (step s b) r rest)
  where
    never : (f : Form) → ends f ≡ refuses → ⊥
    never f e = cc

    stops : (x : Step) → x ≡ refuses → (rest : List ℕ) → feed_step x rest ≡ refuses
    stops (goes u) e rest = cc
    stops (ends g) e rest = e
    stops refuses e rest = refl

-- the runs that are refused at their end
abbrev Bad : State → ℕ → ℕ → ℕ → Type 0
Bad before c k d = ⊥
Bad (in_word w) c k d = ⊥
Bad (after_item f) c k d = ⊥
Bad (at_item f) c k d = ⊥
Bad (in_number f ds) c k d = (k ≡ 21) × (d ≡ c - length ds) × (is_number ds ≡ false)
Bad (at_list f) c k d = ⊥
Bad (at_number f ns) c k d = ⊥
Bad (in_list f ns ds) c k d = (d ≡ c - length ds) × (((k ≡ 21) × (is_number ds ≡ false)) ⊎ ((k ≡ 22) × Number ds × (9 ≤ length ns)))
Bad (closed f) c k d = ⊥

blame : (s : State) (c : ℕ) (r : Reading) (k d : ℕ) → judged s c r ≡ faulted k d → (Passed Number Ninth s × (r ≡ faulted k d)) ⊎ Bad s c k d
blame before c r k d e = inl (tt, e)
blame (in_word w) c r k d e = inl (tt, e)
blame (after_item f) c r k d e = inl (tt, e)
blame (at_item f) c r k d e = inl (tt, e)
blame (in_number f ds) c r k d e = grind arith
blame (at_list f) c r k d e = inl (tt, e)
blame (at_number f ns) c r k d e = inl (tt, e)
blame (in_list f ns ds) c r k d e = grind arith
blame (closed f) c r k d e = inl (tt, e)

bad_left : (bytes : List ℕ) (s : State) (c : ℕ) (bs : List ℕ) (k d : ℕ) → At bytes s c bs → begins is_digit bs ≡ false → Bad s c k d → Leftmost bytes k d
bad_left bytes before c bs k d a n w = absurd w
bad_left bytes (in_word x) c bs k d a n w = absurd w
bad_left bytes (after_item f) c bs k d a n w = absurd w
bad_left bytes (at_item f) c bs k d a n w = absurd w
bad_left bytes (in_number f ds) c bs k d a n w =
    let front = opened f ++ 32 ∷ [] in
    let joins = append_assoc (opened f) (32 ∷ []) ds in
    let size = ap length joins in
    let sizes = length-append front ds in
    let col = a.column in
    let at = w.1 in (
      front,
      ds ++ bs,
      sym (append_assoc front ds bs) ∙ ap (λ l. l ++ bs) joins ∙ a.here,
      omega arith,
      inside (at_item f) a.loosely.0,
      (at_item f, refl, a.sound.0),
      inr (inl (w.0, (ds, bs, refl, a.loosely.1, w.2, n, subst Inside (sym joins) (inside (in_number f ds) a.loosely), (at_item f, refl, a.sound.0, tt)))),
    )
bad_left bytes (at_list f) c bs k d a n w = absurd w
bad_left bytes (at_number f ns) c bs k d a n w = absurd w
bad_left bytes (in_list f ns ds) c bs k d a n w =
    let front = opened f ++ 32 ∷ 40 ∷ lead ns in
    let joins = append_assoc (opened f) (32 ∷ 40 ∷ lead ns) ds in
    let size = ap length joins in
    let sizes = length-append front ds in
    let col = a.column in
    let at = w.0 in
    let few = a.sound.1.0 in (
      front,
      ds ++ bs,
      sym (append_assoc front ds bs) ∙ ap (λ l. l ++ bs) joins ∙ a.here,
      omega arith,
      inside (at_number f ns) (a.loosely.0, a.loosely.1),
      (at_number f ns, refl, (a.sound.0, a.sound.1.0, a.sound.1.1)),
      ⊎_elim
          (λ u. inr (inl (u.0, (ds, bs, refl, a.loosely.2, u.1, n, subst Inside (sym joins) (inside (in_list f ns ds) a.loosely), (at_number f ns, refl, (a.sound.0, a.sound.1.0, a.sound.1.1), tt)))))
          (λ u. inr (inr (u.0, (f, ns, ds, bs, a.sound.0, a.sound.1.1, refl, omega (arith, u.2), refl, u.1, n))))
          w.1,
    )
bad_left bytes (closed f) c bs k d a n w = absurd w

byte_left : (bytes : List ℕ) (s : State) (c : ℕ) (bs : List ℕ) (k d : ℕ) → At bytes s c bs → Passed Number Ninth s → faulted 20 c ≡ faulted k d → WrongByte (so_far s) bs → Leftmost bytes k d
byte_left bytes s c bs k d a p e w = grind (arith, inside, clean)

-- a digit is refused only where no run stands
digit_passed : (s : State) (b : ℕ) → is_digit b ≡ true → step s b ≡ refuses → Passed Number Ninth s
digit_passed before b d e = tt
digit_passed (in_word w) b d e = tt
digit_passed (after_item f) b d e = tt
digit_passed (at_item f) b d e = tt
digit_passed (in_number f ds) b d e = grind arith
digit_passed (at_list f) b d e = tt
digit_passed (at_number f ns) b d e = tt
digit_passed (in_list f ns ds) b d e = grind arith
digit_passed (closed f) b d e = tt

step_led : (s t : State) (b : ℕ) → feed before (so_far s) ≡ goes s → step s b ≡ goes t → so_far t ≡ so_far s ++ b ∷ [] → feed before (so_far t) ≡ goes t
step_led s t b led e is = ap (feed before) is ∙ feed_on (so_far s) before s (b ∷ []) led ∙ ap (λ x. feed_step x []) e

module _ (bytes : List ℕ) (k d : ℕ) where
  after : (s : State) (c b : ℕ) (bs : List ℕ) → At bytes s c (b ∷ bs) → (is_digit b ≡ false → Passed Number Ninth s) → ((t : State) → At bytes t (c + 1) bs → run t (c + 1) bs ≡ faulted k d → Leftmost bytes k d) → (x : Step) → step s b ≡ x → then-run x c bs ≡ faulted k d → Leftmost bytes k d
  after s c b bs a p ih (goes t) is e =
      let spelled = subst (Spells s b) is (step_spells s b) in
      let size = ap length spelled ∙ length_push (so_far s) b in
      let col = a.column in
      ih t (record {
        here = ap (λ l. l ++ bs) spelled ∙ append_assoc (so_far s) (b ∷ []) bs ∙ a.here;
        column = omega arith;
        sound = subst (Kept ProperPiece Short) is (step_keeps strict s b a.sound p);
        loosely = subst (Kept LoosePiece (Each Run)) is (step_keeps loose s b a.loosely (λ _. loose_passed s));
        led = step_led s t b a.led is spelled;
      }) e
  after s c b bs a p ih (ends f) is e = cc
  after s c b bs a p ih refuses is e =
      byte_left bytes s c (b ∷ bs) k d a (⊎_elim (λ t. digit_passed s b t is) p (cases_Bool (is_digit b))) e (no_line s b is a.led)

  fault_run : (bs : List ℕ) (s : State) (c : ℕ) → At bytes s c bs → run s c bs ≡ faulted k d → Leftmost bytes k d
  fault_run [] s c a e = ⊎_elim (λ t. byte_left bytes s c [] k d a t.0 t.1 tt) (λ w. bad_left bytes s c [] k d a refl w) (blame s c _ k d e)
  fault_run (b ∷ bs) s c a e =
      let ih : (t : State) → At bytes t (c + 1) bs → run t (c + 1) bs ≡ faulted k d → Leftmost bytes k d = λ t h r. fault_run bs t (c + 1) h r in
      ⊎_elim
      (λ t. after s c b bs a (λ n. absurd (both_ways (is_digit b) n t)) ih (step s b) refl (sym (cond-true (is_digit b) _ _ t) ∙ e))
      (λ n.
      ⊎_elim (λ t. after s c b bs a (λ _. t.0) ih (step s b) refl t.1) (λ w. bad_left bytes s c (b ∷ bs) k d a n w)
      (blame s c _ k d (sym (cond-false (is_digit b) _ _ n) ∙ e)))
      (cases_Bool (is_digit b))

pub fault_is_leftmost : FaultIsLeftmost
fault_is_leftmost bytes k d e =
    fault_run bytes k d bytes before 1 (record { here = refl; column = refl; sound = tt; loosely = tt; led = refl }) e
