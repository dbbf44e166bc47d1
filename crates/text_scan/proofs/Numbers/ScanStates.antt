-- The automaton's states at the ends that a scan finds.
use Rattle.std.proofs.Common.{◌≡◌, ◌≢◌, ◌⊎◌, ℕ, ◌+◌, ◌-◌, ◌<◌, ◌≤◌, true, false, cond, ◌||◌, List, length, refl, sym, subst, ap, ◌∙◌, inl, inr, ⊎_elim, arith}
use Rattle.std.specs.Prelude.{slice_index, ◌==◌}
use Rattle.std.specs.Int.{IsInRange, from_bool}
use Rattle.std.proofs.lemmas.Bool.{cases_eq, cases_Bool, false≢true}
use Rattle.std.proofs.lemmas.Bool.Decides.{nat_tests}
use Rattle.jsonb_spec.specs.Grammar.StandardNumber.{IsExponentMark}
use Rattle.text_scan.proofs.Numbers.Scan.{IsDigitRun, IsFractionEnd, IsBarePoint, IsExponentEnd, IsBareMark}
use Rattle.jsonb_spec.specs.Parsing.Number.{sign_end, ContinuesNumber}
use Rattle.text_scan.proofs.Numbers.Steps.{differs, is_no_digit, is_no_mark, sign_end_ge}
use Rattle.text_scan.proofs.Numbers.Automaton.{State, Start, Minus, Zero, Whole, Point, Fraction, Mark, MarkSign, Exponent, DecimalStart, Signed, Digits, BarePoint, Dead, next, from_first, is_accepting, state_at, state_at-next, state_over_digits, NoneEnds, zero_first, digit_first, no_digit_first, start_unsigned, whole_stays, fraction_stays, exponent_stays, point_digit, mark_digit, mark_sign_digit, EndsWhole, EndsDigits, EndsFraction, after_fraction_mark, StopsAt, ends_at, NoneEnds-from_stop, after_whole_point}

-- the states before the first digit
abbrev pub BeforeWhole : State → Type 0
BeforeWhole s = (s ≡ Start) ⊎ (s ≡ Minus)

-- where a whole part is due, and what its first byte leads to
pub record WholePartIsDue (bytes : List ℕ) (start : ℕ) : Type 0 where
  pub before : BeforeWhole (state_at Start bytes start)
  pub first : next (state_at Start bytes start) (slice_index bytes start) ≡ from_first (slice_index bytes start)

pub due : (bytes : List ℕ) (start : ℕ) → start ≡ from_bool (slice_index bytes 0 == 45) → start ≤ length bytes → WholePartIsDue bytes start
unfolding next
due bytes start at within =
    ⊎_elim
    (λ minus.
    let one : start ≡ 1 = at ∙ ap from_bool minus in
    let byte : slice_index bytes 0 ≡ 45 = grind (arith, nat_tests) in
    let there : state_at Start bytes start ≡ Minus = ap (state_at Start bytes) one ∙ (state_at-next Start bytes 0 (omega arith) ∙ ap (next Start) byte) in
    record { before = inr there; first = ap (λ s. next s (slice_index bytes start)) there })
    (λ no_minus.
    let none : start ≡ 0 = at ∙ ap from_bool no_minus in
    let there : state_at Start bytes start ≡ Start = ap (state_at Start bytes) none in
    let other : slice_index bytes start ≢ 45 = λ e. absurd (false≢true (sym no_minus ∙ ap (λ b. b == 45) (ap (slice_index bytes) (sym none) ∙ e))) in
    record { before = inl there; first = ap (λ s. next s (slice_index bytes start)) there ∙ start_unsigned (slice_index bytes start) other }) (cases_Bool (slice_index bytes 0 == 45))

before_rejects : (s : State) → BeforeWhole s → is_accepting s ≡ false
before_rejects s (inl e) = ap is_accepting e
before_rejects s (inr e) = ap is_accepting e

-- a state by its number, which distinguishes `Dead` from the others
abbrev pub number_of : State → ℕ
number_of Start = 0
number_of Minus = 1
number_of Zero = 2
number_of Whole = 3
number_of Point = 4
number_of Fraction = 5
number_of Mark = 6
number_of MarkSign = 7
number_of Exponent = 8
number_of DecimalStart = 9
number_of Signed = 10
number_of Digits = 11
number_of BarePoint = 12
number_of Dead = 13

pub alive_by : (s t : State) → s ≡ t → number_of t < 13 → s ≢ Dead
alive_by s t e small dead = omega (arith, ap number_of e, ap number_of dead)

-- no digit where the whole part is due
pub fault_no_digit : (bytes : List ℕ) (start : ℕ) → WholePartIsDue bytes start → start ≤ length bytes → ¬ IsInRange 48 57 (slice_index bytes start) → NoneEnds bytes
fault_no_digit bytes start is_due within none =
    NoneEnds-from_stop bytes start (state_at Start bytes start) (record {
      within = within;
      state = refl;
      alive = ⊎_elim (λ e. alive_by (state_at Start bytes start) Start e (omega arith)) (λ e. alive_by (state_at Start bytes start) Minus e (omega arith)) is_due.before;
      stops = is_due.first ∙ no_digit_first (slice_index bytes start) none;
    }) (before_rejects (state_at Start bytes start) is_due.before)

after_first : (bytes : List ℕ) (start : ℕ) → WholePartIsDue bytes start → start < length bytes → state_at Start bytes (start + 1) ≡ from_first (slice_index bytes start)
after_first bytes start is_due inside = state_at-next Start bytes start inside ∙ is_due.first

digit_stops_zero : (b : ℕ) → IsInRange 48 57 b → next Zero b ≡ Dead
unfolding next
digit_stops_zero b h =
    let point : (b == 46) ≡ false = differs b 46 (omega (arith, h)) in
    rw (point, is_no_mark b (⊎_elim (λ e. omega (arith, h)) (λ e. omega (arith, h)))) refl

-- a digit after a zero in front
pub fault_needless_zero : (bytes : List ℕ) (start end : ℕ) → WholePartIsDue bytes start → IsDigitRun bytes start end → slice_index bytes start ≡ 48 → start + 1 < end → NoneEnds bytes
fault_needless_zero bytes start end is_due digits zero_byte more k within text =
    let there : state_at Start bytes (start + 1) ≡ Zero = after_first bytes start is_due (omega (arith, digits.within)) ∙ zero_first (slice_index bytes start) zero_byte in
    let digit = digits.digits (start + 1) (omega arith) more in
    let stop : StopsAt Start bytes (start + 1) Zero = record { within = omega (arith, digits.within); state = there; alive = alive_by Zero Zero refl (omega arith); stops = digit_stops_zero (slice_index bytes (start + 1)) digit } in
    ⊎_elim (λ at. subst (λ i. ContinuesNumber (slice_index bytes i)) (sym at.0) (inl digit)) (λ before. before.1) (ends_at bytes (start + 1) Zero stop k within text)

-- the whole part ends in a state of its own
pub whole_state : (bytes : List ℕ) (start end : ℕ) → WholePartIsDue bytes start → IsDigitRun bytes start end → start < end → (slice_index bytes start ≡ 48 → end ≡ start + 1) → EndsWhole (state_at Start bytes end)
whole_state bytes start end is_due digits some no_zero =
    let there = after_first bytes start is_due (omega (arith, digits.within)) in
    ⊎_elim
    (λ zero_byte. inl (ap (state_at Start bytes) (no_zero zero_byte) ∙ (there ∙ zero_first (slice_index bytes start) zero_byte)))
    (λ other.
    let begun : state_at Start bytes (start + 1) ≡ Whole = there ∙ digit_first (slice_index bytes start) other (digits.digits start (omega arith) some) in
    let sum : start + 1 + (end - (start + 1)) ≡ end = omega arith in
    inr (ap (state_at Start bytes) (sym sum) ∙ state_over_digits Start bytes Whole whole_stays (end - (start + 1)) (start + 1) (omega (arith, digits.within)) begun (λ k low high. digits.digits k (omega arith) (omega arith)))) (cases_eq (slice_index bytes start) 48)

-- ---- the fraction

after_point : (bytes : List ℕ) (start : ℕ) → EndsWhole (state_at Start bytes start) → start < length bytes → slice_index bytes start ≡ 46 → state_at Start bytes (start + 1) ≡ Point
after_point bytes start ends inside point =
    state_at-next Start bytes start inside ∙ (ap (next (state_at Start bytes start)) point ∙ after_whole_point (state_at Start bytes start) ends)

no_digit_stops_point : (b : ℕ) → ¬ IsInRange 48 57 b → next Point b ≡ Dead
unfolding next
no_digit_stops_point b h = rw (is_no_digit b h) refl

pub fault_bare_point : (bytes : List ℕ) (start : ℕ) → EndsWhole (state_at Start bytes start) → IsBarePoint bytes start → NoneEnds bytes
fault_bare_point bytes start ends (point, none) =
    let there = after_point bytes start ends (omega (arith, none.within)) point in
    NoneEnds-from_stop bytes (start + 1) Point (record { within = none.within; state = there; alive = alive_by Point Point refl (omega arith); stops = no_digit_stops_point (slice_index bytes (start + 1)) none.ends }) refl

-- after the fraction: an exponent can begin, and no digit and no point goes on
pub record FractionDone (origin : State) (bytes : List ℕ) (end : ℕ) : Type 0 where
  pub within : end ≤ length bytes
  pub no_digit : ¬ IsInRange 48 57 (slice_index bytes end)
  pub state : (EndsDigits (state_at origin bytes end) × (slice_index bytes end ≢ 46)) ⊎ (state_at origin bytes end ≡ Fraction)

pub fraction_state : (bytes : List ℕ) (start end : ℕ) → start ≤ length bytes → ¬ IsInRange 48 57 (slice_index bytes start) → EndsWhole (state_at Start bytes start) → IsFractionEnd bytes start end → FractionDone Start bytes end
fraction_state bytes start end within no_digit ends (inl none) =
    let at = sym none.0 in
    record {
      within = omega (arith, none.0);
      no_digit = subst (λ i. ¬ IsInRange 48 57 (slice_index bytes i)) (sym none.0) no_digit;
      state = inl (inl (subst (λ i. EndsWhole (state_at Start bytes i)) (sym none.0) ends), subst (λ i. slice_index bytes i ≢ 46) (sym none.0) none.1);
    }
fraction_state bytes start end within no_digit ends (inr (point, more, digits)) =
    let there = after_point bytes start ends (omega (arith, digits.within)) point in
    let begun : state_at Start bytes (start + 1 + 1) ≡ Fraction = state_at-next Start bytes (start + 1) (omega (arith, digits.within)) ∙ (ap (λ s. next s (slice_index bytes (start + 1))) there ∙ point_digit (slice_index bytes (start + 1)) (digits.digits (start + 1) (omega arith) more)) in
    let sum : start + 1 + 1 + (end - (start + 1 + 1)) ≡ end = omega arith in
    record {
      within = digits.within;
      no_digit = digits.ends;
      state = inr (ap (state_at Start bytes) (sym sum) ∙ state_over_digits Start bytes Fraction fraction_stays (end - (start + 1 + 1)) (start + 1 + 1) (omega (arith, digits.within)) begun (λ k low high. digits.digits k (omega arith) (omega arith)));
    }

can_have_exponent : (origin : State) (bytes : List ℕ) (end : ℕ) → FractionDone origin bytes end → EndsFraction (state_at origin bytes end)
can_have_exponent origin bytes end done = ⊎_elim (λ w. inl w.0) inr done.state

-- ---- the exponent

zero_stops : (b : ℕ) → b ≢ 46 → ¬ IsExponentMark b → next Zero b ≡ Dead
unfolding next
zero_stops b point mark = rw (differs b 46 point, is_no_mark b mark) refl

whole_stops : (b : ℕ) → ¬ IsInRange 48 57 b → b ≢ 46 → ¬ IsExponentMark b → next Whole b ≡ Dead
unfolding next
whole_stops b digit point mark = rw (is_no_digit b digit, differs b 46 point, is_no_mark b mark) refl

fraction_stops : (b : ℕ) → ¬ IsInRange 48 57 b → ¬ IsExponentMark b → next Fraction b ≡ Dead
unfolding next
fraction_stops b digit mark = rw (is_no_digit b digit, is_no_mark b mark) refl

no_digit_stops_sign : (b : ℕ) → ¬ IsInRange 48 57 b → next MarkSign b ≡ Dead
unfolding next
no_digit_stops_sign b h = rw (is_no_digit b h) refl

no_digit_stops_exponent : (b : ℕ) → ¬ IsInRange 48 57 b → next Exponent b ≡ Dead
unfolding next
no_digit_stops_exponent b h = rw (is_no_digit b h) refl

no_digit_stops_mark : (b : ℕ) → (b == 43 || b == 45) ≡ false → ¬ IsInRange 48 57 b → next Mark b ≡ Dead
unfolding next
no_digit_stops_mark b sign h = rw (sign, is_no_digit b h) refl

sign_after_mark : (b : ℕ) → (b == 43 || b == 45) ≡ true → next Mark b ≡ MarkSign
unfolding next
sign_after_mark b sign = rw sign refl

-- what follows a mark and its sign
record MarkDone (origin : State) (bytes : List ℕ) (d : ℕ) : Type 0 where
  digit : (b : ℕ) → IsInRange 48 57 b → next (state_at origin bytes d) b ≡ Exponent
  no_digit : ¬ IsInRange 48 57 (slice_index bytes d) → next (state_at origin bytes d) (slice_index bytes d) ≡ Dead
  alive : state_at origin bytes d ≢ Dead
  rejects : is_accepting (state_at origin bytes d) ≡ false

mark_done : (origin : State) (bytes : List ℕ) (start d : ℕ) → EndsFraction (state_at origin bytes start) → IsExponentMark (slice_index bytes start) → d ≡ sign_end bytes (start + 1) → d ≤ length bytes → start < length bytes → MarkDone origin bytes d
mark_done origin bytes start d ends mark at within inside =
    let there : state_at origin bytes (start + 1) ≡ Mark = state_at-next origin bytes start inside ∙ after_fraction_mark (state_at origin bytes start) (slice_index bytes start) ends mark in
    ⊎_elim
    (λ sign.
    let offset : d ≡ start + 1 + 1 = at ∙ ap (λ b. cond b (start + 1 + 1) (start + 1)) sign in
    let signed : state_at origin bytes d ≡ MarkSign = ap (state_at origin bytes) offset ∙ (state_at-next origin bytes (start + 1) (omega arith) ∙ (ap (λ s. next s (slice_index bytes (start + 1))) there ∙ sign_after_mark (slice_index bytes (start + 1)) sign)) in
    record {
      digit = λ b h. ap (λ s. next s b) signed ∙ mark_sign_digit b h;
      no_digit = λ h. ap (λ s. next s (slice_index bytes d)) signed ∙ no_digit_stops_sign (slice_index bytes d) h;
      alive = alive_by (state_at origin bytes d) MarkSign signed (omega arith);
      rejects = ap is_accepting signed;
    })
    (λ no_sign.
    let offset : d ≡ start + 1 = at ∙ ap (λ b. cond b (start + 1 + 1) (start + 1)) no_sign in
    let marked : state_at origin bytes d ≡ Mark = ap (state_at origin bytes) offset ∙ there in
    let other : (slice_index bytes d == 43 || slice_index bytes d == 45) ≡ false = ap (λ i. slice_index bytes i == 43 || slice_index bytes i == 45) offset ∙ no_sign in
    record {
      digit = λ b h. ap (λ s. next s b) marked ∙ mark_digit b h;
      no_digit = λ h. ap (λ s. next s (slice_index bytes d)) marked ∙ no_digit_stops_mark (slice_index bytes d) other h;
      alive = alive_by (state_at origin bytes d) Mark marked (omega arith);
      rejects = ap is_accepting marked;
    }) (cases_Bool (slice_index bytes (start + 1) == 43 || slice_index bytes (start + 1) == 45))

-- a mark with no digit stops the automaton in a state that accepts nothing
pub bare_mark_stop : (origin : State) (bytes : List ℕ) (start p : ℕ) → FractionDone origin bytes start → IsBareMark bytes start p → (s : State) × StopsAt origin bytes p s × (is_accepting s ≡ false)
bare_mark_stop origin bytes start p done (mark, at, none) =
    let marked = mark_done origin bytes start p (can_have_exponent origin bytes start done) mark at none.within (omega (arith, sign_end_ge bytes (start + 1), none.within)) in
    (state_at origin bytes p, record { within = none.within; state = refl; alive = marked.alive; stops = marked.no_digit none.ends }, marked.rejects)

pub fault_bare_mark : (bytes : List ℕ) (start p : ℕ) → FractionDone Start bytes start → IsBareMark bytes start p → NoneEnds bytes
fault_bare_mark bytes start p done bare =
    let stop = bare_mark_stop Start bytes start p done bare in
    NoneEnds-from_stop bytes p stop.0 stop.1 stop.2

digits_stops : (b : ℕ) → ¬ IsInRange 48 57 b → b ≢ 46 → ¬ IsExponentMark b → next Digits b ≡ Dead
unfolding next
digits_stops b digit point mark = rw (is_no_digit b digit, differs b 46 point, is_no_mark b mark) refl

-- after the exponent, or after the fraction where there is none, the automaton stops
pub exponent_stop : (origin : State) (bytes : List ℕ) (start end : ℕ) → FractionDone origin bytes start → IsExponentEnd bytes start end → (s : State) × StopsAt origin bytes end s
exponent_stop origin bytes start end done (inl none) =
    let t = state_at origin bytes start in
    let b = slice_index bytes start in
    let stop : next (state_at origin bytes start) (slice_index bytes start) ≡ Dead =
    ⊎_elim (λ w. ⊎_elim (⊎_elim (λ e. ap (λ s. next s (slice_index bytes start)) e ∙ zero_stops (slice_index bytes start) w.1 none.1) (λ e. ap (λ s. next s (slice_index bytes start)) e ∙ whole_stops (slice_index bytes start) done.no_digit w.1 none.1)) (λ e. ap (λ s. next s (slice_index bytes start)) e ∙ digits_stops (slice_index bytes start) done.no_digit w.1 none.1) w.0)
    (λ e. ap (λ s. next s (slice_index bytes start)) e ∙ fraction_stops (slice_index bytes start) done.no_digit none.1) done.state in
    let alive : state_at origin bytes start ≢ Dead =
    ⊎_elim (λ w. ⊎_elim (⊎_elim (λ e. alive_by (state_at origin bytes start) Zero e (omega arith)) (λ e. alive_by (state_at origin bytes start) Whole e (omega arith))) (λ e. alive_by (state_at origin bytes start) Digits e (omega arith)) w.0) (λ e. alive_by (state_at origin bytes start) Fraction e (omega arith)) done.state in
    (state_at origin bytes start, subst (λ q. StopsAt origin bytes q (state_at origin bytes start)) (sym none.0) (record { within = done.within; state = refl; alive = alive; stops = stop }))
exponent_stop origin bytes start end done (inr (mark, more, digits)) =
    let d = sign_end bytes (start + 1) in
    let marked = mark_done origin bytes start (sign_end bytes (start + 1)) (can_have_exponent origin bytes start done) mark refl (omega (arith, digits.within)) (omega (arith, sign_end_ge bytes (start + 1), digits.within)) in
    let begun : state_at origin bytes (d + 1) ≡ Exponent = state_at-next origin bytes (sign_end bytes (start + 1)) (omega (arith, digits.within)) ∙ marked.digit (slice_index bytes (sign_end bytes (start + 1))) (digits.digits (sign_end bytes (start + 1)) (omega arith) more) in
    let sum : d + 1 + (end - (d + 1)) ≡ end = omega arith in
    let there : state_at origin bytes end ≡ Exponent = ap (state_at origin bytes) (sym sum) ∙ state_over_digits origin bytes Exponent exponent_stays (end - (d + 1)) (d + 1) (omega (arith, digits.within)) begun (λ k low high. digits.digits k (omega arith) (omega arith)) in
    (Exponent, record { within = digits.within; state = there; alive = alive_by Exponent Exponent refl (omega arith); stops = no_digit_stops_exponent (slice_index bytes end) digits.ends })
