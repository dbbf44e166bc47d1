-- The automaton accepts extended decimals, and stops where a scan of one ends.
use Rattle.std.proofs.Common.{◌≡◌, ◌≢◌, ◌⊎◌, ℕ, ◌+◌, ◌-◌, ◌<◌, ◌≤◌, true, false, cond, ◌||◌, Option, Some, None, List, [], ◌∷◌, ◌++◌, length, take, refl, sym, subst, ap, ◌∙◌, inl, inr, ⊎_elim, arith}
use Rattle.std.specs.Prelude.{slice_index, ◌==◌}
use Rattle.std.specs.Int.{IsInRange}
use Rattle.std.specs.Str.Parse.{AllDigits}
use Rattle.std.proofs.lemmas.Str.Parse.{digit_from_value}
use Rattle.std.proofs.lemmas.Bool.{cases_lt, cases_Bool, false≢true}
use Rattle.std.proofs.lemmas.List.{append-nil, append_assoc, length-append}
use Rattle.jsonb_core.proofs.Numbers.DecimalTexts.{digits-after_zeros}
use Rattle.jsonb_spec.specs.Grammar.StandardNumber.{IsSign}
use Rattle.jsonb_spec.specs.Grammar.ExtendedNumber.{IsDecimalText}
use Rattle.jsonb_spec.specs.Parsing.Number.{sign_end, ContinuesNumber}
use Rattle.text_scan.proofs.Numbers.Steps.{differs, is_digit, is_no_digit}
use Rattle.text_scan.proofs.Numbers.Scan.{IsDigitRun, IsBareMark}
use Rattle.text_scan.proofs.Numbers.DecimalScan.{IsZeroRun, IsPointEnd}
use Rattle.text_scan.proofs.Numbers.Automaton.{State, Fraction, DecimalStart, Signed, Digits, BarePoint, Dead, next, run, is_accepting, run-append, run_digits, state_at, state_at-next, state_over_digits, fraction_stays, EndsFraction, exponent_accepted, StopsAt, accepted_ends}
use Rattle.text_scan.proofs.Numbers.ScanStates.{FractionDone, alive_by, bare_mark_stop}
use Rattle.jsonb_core.proofs.Numbers.Fractions.{fraction_digits, fraction_text}
use Rattle.text_scan.proofs.Numbers.TextParts.{HasDecimalText, text_parts}

-- of the decimal number texts that the bytes begin with none is longer than len, and after each shorter one a byte goes
-- on with a number
abbrev pub IsLongestDecimal : List ℕ → ℕ → Type 0
IsLongestDecimal bytes len = (k : ℕ) → k ≤ length bytes → IsDecimalText (take k bytes) → (k ≡ len) ⊎ ((k < len) × ContinuesNumber (slice_index bytes k))

-- after each decimal number text that the bytes begin with a byte goes on with a number
abbrev pub NoDecimalEnds : List ℕ → Type 0
NoDecimalEnds bytes = (k : ℕ) → k ≤ length bytes → IsDecimalText (take k bytes) → ContinuesNumber (slice_index bytes k)

-- ---- steps

abbrev pub BeforeDigits : State → Type 0
BeforeDigits s = (s ≡ DecimalStart) ⊎ (s ≡ Signed)

digits_stay : (b : ℕ) → IsInRange 48 57 b → next Digits b ≡ Digits
unfolding next
digits_stay b h = rw (is_digit b h) refl

start_digit : (b : ℕ) → IsInRange 48 57 b → next DecimalStart b ≡ Digits
unfolding next
start_digit b h =
    let plus : (b == 43) ≡ false = differs b 43 (omega (arith, h)) in
    let minus : (b == 45) ≡ false = differs b 45 (omega (arith, h)) in
    rw (plus, minus, is_digit b h) refl

signed_digit : (b : ℕ) → IsInRange 48 57 b → next Signed b ≡ Digits
unfolding next
signed_digit b h = rw (is_digit b h) refl

before_digit : (s : State) (b : ℕ) → BeforeDigits s → IsInRange 48 57 b → next s b ≡ Digits
before_digit s b (inl e) h = ap (λ t. next t b) e ∙ start_digit b h
before_digit s b (inr e) h = ap (λ t. next t b) e ∙ signed_digit b h

before_point : (s : State) → BeforeDigits s → next s 46 ≡ BarePoint
unfolding next
before_point s (inl e) = ap (λ t. next t 46) e
before_point s (inr e) = ap (λ t. next t 46) e

bare_digit : (b : ℕ) → IsInRange 48 57 b → next BarePoint b ≡ Fraction
unfolding next
bare_digit b h = rw (is_digit b h) refl

digits_point : next Digits 46 ≡ Fraction
unfolding next
digits_point = refl

point_stops_fraction : next Fraction 46 ≡ Dead
unfolding next
point_stops_fraction = refl

start_stops : (b : ℕ) → (b == 43 || b == 45) ≡ false → ¬ IsInRange 48 57 b → b ≢ 46 → next DecimalStart b ≡ Dead
unfolding next
start_stops b sign digit point = rw (sign, is_no_digit b digit, differs b 46 point) refl

signed_stops : (b : ℕ) → ¬ IsInRange 48 57 b → b ≢ 46 → next Signed b ≡ Dead
unfolding next
signed_stops b digit point = rw (is_no_digit b digit, differs b 46 point) refl

bare_stops : (b : ℕ) → ¬ IsInRange 48 57 b → next BarePoint b ≡ Dead
unfolding next
bare_stops b digit = rw (is_no_digit b digit) refl

sign_starts : (b : ℕ) → (b == 43 || b == 45) ≡ true → next DecimalStart b ≡ Signed
unfolding next
sign_starts b sign = rw sign refl

-- ---- decimal number texts are accepted

signs_before : (sign : List ℕ) → IsSign sign → BeforeDigits (run DecimalStart sign)
unfolding next
signs_before sign (inl none) = inl (ap (run DecimalStart) none)
signs_before sign (inr (inl plus)) = inr (ap (run DecimalStart) plus)
signs_before sign (inr (inr minus)) = inr (ap (run DecimalStart) minus)

decimal_ends : (s : State) (ds : List ℕ) (f : Option (List ℕ)) → BeforeDigits s → AllDigits 10 ds → AllDigits 10 (fraction_digits f) → 0 < length ds + length (fraction_digits f) → EndsFraction (run s (ds ++ fraction_text f))
decimal_ends s (d ∷ ds) None before h k some =
    inl (inr (ap (λ t. run t (ds ++ [])) (before_digit s d before (digit_from_value d h.0)) ∙ (ap (run Digits) (append-nil ds) ∙ run_digits Digits digits_stay ds h.1)))
decimal_ends s (d ∷ ds) (Some f) before h k some =
    inr (ap (λ t. run t (ds ++ 46 ∷ f)) (before_digit s d before (digit_from_value d h.0)) ∙ (run-append Digits ds (46 ∷ f) ∙ (ap (λ t. run t (46 ∷ f)) (run_digits Digits digits_stay ds h.1) ∙ (ap (λ t. run t f) digits_point ∙ run_digits Fraction fraction_stays f k))))
decimal_ends s [] None before h k some = absurd (omega (arith, some))
decimal_ends s [] (Some []) before h k some = absurd (omega (arith, some))
decimal_ends s [] (Some (c ∷ cs)) before h k some =
    inr (ap (λ t. run t (c ∷ cs)) (before_point s before) ∙ (ap (λ t. run t cs) (bare_digit c (digit_from_value c k.0)) ∙ run_digits Fraction fraction_stays cs k.1))

parts_accepted : (bytes : List ℕ) → HasDecimalText bytes → is_accepting (run DecimalStart bytes) ≡ true
parts_accepted bytes (sign, zeros, whole, fraction, exponent, parts) =
    let digits : AllDigits 10 (zeros ++ whole) = subst (λ z. AllDigits 10 (z ++ whole)) (sym parts.are_zeros) (digits-after_zeros (length zeros) whole parts.whole_digits) in
    let ends : EndsFraction (run (run DecimalStart sign) ((zeros ++ whole) ++ fraction_text fraction)) =
    decimal_ends (run DecimalStart sign) (zeros ++ whole) fraction (signs_before sign parts.is_sign) digits parts.digits_behind (omega (arith, parts.some_digit, length-append zeros whole)) in
    let regroup : zeros ++ (whole ++ (fraction_text fraction ++ exponent)) ≡ ((zeros ++ whole) ++ fraction_text fraction) ++ exponent = sym (append_assoc (zeros ++ whole) (fraction_text fraction) exponent ∙ append_assoc zeros whole (fraction_text fraction ++ exponent)) in
    let there : run DecimalStart bytes ≡ run (run (run DecimalStart sign) ((zeros ++ whole) ++ fraction_text fraction)) exponent =
    ap (run DecimalStart) parts.joined ∙ (run-append DecimalStart sign (zeros ++ (whole ++ (fraction_text fraction ++ exponent))) ∙ (ap (run (run DecimalStart sign)) regroup ∙ run-append (run DecimalStart sign) ((zeros ++ whole) ++ fraction_text fraction) exponent)) in
    ap is_accepting there ∙ exponent_accepted _ exponent ends parts.is_exponent

pub decimal_accepted : (bytes : List ℕ) → IsDecimalText bytes → is_accepting (run DecimalStart bytes) ≡ true
decimal_accepted bytes text = parts_accepted bytes (text_parts bytes text)

pub NoDecimalEnds-from_stop : (bytes : List ℕ) (q : ℕ) (s : State) → StopsAt DecimalStart bytes q s → (is_accepting s ≡ true → ContinuesNumber (slice_index bytes q)) → NoDecimalEnds bytes
NoDecimalEnds-from_stop bytes q s stop goes k within text =
    ⊎_elim (λ at. subst (λ i. ContinuesNumber (slice_index bytes i)) (sym at.0) (goes at.1)) (λ before. before.1) (accepted_ends DecimalStart bytes q s stop k within (decimal_accepted (take k bytes) text))

pub IsLongestDecimal-from_stop : (bytes : List ℕ) (q : ℕ) (s : State) → StopsAt DecimalStart bytes q s → IsLongestDecimal bytes q
IsLongestDecimal-from_stop bytes q s stop k within text =
    ⊎_elim (λ at. inl at.0) (λ before. inr before) (accepted_ends DecimalStart bytes q s stop k within (decimal_accepted (take k bytes) text))

-- ---- the states of a scan

pub record IsDecimalDue (bytes : List ℕ) (start : ℕ) : Type 0 where
  pub before : BeforeDigits (state_at DecimalStart bytes start)
  pub stops : ¬ IsInRange 48 57 (slice_index bytes start) → slice_index bytes start ≢ 46 → next (state_at DecimalStart bytes start) (slice_index bytes start) ≡ Dead

pub decimal_due : (bytes : List ℕ) (start : ℕ) → start ≡ sign_end bytes 0 → start ≤ length bytes → IsDecimalDue bytes start
decimal_due bytes start at within =
    ⊎_elim
    (λ sign.
    let one : start ≡ 1 = at ∙ ap (λ b. cond b (0 + 1) 0) sign in
    let there : state_at DecimalStart bytes start ≡ Signed = ap (state_at DecimalStart bytes) one ∙ (state_at-next DecimalStart bytes 0 (omega arith) ∙ sign_starts (slice_index bytes 0) sign) in
    record { before = inr there; stops = λ digit point. ap (λ s. next s (slice_index bytes start)) there ∙ signed_stops (slice_index bytes start) digit point })
    (λ no_sign.
    let none : start ≡ 0 = at ∙ ap (λ b. cond b (0 + 1) 0) no_sign in
    let there : state_at DecimalStart bytes start ≡ DecimalStart = ap (state_at DecimalStart bytes) none in
    let other : (slice_index bytes start == 43 || slice_index bytes start == 45) ≡ false = ap (λ i. slice_index bytes i == 43 || slice_index bytes i == 45) none ∙ no_sign in
    record { before = inl there; stops = λ digit point. ap (λ s. next s (slice_index bytes start)) there ∙ start_stops (slice_index bytes start) other digit point }) (cases_Bool (slice_index bytes 0 == 43 || slice_index bytes 0 == 45))

pub before_alive : (s : State) → BeforeDigits s → s ≢ Dead
before_alive s (inl e) = alive_by s DecimalStart e (omega arith)
before_alive s (inr e) = alive_by s Signed e (omega arith)

pub before_rejects : (s : State) → BeforeDigits s → is_accepting s ≡ false
before_rejects s (inl e) = ap is_accepting e
before_rejects s (inr e) = ap is_accepting e

-- zeros and then digits are digits
pub zeros_and_digits : (bytes : List ℕ) (a b c : ℕ) → IsZeroRun bytes a b → IsDigitRun bytes b c → IsDigitRun bytes a c
zeros_and_digits bytes a b c zeros digits = record {
  ordered = omega (arith, zeros.ordered, digits.ordered);
  within = digits.within;
  digits = λ k low high. ⊎_elim (λ below. let z = zeros.zeros k low below in (omega (arith, z), omega (arith, z))) (λ above. digits.digits k above high) (cases_lt k b);
  ends = digits.ends;
}

whole_digits : (bytes : List ℕ) (start end : ℕ) → IsDecimalDue bytes start → IsDigitRun bytes start end → start < end → state_at DecimalStart bytes end ≡ Digits
whole_digits bytes start end is_due digits some =
    let begun : state_at DecimalStart bytes (start + 1) ≡ Digits = state_at-next DecimalStart bytes start (omega (arith, digits.within)) ∙ before_digit (state_at DecimalStart bytes start) (slice_index bytes start) is_due.before (digits.digits start (omega arith) some) in
    let sum : start + 1 + (end - (start + 1)) ≡ end = omega arith in
    ap (state_at DecimalStart bytes) (sym sum) ∙ state_over_digits DecimalStart bytes Digits digits_stay (end - (start + 1)) (start + 1) (omega (arith, digits.within)) begun (λ k low high. digits.digits k (omega arith) (omega arith))

-- no digit, and a point or none
pub fault_no_decimal : (bytes : List ℕ) (start digits end : ℕ) → IsDecimalDue bytes start → start ≤ length bytes → ¬ IsInRange 48 57 (slice_index bytes start) → IsPointEnd bytes start digits end → digits ≡ end → NoDecimalEnds bytes
fault_no_decimal bytes start digits end is_due within no_digit (inl none) same =
    NoDecimalEnds-from_stop bytes start (state_at DecimalStart bytes start) (record { within = within; state = refl; alive = before_alive (state_at DecimalStart bytes start) is_due.before; stops = is_due.stops no_digit none.2 })
    (λ accepts. absurd (false≢true (sym (before_rejects (state_at DecimalStart bytes start) is_due.before) ∙ accepts)))
fault_no_decimal bytes start digits end is_due within no_digit (inr (point, offset, behind)) same =
    let there : state_at DecimalStart bytes (start + 1) ≡ BarePoint = state_at-next DecimalStart bytes start (omega (arith, behind.within, behind.ordered)) ∙ (ap (next (state_at DecimalStart bytes start)) point ∙ before_point (state_at DecimalStart bytes start) is_due.before) in
    let at : end ≡ start + 1 = sym same ∙ offset in
    NoDecimalEnds-from_stop bytes (start + 1) BarePoint (record { within = omega (arith, behind.within); state = there; alive = alive_by BarePoint BarePoint refl (omega arith); stops = bare_stops (slice_index bytes (start + 1)) (subst (λ i. ¬ IsInRange 48 57 (slice_index bytes i)) at behind.ends) })
    (λ accepts. absurd (false≢true accepts))

-- the state after a point and its digits
after_point : (bytes : List ℕ) (start whole digits end : ℕ) → IsDecimalDue bytes start → IsDigitRun bytes start whole → slice_index bytes whole ≡ 46 → digits ≡ whole + 1 → IsDigitRun bytes digits end → (start < whole) ⊎ (digits < end) → state_at DecimalStart bytes end ≡ Fraction
after_point bytes start whole digits end is_due run_whole point offset behind some =
    let inside : whole < length bytes = omega (arith, behind.within, behind.ordered) in
    ⊎_elim
    (λ has_whole.
    let begun : state_at DecimalStart bytes (whole + 1) ≡ Fraction = state_at-next DecimalStart bytes whole inside ∙ (ap (next (state_at DecimalStart bytes whole)) point ∙ (ap (λ s. next s 46) (whole_digits bytes start whole is_due run_whole has_whole) ∙ digits_point)) in
    let sum : whole + 1 + (end - (whole + 1)) ≡ end = omega (arith, behind.ordered) in
    ap (state_at DecimalStart bytes) (sym sum) ∙ state_over_digits DecimalStart bytes Fraction fraction_stays (end - (whole + 1)) (whole + 1) (omega (arith, behind.within, behind.ordered)) begun (λ k low high. behind.digits k (omega arith) (omega (arith, behind.ordered))))
    (λ no_whole.
    let here : whole ≡ start = omega (arith, no_whole, run_whole.ordered) in
    let has_digit : digits < end = ⊎_elim (λ w. absurd (omega (arith, w, no_whole))) (λ d. d) some in
    let bare : state_at DecimalStart bytes (whole + 1) ≡ BarePoint = state_at-next DecimalStart bytes whole inside ∙ (ap (next (state_at DecimalStart bytes whole)) point ∙ (ap (λ i. next (state_at DecimalStart bytes i) 46) here ∙ before_point (state_at DecimalStart bytes start) is_due.before)) in
    let begun : state_at DecimalStart bytes (whole + 1 + 1) ≡ Fraction = state_at-next DecimalStart bytes (whole + 1) (omega (arith, behind.within)) ∙ (ap (λ s. next s (slice_index bytes (whole + 1))) bare ∙ bare_digit (slice_index bytes (whole + 1)) (behind.digits (whole + 1) (omega arith) (omega arith))) in
    let sum : whole + 1 + 1 + (end - (whole + 1 + 1)) ≡ end = omega arith in
    ap (state_at DecimalStart bytes) (sym sum) ∙ state_over_digits DecimalStart bytes Fraction fraction_stays (end - (whole + 1 + 1)) (whole + 1 + 1) (omega (arith, behind.within)) begun (λ k low high. behind.digits k (omega arith) (omega arith)))
    (cases_lt start whole)

pub fault_second_point : (bytes : List ℕ) (start whole digits end : ℕ) → IsDecimalDue bytes start → IsDigitRun bytes start whole → IsPointEnd bytes whole digits end → whole < digits → (start < whole) ⊎ (digits < end) → slice_index bytes end ≡ 46 → NoDecimalEnds bytes
fault_second_point bytes start whole digits end is_due run_whole (inl none) later some again = absurd (omega (arith, none.0))
fault_second_point bytes start whole digits end is_due run_whole (inr (point, offset, behind)) later some again =
    NoDecimalEnds-from_stop bytes end Fraction (record { within = behind.within; state = after_point bytes start whole digits end is_due run_whole point offset behind some; alive = alive_by Fraction Fraction refl (omega arith); stops = ap (next Fraction) again ∙ point_stops_fraction })
    (λ accepts. inr (inl again))

pub decimal_done : (bytes : List ℕ) (start whole digits end : ℕ) → IsDecimalDue bytes start → IsDigitRun bytes start whole → IsPointEnd bytes whole digits end → (start < whole) ⊎ (digits < end) → FractionDone DecimalStart bytes end
decimal_done bytes start whole digits end is_due run_whole (inl none) some =
    let has_whole : start < whole = ⊎_elim (λ w. w) (λ d. absurd (omega (arith, d, none.0, none.1))) some in
    record {
      within = omega (arith, none.1, run_whole.within);
      no_digit = subst (λ i. ¬ IsInRange 48 57 (slice_index bytes i)) (sym none.1) run_whole.ends;
      state = inl (inr (ap (state_at DecimalStart bytes) none.1 ∙ whole_digits bytes start whole is_due run_whole has_whole), subst (λ i. slice_index bytes i ≢ 46) (sym none.1) none.2);
    }
decimal_done bytes start whole digits end is_due run_whole (inr (point, offset, behind)) some = record {
  within = behind.within;
  no_digit = behind.ends;
  state = inr (after_point bytes start whole digits end is_due run_whole point offset behind some);
}

pub fault_decimal_mark : (bytes : List ℕ) (start p : ℕ) → FractionDone DecimalStart bytes start → IsBareMark bytes start p → NoDecimalEnds bytes
fault_decimal_mark bytes start p done bare =
    let stop = bare_mark_stop DecimalStart bytes start p done bare in
    NoDecimalEnds-from_stop bytes p stop.0 stop.1 (λ accepts. absurd (false≢true (sym stop.2 ∙ accepts)))
