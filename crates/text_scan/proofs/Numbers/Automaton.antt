-- The states of the automaton, that it accepts numbers, and where a number can end. It shows after which of its
-- beginnings a text can end.
use Rattle.std.proofs.Common.{◌≡◌, ◌≢◌, ◌⊎◌, ℕ, ◌+◌, ◌<◌, ◌≤◌, Bool, true, false, zero, suc, ◌||◌, List, [], ◌∷◌, ◌++◌, length, get_or, take, drop, refl, sym, subst, ap, ◌∙◌, inl, inr, ⊎_elim, arith, add-zero}
use Rattle.std.specs.Prelude.{slice_index, if◌then◌else◌, ◌==◌}
use Rattle.std.specs.Int.{IsInRange}
use Rattle.std.specs.Char.{is_ascii_digit}
use Rattle.std.specs.Fmt.{sign_text}
use Rattle.std.specs.Str.Parse.{AllDigits, IsNumeral}
use Rattle.std.proofs.lemmas.Str.Parse.{digit_from_value}
use Rattle.std.proofs.lemmas.Bool.{cases_lt, cases_eq, cases_Bool, false≢true}
use Rattle.std.proofs.lemmas.List.{take_more, take-append-drop, take-take}
use Rattle.jsonb_spec.specs.Grammar.StandardNumber.{IsWhole, IsFraction, IsExponentMark, IsSign, IsExponent, IsStandardText}
use Rattle.jsonb_spec.specs.Parsing.Number.{ContinuesNumber}
use Rattle.text_scan.proofs.Numbers.Steps.{digit_is, is_digit, is_no_digit, differs, is_mark, is_no_mark}
use Rattle.text_scan.proofs.Numbers.TextParts.{HasParts, parts_of}

-- after each number text that the bytes begin with a byte goes on with a number
abbrev pub NoneEnds : List ℕ → Type 0
NoneEnds bytes = (k : ℕ) → k ≤ length bytes → IsStandardText (take k bytes) → ContinuesNumber (slice_index bytes k)

-- of the number texts that the bytes begin with none is longer than len, and after each shorter one a byte goes on with
-- a number
abbrev pub IsLongest : List ℕ → ℕ → Type 0
IsLongest bytes len = (k : ℕ) → k ≤ length bytes → IsStandardText (take k bytes) → (k ≡ len) ⊎ ((k < len) × ContinuesNumber (slice_index bytes k))

pub data State : Type 0 where
  Start : State
  Minus : State
  Zero : State
  Whole : State
  Point : State
  Fraction : State
  Mark : State
  MarkSign : State
  Exponent : State
  DecimalStart : State
  Signed : State
  Digits : State
  BarePoint : State
  Dead : State

abbrev pub digit_to : State → ℕ → State
digit_to s b = if is_ascii_digit b then s else Dead

abbrev pub from_first : ℕ → State
from_first b = if b == 48 then Zero else digit_to Whole b

abbrev pub after_fraction : ℕ → State
after_fraction b = if b == 101 || b == 69 then Mark else Dead

abbrev pub after_whole : ℕ → State
after_whole b = if b == 46 then Point else after_fraction b

-- the first byte of an extended decimal, after its sign
abbrev pub from_signed : ℕ → State
from_signed b = if is_ascii_digit b then Digits else (if b == 46 then BarePoint else Dead)

-- the state after a byte: `Start` begins a standard number, and `DecimalStart` an extended decimal
unfoldable pub next : State → ℕ → State
next Start b = if b == 45 then Minus else from_first b
next Minus b = from_first b
next Zero b = after_whole b
next Whole b = if is_ascii_digit b then Whole else after_whole b
next Point b = digit_to Fraction b
next Fraction b = if is_ascii_digit b then Fraction else after_fraction b
next Mark b = if b == 43 || b == 45 then MarkSign else digit_to Exponent b
next MarkSign b = digit_to Exponent b
next Exponent b = digit_to Exponent b
next DecimalStart b = if b == 43 || b == 45 then Signed else from_signed b
next Signed b = from_signed b
next Digits b = if is_ascii_digit b then Digits else (if b == 46 then Fraction else after_fraction b)
next BarePoint b = digit_to Fraction b
next Dead b = Dead

-- the state after the bytes
abbrev pub run : State → List ℕ → State
run s [] = s
run s (b ∷ bs) = run (next s b) bs

-- a number text can end here
abbrev pub is_accepting : State → Bool
is_accepting Start = false
is_accepting Minus = false
is_accepting Zero = true
is_accepting Whole = true
is_accepting Point = false
is_accepting Fraction = true
is_accepting Mark = false
is_accepting MarkSign = false
is_accepting Exponent = true
is_accepting DecimalStart = false
is_accepting Signed = false
is_accepting Digits = true
is_accepting BarePoint = false
is_accepting Dead = false

pub run-append : (s : State) (a b : List ℕ) → run s (a ++ b) ≡ run (run s a) b
run-append s [] b = refl
run-append s (x ∷ a) b = run-append (next s x) a b

pub run-dead : (bs : List ℕ) → run Dead bs ≡ Dead
unfolding next
run-dead [] = refl
run-dead (b ∷ bs) = run-dead bs

-- ---- bytes

-- a byte that goes on with no number
pub record StopsAll (b : ℕ) : Type 0 where
  pub no_digit : is_ascii_digit b ≡ false
  pub no_point : (b == 46) ≡ false
  pub no_mark : (b == 101 || b == 69) ≡ false

pub goes_on_or_stops : (b : ℕ) → ContinuesNumber b ⊎ StopsAll b
goes_on_or_stops b =
    ⊎_elim (λ digit. inl (inl (digit_is b digit)))
    (λ no_digit. ⊎_elim (λ point. inl (inr (inl point)))
    (λ no_point. ⊎_elim (λ small. inl (inr (inr (inl small))))
    (λ no_small. ⊎_elim (λ great. inl (inr (inr (inr great))))
    (λ no_great. inr record { no_digit = no_digit; no_point = differs b 46 no_point; no_mark = is_no_mark b (⊎_elim no_small no_great) }) (cases_eq b 69)) (cases_eq b 101)) (cases_eq b 46)) (cases_Bool (is_ascii_digit b))

pub stops_accepted : (s : State) (b : ℕ) → is_accepting s ≡ true → StopsAll b → next s b ≡ Dead
unfolding next
stops_accepted Start b h f = absurd (false≢true h)
stops_accepted Minus b h f = absurd (false≢true h)
stops_accepted Zero b h f = rw (f.no_point, f.no_mark) refl
stops_accepted Whole b h f = rw (f.no_digit, f.no_point, f.no_mark) refl
stops_accepted Point b h f = absurd (false≢true h)
stops_accepted Fraction b h f = rw (f.no_digit, f.no_mark) refl
stops_accepted Mark b h f = absurd (false≢true h)
stops_accepted MarkSign b h f = absurd (false≢true h)
stops_accepted Exponent b h f = rw f.no_digit refl
stops_accepted DecimalStart b h f = absurd (false≢true h)
stops_accepted Signed b h f = absurd (false≢true h)
stops_accepted Digits b h f = rw (f.no_digit, f.no_point, f.no_mark) refl
stops_accepted BarePoint b h f = absurd (false≢true h)
stops_accepted Dead b h f = absurd (false≢true h)

-- after an accepted text only some bytes go on
pub goes_on : (s : State) (b : ℕ) → is_accepting s ≡ true → ¬ (next s b ≡ Dead) → ContinuesNumber b
goes_on s b h alive = ⊎_elim (λ g. g) (λ f. absurd (alive (stops_accepted s b h f))) (goes_on_or_stops b)

-- ---- the state after a beginning of a list

abbrev pub state_at : State → List ℕ → ℕ → State
state_at origin bytes i = run origin (take i bytes)

pub state_at-next : (origin : State) (bytes : List ℕ) (i : ℕ) → i < length bytes → state_at origin bytes (i + 1) ≡ next (state_at origin bytes i) (slice_index bytes i)
state_at-next origin bytes i inside = ap (run origin) (take_more bytes i 0 inside) ∙ run-append origin (take i bytes) (get_or bytes i 0 ∷ [])

take-later : (bytes : List ℕ) (i j : ℕ) → i ≤ j → take i bytes ++ drop i (take j bytes) ≡ take j bytes
take-later bytes i j later = ap (λ front. front ++ drop i (take j bytes)) (sym (take-take i j bytes later)) ∙ take-append-drop i (take j bytes)

-- a dead state stays dead
pub stays_dead : (origin : State) (bytes : List ℕ) (i j : ℕ) → i ≤ j → state_at origin bytes i ≡ Dead → state_at origin bytes j ≡ Dead
stays_dead origin bytes i j later dead =
    ap (run origin) (sym (take-later bytes i j later)) ∙ (run-append origin (take i bytes) (drop i (take j bytes)) ∙ (ap (λ s. run s (drop i (take j bytes))) dead ∙ run-dead (drop i (take j bytes))))

-- digits leave some states as they are
pub state_over_digits : (origin : State) (bytes : List ℕ) (s : State) → ((b : ℕ) → IsInRange 48 57 b → next s b ≡ s) → (d i : ℕ) → i + d ≤ length bytes → state_at origin bytes i ≡ s → ((k : ℕ) → i ≤ k → k < i + d → IsInRange 48 57 (slice_index bytes k)) → state_at origin bytes (i + d) ≡ s
state_over_digits origin bytes s stays zero i within at digits = rw add-zero at
state_over_digits origin bytes s stays (suc d) i within at digits =
    let before : state_at origin bytes (i + d) ≡ s = state_over_digits origin bytes s stays d i (omega arith) at (λ k low high. digits k low (omega arith)) in
    let one : i + suc d ≡ i + d + 1 = omega arith in
    ap (state_at origin bytes) one ∙ (state_at-next origin bytes (i + d) (omega arith) ∙ (ap (λ t. next t (slice_index bytes (i + d))) before ∙ stays (slice_index bytes (i + d)) (digits (i + d) (omega arith) (omega arith))))

-- ---- number texts are accepted

pub run_digits : (s : State) → ((b : ℕ) → IsInRange 48 57 b → next s b ≡ s) → (ds : List ℕ) → AllDigits 10 ds → run s ds ≡ s
run_digits s stays [] h = refl
run_digits s stays (d ∷ ds) h = ap (λ t. run t ds) (stays d (digit_from_value d h.0)) ∙ run_digits s stays ds h.1

pub whole_stays : (b : ℕ) → IsInRange 48 57 b → next Whole b ≡ Whole
unfolding next
whole_stays b h = rw (is_digit b h) refl

pub fraction_stays : (b : ℕ) → IsInRange 48 57 b → next Fraction b ≡ Fraction
unfolding next
fraction_stays b h = rw (is_digit b h) refl

pub exponent_stays : (b : ℕ) → IsInRange 48 57 b → next Exponent b ≡ Exponent
unfolding next
exponent_stays b h = rw (is_digit b h) refl

pub point_digit : (b : ℕ) → IsInRange 48 57 b → next Point b ≡ Fraction
unfolding next
point_digit b h = rw (is_digit b h) refl

-- the states in which a whole part can end, and those in which an exponent can begin
abbrev pub EndsWhole : State → Type 0
EndsWhole s = (s ≡ Zero) ⊎ (s ≡ Whole)

abbrev pub EndsDigits : State → Type 0
EndsDigits s = EndsWhole s ⊎ (s ≡ Digits)

abbrev pub EndsFraction : State → Type 0
EndsFraction s = EndsDigits s ⊎ (s ≡ Fraction)

pub zero_first : (b : ℕ) → b ≡ 48 → from_first b ≡ Zero
zero_first b e = rw e refl

pub digit_first : (b : ℕ) → b ≢ 48 → IsInRange 48 57 b → from_first b ≡ Whole
digit_first b other h =
    let tested : (b == 48) ≡ false = differs b 48 other in rw (tested, is_digit b h) refl

pub no_digit_first : (b : ℕ) → ¬ IsInRange 48 57 b → from_first b ≡ Dead
no_digit_first b h =
    let tested : (b == 48) ≡ false = differs b 48 (λ e. h (omega arith, omega arith)) in rw (tested, is_no_digit b h) refl

pub start_unsigned : (b : ℕ) → b ≢ 45 → next Start b ≡ from_first b
unfolding next
start_unsigned b h = let tested : (b == 45) ≡ false = differs b 45 h in rw tested refl

pub minus_first : (b : ℕ) → next Minus b ≡ from_first b
unfolding next
minus_first b = refl

-- the whole part, from its first digit on
whole_from_first : (c : ℕ) (cs : List ℕ) → IsWhole (c ∷ cs) → EndsWhole (run (from_first c) cs)
whole_from_first c [] w =
    ⊎_elim (λ e. subst EndsWhole (sym (zero_first c e)) (inl refl))
    (λ e. subst EndsWhole (sym (digit_first c e (digit_from_value c w.digits.1.0))) (inr refl)) (cases_eq c 48)
whole_from_first c (d ∷ cs) w =
    let other : c ≢ 48 = λ e. absurd (let one : length (c ∷ d ∷ cs) ≡ 1 = w.no_needless_zero e in omega (arith, one)) in
    subst EndsWhole (sym (ap (λ s. run s (d ∷ cs)) (digit_first c other (digit_from_value c w.digits.1.0)) ∙ run_digits Whole whole_stays (d ∷ cs) w.digits.1.1)) (inr refl)

whole_unsigned : (whole : List ℕ) → IsWhole whole → EndsWhole (run Start whole)
whole_unsigned [] w = absurd (omega (arith, w.digits.0))
whole_unsigned (c ∷ cs) w =
    let digit = digit_from_value c w.digits.1.0 in
    subst EndsWhole (sym (ap (λ s. run s cs) (start_unsigned c (omega (arith, digit))))) (whole_from_first c cs w)

whole_signed : (whole : List ℕ) → IsWhole whole → EndsWhole (run Minus whole)
whole_signed [] w = absurd (omega (arith, w.digits.0))
whole_signed (c ∷ cs) w = subst EndsWhole (sym (ap (λ s. run s cs) (minus_first c))) (whole_from_first c cs w)

pub after_whole_point : (s : State) → EndsWhole s → next s 46 ≡ Point
unfolding next
after_whole_point s (inl e) = rw e refl
after_whole_point s (inr e) = rw e refl

fraction_digits : (ds : List ℕ) → IsNumeral 10 ds → run Point ds ≡ Fraction
fraction_digits [] h = absurd (omega (arith, h.0))
fraction_digits (d ∷ ds) h =
    ap (λ s. run s ds) (point_digit d (digit_from_value d h.1.0)) ∙ run_digits Fraction fraction_stays ds h.1.1

fraction_ends_at : (s : State) (bytes : List ℕ) → EndsWhole s → IsFraction bytes → EndsFraction (run s bytes)
fraction_ends_at s bytes ends (inl none) = rw none (inl (inl ends))
fraction_ends_at s bytes ends (inr some) =
    let after : run s (46 ∷ some.0) ≡ Fraction = ap (λ t. run t some.0) (after_whole_point s ends) ∙ fraction_digits some.0 some.2 in
    subst EndsFraction (sym (ap (run s) some.1 ∙ after)) (inr refl)

mark_no_point : (b : ℕ) → IsExponentMark b → (b == 46) ≡ false
mark_no_point b mark = differs b 46 (⊎_elim (λ e. λ p. omega arith) (λ e. λ p. omega arith) mark)

mark_no_digit : (b : ℕ) → IsExponentMark b → is_ascii_digit b ≡ false
mark_no_digit b mark = is_no_digit b (λ h. ⊎_elim (λ e. omega (arith, h)) (λ e. omega (arith, h)) mark)

mark_after_zero : (b : ℕ) → IsExponentMark b → next Zero b ≡ Mark
unfolding next
mark_after_zero b mark = rw (mark_no_point b mark, is_mark b mark) refl

mark_after_whole : (b : ℕ) → IsExponentMark b → next Whole b ≡ Mark
unfolding next
mark_after_whole b mark = rw (mark_no_digit b mark, mark_no_point b mark, is_mark b mark) refl

mark_after_digits : (b : ℕ) → IsExponentMark b → next Digits b ≡ Mark
unfolding next
mark_after_digits b mark = rw (mark_no_digit b mark, mark_no_point b mark, is_mark b mark) refl

mark_after_fraction : (b : ℕ) → IsExponentMark b → next Fraction b ≡ Mark
unfolding next
mark_after_fraction b mark = rw (mark_no_digit b mark, is_mark b mark) refl

pub after_fraction_mark : (s : State) (b : ℕ) → EndsFraction s → IsExponentMark b → next s b ≡ Mark
after_fraction_mark s b (inl (inl (inl e))) mark = ap (λ t. next t b) e ∙ mark_after_zero b mark
after_fraction_mark s b (inl (inl (inr e))) mark = ap (λ t. next t b) e ∙ mark_after_whole b mark
after_fraction_mark s b (inl (inr e)) mark = ap (λ t. next t b) e ∙ mark_after_digits b mark
after_fraction_mark s b (inr e) mark = ap (λ t. next t b) e ∙ mark_after_fraction b mark

pub mark_digit : (b : ℕ) → IsInRange 48 57 b → next Mark b ≡ Exponent
unfolding next
mark_digit b h =
    let plus : (b == 43) ≡ false = differs b 43 (omega (arith, h)) in
    let minus : (b == 45) ≡ false = differs b 45 (omega (arith, h)) in
    rw (plus, minus, is_digit b h) refl

pub mark_sign_digit : (b : ℕ) → IsInRange 48 57 b → next MarkSign b ≡ Exponent
unfolding next
mark_sign_digit b h = rw (is_digit b h) refl

exponent_digits : (ds : List ℕ) → IsNumeral 10 ds → (run Mark ds ≡ Exponent) × (run MarkSign ds ≡ Exponent)
exponent_digits [] h = absurd (omega (arith, h.0))
exponent_digits (d ∷ ds) h =
    let digit = digit_from_value d h.1.0 in
    let rest = run_digits Exponent exponent_stays ds h.1.1 in
    (ap (λ s. run s ds) (mark_digit d digit) ∙ rest, ap (λ s. run s ds) (mark_sign_digit d digit) ∙ rest)

exponent_signed : (sign ds : List ℕ) → IsSign sign → IsNumeral 10 ds → run Mark (sign ++ ds) ≡ Exponent
unfolding next
exponent_signed sign ds (inl none) h = rw none (exponent_digits ds h).0
exponent_signed sign ds (inr (inl plus)) h = rw plus (exponent_digits ds h).1
exponent_signed sign ds (inr (inr minus)) h = rw minus (exponent_digits ds h).1

fraction_accepted : (s : State) → EndsFraction s → is_accepting s ≡ true
fraction_accepted s (inl (inl (inl e))) = ap is_accepting e
fraction_accepted s (inl (inl (inr e))) = ap is_accepting e
fraction_accepted s (inl (inr e)) = ap is_accepting e
fraction_accepted s (inr e) = ap is_accepting e

pub exponent_accepted : (s : State) (bytes : List ℕ) → EndsFraction s → IsExponent bytes → is_accepting (run s bytes) ≡ true
exponent_accepted s bytes ends (inl none) = rw none (fraction_accepted s ends)
exponent_accepted s bytes ends (inr e) =
    let after : run s (e.mark ∷ (e.sign ++ e.digits)) ≡ Exponent = ap (λ t. run t (e.sign ++ e.digits)) (after_fraction_mark s e.mark ends e.is_mark) ∙ exponent_signed e.sign e.digits e.is_sign e.are_digits in
    ap is_accepting (ap (run s) e.joined ∙ after)

signed_whole : (negative : Bool) (whole : List ℕ) → IsWhole whole → EndsWhole (run (run Start (sign_text negative)) whole)
unfolding next
signed_whole false whole w = whole_unsigned whole w
signed_whole true whole w = whole_signed whole w

parts_accepted : (bytes : List ℕ) (negative : Bool) (whole fraction exponent : List ℕ) → HasParts bytes negative whole fraction exponent → is_accepting (run Start bytes) ≡ true
parts_accepted bytes negative whole fraction exponent parts =
    let s = run (run Start (sign_text negative)) whole in
    let there : run Start bytes ≡ run (run (run (run Start (sign_text negative)) whole) fraction) exponent =
    ap (run Start) parts.joined ∙ (run-append Start (sign_text negative) (whole ++ (fraction ++ exponent)) ∙ (run-append (run Start (sign_text negative)) whole (fraction ++ exponent) ∙ run-append (run (run Start (sign_text negative)) whole) fraction exponent)) in
    ap is_accepting there ∙ exponent_accepted _ exponent (fraction_ends_at _ fraction (signed_whole negative whole parts.is_whole) parts.is_fraction) parts.is_exponent

pub text_accepted : (bytes : List ℕ) → IsStandardText bytes → is_accepting (run Start bytes) ≡ true
text_accepted bytes t = parts_accepted bytes t.negative t.whole t.fraction t.exponent (parts_of bytes t)

-- ---- where a text can end

-- the automaton stops at q, in this state
pub record StopsAt (origin : State) (bytes : List ℕ) (q : ℕ) (s : State) : Type 0 where
  pub within : q ≤ length bytes
  pub state : state_at origin bytes q ≡ s
  pub alive : s ≢ Dead
  pub stops : next s (slice_index bytes q) ≡ Dead

-- what the automaton accepts of a list ends where it stops, or before that where a byte goes on
pub accepted_ends : (origin : State) (bytes : List ℕ) (q : ℕ) (s : State) → StopsAt origin bytes q s → (k : ℕ) → k ≤ length bytes → is_accepting (state_at origin bytes k) ≡ true → ((k ≡ q) × (is_accepting s ≡ true)) ⊎ ((k < q) × ContinuesNumber (slice_index bytes k))
accepted_ends origin bytes q s stop k within accepted =
    ⊎_elim
    (λ before. inr (
      before,
      goes_on (state_at origin bytes k) (slice_index bytes k) accepted (λ dead.
          absurd (stop.alive (sym stop.state ∙ stays_dead origin bytes (k + 1) q (omega arith) (state_at-next origin bytes k (omega (arith, stop.within)) ∙ dead)))),
    ))
    (λ not_before. ⊎_elim
    (λ same. inl (same, ap is_accepting (sym stop.state ∙ ap (state_at origin bytes) (sym same)) ∙ accepted))
    (λ after. absurd (dead_rejected k accepted (stays_dead origin bytes (q + 1) k (omega arith) (state_at-next origin bytes q (omega arith) ∙ (ap (λ t. next t (slice_index bytes q)) stop.state ∙ stop.stops))))) (cases_le_eq k q not_before)) (cases_lt k q)
  where
    dead_rejected : (j : ℕ) → is_accepting (state_at origin bytes j) ≡ true → state_at origin bytes j ≡ Dead → ⊥
    dead_rejected j accepts dead = false≢true (sym (ap is_accepting dead) ∙ accepts)

    cases_le_eq : (a b : ℕ) → b ≤ a → (a ≡ b) ⊎ (b < a)
    cases_le_eq a b le = ⊎_elim inl (λ other. inr (omega arith)) (cases_eq a b)

-- a number text that the bytes begin with ends where the automaton stops, or before that where a byte goes on
pub ends_at : (bytes : List ℕ) (q : ℕ) (s : State) → StopsAt Start bytes q s → (k : ℕ) → k ≤ length bytes → IsStandardText (take k bytes) → ((k ≡ q) × (is_accepting s ≡ true)) ⊎ ((k < q) × ContinuesNumber (slice_index bytes k))
ends_at bytes q s stop k within text = accepted_ends Start bytes q s stop k within (text_accepted (take k bytes) text)

-- where the automaton stops in a state that accepts nothing, no text can end
pub NoneEnds-from_stop : (bytes : List ℕ) (q : ℕ) (s : State) → StopsAt Start bytes q s → is_accepting s ≡ false → NoneEnds bytes
NoneEnds-from_stop bytes q s stop rejects k within text =
    ⊎_elim (λ at. absurd (false≢true (sym rejects ∙ at.1))) (λ before. before.1) (ends_at bytes q s stop k within text)

pub IsLongest-from_stop : (bytes : List ℕ) (q : ℕ) (s : State) → StopsAt Start bytes q s → IsLongest bytes q
IsLongest-from_stop bytes q s stop k within text =
    ⊎_elim (λ at. inl at.0) (λ before. inr before) (ends_at bytes q s stop k within text)
