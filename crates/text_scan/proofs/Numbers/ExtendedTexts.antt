-- Decimals, hexadecimals, `nan` and `infinity` begin differently.
use Rattle.std.proofs.Common.{◌≡◌, ◌≢◌, ◌⊎◌, ℕ, ◌+◌, ◌<◌, ◌≤◌, false, List, [], ◌∷◌, ◌++◌, length, take, drop, refl, sym, subst, ap, ◌∙◌, inl, inr, ⊎_elim, arith, Some, None, Ok, Err}
use Rattle.std.specs.Prelude.{slice_index, codes, ◌==◌}
use Rattle.std.specs.Char.{digit_value, to_ascii_lowercase}
use Rattle.std.proofs.lemmas.Bool.{cases_eq, cases_lt, false≢true}
use Rattle.std.proofs.lemmas.Str.Ascii.{lowercase_is}
use Rattle.std.proofs.lemmas.List.{append_assoc, take-append-drop, length-append, length-take-le, get_or-append-add}
use Rattle.std.proofs.lemmas.Str.{digit_value_digit}
use Rattle.jsonb_spec.specs.Code.{Code, invalid_eof, invalid_number_value, expected_some_ident}
use Rattle.jsonb_spec.specs.Grammar.StandardNumber.{IsSign}
use Rattle.jsonb_spec.specs.Grammar.ExtendedNumber.{IsDecimalText, IsHexadecimalNumber, IsHexadecimalText, IsWordText, IsExtendedNumber, IsExtendedText}
use Rattle.jsonb_spec.specs.Parsing.Number.{sign_end, ContinuesNumber}
use Rattle.jsonb_spec.specs.Parsing.ExtendedNumber.{Scanned, core_byte, ContinuesNumberExtended}
use Rattle.text_scan.proofs.Numbers.Steps.{differs}
use Rattle.text_scan.proofs.Numbers.Automaton.{DecimalStart, Digits, Dead, next, state_at, StopsAt, accepted_ends}
use Rattle.text_scan.proofs.Numbers.ScanStates.{alive_by}
use Rattle.text_scan.proofs.Numbers.DecimalStates.{decimal_accepted, decimal_due, before_alive, before_rejects}
use Rattle.std.specs.Str.Parse.{starts_with_minus}
use Rattle.jsonb_core.proofs.Numbers.Fractions.{fraction_text}
use Rattle.text_scan.proofs.Numbers.TextParts.{IsUnrepresentableHexadecimal, IsExtendedUnrepresentable}
use Rattle.text_scan.proofs.Scalars.WordLetters.{Encodes}

-- `n` or `i` in either case
abbrev pub IsWordStart : ℕ → Type 0
IsWordStart b = (to_ascii_lowercase b ≡ 110) ⊎ (to_ascii_lowercase b ≡ 105)

-- of the number texts that the bytes begin with none is longer than len, and after each shorter one a byte goes on with
-- a number
abbrev pub IsLongestExtended : List ℕ → ℕ → Type 0
IsLongestExtended bytes len = (k : ℕ) → k ≤ length bytes → IsExtendedText (take k bytes) → (k ≡ len) ⊎ ((k < len) × ContinuesNumberExtended (slice_index bytes k))

-- after each number text that the bytes begin with a byte goes on with a number
abbrev pub NoExtendedEnds : List ℕ → Type 0
NoExtendedEnds bytes = (k : ℕ) → k ≤ length bytes → IsExtendedText (take k bytes) → ContinuesNumberExtended (slice_index bytes k)

-- the text up to end is of this kind, and the longest
pub record ReadsText (bytes : List ℕ) (end : ℕ) (P : List ℕ → Type 0) : Type 0 where
  pub within : end ≤ length bytes
  pub text : P (take end bytes)
  pub longest : IsLongestExtended bytes end

-- the codes of faults in a number text
abbrev pub IsNumberCode : Code → Type 0
IsNumberCode code = (code ≡ invalid_number_value) ⊎ ((code ≡ invalid_eof) ⊎ (code ≡ expected_some_ident))

-- what a scan says of the bytes
abbrev pub ScansExtended : List ℕ → Scanned → Type 0
ScansExtended bytes (Ok (Some n, end)) = ReadsText bytes end (λ text. IsExtendedNumber text n)
ScansExtended bytes (Ok (None, end)) = ReadsText bytes end IsExtendedUnrepresentable
ScansExtended bytes (Err f) = IsNumberCode f.0 × NoExtendedEnds bytes

-- what a scan of a word or of a hexadecimal says of the bytes
abbrev pub ScansOther : List ℕ → Scanned → Type 0
ScansOther bytes (Ok (Some n, end)) = ReadsText bytes end (λ text. IsHexadecimalNumber text n)
ScansOther bytes (Ok (None, end)) = ReadsText bytes end (λ text. IsUnrepresentableHexadecimal text ⊎ IsWordText text)
ScansOther bytes (Err f) = IsNumberCode f.0 × NoExtendedEnds bytes

-- ---- the first byte after the sign

pub record HasCore (bytes sign : List ℕ) (c : ℕ) : Type 0 where
  pub end : sign_end bytes 0 ≡ length sign
  pub byte : core_byte bytes ≡ c
  pub minus : starts_with_minus bytes ≡ starts_with_minus sign

no_sign : (c : ℕ) (r : List ℕ) → c ≢ 43 → c ≢ 45 → HasCore (c ∷ r) [] c
no_sign c r plus minus =
    let p : (c == 43) ≡ false = differs c 43 plus in
    let m : (c == 45) ≡ false = differs c 45 minus in
    record { end = rw (p, m) refl; byte = rw (p, m) refl; minus = m }

pub core_of : (bytes sign : List ℕ) (c : ℕ) (r : List ℕ) → bytes ≡ sign ++ (c ∷ r) → IsSign sign → c ≢ 43 → c ≢ 45 → HasCore bytes sign c
core_of bytes sign c r joined (inl a) plus minus = rw (joined, a) (no_sign c r plus minus)
core_of bytes sign c r joined (inr (inl a)) plus minus = rw (joined, a) record { end = refl; byte = refl; minus = refl }
core_of bytes sign c r joined (inr (inr a)) plus minus = rw (joined, a) record { end = refl; byte = refl; minus = refl }

-- the same of a list that begins with such a text
encoded : (bytes sign : List ℕ) (k c : ℕ) (r : List ℕ) → take k bytes ≡ sign ++ (c ∷ r) → bytes ≡ sign ++ (c ∷ (r ++ drop k bytes))
encoded bytes sign k c r joined = sym (take-append-drop k bytes) ∙ (ap (λ z. z ++ drop k bytes) joined ∙ append_assoc sign (c ∷ r) (drop k bytes))

pub record SignFront (bytes : List ℕ) : Type 0 where
  pub is_sign : IsSign (take (sign_end bytes 0) bytes)
  pub minus : starts_with_minus (take (sign_end bytes 0) bytes) ≡ starts_with_minus bytes

pub sign_front : (bytes : List ℕ) → SignFront bytes
sign_front [] = record { is_sign = inl refl; minus = refl }
sign_front (b ∷ bs) =
    ⊎_elim (λ plus. rw plus record { is_sign = inr (inl refl); minus = refl })
    (λ no_plus. ⊎_elim (λ minus. rw minus record { is_sign = inr (inr refl); minus = refl })
    (λ no_minus. let p : (b == 43) ≡ false = differs b 43 no_plus in
    let m : (b == 45) ≡ false = differs b 45 no_minus in
    let at : sign_end (b ∷ bs) 0 ≡ 0 = rw (p, m) refl in
    record {
      is_sign = subst (λ n. IsSign (take n (b ∷ bs))) (sym at) (inl refl);
      minus = subst (λ n. starts_with_minus (take n (b ∷ bs)) ≡ starts_with_minus (b ∷ bs)) (sym at) (sym m);
    }) (cases_eq b 45)) (cases_eq b 43)

-- ---- letters

pub letter_is : (c : ℕ) → (to_ascii_lowercase c ≡ 110) ⊎ (to_ascii_lowercase c ≡ 105) → 58 ≤ c
letter_is c h = ⊎_elim (λ small. absurd (⊎_elim (λ e. omega (arith, e, (lowercase_is c).1 (omega (arith, small)))) (λ e. omega (arith, e, (lowercase_is c).1 (omega (arith, small)))) h)) (λ large. omega (arith, large)) (cases_lt c 58)

first_letter : (c : ℕ) (word letters : List ℕ) → Encodes (c ∷ word) letters → (l : ℕ) × (ls : List ℕ) × (letters ≡ l ∷ ls) × (to_ascii_lowercase l ≡ c)
first_letter c word [] encodes = absurd (omega (arith, ap length encodes))
first_letter c word (l ∷ ls) encodes = (l, ls, refl, ap (λ z. slice_index z 0) encodes)

pub hexadecimal_core : (bytes : List ℕ) (k : ℕ) → IsHexadecimalText (take k bytes) → (core_byte bytes ≡ 48) × (to_ascii_lowercase (slice_index bytes (sign_end bytes 0 + 1)) ≡ 120)
hexadecimal_core bytes k (sign, mark, whole, fraction, parts) =
    let joined = encoded bytes sign k 48 _ parts.joined in
    let core = core_of bytes sign 48 _ joined parts.is_sign (omega arith) (omega arith) in
    (core.byte, ap to_ascii_lowercase (ap (λ i. slice_index bytes (i + 1)) core.end ∙ (ap (λ z. slice_index z (length sign + 1)) joined ∙ get_or-append-add sign (48 ∷ mark ∷ ((whole ++ fraction_text fraction) ++ drop k bytes)) 1 0)) ∙ parts.is_mark)

-- a word that the bytes begin with
pub record WordFound (bytes : List ℕ) (k : ℕ) : Type 0 where
  pub sign : List ℕ
  pub letters : List ℕ
  pub is_sign : IsSign sign
  pub joined : bytes ≡ sign ++ (letters ++ drop k bytes)
  pub long : k ≤ length bytes → k ≡ length sign + length letters
  pub end : sign_end bytes 0 ≡ length sign
  pub minus : starts_with_minus bytes ≡ starts_with_minus sign
  pub kind : (Encodes (codes "infinity") letters × (to_ascii_lowercase (core_byte bytes) ≡ 105)) ⊎ (Encodes (codes "nan") letters × (starts_with_minus sign ≡ false) × (to_ascii_lowercase (core_byte bytes) ≡ 110))

word_core : (bytes sign letters : List ℕ) (k c : ℕ) (word : List ℕ) → take k bytes ≡ sign ++ letters → IsSign sign → Encodes (c ∷ word) letters → (c ≡ 110) ⊎ (c ≡ 105) →
    (sign_end bytes 0 ≡ length sign) × (starts_with_minus bytes ≡ starts_with_minus sign) × (to_ascii_lowercase (core_byte bytes) ≡ c)
word_core bytes sign letters k c word joined is_sign encodes letter =
    let f = first_letter c word letters encodes in
    let large : 58 ≤ f.0 = letter_is f.0 (⊎_elim (λ e. inl (f.3 ∙ e)) (λ e. inr (f.3 ∙ e)) letter) in
    let core = core_of bytes sign f.0 (f.1 ++ drop k bytes) (encoded bytes sign k f.0 f.1 (joined ∙ ap (λ z. sign ++ z) f.2)) is_sign (λ e. absurd (omega (arith, e, large))) (λ e. absurd (omega (arith, e, large))) in
    (core.end, core.minus, ap to_ascii_lowercase core.byte ∙ f.3)

pub word_found : (bytes : List ℕ) (k : ℕ) → IsWordText (take k bytes) → WordFound bytes k
word_found bytes k (sign, letters, joined, is_sign, word) =
    let all : bytes ≡ sign ++ (letters ++ drop k bytes) = sym (take-append-drop k bytes) ∙ (ap (λ z. z ++ drop k bytes) joined ∙ append_assoc sign letters (drop k bytes)) in
    let measured : k ≤ length bytes → k ≡ length sign + length letters = λ within. omega (arith, length-take-le k bytes within, ap length joined, length-append sign letters) in
    ⊎_elim
    (λ infinity. let core = word_core bytes sign letters k 105 _ joined is_sign infinity (inr refl) in
    record { sign = sign; letters = letters; is_sign = is_sign; joined = all; long = measured; end = core.0; minus = core.1; kind = inl (infinity, core.2) })
    (λ nan. let core = word_core bytes sign letters k 110 _ joined is_sign nan.0 (inl refl) in
    record { sign = sign; letters = letters; is_sign = is_sign; joined = all; long = measured; end = core.0; minus = core.1; kind = inr (nan.0, nan.1, core.2) }) word

pub found_letter : (bytes : List ℕ) (k : ℕ) → WordFound bytes k → IsWordStart (core_byte bytes)
found_letter bytes k f = ⊎_elim (λ i. inr i.1) (λ n. inl n.2) f.kind

-- ---- bytes that go on

pub goes_on_more : (b : ℕ) → ContinuesNumber b → ContinuesNumberExtended b
goes_on_more b (inl digit) = inl (omega (arith, digit_value_digit b digit, digit))
goes_on_more b (inr (inl point)) = inr (inl point)
goes_on_more b (inr (inr (inl e))) = inl (subst (λ x. digit_value x < 16) (sym e) (omega arith))
goes_on_more b (inr (inr (inr e))) = inl (subst (λ x. digit_value x < 16) (sym e) (omega arith))

pub mark_is : (c : ℕ) → to_ascii_lowercase c ≡ 120 → (c ≡ 120) ⊎ (c ≡ 88)
mark_is c h =
    ⊎_elim (λ small. absurd (omega (arith, small, h, (lowercase_is c).1 small)))
    (λ some. ⊎_elim (λ large. inl (sym ((lowercase_is c).2 large) ∙ h)) (λ between. inr (omega (arith, h, (lowercase_is c).0 (omega (arith, some), omega (arith, between))))) (cases_lt 90 c)) (cases_lt c 65)

mark_stops : (c : ℕ) → to_ascii_lowercase c ≡ 120 → next Digits c ≡ Dead
unfolding next
mark_stops c h = ⊎_elim (λ e. rw e refl) (λ e. rw e refl) (mark_is c h)

zero_state : (bytes sign : List ℕ) (r : List ℕ) → bytes ≡ sign ++ (48 ∷ r) → IsSign sign → state_at DecimalStart bytes (length sign + 1) ≡ Digits
unfolding next
zero_state bytes sign r joined (inl a) = rw (joined, a) refl
zero_state bytes sign r joined (inr (inl a)) = rw (joined, a) refl
zero_state bytes sign r joined (inr (inr a)) = rw (joined, a) refl

-- before the x of a hexadecimal only decimals end
pub decimals_before_mark : (bytes sign : List ℕ) (mark : ℕ) (rest : List ℕ) → bytes ≡ sign ++ (48 ∷ mark ∷ rest) → IsSign sign → to_ascii_lowercase mark ≡ 120 → (k : ℕ) → k ≤ length bytes → IsDecimalText (take k bytes) → (k < length sign + 2) × ContinuesNumberExtended (slice_index bytes k)
decimals_before_mark bytes sign mark rest joined is_sign is_mark k within text =
    let at_mark : slice_index bytes (length sign + 1) ≡ mark = ap (λ z. slice_index z (length sign + 1)) joined ∙ get_or-append-add sign (48 ∷ mark ∷ rest) 1 0 in
    let stop : StopsAt DecimalStart bytes (length sign + 1) Digits = record {
      within = omega (arith, ap length joined, length-append sign (48 ∷ mark ∷ rest));
      state = zero_state bytes sign (mark ∷ rest) joined is_sign;
      alive = alive_by Digits Digits refl (omega arith);
      stops = ap (next Digits) at_mark ∙ mark_stops mark is_mark;
    } in
    ⊎_elim (λ here. (omega (arith, here.0), inr (inr (ap to_ascii_lowercase (ap (slice_index bytes) here.0 ∙ at_mark) ∙ is_mark))))
    (λ before. (omega (arith, before.0), goes_on_more (slice_index bytes k) before.1)) (accepted_ends DecimalStart bytes (length sign + 1) Digits stop k within (decimal_accepted (take k bytes) text))

-- before the first letter of a word no decimal ends
pub decimals_before_letter : (bytes : List ℕ) → sign_end bytes 0 ≤ length bytes → IsWordStart (core_byte bytes) → (k : ℕ) → k ≤ length bytes → IsDecimalText (take k bytes) → (k < sign_end bytes 0) × ContinuesNumberExtended (slice_index bytes k)
decimals_before_letter bytes inside letter k within text =
    let is_due = decimal_due bytes (sign_end bytes 0) refl inside in
    let large : 58 ≤ core_byte bytes = letter_is (core_byte bytes) letter in
    let stop : StopsAt DecimalStart bytes (sign_end bytes 0) (state_at DecimalStart bytes (sign_end bytes 0)) = record {
      within = inside;
      state = refl;
      alive = before_alive (state_at DecimalStart bytes (sign_end bytes 0)) is_due.before;
      stops = is_due.stops (λ digit. omega (arith, digit, large)) (λ point. omega (arith, point, large));
    } in
    ⊎_elim (λ here. absurd (false≢true (sym (before_rejects (state_at DecimalStart bytes (sign_end bytes 0)) is_due.before) ∙ here.1)))
    (λ before. (before.0, goes_on_more (slice_index bytes k) before.1)) (accepted_ends DecimalStart bytes (sign_end bytes 0) (state_at DecimalStart bytes (sign_end bytes 0)) stop k within (decimal_accepted (take k bytes) text))

-- ---- decimals, where neither a word nor a hexadecimal begins

pub only_decimals : (bytes : List ℕ) → ¬ IsWordStart (core_byte bytes) → (core_byte bytes ≡ 48 → to_ascii_lowercase (slice_index bytes (sign_end bytes 0 + 1)) ≢ 120) → (k : ℕ) → IsExtendedText (take k bytes) → IsDecimalText (take k bytes)
only_decimals bytes no_word no_mark k (inl decimal) = decimal
only_decimals bytes no_word no_mark k (inr (inl hexadecimal)) = let core = hexadecimal_core bytes k hexadecimal in absurd (no_mark core.0 core.1)
only_decimals bytes no_word no_mark k (inr (inr word)) = absurd (no_word (found_letter bytes k (word_found bytes k word)))
