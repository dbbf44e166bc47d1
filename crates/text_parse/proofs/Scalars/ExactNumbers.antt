-- Numbers at their exact value, as the parser meets them.
use Rattle.std.proofs.Common.{◌≡◌, ℕ, ◌+◌, ◌-◌, ◌≤◌, true, true≢false, List, ◌++◌, length, take, drop, Option, Some, None, Ok, Err, refl, sym, ap, ap₂, subst, ◌∙◌, arith, drop-drop, length-drop}
use Rattle.std.specs.Prelude.{MatchOption}
use Rattle.std.proofs.Math.Seq.{take-append_seam}
use Rattle.std.proofs.lemmas.List.{length-append}
use Rattle.jsonb_spec.specs.Code.{Code, invalid_number_value, number_not_carried}
use Rattle.jsonb_spec.specs.Grammar.ExactNumber.{IsJsonNumber}
use Rattle.jsonb_spec.specs.Mode.{Mode, standard, extended, json, extended_json, Strictness, strict, lenient, strictness}
use Rattle.jsonb_spec.specs.Tree.{Num}
use Rattle.jsonb_spec.specs.Parsing.{fault}
use Rattle.jsonb_spec.specs.Parsing.ExactNumber.{exact_at, exact_to, extended_json_scan, json_number_at, extended_json_number_at}
use Rattle.jsonb_spec.specs.Parsing.ExtendedNumber.{scanned_to}
use Rattle.jsonb_spec.specs.Parsing.Number.{End, digits_from, integer_at, number_to, representable_at, standard_end, standard_number_at, then_from, fraction_from, exponent_from, whole_from, whole_start}
use Rattle.jsonb_spec.specs.Parsing.Scalar.{number_at}
use Rattle.text_scan.proofs.Numbers.ExactNumbers.{json_unique}
use Rattle.text_scan.proofs.Numbers.Read.{number_faults_of, number_sound_of}
use Rattle.text_scan.proofs.Numbers.Reading.{FaultRead, no_number, not_representable}
use Rattle.text_scan.proofs.Steps.Tests.{same_read}
use Rattle.text_parse.specs.Grammars.{exact_scan, takes_exponents}

-- ---- a scan at an index of the input

exact_number : (size : ℕ) (mode : Mode) (bytes : List ℕ) → takes_exponents mode ≡ true → number_at size mode bytes ≡ scanned_to size bytes (exact_scan (strictness mode) bytes)
unfolding json_number_at extended_json_number_at
exact_number size standard bytes is = absurd (true≢false (sym is))
exact_number size extended bytes is = absurd (true≢false (sym is))
exact_number size json bytes is = refl
exact_number size extended_json bytes is = refl

module _ (mode : Mode) (is : takes_exponents mode ≡ true) (idx : ℕ) (buf bs : List ℕ) (same : bs ≡ drop idx buf) where
  here : number_at (length buf) mode (drop idx buf) ≡ scanned_to (length buf) bs (exact_scan (strictness mode) bs)
  here = exact_number (length buf) mode (drop idx buf) is ∙ ap (λ xs. scanned_to (length buf) xs (exact_scan (strictness mode) xs)) (sym same)

  pub exact_read : (end : ℕ) (n : Num) → exact_scan (strictness mode) bs ≡ Ok (Some n, end) → number_at (length buf) mode (drop idx buf) ≡ Ok (n, drop (idx + end) buf)
  exact_read end n found = here ∙ (ap (scanned_to (length buf) bs) found ∙ ap (λ xs. Ok (n, xs)) (ap (drop end) same ∙ drop-drop end idx buf))

  pub exact_missing : (end : ℕ) → idx ≤ length buf → end ≤ length bs → exact_scan (strictness mode) bs ≡ Ok (None, end) → number_at (length buf) mode (drop idx buf) ≡ Err (record { code = number_not_carried; offset = idx + end })
  exact_missing end inside within found =
      let there : length buf - length (drop end bs) ≡ idx + end = omega (arith, length-drop end bs, length-drop idx buf, ap length same, within, inside) in
      here ∙ (ap (scanned_to (length buf) bs) found ∙ ap (λ p. fault number_not_carried p) there)

  pub exact_fault : (offset : ℕ) (code : Code) → idx ≤ length buf → exact_scan (strictness mode) bs ≡ Err (code, offset) → number_at (length buf) mode (drop idx buf) ≡ Err (record { code = code; offset = idx + offset })
  exact_fault offset code inside found =
      let there : length buf - length bs + offset ≡ idx + offset = omega (arith, length-drop idx buf, ap length same, inside) in
      here ∙ (ap (scanned_to (length buf) bs) found ∙ ap (λ p. fault code p) there)

-- a number of few digits, whose whole part was looked at where the grammar is strict
pub exact_short : (s : Strictness) (bs : List ℕ) (n : Num) (whole end : ℕ) → (s ≡ strict → whole_from bs (whole_start bs) ≡ Ok whole) → extended_json_scan bs ≡ Ok (Some n, end)
    → ((k : ℕ) → whole_from bs (whole_start bs) ≡ Ok k → exact_to bs (standard_end bs) ≡ Ok (Some n, end)) → exact_scan s bs ≡ Ok (Some n, end)
exact_short strict bs n whole end some wide narrow = narrow whole (some refl)
exact_short lenient bs n whole end some wide narrow = wide

-- a whole part that lacks digits, or has a needless zero
whole_rejected : (bs : List ℕ) (offset : ℕ) → whole_from bs (whole_start bs) ≡ Err offset → exact_to bs (standard_end bs) ≡ Err (invalid_number_value, offset)
unfolding standard_end
whole_rejected bs offset is = ap (λ (r : End). exact_to bs (then_from (then_from r (fraction_from bs)) (exponent_from bs))) is

-- what a look at the whole part says of a strict number
pub strict_whole : (result : Option ℕ) (s : Strictness) (bs : List ℕ) → s ≡ strict → MatchOption result (whole_from bs (whole_start bs) ≡ Ok (digits_from bs (whole_start bs))) (λ offset. whole_from bs (whole_start bs) ≡ Err offset)
    → MatchOption result (s ≡ strict → whole_from bs (whole_start bs) ≡ Ok (digits_from bs (whole_start bs))) (λ offset. exact_scan s bs ≡ Err (invalid_number_value, offset))
strict_whole (Some offset) s bs is lacks = ap (λ (t : Strictness). exact_scan t bs) is ∙ whole_rejected bs offset lacks
strict_whole None s bs is whole = λ strict. whole

-- ---- an integer of standard mode is a number of JSON

front_same : (xs ys rest more : List ℕ) → xs ++ rest ≡ ys ++ more → length rest ≡ length more → xs ≡ ys
front_same xs ys rest more same long =
    let count : length xs ≡ length ys = omega (arith, ap length same, length-append xs rest, length-append ys more, long) in
    sym (take-append_seam xs rest) ∙ ap₂ (λ (n : ℕ) (zs : List ℕ). take n zs) count same ∙ take-append_seam ys more

module _ (size : ℕ) (bytes core rest : List ℕ) (n value : Num) (joined : bytes ≡ core ++ rest) (number : IsJsonNumber core value) where
  left_is : (end : ℕ) (o : Option Num) → representable_at size (drop end bytes) o ≡ Ok (n, rest) → drop end bytes ≡ rest
  left_is end (Some k) is = (same_read k n (drop end bytes) rest is).rest
  left_is end None is = absurd cc

  no_fault : (end : ℕ) → drop end bytes ≡ rest → FaultRead json (length bytes) bytes (record { code = number_not_carried; offset = length bytes - length (drop end bytes) }) → ⊥
  no_fault end left (not_representable code u) =
      let long : length u.rest ≡ length rest = omega (arith, u.offset_is, ap length left, ap length joined, length-append core rest, ap length u.joined, length-append u.text u.rest) in
      let same : u.text ≡ core = front_same u.text core u.rest rest (sym u.joined ∙ joined) long in
      u.unrepresentable.1 value (subst (λ c. IsJsonNumber c value) (sym same) number)
  no_fault end left (no_number code none) = absurd cc

  by_number : (end : ℕ) (o : Option Num) → standard_end bytes ≡ Ok end → exact_at bytes end ≡ o → drop end bytes ≡ rest → representable_at size (drop end bytes) o ≡ Ok (value, rest)
  unfolding json_number_at
  by_number end (Some m) stops is left =
      let s = number_sound_of size json bytes m rest (ap (λ (r : End). scanned_to size bytes (exact_to bytes r)) stops ∙ ap (representable_at size (drop end bytes)) is ∙ ap (λ (r : List ℕ). Ok (m, r)) left) in
      let same : s.core ≡ core = front_same s.core core rest rest (sym s.joined ∙ joined) refl in
      ap₂ (λ (k : Num) (r : List ℕ). Ok (k, r)) (json_unique core m value (subst (λ c. IsJsonNumber c m) same s.number) number) left
  by_number end None stops is left =
      absurd (no_fault end left (number_faults_of (length bytes) json bytes _ (ap (λ (r : End). scanned_to (length bytes) bytes (exact_to bytes r)) stops ∙ ap (representable_at (length bytes) (drop end bytes)) is)))

  by_end : (r : End) → standard_end bytes ≡ r → number_to size bytes r ≡ Ok (n, rest) → scanned_to size bytes (exact_to bytes r) ≡ Ok (value, rest)
  by_end (Ok end) stops at = by_number end (exact_at bytes end) stops refl (left_is end (integer_at bytes end) at)
  by_end (Err offset) stops at = absurd cc

  pub json_integer : standard_number_at size bytes ≡ Ok (n, rest) → json_number_at size bytes ≡ Ok (value, rest)
  unfolding standard_number_at json_number_at
  json_integer at = by_end (standard_end bytes) refl at
