-- What parsing a number gives, and how a number begins, in each mode.
use Rattle.std.proofs.Common.{◌≡◌, ℕ, true, List, ◌∷◌, ◌++◌, ◌∙◌, inl, inr, ⊎_elim, eqb-true, Ok, Err}
use Rattle.std.specs.Prelude.{◌==◌}
use Rattle.std.specs.Char.{is_ascii_digit}
use Rattle.std.proofs.lemmas.Bool.{or_cases}
use Rattle.jsonb_spec.specs.Grammar.Scalar.{IsNumber, IsNumberText}
use Rattle.jsonb_spec.specs.Mode.{Mode, standard, extended, json, extended_json, Strictness, strict, lenient, strictness}
use Rattle.jsonb_spec.specs.Tree.{Num}
use Rattle.jsonb_spec.specs.Parsing.{Fault}
use Rattle.jsonb_spec.specs.Parsing.Number.{is_number_start}
use Rattle.jsonb_spec.specs.Parsing.Scalar.{begins_number, number_at}
use Rattle.text_scan.proofs.Numbers.Steps.{digit_is}
use Rattle.text_scan.proofs.Numbers.Reading.{EndsNumber, FaultRead, IsScanned, NumberRead, parsed_answer, scan_complete}
use Rattle.text_scan.proofs.Numbers.Standard.{NumberStart, standard_is_text, standard_scanned, number_starts, number_unique}
use Rattle.text_scan.proofs.Numbers.Extended.{OpensNumber, ExtendedStart, extended_scanned, extended_starts, opens_extended}
use Rattle.text_scan.proofs.Numbers.ExtendedParts.{extended_is_text, extended_unique}
use Rattle.text_scan.proofs.Numbers.ExactNumbers.{json_is_text, json_scanned, json_unique, json_starts, extended_json_is_text, extended_json_scanned, extended_json_unique, extended_json_starts}

-- a number's bytes are a number text
pub number_text_of : (mode : Mode) (core : List ℕ) (n : Num) → IsNumber mode core n → IsNumberText (strictness mode) core
number_text_of standard core n number = standard_is_text core n number
number_text_of extended core n number = extended_is_text core n number
number_text_of json core n number = json_is_text core n number
number_text_of extended_json core n number = extended_json_is_text core n number

-- a text has one number
pub number_unique_of : (mode : Mode) (core : List ℕ) (m n : Num) → IsNumber mode core m → IsNumber mode core n → m ≡ n
number_unique_of standard core m n p q = number_unique core m n p q
number_unique_of extended core m n p q = extended_unique core m n p q
number_unique_of json core m n p q = json_unique core m n p q
number_unique_of extended_json core m n p q = extended_json_unique core m n p q

-- a scan finds what is parsed
scanned_of : (size : ℕ) (mode : Mode) (bytes : List ℕ) → IsScanned mode size bytes (number_at size mode bytes)
scanned_of size standard bytes = standard_scanned size bytes
scanned_of size extended bytes = extended_scanned size bytes
scanned_of size json bytes = json_scanned size bytes
scanned_of size extended_json bytes = extended_json_scanned size bytes

-- What is parsed is a number text with its number, and no longer one is there.
pub number_sound_of : (size : ℕ) (mode : Mode) (bytes : List ℕ) (n : Num) (rest : List ℕ) → number_at size mode bytes ≡ Ok (n, rest) → NumberRead mode bytes n rest
number_sound_of size mode bytes n rest at = parsed_answer mode size bytes (number_at size mode bytes) (Ok (n, rest)) (scanned_of size mode bytes) at

-- Each fault is one of two, and its meaning is known.
pub number_faults_of : (size : ℕ) (mode : Mode) (bytes : List ℕ) (f : Fault) → number_at size mode bytes ≡ Err f → FaultRead mode size bytes f
number_faults_of size mode bytes f at = parsed_answer mode size bytes (number_at size mode bytes) (Err f) (scanned_of size mode bytes) at

-- A number text that nothing goes on with is parsed so.
pub number_complete_of : (size : ℕ) (mode : Mode) (core rest : List ℕ) (n : Num) → IsNumber mode core n → EndsNumber (strictness mode) rest → number_at size mode (core ++ rest) ≡ Ok (n, rest)
number_complete_of size mode core rest n number ends =
    let s = scanned_of size mode (core ++ rest) in
    s.is ∙ scan_complete mode (number_text_of mode) (number_unique_of mode) size core rest n s.scan s.finds number ends

-- ---- how a number begins

-- the first byte of a number, at which one may begin
pub record NumberOpens (strictness : Strictness) (core : List ℕ) : Type 0 where
  pub first : ℕ
  pub others : List ℕ
  pub whole : core ≡ first ∷ others
  pub opens : OpensNumber first
  pub begun : (rest : List ℕ) → begins_number strictness (first ∷ rest) ≡ true

-- a digit or a minus opens a number
start_opens : (b : ℕ) → is_number_start b ≡ true → OpensNumber b
start_opens b start = ⊎_elim (λ digit. inr (inr (inr (digit_is b digit)))) (λ minus. inr (inl (eqb-true b 45 minus))) (or_cases (is_ascii_digit b) (b == 45) start)

strict_opens : (core : List ℕ) → NumberStart core → NumberOpens strict core
strict_opens core s = record { first = s.first; others = s.others; whole = s.whole; opens = start_opens s.first s.start; begun = λ rest. s.start }

lenient_opens : (core : List ℕ) → ExtendedStart core → NumberOpens lenient core
lenient_opens core s = record { first = s.first; others = s.others; whole = s.whole; opens = s.opens; begun = λ rest. opens_extended s.first s.opens }

pub number_starts_of : (mode : Mode) (core : List ℕ) (n : Num) → IsNumber mode core n → NumberOpens (strictness mode) core
number_starts_of standard core n number = strict_opens core (number_starts core n number)
number_starts_of extended core n number = lenient_opens core (extended_starts core n number)
number_starts_of json core n number = strict_opens core (json_starts core n number)
number_starts_of extended_json core n number = lenient_opens core (extended_json_starts core n number)
