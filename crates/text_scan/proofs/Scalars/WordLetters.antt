-- The letters of a literal, from left to right.
use Rattle.std.proofs.Common.{◌≡◌, ◌≢◌, ◌⊎◌, inl, inr, ℕ, Bool, ◌+◌, ◌<◌, ◌≤◌, true, false, List, [], ◌∷◌, ◌++◌, length, get_or, drop, map, refl, ap, ◌∙◌, arith, Ok, Err, ⊎_elim}
use Rattle.std.specs.Prelude.{slice_index, ◌==◌, codes, if◌then◌else◌, Result}
use Rattle.std.proofs.lemmas.Bool.{cases_eq}
use Rattle.std.proofs.lemmas.Bool.Decides.{nat_tests}
use Rattle.std.specs.Char.{to_ascii_lowercase}
use Rattle.std.proofs.lemmas.List.{drop_more, drop_all}
use Rattle.jsonb_spec.specs.Code.{Code, invalid_eof, expected_some_ident}
use Rattle.jsonb_spec.specs.Parsing.ExtendedNumber.{encoded_from, word_scan, unrepresentable_word, invalid_word}

-- the letters encode the word, each in either case
abbrev pub Encodes : List ℕ → List ℕ → Type 0
Encodes word letters = map to_ascii_lowercase letters ≡ word

-- the index after a word, or a fault and its offset
abbrev pub Letters : Type 0
Letters = Result ℕ (Code × ℕ)

pub word_more : (offset i j : ℕ) (word bytes : List ℕ) → i < length word → j < length bytes → to_ascii_lowercase (get_or bytes j 0) ≡ get_or word i 0 → encoded_from offset (drop i word) (drop j bytes) ≡ encoded_from (offset + 1) (drop (i + 1) word) (drop (j + 1) bytes)
unfolding encoded_from
word_more offset i j word bytes in_word in_bytes same =
    let tested : (to_ascii_lowercase (get_or bytes j 0) == get_or word i 0) ≡ true = grind (arith, nat_tests) in
    rw (drop_more word i 0 in_word, drop_more bytes j 0 in_bytes, tested) refl

pub word_other : (offset i j : ℕ) (word bytes : List ℕ) → i < length word → j < length bytes → to_ascii_lowercase (get_or bytes j 0) ≢ get_or word i 0 → encoded_from offset (drop i word) (drop j bytes) ≡ Err (expected_some_ident, offset + 1)
unfolding encoded_from
word_other offset i j word bytes in_word in_bytes other =
    let tested : (to_ascii_lowercase (get_or bytes j 0) == get_or word i 0) ≡ false = grind (arith, nat_tests) in
    rw (drop_more word i 0 in_word, drop_more bytes j 0 in_bytes, tested) refl

pub word_ended : (offset i j : ℕ) (word bytes : List ℕ) → i < length word → length bytes ≤ j → encoded_from offset (drop i word) (drop j bytes) ≡ Err (invalid_eof, offset)
unfolding encoded_from
word_ended offset i j word bytes in_word ended = rw (drop_more word i 0 in_word, drop_all j bytes ended) refl

pub word_done : (offset i j : ℕ) (word bytes : List ℕ) → length word ≤ i → encoded_from offset (drop i word) (drop j bytes) ≡ Ok offset
unfolding encoded_from
word_done offset i j word bytes done = rw (drop_all i word done) refl

pub words_nan : (offset : ℕ) (negative : Bool) (bytes : List ℕ) → to_ascii_lowercase (slice_index bytes 0) ≡ 110 → word_scan offset negative bytes ≡ (if negative then invalid_word (encoded_from offset (codes "nan") bytes) else unrepresentable_word (encoded_from offset (codes "nan") bytes))
unfolding word_scan
words_nan offset negative bytes n =
    let tested : (to_ascii_lowercase (slice_index bytes 0) == 110) ≡ true = grind (arith, nat_tests) in rw tested refl

pub words_infinity : (offset : ℕ) (negative : Bool) (bytes : List ℕ) → to_ascii_lowercase (slice_index bytes 0) ≢ 110 → word_scan offset negative bytes ≡ unrepresentable_word (encoded_from offset (codes "infinity") bytes)
unfolding word_scan
words_infinity offset negative bytes other =
    let tested : (to_ascii_lowercase (slice_index bytes 0) == 110) ≡ false = grind (arith, nat_tests) in rw tested refl

pub words_nan_minus : (offset : ℕ) (negative : Bool) (bytes : List ℕ) → to_ascii_lowercase (slice_index bytes 0) ≡ 110 → negative ≡ true → word_scan offset negative bytes ≡ invalid_word (encoded_from offset (codes "nan") bytes)
words_nan_minus offset negative bytes n minus = ap (λ b. word_scan offset b bytes) minus ∙ words_nan offset true bytes n

pub words_nan_plus : (offset : ℕ) (negative : Bool) (bytes : List ℕ) → to_ascii_lowercase (slice_index bytes 0) ≡ 110 → negative ≡ false → word_scan offset negative bytes ≡ unrepresentable_word (encoded_from offset (codes "nan") bytes)
words_nan_plus offset negative bytes n plus = ap (λ b. word_scan offset b bytes) plus ∙ words_nan offset false bytes n

-- a word that is misspelled, after a minus or not
pub words_misspelled : (offset : ℕ) (negative : Bool) (bytes : List ℕ) (f : Code × ℕ) → to_ascii_lowercase (slice_index bytes 0) ≡ 110 → encoded_from offset (codes "nan") bytes ≡ Err f → word_scan offset negative bytes ≡ Err f
words_misspelled offset true bytes f n at = words_nan_minus offset true bytes n refl ∙ ap invalid_word at
words_misspelled offset false bytes f n at = words_nan_plus offset false bytes n refl ∙ ap unrepresentable_word at

-- ---- what is parsed is an encoding, and what is not parsed is none

-- the bytes begin with no encoding of the word
abbrev pub EncodesNone : List ℕ → List ℕ → Type 0
EncodesNone word bytes = (letters rest : List ℕ) → bytes ≡ letters ++ rest → Encodes word letters → ⊥

-- the codes of faults in a word
abbrev pub IsWordCode : Code → Type 0
IsWordCode code = (code ≡ invalid_eof) ⊎ (code ≡ expected_some_ident)

abbrev pub WordAnswer : ℕ → List ℕ → List ℕ → Letters → Type 0
WordAnswer offset word bytes (Ok end) = (letters : List ℕ) × (rest : List ℕ) × (bytes ≡ letters ++ rest) × Encodes word letters × (end ≡ offset + length word)
WordAnswer offset word bytes (Err f) = IsWordCode f.0 × EncodesNone word bytes

none_longer : (c b : ℕ) (word bytes : List ℕ) → EncodesNone word bytes → EncodesNone (c ∷ word) (b ∷ bytes)
none_longer c b word bytes none [] rest same encodes = absurd (omega (arith, ap length encodes))
none_longer c b word bytes none (l ∷ letters) rest same encodes = none letters rest (ap (drop 1) same) (ap (drop 1) encodes)

one_longer : (offset c b : ℕ) (word bytes : List ℕ) (r : Letters) → to_ascii_lowercase b ≡ c → WordAnswer (offset + 1) word bytes r → WordAnswer offset (c ∷ word) (b ∷ bytes) r
one_longer offset c b word bytes (Ok end) same (letters, rest, joined, encodes, at) = (b ∷ letters, rest, ap (λ z. b ∷ z) joined, ap (λ z. z ∷ map to_ascii_lowercase letters) same ∙ ap (λ z. c ∷ z) encodes, omega (arith, at))
one_longer offset c b word bytes (Err f) same (code, none) = (code, none_longer c b word bytes none)

no_word_left : (c : ℕ) (word : List ℕ) → EncodesNone (c ∷ word) []
no_word_left c word [] rest same encodes = absurd (omega (arith, ap length encodes))
no_word_left c word (l ∷ letters) rest same encodes = absurd (omega (arith, ap length same))

other_letter : (c b : ℕ) (word bytes : List ℕ) → to_ascii_lowercase b ≢ c → EncodesNone (c ∷ word) (b ∷ bytes)
other_letter c b word bytes other [] rest same encodes = absurd (omega (arith, ap length encodes))
other_letter c b word bytes other (l ∷ letters) rest same encodes = other (ap (λ z. to_ascii_lowercase (slice_index z 0)) same ∙ ap (λ z. slice_index z 0) encodes)

pub word_answer : (offset : ℕ) (word bytes : List ℕ) → WordAnswer offset word bytes (encoded_from offset word bytes)
unfolding encoded_from
word_answer offset [] bytes = ([], bytes, refl, refl, omega arith)
word_answer offset (c ∷ word) [] = (inl refl, no_word_left c word)
word_answer offset (c ∷ word) (b ∷ bytes) =
    ⊎_elim
    (λ same. let tested : (to_ascii_lowercase b == c) ≡ true = grind (arith, nat_tests) in rw tested (one_longer offset c b word bytes (encoded_from (offset + 1) word bytes) same (word_answer (offset + 1) word bytes)))
    (λ other. let tested : (to_ascii_lowercase b == c) ≡ false = grind (arith, nat_tests) in rw tested (inr refl, other_letter c b word bytes other)) (cases_eq (to_ascii_lowercase b) c)
