-- Parsing a literal gives what the grammar says.
use Rattle.std.proofs.Common.{refl, ◌≡◌, ◌≢◌, ◌⊎◌, ℕ, ◌<◌, ◌≤◌, false, List, ◌++◌, length, take, drop, sym, subst, ap, ◌∙◌, inl, inr, ⊎_elim, arith, Ok, Err, add-zero}
use Rattle.std.specs.Prelude.{slice_index, codes}
use Rattle.std.specs.Char.{to_ascii_lowercase}
use Rattle.std.proofs.lemmas.Bool.{cases_eq, cases_Bool, false≢true}
use Rattle.std.proofs.lemmas.List.{append_assoc, take-append-drop, length-append, length-take-le, length-map, get_or-drop, drop-append-le, drop_all, take-append-le, take_all}
use Rattle.jsonb_spec.specs.Code.{Code}
use Rattle.jsonb_spec.specs.Grammar.ExtendedNumber.{IsNumberWord, IsExtendedText}
use Rattle.jsonb_spec.specs.Parsing.Number.{sign_end}
use Rattle.jsonb_spec.specs.Parsing.ExtendedNumber.{core_byte, encoded_from, word_scan, unrepresentable_word, invalid_word, ContinuesNumberExtended}
use Rattle.text_scan.proofs.Scalars.WordLetters.{Letters, IsWordCode, WordAnswer, word_answer, words_nan_minus, words_nan_plus, words_infinity, Encodes}
use Rattle.text_scan.proofs.Numbers.ExtendedTexts.{IsWordStart, NoExtendedEnds, IsNumberCode, ScansExtended, letter_is, sign_front, WordFound, word_found, hexadecimal_core, decimals_before_letter}
use Rattle.std.specs.Str.Parse.{starts_with_minus}

-- where a word begins, and the words that may
pub record IsWordFront (bytes : List ℕ) : Type 0 where
  pub inside : sign_end bytes 0 ≤ length bytes
  pub letter : IsWordStart (core_byte bytes)

-- no other text ends where a word begins
text_in_word : (bytes : List ℕ) → IsWordFront bytes → (k : ℕ) → k ≤ length bytes → IsExtendedText (take k bytes) → WordFound bytes k ⊎ ((k < sign_end bytes 0) × ContinuesNumberExtended (slice_index bytes k))
text_in_word bytes front k within (inl decimal) = inr (decimals_before_letter bytes front.inside front.letter k within decimal)
text_in_word bytes front k within (inr (inl hexadecimal)) = absurd (omega (arith, (hexadecimal_core bytes k hexadecimal).0, letter_is (core_byte bytes) front.letter))
text_in_word bytes front k within (inr (inr word)) = inl (word_found bytes k word)

pub none_in_word : (bytes : List ℕ) → IsWordFront bytes → ((k : ℕ) → WordFound bytes k → ⊥) → NoExtendedEnds bytes
none_in_word bytes front bad k within text = ⊎_elim (λ found. absurd (bad k found)) (λ before. before.1) (text_in_word bytes front k within text)

-- the bytes after the sign of a word
after_sign : (bytes : List ℕ) (k : ℕ) (f : WordFound bytes k) → drop (sign_end bytes 0) bytes ≡ f.letters ++ drop k bytes
after_sign bytes k f =
    let cut : drop (length f.sign) bytes ≡ f.letters ++ drop k bytes =
    ap (drop (length f.sign)) f.joined ∙ (drop-append-le (length f.sign) f.sign (f.letters ++ drop k bytes) (omega arith) ∙ ap (λ z. z ++ (f.letters ++ drop k bytes)) (drop_all (length f.sign) f.sign (omega arith))) in
    ap (λ i. drop i bytes) f.end ∙ cut

encoded_length : (word letters : List ℕ) → Encodes word letters → length letters ≡ length word
encoded_length word letters encodes = sym (length-map letters to_ascii_lowercase) ∙ ap length encodes

word_code : (code : Code) → IsWordCode code → IsNumberCode code
word_code code (inl e) = inr (inl e)
word_code code (inr e) = inr (inr e)

-- where each word text here has these letters, what is parsed of them is the longest text, and no text ends where they
-- can't be parsed
reads_letters : (bytes word : List ℕ) → IsWordFront bytes → ((k : ℕ) → (f : WordFound bytes k) → Encodes word f.letters) →
    ((letters : List ℕ) → Encodes word letters → IsNumberWord (take (sign_end bytes 0) bytes) letters) → (r : Letters) → WordAnswer (sign_end bytes 0) word (drop (sign_end bytes 0) bytes) r → ScansExtended bytes (unrepresentable_word r)
reads_letters bytes word front only is_word (Ok end) (letters, rest, joined, encodes, ends) =
    let all : bytes ≡ (take (sign_end bytes 0) bytes ++ letters) ++ rest = sym (take-append-drop (sign_end bytes 0) bytes) ∙ (ap (λ z. take (sign_end bytes 0) bytes ++ z) joined ∙ sym (append_assoc (take (sign_end bytes 0) bytes) letters rest)) in
    let long_sign = length-take-le (sign_end bytes 0) bytes front.inside in
    let long_front : length (take (sign_end bytes 0) bytes ++ letters) ≡ end = omega (arith, length-append (take (sign_end bytes 0) bytes) letters, long_sign, encoded_length word letters encodes, ends) in
    let text : take end bytes ≡ take (sign_end bytes 0) bytes ++ letters =
    ap (take end) all ∙ (take-append-le end (take (sign_end bytes 0) bytes ++ letters) rest (omega (arith, long_front)) ∙ take_all end (take (sign_end bytes 0) bytes ++ letters) (omega (arith, long_front))) in
    record {
      within = omega (arith, ap length all, length-append (take (sign_end bytes 0) bytes ++ letters) rest, long_front);
      text = inr (inr (take (sign_end bytes 0) bytes, letters, text, (sign_front bytes).is_sign, is_word letters encodes));
      longest = λ k within found_text. ⊎_elim (λ found. inl (omega (arith, found.long within, found.end, encoded_length word found.letters (only k found), ends))) (λ before. inr (omega (arith, before.0, ends), before.1)) (text_in_word bytes front k within found_text);
    }
reads_letters bytes word front only is_word (Err f) (code, none) =
    (word_code f.0 code, none_in_word bytes front (λ k found. none found.letters (drop k bytes) (after_sign bytes k found) (only k found)))

-- where no word text begins, each error is right
rejects_letters : (bytes : List ℕ) (offset : ℕ) (word rest : List ℕ) → NoExtendedEnds bytes → (r : Letters) → WordAnswer offset word rest r → ScansExtended bytes (invalid_word r)
rejects_letters bytes offset word rest none (Ok end) h = (inl refl, none)
rejects_letters bytes offset word rest none (Err f) h = (word_code f.0 h.0, none)

only_nan : (bytes : List ℕ) (k : ℕ) (f : WordFound bytes k) → to_ascii_lowercase (core_byte bytes) ≡ 110 → Encodes (codes "nan") f.letters × (starts_with_minus bytes ≡ false)
only_nan bytes k f n = ⊎_elim (λ i. absurd (omega (arith, i.1, n))) (λ nan. (nan.0, f.minus ∙ nan.1)) f.kind

only_infinity : (bytes : List ℕ) (k : ℕ) (f : WordFound bytes k) → to_ascii_lowercase (core_byte bytes) ≢ 110 → Encodes (codes "infinity") f.letters
only_infinity bytes k f other = ⊎_elim (λ i. i.0) (λ nan. absurd (other nan.2)) f.kind

first_byte : (bytes : List ℕ) → slice_index (drop (sign_end bytes 0) bytes) 0 ≡ core_byte bytes
first_byte bytes = get_or-drop (sign_end bytes 0) bytes 0 0 ∙ ap (slice_index bytes) (add-zero (sign_end bytes 0))

pub reads_word : (bytes : List ℕ) → IsWordFront bytes → ScansExtended bytes (word_scan (sign_end bytes 0) (starts_with_minus bytes) (drop (sign_end bytes 0) bytes))
reads_word bytes front =
    ⊎_elim
    (λ n. let letter : to_ascii_lowercase (slice_index (drop (sign_end bytes 0) bytes) 0) ≡ 110 = ap to_ascii_lowercase (first_byte bytes) ∙ n in
    ⊎_elim
    (λ minus. subst (ScansExtended bytes) (sym (words_nan_minus (sign_end bytes 0) (starts_with_minus bytes) (drop (sign_end bytes 0) bytes) letter minus))
    (rejects_letters bytes (sign_end bytes 0) (codes "nan") (drop (sign_end bytes 0) bytes) (none_in_word bytes front (λ k f. false≢true (sym (only_nan bytes k f n).1 ∙ minus))) (encoded_from (sign_end bytes 0) (codes "nan") (drop (sign_end bytes 0) bytes)) (word_answer (sign_end bytes 0) (codes "nan") (drop (sign_end bytes 0) bytes))))
    (λ plus. subst (ScansExtended bytes) (sym (words_nan_plus (sign_end bytes 0) (starts_with_minus bytes) (drop (sign_end bytes 0) bytes) letter plus))
    (reads_letters bytes (codes "nan") front (λ k f. (only_nan bytes k f n).0) (λ letters encodes. inr (encodes, (sign_front bytes).minus ∙ plus)) (encoded_from (sign_end bytes 0) (codes "nan") (drop (sign_end bytes 0) bytes)) (word_answer (sign_end bytes 0) (codes "nan") (drop (sign_end bytes 0) bytes)))) (cases_Bool (starts_with_minus bytes)))
    (λ other. subst (ScansExtended bytes) (sym (words_infinity (sign_end bytes 0) (starts_with_minus bytes) (drop (sign_end bytes 0) bytes) (λ n. other (sym (ap to_ascii_lowercase (first_byte bytes)) ∙ n))))
    (reads_letters bytes (codes "infinity") front (λ k f. only_infinity bytes k f other) (λ letters encodes. inl encodes) (encoded_from (sign_end bytes 0) (codes "infinity") (drop (sign_end bytes 0) bytes)) (word_answer (sign_end bytes 0) (codes "infinity") (drop (sign_end bytes 0) bytes))))
    (cases_eq (to_ascii_lowercase (core_byte bytes)) 110)
