-- Texts of keys in a buffer.
use Rattle.std.proofs.Common.{refl, ◌≡◌, ◌≢◌, ℕ, zero, suc, take, ◌+◌, ◌<◌, List, [], ◌∷◌, ◌++◌, None, drop, get_or, length, slice_set, sym, ap, ◌∙◌, arith, append_assoc, append-nil}
use Rattle.std.proofs.Math.Seq.{drop-cons, set-append_seam}
use Rattle.std.proofs.lemmas.List.{length-append}
use Rattle.jsonb_spec.specs.SortKey.Reading.{byte_of}
use Rattle.key_value.proofs.Texts.{ReadsText, text_ended}
use Rattle.std.specs.List.{flat_map}
use Rattle.jsonb_spec.specs.SortKey.{byte_key, text_key}
use Rattle.jsonb_core.proofs.SortKeys.Texts.{text_key-other}

-- one byte more is put behind those that were
pub byte_put : (read old out : List ℕ) (at byte : ℕ) → length read ≡ at → at < length old → out ≡ read ++ drop at old → slice_set out at byte ≡ (read ++ byte ∷ []) ++ drop (at + 1) old
byte_put read old out at byte long space put =
    let one : suc at ≡ at + 1 = omega arith in
    ap (λ l. slice_set l at byte) (put ∙ ap (λ l. read ++ l) (drop-cons old at 0 space))
    ∙ ap (λ n. slice_set (read ++ get_or old at 0 ∷ drop (suc at) old) n byte) (sym long)
    ∙ set-append_seam read (get_or old at 0) (drop (suc at) old) byte
    ∙ ap (λ n. read ++ byte ∷ drop n old) one
    ∙ sym (append_assoc read (byte ∷ []) (drop (at + 1) old))

pub one_longer : (read : List ℕ) (at byte : ℕ) → length read ≡ at → length (read ++ byte ∷ []) ≡ at + 1
one_longer read at byte long = omega (arith, long, length-append read (byte ∷ []))

-- all of the text was read
pub text_read : (key read rest : List ℕ) → ReadsText key read rest → None ≡ byte_of rest → (text : List ℕ) → key ≡ text_key text → (text ≡ read) × (rest ≡ 0 ∷ 1 ∷ [])
text_read key read rest reads none text e = text_ended key read rest reads none text [] (e ∙ sym (append-nil (text_key text)))

-- ---- texts without a zero

long_enough : (text : List ℕ) → 1 < length (text_key text)
long_enough text = omega (arith, length-append (flat_map byte_key text) (0 ∷ 1 ∷ []))

-- where the first zero is before the last byte, the text is before it
pub plain_is : (text key : List ℕ) (z : ℕ) → key ≡ text_key text → ((k : ℕ) → k < z → get_or key k 0 ≢ 0) → get_or key z 0 ≡ 0 → z + 2 ≡ length key → take z key ≡ text
plain_is [] key z e before there last =
    let none : z ≡ 0 = omega (arith, last, ap length e) in
    ap (λ n. take n key) none
plain_is (zero ∷ text) key zero e before there last = absurd (omega (arith, last, ap length e, long_enough text))
plain_is (zero ∷ text) key (suc z) e before there last = absurd (before 0 (omega arith) (ap (λ xs. get_or xs 0 0) e))
plain_is (suc b ∷ text) key zero e before there last =
    let is : key ≡ suc b ∷ text_key text = e ∙ text_key-other b text in
    absurd (omega (arith, there, ap (λ xs. get_or xs 0 0) is))
plain_is (suc b ∷ text) key (suc z) e before there last =
    let is : key ≡ suc b ∷ text_key text = e ∙ text_key-other b text in
    let rest : take z (text_key text) ≡ text = plain_is text (text_key text) z refl
    (λ k l h. before (suc k) (omega (arith, l)) (ap (λ xs. get_or xs (suc k) 0) is ∙ h))
    (sym (ap (λ xs. get_or xs (suc z) 0) is) ∙ there)
    (omega (arith, last, ap length is)) in
    ap (take (suc z)) is ∙ ap (λ l. suc b ∷ l) rest
