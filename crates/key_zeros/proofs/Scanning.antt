-- Where the next number of a text begins: bytes of other kinds and strings are passed.
use Rattle.std.proofs.Common.{◌≡◌, ◌≢◌, ℕ, zero, suc, ◌+◌, ◌/◌, ◌%◌, ◌<◌, ◌≤◌, inl, inr, ◌==◌, Bool, true, false, List, [], ◌∷◌, ◌++◌, None, take, drop, length, if◌then◌else◌, refl, sym, ap, ◌∙◌, arith, append_assoc, length-append, ltb-true}
use Rattle.std.proofs.Math.Seq.{drop-append_seam}
use Rattle.std.proofs.lemmas.Bool.{cond-true, cond-false, cases_lt, ne_eqb, lt-ltb, le-ltb, eqb-false}
use Rattle.std.specs.Bool.{nat_lt}
use Rattle.std.specs.Char.{digit_char}
use Rattle.std.specs.List.{flat_map}
use Rattle.jsonb_spec.specs.Text.StringText.{ArePlain, byte_text, control_text, quoted_text}
use Rattle.jsonb_core.proofs.Strings.PlainTexts.{byte_some, no_shorter}
use Rattle.key_zeros.specs.Scan.{from_number, from_number_behind}

-- ---- inside of a string

pub other_passed : (b : ℕ) (bytes : List ℕ) → b ≢ 34 → b ≢ 92 → from_number_behind (b ∷ bytes) ≡ from_number_behind bytes
other_passed b bytes p q = cond-false (b == 34) _ _ (ne_eqb b 34 p) ∙ cond-false (b == 92) _ _ (ne_eqb b 92 q)

plain_byte : (b : ℕ) (bytes : List ℕ) → ArePlain (b ∷ bytes) → (b ≢ 34) × (b ≢ 92) × ArePlain bytes
plain_byte b bytes h =
    let others = flat_map byte_text bytes in
    let one : length (byte_text b) ≡ 1 = omega (arith, ap length h, length-append (byte_text b) others, byte_some b, no_shorter bytes) in (
      λ e. absurd (omega (arith, one, ap (λ (n : ℕ). length (byte_text n)) e)),
      λ e. absurd (omega (arith, one, ap (λ (n : ℕ). length (byte_text n)) e)),
      sym (drop-append_seam (byte_text b) others) ∙ ap (λ (n : ℕ). drop n (byte_text b ++ others)) one ∙ ap (drop 1) h,
    )

pub run_passed : (count : ℕ) (bytes : List ℕ) → count ≤ length bytes → ArePlain (take count bytes) → from_number_behind bytes ≡ from_number_behind (drop count bytes)
run_passed zero bytes within plain = refl
run_passed (suc count) [] within plain = absurd (omega (arith, within))
run_passed (suc count) (b ∷ bytes) within plain =
    let p = plain_byte b (take count bytes) plain in
    other_passed b bytes p.0 p.1 ∙ run_passed count bytes (omega (arith, within)) p.2

digit_other : (n : ℕ) → n < 16 → (digit_char n ≢ 34) × (digit_char n ≢ 92)
digit_other n small = elim (cases_lt n 10) [
  | inl low ↦ let is = cond-true (nat_lt n 10) (48 + n) (87 + n) (lt-ltb n 10 low) in (λ e. omega (arith, is, e), λ e. omega (arith, is, e, low))
  | inr high ↦ let is = cond-false (nat_lt n 10) (48 + n) (87 + n) (le-ltb n 10 high) in (λ e. omega (arith, is, e), λ e. omega (arith, is, e, high))
]

control_passed : (b : ℕ) (rest : List ℕ) → b < 32 → from_number_behind (control_text b ++ rest) ≡ from_number_behind rest
control_passed b rest low =
    let first = digit_other (b / 16) (omega (arith, low)) in
    let second = digit_other (b % 16) (omega arith) in
    other_passed (digit_char (b / 16)) (digit_char (b % 16) ∷ rest) first.0 first.1 ∙ other_passed (digit_char (b % 16)) rest second.0 second.1

-- what holds of both cases
either : (t : Bool) (xs ys rest : List ℕ) → (t ≡ true → from_number_behind (xs ++ rest) ≡ from_number_behind rest) → (t ≡ false → from_number_behind (ys ++ rest) ≡ from_number_behind rest) → from_number_behind ((if t then xs else ys) ++ rest) ≡ from_number_behind rest
either true xs ys rest p q = p refl
either false xs ys rest p q = q refl

-- a byte of a string, as it is written
byte_passed : (b : ℕ) (rest : List ℕ) → from_number_behind (byte_text b ++ rest) ≡ from_number_behind rest
byte_passed b rest =
    either (b == 34) _ _ rest (λ is. refl) (λ no_quote.
    either (b == 92) _ _ rest (λ is. refl) (λ no_backslash.
    either (b == 10) _ _ rest (λ is. refl) (λ no_feed.
    either (b == 13) _ _ rest (λ is. refl) (λ no_return.
    either (b == 9) _ _ rest (λ is. refl) (λ no_tab.
    either (nat_lt b 32) _ _ rest (λ low. control_passed b rest (below b low)) (λ high. other_passed b rest (other b 34 no_quote) (other b 92 no_backslash)))))))
  where
    other : (x y : ℕ) → x == y ≡ false → x ≢ y
    other x y e = eqb-false x y e

    below : (x : ℕ) → nat_lt x 32 ≡ true → x < 32
    below x e = ltb-true x 32 e

-- a string behind its first quote
string_passed : (text more : List ℕ) → from_number_behind (flat_map byte_text text ++ 34 ∷ more) ≡ from_number more
string_passed [] more = refl
string_passed (b ∷ text) more =
    ap from_number_behind (append_assoc (byte_text b) (flat_map byte_text text) (34 ∷ more)) ∙ byte_passed b (flat_map byte_text text ++ 34 ∷ more) ∙ string_passed text more

-- There is no number in the bytes, and no string that doesn't end.
abbrev pub IsGap : List ℕ → Type 0
IsGap gap = (more : List ℕ) → from_number (gap ++ more) ≡ from_number more

pub quoted_gap : (text : List ℕ) → IsGap (quoted_text text)
quoted_gap text = λ more. ap from_number_behind (append_assoc (flat_map byte_text text) (34 ∷ []) more) ∙ string_passed text more

pub gaps : (front back : List ℕ) → IsGap front → IsGap back → IsGap (front ++ back)
gaps front back p q = λ more. ap from_number (append_assoc front back more) ∙ p (back ++ more) ∙ q more

-- nothing is found in no bytes
pub nothing_behind : (bytes : List ℕ) → length bytes ≡ 0 → from_number_behind bytes ≡ None
nothing_behind [] none = refl
nothing_behind (b ∷ bytes) none = absurd (omega (arith, none))

pub nothing_escaped : (bytes : List ℕ) → length bytes ≡ 0 → from_number_behind (92 ∷ bytes) ≡ None
nothing_escaped [] none = refl
nothing_escaped (b ∷ bytes) none = absurd (omega (arith, none))

-- behind a run
pub run_then : (all rest slice : List ℕ) (run byte : ℕ) (others : List ℕ) → from_number_behind all ≡ from_number_behind rest → run ≤ length rest → ArePlain (take run rest) → slice ≡ drop run rest → slice ≡ byte ∷ others → from_number_behind all ≡ from_number_behind (byte ∷ others)
run_then all rest slice run byte others same within plain is first = same ∙ run_passed run rest within plain ∙ ap from_number_behind (sym is ∙ first)
