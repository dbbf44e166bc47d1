-- Where the key of a text ends.
use Rattle.std.proofs.Common.{◌≡◌, ◌≢◌, ℕ, zero, suc, ◌+◌, ◌<◌, ◌⊎◌, inl, inr, true, true≢false, List, [], ◌∷◌, ◌++◌, Some, None, get_or, drop, take, length, refl, sym, ap, ◌∙◌, arith, eq-eqb, ◌==◌}
use Rattle.std.proofs.lemmas.Bool.{cases_eq, ne_eqb}
use Rattle.memchr.specs.Find.{IsFirstByte, is_byte}
use Rattle.jsonb_spec.specs.SortKey.{text_key}
use Rattle.jsonb_core.proofs.SortKeys.Texts.{text_key-other}
use Rattle.jsonb_core.proofs.Trees.Runs.{heads, tails}

-- the key of a text that is left is first
abbrev pub TextLeft : List ℕ → List ℕ → Type 0
TextLeft rest more = (left : List ℕ) × (rest ≡ text_key left ++ more)

-- Whatever text's key the bytes begin with, what is left begins with the key of the rest of it.
abbrev pub SkipsText : List ℕ → List ℕ → Type 0
SkipsText bytes rest = (text more : List ℕ) → bytes ≡ text_key text ++ more → TextLeft rest more

-- what is behind the first zero: the end, or more of the text
abbrev pub BehindZero : ℕ → List ℕ → List ℕ → Type 0
BehindZero mark others more = ((mark ≡ 1) × (others ≡ more)) ⊎ ((mark ≡ 255) × TextLeft others more)

at_zero : (left more rest : List ℕ) (z mark : ℕ) (others : List ℕ) → rest ≡ text_key left ++ more → ((k : ℕ) → k < z → get_or rest k 0 ≢ 0) → get_or rest z 0 ≡ 0 → drop (suc z) rest ≡ mark ∷ others → BehindZero mark others more
at_zero [] more rest zero mark others e before zero_there behind =
    let there : mark ∷ others ≡ 1 ∷ more = sym behind ∙ ap (drop 1) e in
    inl (heads mark 1 others more there, tails mark 1 others more there)
at_zero [] more rest (suc z) mark others e before zero_there behind = absurd (before 0 (omega arith) (ap (λ xs. get_or xs 0 0) e))
at_zero (zero ∷ left) more rest zero mark others e before zero_there behind =
    let there : mark ∷ others ≡ 255 ∷ (text_key left ++ more) = sym behind ∙ ap (drop 1) e in
    inr (heads mark 255 others (text_key left ++ more) there, (left, tails mark 255 others (text_key left ++ more) there))
at_zero (zero ∷ left) more rest (suc z) mark others e before zero_there behind = absurd (before 0 (omega arith) (ap (λ xs. get_or xs 0 0) e))
at_zero (suc b ∷ left) more rest zero mark others e before zero_there behind =
    let is : rest ≡ suc b ∷ (text_key left ++ more) = e ∙ ap (λ bytes. bytes ++ more) (text_key-other b left) in
    absurd (omega (arith, zero_there, ap (λ xs. get_or xs 0 0) is))
at_zero (suc b ∷ left) more rest (suc z) mark others e before zero_there behind =
    let is : rest ≡ suc b ∷ (text_key left ++ more) = e ∙ ap (λ bytes. bytes ++ more) (text_key-other b left) in
    at_zero left more (text_key left ++ more) z mark others refl
    (λ k l h. before (suc k) (omega (arith, l)) (ap (λ xs. get_or xs (suc k) 0) is ∙ h))
    (sym (ap (λ xs. get_or xs (suc z) 0) is) ∙ zero_there)
    (sym (ap (drop (suc (suc z))) is) ∙ behind)

-- where no zero is before an end, the whole text does
pub split_there : (text more bytes : List ℕ) (z : ℕ) (others : List ℕ) → bytes ≡ text_key text ++ more → ((k : ℕ) → k < z → get_or bytes k 0 ≢ 0) → drop z bytes ≡ 0 ∷ 1 ∷ others → (take z bytes ≡ text) × (others ≡ more)
split_there [] more bytes zero others e none ended = (refl, tails 1 1 others more (tails 0 0 (1 ∷ others) (1 ∷ more) (sym ended ∙ e)))
split_there [] more bytes (suc z) others e none ended = absurd (none 0 (omega arith) (ap (λ xs. get_or xs 0 0) e))
split_there (zero ∷ text) more bytes zero others e none ended =
    absurd (omega (arith, heads 1 255 others (text_key text ++ more) (tails 0 0 (1 ∷ others) (255 ∷ (text_key text ++ more)) (sym ended ∙ e))))
split_there (zero ∷ text) more bytes (suc z) others e none ended = absurd (none 0 (omega arith) (ap (λ xs. get_or xs 0 0) e))
split_there (suc b ∷ text) more bytes zero others e none ended =
    let is : bytes ≡ suc b ∷ (text_key text ++ more) = e ∙ ap (λ key. key ++ more) (text_key-other b text) in
    absurd (omega (arith, heads 0 (suc b) (1 ∷ others) (text_key text ++ more) (sym ended ∙ is)))
split_there (suc b ∷ text) more bytes (suc z) others e none ended =
    let is : bytes ≡ suc b ∷ (text_key text ++ more) = e ∙ ap (λ key. key ++ more) (text_key-other b text) in
    let inner = split_there text more (text_key text ++ more) z others refl (λ k l h. none (suc k) (omega (arith, l)) (ap (λ xs. get_or xs (suc k) 0) is ∙ h)) (sym (ap (drop (suc z)) is) ∙ ended) in
    (ap (take (suc z)) is ∙ ap (λ xs. suc b ∷ xs) inner.0, inner.1)

-- and what is first is no end of an object
pub not_over : (bytes others tail : List ℕ) (z : ℕ) → ((k : ℕ) → k < z → get_or bytes k 0 ≢ 0) → drop z bytes ≡ 0 ∷ 1 ∷ others → bytes ≡ 0 ∷ 0 ∷ tail → ⊥
not_over bytes others tail zero none ended e = absurd (omega (arith, heads 1 0 others tail (tails 0 0 (1 ∷ others) (0 ∷ tail) (sym ended ∙ e))))
not_over bytes others tail (suc z) none ended e = none 0 (omega arith) (ap (λ xs. get_or xs 0 0) e)

-- a byte is behind the first zero
zero_not_last : (left more rest : List ℕ) (z : ℕ) → rest ≡ text_key left ++ more → ((k : ℕ) → k < z → get_or rest k 0 ≢ 0) → get_or rest z 0 ≡ 0 → length (drop (suc z) rest) ≡ 0 → ⊥
zero_not_last [] more rest zero e before zero_at none = absurd (omega (arith, none, ap (λ xs. length (drop 1 xs)) e))
zero_not_last [] more rest (suc z) e before zero_at none = absurd (before 0 (omega arith) (ap (λ xs. get_or xs 0 0) e))
zero_not_last (zero ∷ left) more rest zero e before zero_at none = absurd (omega (arith, none, ap (λ xs. length (drop 1 xs)) e))
zero_not_last (zero ∷ left) more rest (suc z) e before zero_at none = absurd (before 0 (omega arith) (ap (λ xs. get_or xs 0 0) e))
zero_not_last (suc b ∷ left) more rest zero e before zero_at none =
    let is : rest ≡ suc b ∷ (text_key left ++ more) = e ∙ ap (λ bytes. bytes ++ more) (text_key-other b left) in
    absurd (omega (arith, zero_at, ap (λ xs. get_or xs 0 0) is))
zero_not_last (suc b ∷ left) more rest (suc z) e before zero_at none =
    let is : rest ≡ suc b ∷ (text_key left ++ more) = e ∙ ap (λ bytes. bytes ++ more) (text_key-other b left) in
    zero_not_last left more (text_key left ++ more) z refl
    (λ k l h. before (suc k) (omega (arith, l)) (ap (λ xs. get_or xs (suc k) 0) is ∙ h))
    (sym (ap (λ xs. get_or xs (suc z) 0) is) ∙ zero_at)
    (sym (ap (λ xs. length (drop (suc (suc z)) xs)) is) ∙ none)

-- there is a zero in the key of each text
pub some_zero : (left more rest : List ℕ) → rest ≡ text_key left ++ more → ((k : ℕ) → k < length rest → get_or rest k 0 ≢ 0) → ⊥
some_zero [] more rest e none = absurd (none 0 (omega (arith, ap length e)) (ap (λ xs. get_or xs 0 0) e))
some_zero (zero ∷ left) more rest e none = absurd (none 0 (omega (arith, ap length e)) (ap (λ xs. get_or xs 0 0) e))
some_zero (suc b ∷ left) more rest e none =
    let is : rest ≡ suc b ∷ (text_key left ++ more) = e ∙ ap (λ bytes. bytes ++ more) (text_key-other b left) in
    some_zero left more (text_key left ++ more) refl (λ k l h. none (suc k) (omega (arith, l, ap length is)) (ap (λ xs. get_or xs (suc k) 0) is ∙ h))

-- ---- one step

-- the byte at that exponent is a zero
pub is_zero : (x : ℕ) → x == 0 ≡ true → x ≡ 0
is_zero x p = elim (cases_eq x 0) [
  | inl e ↦ e
  | inr ne ↦ absurd (true≢false (sym p ∙ ne_eqb x 0 ne))
]

pub behind_zero : (bytes rest tail others : List ℕ) (z mark : ℕ) → SkipsText bytes rest → IsFirstByte (is_byte 0) rest (Some z) → tail ≡ drop (z + 1) rest → tail ≡ mark ∷ others → (text more : List ℕ) → bytes ≡ text_key text ++ more → BehindZero mark others more
behind_zero bytes rest tail others z mark so_far found back first text more e =
    let r = so_far text more e in
    let one_more : z + 1 ≡ suc z = omega arith in
    at_zero r.0 more rest z mark others r.1
    (λ k l h. found.0.before k (omega arith) l (eq-eqb (get_or rest k 0) 0 h))
    (is_zero (get_or rest z 0) found.1)
    (ap (λ i. drop i rest) (sym one_more) ∙ sym back ∙ first)

pub no_more_bytes : (bytes rest tail : List ℕ) (z : ℕ) → SkipsText bytes rest → IsFirstByte (is_byte 0) rest (Some z) → tail ≡ drop (z + 1) rest → length tail ≡ 0 → (text more : List ℕ) → bytes ≡ text_key text ++ more → ⊥
no_more_bytes bytes rest tail z so_far found back none text more e =
    let r = so_far text more e in
    let one_more : z + 1 ≡ suc z = omega arith in
    zero_not_last r.0 more rest z r.1
    (λ k l h. found.0.before k (omega arith) l (eq-eqb (get_or rest k 0) 0 h))
    (is_zero (get_or rest z 0) found.1)
    (omega (arith, ap length (ap (λ i. drop i rest) (sym one_more) ∙ sym back), none))

pub zero_there : (bytes rest : List ℕ) → SkipsText bytes rest → IsFirstByte (is_byte 0) rest None → (text more : List ℕ) → bytes ≡ text_key text ++ more → ⊥
zero_there bytes rest so_far none text more e =
    let r = so_far text more e in
    some_zero r.0 more rest r.1 (λ k l h. none k (omega arith) l (eq-eqb (get_or rest k 0) 0 h))

pub text_over : (mark : ℕ) (others more : List ℕ) → BehindZero mark others more → mark ≡ 1 → others ≡ more
text_over mark others more (inl p) is = p.1
text_over mark others more (inr p) is = absurd (omega (arith, p.0, is))

pub text_goes_on : (mark : ℕ) (others more : List ℕ) → BehindZero mark others more → mark ≡ 255 → TextLeft others more
text_goes_on mark others more (inl p) is = absurd (omega (arith, p.0, is))
text_goes_on mark others more (inr p) is = p.1

pub no_other_mark : (mark : ℕ) (others more : List ℕ) → BehindZero mark others more → mark ≢ 1 → mark ≢ 255 → ⊥
no_other_mark mark others more (inl p) a b = absurd (a p.0)
no_other_mark mark others more (inr p) a b = absurd (b p.0)
