-- The bits of a mask: where a quote or a backslash is among 32 bytes.
use Rattle.std.proofs.Common.{◌≡◌, ◌≢◌, ◌⊎◌, ◌↔◌, ℕ, ◌+◌, ◌-◌, ◌<◌, ◌≤◌, ⊎_elim, inl, inr, List, bit_or, length, get_or, sym, subst, ◌∙◌, arith}
use Rattle.std.specs.Int.{bit_at}
use Rattle.std.proofs.lemmas.Bool.{cases_lt}
use Rattle.std.proofs.lemmas.Nat.Bits.{bit_at-lt, bit_at-zero, bit_at_or}
use Rattle.text_scan.specs.QuotedString.{KnowsMarks, ReportsMarks}

-- the byte is the quote or a backslash
abbrev pub IsMark : ℕ → ℕ → Type 0
IsMark quote b = (b ≡ quote) ⊎ (b ≡ 92)

pub reports : (quote size at a b : ℕ) (bytes : List ℕ) → at + size ≤ length bytes → ((k : ℕ) → (bit_at a k ≡ 1) ↔ ((k < size) × (get_or bytes (at + k) 0 ≡ quote))) → ((k : ℕ) → (bit_at b k ≡ 1) ↔ ((k < size) × (get_or bytes (at + k) 0 ≡ 92)))
    → ReportsMarks quote bytes at (at + size) (bit_or a b)
reports quote size at a b bytes within quotes backslashes =
    record {
      within = within;
      set = λ k low mark. ⊎_elim
          (λ is. either k (inl ((quotes k).1 (omega (arith, low), is))))
          (λ is. either k (inr ((backslashes k).1 (omega (arith, low), is)))) mark;
      marked = λ k bit. ⊎_elim (λ set. inl ((quotes k).0 set).1) (λ set. inr ((backslashes k).0 set).1) (each k bit);
      short = λ k bit. ⊎_elim (λ set. omega (arith, ((quotes k).0 set).0)) (λ set. omega (arith, ((backslashes k).0 set).0)) (each k bit);
    }
  where
    either : (k : ℕ) → (bit_at a k ≡ 1) ⊎ (bit_at b k ≡ 1) → bit_at (bit_or a b) k ≡ 1
    either k (inl set) = omega (arith, set, bit_at_or a b k, bit_at-lt b k)
    either k (inr set) = omega (arith, set, bit_at_or a b k, bit_at-lt a k)

    each : (k : ℕ) → bit_at (bit_or a b) k ≡ 1 → (bit_at a k ≡ 1) ⊎ (bit_at b k ≡ 1)
    each k set = ⊎_elim
        (λ none. inr (omega (arith, none, set, bit_at_or a b k, bit_at-lt b k)))
        (λ some. inl (omega (arith, some, bit_at-lt a k)))
        (cases_lt (bit_at a k) 1)

-- ---- what the bits say of a run of bytes

abbrev pub IsClear : ℕ → List ℕ → ℕ → ℕ → Type 0
IsClear quote bytes i j = (k : ℕ) → i ≤ k → k < j → (get_or bytes k 0 ≢ quote) × (get_or bytes k 0 ≢ 92)

clear-at : (quote m i end k : ℕ) (bytes : List ℕ) → ReportsMarks quote bytes i end m → i ≤ k → k < end → bit_at m (k - i) ≡ 0 → (get_or bytes k 0 ≢ quote) × (get_or bytes k 0 ≢ 92)
clear-at quote m i end k bytes t low high off =
    let here : i + (k - i) ≡ k = omega arith in
    let no : IsMark quote (get_or bytes k 0) → ⊥ = λ mark. absurd (let one = t.set (k - i) (omega (arith, here, high)) (subst (λ n. IsMark quote (get_or bytes n 0)) (sym here) mark) in omega (arith, one, off)) in
    (λ e. no (inl e), λ e. no (inr e))

pub clear_before : (quote m i end n : ℕ) (bytes : List ℕ) → ReportsMarks quote bytes i end m → ((k : ℕ) → k < n → bit_at m k ≡ 0) → i + n < end → IsClear quote bytes i (i + n)
clear_before quote m i end n bytes t below small k low high = clear-at quote m i end k bytes t low (omega (arith, small, high)) (below (k - i) (omega arith))

pub clear_all : (quote m i end : ℕ) (bytes : List ℕ) → ReportsMarks quote bytes i end m → m ≡ 0 → IsClear quote bytes i end
clear_all quote m i end bytes t none k low high =
    clear-at quote m i end k bytes t low high (subst (λ x. bit_at x (k - i) ≡ 0) (sym none) (bit_at-zero (k - i)))

-- ---- marks that are held

-- no bits speak of no bytes
pub knows_none : (quote at : ℕ) (bytes : List ℕ) → KnowsMarks quote bytes at 0
knows_none quote at bytes = (
  0,
  record {
    within = omega arith;
    set = λ k low mark. absurd (omega (arith, low));
    marked = λ k bit. absurd (omega (arith, bit, bit_at-zero k));
    short = λ k bit. absurd (omega (arith, bit, bit_at-zero k));
  },
)

-- the marks from a later offset on
pub knows_later : (quote at by later bits new : ℕ) (bytes : List ℕ) → ((k : ℕ) → bit_at new k ≡ bit_at bits (by + k)) → at + by ≡ later → KnowsMarks quote bytes at bits → KnowsMarks quote bytes later new
knows_later quote at by later bits new bytes is sum (end, t) = (
  end,
  record {
    within = t.within;
    set = λ k low mark. is k ∙ t.set (by + k) (omega (arith, low, sum)) (subst (λ n. IsMark quote (get_or bytes n 0)) (offset k) mark);
    marked = λ k bit. subst (λ n. IsMark quote (get_or bytes n 0)) (sym (offset k)) (t.marked (by + k) (sym (is k) ∙ bit));
    short = λ k bit. omega (arith, sum, t.short (by + k) (sym (is k) ∙ bit));
  },
)
  where
    offset : (k : ℕ) → later + k ≡ at + (by + k)
    offset k = omega (arith, sum)
