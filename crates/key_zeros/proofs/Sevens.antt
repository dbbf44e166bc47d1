-- Numbers in groups of seven bits, written and read from the lowest on.
use Rattle.std.proofs.Common.{◌≡◌, ℕ, zero, suc, ◌+◌, ◌-◌, ◌*◌, ◌/◌, ◌%◌, ◌^◌, ◌<◌, ◌≤◌, inl, inr, List, [], ◌∷◌, ◌++◌, length, refl, sym, ap, ap₂, ◌∙◌, arith, append-nil, length-append}
use Rattle.std.proofs.Math.Nat.{pow-suc, pow-zero, mul-le-mul_left}
use Rattle.std.proofs.lemmas.Bool.{cond-true, cond-false, cases_eq, cases_lt, lt-ltb, le-ltb}
use Rattle.std.specs.Bool.{nat_lt}
use Rattle.jsonb_core.proofs.Appending.Appended.{IsUnderway, begun, goes_on, fits}
use Rattle.jsonb_core.proofs.Trees.Runs.{heads, tails}
use Rattle.jsonb_spec.specs.Document.Zeros.{in_sevens}

pub few : (more n : ℕ) → n < 128 → in_sevens more n ≡ n ∷ []
unfolding in_sevens
few zero n h = refl
few (suc more) n h = cond-true (nat_lt n 128) _ _ (lt-ltb n 128 h)

pub many : (more n : ℕ) → 128 ≤ n → in_sevens (suc more) n ≡ (128 + n % 128) ∷ in_sevens more (n / 128)
unfolding in_sevens
many more n h = cond-false (nat_lt n 128) _ _ (le-ltb n 128 h)

pub last : (n : ℕ) → in_sevens 0 n ≡ n ∷ []
unfolding in_sevens
last n = refl

-- ---- written

-- what is left to write of the number n
pub record SevensLeft (n left : ℕ) (old now : List ℕ) : Type 0 where
  pub more : ℕ
  pub below : left < 128 ^ suc more
  pub underway : IsUnderway old now (in_sevens 8 n) (in_sevens more left)

pub sevens_begun : (n : ℕ) (old : List ℕ) → n < 2 ^ 63 → SevensLeft n n old old
sevens_begun n old small = record { more = 8; below = omega (arith, small); underway = begun old (in_sevens 8 n) }

pub seven_written : (n left : ℕ) (old now new : List ℕ) → 128 ≤ left → new ≡ now ++ (128 + left % 128) ∷ [] → SevensLeft n left old now → SevensLeft n (left / 128) old new
seven_written n left old now new h is s = go s.more s.below s.underway
  where
    go : (more : ℕ) → left < 128 ^ suc more → IsUnderway old now (in_sevens 8 n) (in_sevens more left) → SevensLeft n (left / 128) old new
    go zero below u = absurd (omega (arith, below, h, pow-suc 128 0, pow-zero 128))
    go (suc more) below u = record {
      more = more;
      below = omega (arith, below, pow-suc 128 (suc more));
      underway = goes_on new ((128 + left % 128) ∷ []) (in_sevens more (left / 128)) u (many more left h) is;
    }

pub some_sevens : (more n : ℕ) → 0 < length (in_sevens more n)
some_sevens zero n = omega (arith, ap length (last n))
some_sevens (suc more) n = elim (cases_lt n 128) [
  | inl one ↦ omega (arith, ap length (few (suc more) n one))
  | inr other ↦ omega (arith, ap length (many more n other))
]

-- there is one byte more to write
pub seven_fits : (n left : ℕ) (old now : List ℕ) → SevensLeft n left old now → length now + 1 ≤ length old + length (in_sevens 8 n)
seven_fits n left old now s = omega (arith, fits (in_sevens s.more left) [] s.underway (sym (append-nil (in_sevens s.more left))), some_sevens s.more left)

-- ---- read

-- What is left to read of the number: n is read, and the next byte has a weight.
pub record SevensToCome (all n unit : ℕ) (rest more : List ℕ) : Type 0 where
  pub groups : ℕ
  pub left : ℕ
  pub scale : unit * 128 ^ groups ≡ 2 ^ 56
  pub sum : n + left * unit ≡ all
  pub some : left ≡ 0 → (all ≡ 0) × (unit ≡ 1)
  pub occurs : rest ≡ in_sevens groups left ++ more

-- Whatever number the bytes begin with, the rest of it is left.
abbrev pub ReadsSevens : List ℕ → ℕ → ℕ → List ℕ → Type 0
ReadsSevens bytes n unit rest = (all : ℕ) → all < 2 ^ 63 → (more : List ℕ) → bytes ≡ in_sevens 8 all ++ more → SevensToCome all n unit rest more

pub reads_begun : (bytes : List ℕ) → ReadsSevens bytes 0 1 bytes
reads_begun bytes = λ all small more e. record { groups = 8; left = all; scale = omega arith; sum = omega arith; some = λ none. (none, refl); occurs = e }

-- a byte that is the last one
pub last_read : (byte : ℕ) (others bytes rest : List ℕ) (n unit : ℕ) → ReadsSevens bytes n unit rest → rest ≡ byte ∷ others → byte < 128 → (all : ℕ) → all < 2 ^ 63 → (more : List ℕ) → bytes ≡ in_sevens 8 all ++ more
    → (n + byte * unit ≡ all) × (others ≡ more) × (byte ≡ 0 → (all ≡ 0) × (unit ≡ 1))
last_read byte others bytes rest n unit so_far first low all small more e =
    let s = so_far all small more e in
    go s.groups s.left s.sum s.some (sym first ∙ s.occurs)
  where
    ends : (left : ℕ) → n + left * unit ≡ all → (left ≡ 0 → (all ≡ 0) × (unit ≡ 1)) → byte ∷ others ≡ left ∷ more → (n + byte * unit ≡ all) × (others ≡ more) × (byte ≡ 0 → (all ≡ 0) × (unit ≡ 1))
    ends left sum some is =
        let same = heads byte left others more is in
        (omega (arith, sum, ap (λ x. x * unit) same), tails byte left others more is, λ none. some (sym same ∙ none))

    go : (groups left : ℕ) → n + left * unit ≡ all → (left ≡ 0 → (all ≡ 0) × (unit ≡ 1)) → byte ∷ others ≡ in_sevens groups left ++ more → (n + byte * unit ≡ all) × (others ≡ more) × (byte ≡ 0 → (all ≡ 0) × (unit ≡ 1))
    go zero left sum some is = ends left sum some (is ∙ ap (λ t. t ++ more) (last left))
    go (suc groups) left sum some is = elim (cases_lt left 128) [
      | inl one ↦ ends left sum some (is ∙ ap (λ t. t ++ more) (few (suc groups) left one))
      | inr other ↦ absurd (omega (arith, low, heads byte (128 + left % 128) others (in_sevens groups (left / 128) ++ more) (is ∙ ap (λ t. t ++ more) (many groups left other))))
    ]

-- a byte that more follow
module _ (byte : ℕ) (others bytes rest : List ℕ) (n unit : ℕ) (so_far : ReadsSevens bytes n unit rest) (first : rest ≡ byte ∷ others) (high : 128 ≤ byte) where
  pub too_many : 2 ^ 49 < unit → (all : ℕ) → all < 2 ^ 63 → (more : List ℕ) → bytes ≡ in_sevens 8 all ++ more → ⊥
  too_many wide all small more e =
      let s = so_far all small more e in
      go s.groups s.left s.scale s.sum (sym first ∙ s.occurs)
    where
      go : (groups left : ℕ) → unit * 128 ^ groups ≡ 2 ^ 56 → n + left * unit ≡ all → byte ∷ others ≡ in_sevens groups left ++ more → ⊥
      go zero left scale sum is =
          let unit_is : unit ≡ 2 ^ 56 = omega (arith, scale, ap (λ x. unit * x) (pow-zero 128)) in
          omega (arith, sum, small, high, ap (λ x. left * x) unit_is, heads byte left others more (is ∙ ap (λ t. t ++ more) (last left)))
      go (suc groups) left scale sum is =
          omega (arith, wide, scale, ap (λ x. unit * x) (pow-suc 128 groups), mul-le-mul_left unit (power groups))
        where
          power : (k : ℕ) → 1 ≤ 128 ^ k
          power zero = omega (arith, pow-zero 128)
          power (suc k) = omega (arith, pow-suc 128 k, power k)

  pub seven_read : unit ≤ 2 ^ 49 → ReadsSevens bytes (n + (byte - 128) * unit) (unit * 128) others
  seven_read narrow all small more e =
      let s = so_far all small more e in
      go s.groups s.left s.scale s.sum (sym first ∙ s.occurs)
    where
      go : (groups left : ℕ) → unit * 128 ^ groups ≡ 2 ^ 56 → n + left * unit ≡ all → byte ∷ others ≡ in_sevens groups left ++ more → SevensToCome all (n + (byte - 128) * unit) (unit * 128) others more
      go zero left scale sum is = absurd (omega (arith, narrow, scale, ap (λ x. unit * x) (pow-zero 128)))
      go (suc groups) left scale sum is = elim (cases_lt left 128) [
        | inl one ↦ absurd (omega (arith, high, heads byte left others more (is ∙ ap (λ t. t ++ more) (few (suc groups) left one))))
        | inr other ↦
            let there = is ∙ ap (λ t. t ++ more) (many groups left other) in
            let low : byte - 128 ≡ left % 128 = omega (arith, heads byte (128 + left % 128) others (in_sevens groups (left / 128) ++ more) there) in
            let split : left ≡ left % 128 + left / 128 * 128 = omega arith in
            record {
              groups = groups;
              left = left / 128;
              scale = omega (arith, scale, ap (λ x. unit * x) (pow-suc 128 groups));
              sum = omega (arith, sum, ap (λ x. x * unit) low, ap (λ x. x * unit) split);
              some = λ none. absurd (omega (arith, none, other));
              occurs = tails byte (128 + left % 128) others (in_sevens groups (left / 128) ++ more) there;
            }
      ]

-- there is a byte
pub byte_there : (bytes rest : List ℕ) (n unit : ℕ) → ReadsSevens bytes n unit rest → length rest ≡ 0 → (all : ℕ) → all < 2 ^ 63 → (more : List ℕ) → bytes ≡ in_sevens 8 all ++ more → ⊥
byte_there bytes rest n unit so_far none all small more e =
    let s = so_far all small more e in
    omega (arith, none, ap length s.occurs, some_sevens s.groups s.left, length-append (in_sevens s.groups s.left) more)

-- ---- what is read is what they begin with

-- Whatever number the rest begins with, the bytes begin with the one of which it is left.
pub record SevensRead (bytes : List ℕ) (n unit : ℕ) (rest : List ℕ) : Type 0 where
  pub groups : ℕ
  pub scale : unit * 128 ^ groups ≡ 2 ^ 56
  pub whole : (left : ℕ) → (left ≡ 0 → unit ≡ 1) → (more : List ℕ) → rest ≡ in_sevens groups left ++ more → bytes ≡ in_sevens 8 (n + left * unit) ++ more

pub read_begun : (bytes : List ℕ) → SevensRead bytes 0 1 bytes
read_begun bytes = record { groups = 8; scale = omega arith; whole = λ left some more e. e ∙ ap (λ k. in_sevens 8 k ++ more) {x = left} {y = 0 + left * 1} (omega arith) }

module _ (byte : ℕ) (others bytes rest : List ℕ) (n unit : ℕ) (s : SevensRead bytes n unit rest) (first : rest ≡ byte ∷ others) where
  -- a byte that is the last one
  pub read_ends : byte < 128 → (byte ≡ 0 → unit ≡ 1) → bytes ≡ in_sevens 8 (n + byte * unit) ++ others
  read_ends low some = s.whole byte some others (first ∙ ap (λ l. l ++ others) (sym (few s.groups byte low)))

  -- one that more follow
  pub read_on : (bits : ℕ) → byte ≡ 128 + bits → bits < 128 → unit ≤ 2 ^ 49 → SevensRead bytes (n + bits * unit) (unit * 128) others
  read_on bits is few_bits narrow = go s.groups s.scale s.whole
    where
      go : (groups : ℕ) → unit * 128 ^ groups ≡ 2 ^ 56 → ((left : ℕ) → (left ≡ 0 → unit ≡ 1) → (more : List ℕ) → rest ≡ in_sevens groups left ++ more → bytes ≡ in_sevens 8 (n + left * unit) ++ more)
          → SevensRead bytes (n + bits * unit) (unit * 128) others
      go zero scale whole = absurd (omega (arith, narrow, scale, ap (λ x. unit * x) (pow-zero 128)))
      go (suc groups) scale whole = record {
        groups = groups;
        scale = omega (arith, scale, ap (λ x. unit * x) (pow-suc 128 groups));
        whole = λ left some more e.
            let all = bits + left * 128 in
            let high : 128 ≤ all = elim (cases_eq left 0) [
              | inl none ↦ absurd (omega (arith, some none))
              | inr one ↦ omega (arith, one)
            ] in
            let low : byte ≡ 128 + all % 128 = omega (arith, is, few_bits) in
            let up : left ≡ all / 128 = omega (arith, few_bits) in
            let there = first ∙ ap₂ (λ b l. b ∷ l) low (e ∙ ap (λ k. in_sevens groups k ++ more) up) ∙ ap (λ l. l ++ more) (sym (many groups all high)) in
            whole all (λ none. absurd (omega (arith, none, high))) more there ∙ ap (λ k. in_sevens 8 k ++ more) {x = n + all * unit} {y = n + bits * unit + left * (unit * 128)} (omega arith);
      }
