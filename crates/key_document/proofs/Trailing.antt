-- Values whose numbers end in as many zeros as they may.
use Rattle.std.proofs.Common.{◌≡◌, ◌≢◌, ℕ, zero, suc, ◌+◌, ◌-◌, ◌*◌, ◌/◌, ◌%◌, ◌^◌, ◌<◌, ◌≤◌, ◌⊎◌, inl, inr, Bool, true, false, FitsSigned, unsigned_abs, List, [], ◌∷◌, ◌++◌, length, replicate, refl, sym, ap, ap₂, ◌∙◌, arith}
use Rattle.std.proofs.Math.Nat.{mul-lt-mul_of_pos_right, mul-le-mul_left, mul-le-mul_right}
use Rattle.std.proofs.lemmas.Bool.{cases_lt, cases_eq}
use Rattle.std.proofs.lemmas.Nat.{pow-add}
use Rattle.std.specs.Int.{w128, is_negative}
use Rattle.jsonb_spec.specs.Keys.{IsBelowKeys, KeysAscend}
use Rattle.jsonb_spec.specs.Number.Signed.{signed_by}
use Rattle.jsonb_spec.specs.Proper.{AreProper, HaveProperParts, IsProper, IsProperNumber}
use Rattle.jsonb_spec.specs.SortKey.{digit_count, digits_within, items_key, key_of, members_key, number_key, text_key}
use Rattle.jsonb_spec.specs.Text.Range.{AreWithin, HasFewDigits, HaveWithin, IsWithin}
use Rattle.jsonb_spec.specs.Tree.{Num, decimal128, Tree, null, boolean, string, number, array, object, Trees, no_trees, more_trees, Members, no_members, more_members}
use Rattle.jsonb_core.proofs.Numbers.Nearest.{unsigned_abs-signed}
use Rattle.jsonb_core.proofs.SortKeys.Counts.{digits_counted, power_le}
use Rattle.jsonb_core.proofs.SortKeys.Digits.{ten}
use Rattle.key_document.specs.Check.{AreAtMost, most_at, most_at_items, most_at_members, most_zeros, zeros_within}
use Rattle.jsonb_spec.specs.Document.Counts.{counts_at, counts_at_items, counts_at_members}
use Rattle.jsonb_spec.specs.SortKey.FewestDigits.{spare_zeros}
use Rattle.key_text.proofs.Spares.{all_spare, are_spare, divided_less, some_spare}
use Rattle.key_value.proofs.Signs.{same_keys}
use Rattle.key_value.proofs.Wholes.{same_number}

-- ---- how many digits there are

-- 0 has none
pub no_digits : digit_count 0 ≡ 0
unfolding digit_count digits_within
no_digits = refl

-- a number below 10^38 has at most 38
few_digits : (m z : ℕ) → 0 < m → m * 10 ^ z < 10 ^ 38 → digit_count m + z ≤ 38
few_digits m z some small =
    let whole : m * 1 ≤ m * 10 ^ z = mul-le-mul_left m (omega (arith, ten z)) in
    let d = digits_counted m some (omega (arith, small, whole)) in
    let D = digit_count m in
    let up : 10 ^ D * 10 ^ z ≤ m * 10 * 10 ^ z = mul-le-mul_right (10 ^ z) d.least in
    elim (cases_lt (D + z) 39) [
      | inl less ↦ omega (arith, less)
      | inr many ↦ absurd (omega (arith, power_le 39 (D + z) many, pow-add 10 D z, up, small))
    ]

-- with as many zeros more it is below 10^38
digits_fit : (m c : ℕ) → m < 10 ^ 38 → (0 < m → digit_count m + c ≤ 38) → m * 10 ^ c < 10 ^ 38
digits_fit zero c small fit = omega arith
digits_fit (suc m) c small fit =
    let d = digits_counted (suc m) (omega arith) (omega (arith, small)) in
    let D = digit_count (suc m) in
    let up : suc m * 10 ^ c < 10 ^ D * 10 ^ c = mul-lt-mul_of_pos_right d.below (ten c) in
    omega (arith, up, pow-add 10 D c, power_le (D + c) 38 (fit (omega arith)))

-- ---- numbers

-- The number without its zeros.
pub record Fewest (n : Num) : Type 0 where
  pub scale : ℕ
  pub magnitude : ℕ
  pub spare : ℕ
  pub is_spare : spare_zeros n.scale (unsigned_abs n.whole) ≡ spare
  pub scales : n.scale ≡ scale + spare
  pub whole : magnitude * 10 ^ spare ≡ unsigned_abs n.whole
  pub less : magnitude ≤ unsigned_abs n.whole
  pub most : most_zeros n ≡ zeros_within scale magnitude
  pub ends : (scale ≡ 0) ⊎ (magnitude % 10 ≢ 0)

pub fewest : (n : Num) → Fewest n
fewest n =
    let m = unsigned_abs n.whole in
    let z = spare_zeros n.scale m in
    let x = are_spare n.scale m in
    record {
      scale = n.scale - z;
      magnitude = m / 10 ^ z;
      spare = z;
      is_spare = refl;
      scales = omega (arith, x.within);
      whole = x.whole;
      less = divided_less m (10 ^ z);
      most = ap (zeros_within (n.scale - z)) (unsigned_abs-signed (is_negative n.whole) (m / 10 ^ z));
      ends = elim x.fewest [
        | inl all ↦ inl (omega (arith, all))
        | inr other ↦ inr other
      ];
    }

-- a number in range ends in no more zeros than it may
own_zeros : (n : Num) → HasFewDigits n → spare_zeros n.scale (unsigned_abs n.whole) ≤ most_zeros n
own_zeros n few =
    let f = fewest n in
    elim (cases_eq f.magnitude 0) [
      | inl none ↦ omega (arith, f.is_spare, f.most, f.scales, few.0, ap digit_count none, no_digits)
      | inr some ↦ omega (arith, f.is_spare, f.most, f.scales, few.0, few_digits f.magnitude f.spare (omega (arith, some)) (omega (arith, f.whole, few.1)))
    ]

-- The same number with so many zeros.
record Ending (n : Num) (c : ℕ) : Type 0 where
  value : Num
  proper : IsProperNumber value
  few : HasFewDigits value
  has_key : number_key value ≡ number_key n
  ends : spare_zeros value.scale (unsigned_abs value.whole) ≡ c

wide : (b : Bool) (m : ℕ) → m < 10 ^ 38 → FitsSigned w128 (signed_by b m)
wide false m h = record { sfits = omega arith }
wide true zero h = record { sfits = omega arith }
wide true (suc m) h = record { sfits = omega arith }

-- it has the zeros that are asked for
zeros_there : (n : Num) (c : ℕ) (f : Fewest n) → spare_zeros (f.scale + c) (f.magnitude * 10 ^ c) ≡ c
zeros_there n c f = elim f.ends [
  | inl none ↦ all_spare (f.scale + c) c f.magnitude (omega (arith, none)) ∙ omega (arith, none)
  | inr other ↦ some_spare (f.scale + c) c f.magnitude other (omega arith)
]

with_zeros : (n : Num) (c : ℕ) → IsProperNumber n → HasFewDigits n → c ≤ most_zeros n → Ending n c
with_zeros n c p few h =
    let f = fewest n in
    let b = is_negative n.whole in
    let up = f.magnitude * 10 ^ c in
    let small : f.magnitude < 10 ^ 38 = omega (arith, f.less, few.1) in
    let low : f.scale + c ≤ 38 = omega (arith, h, f.most, f.scales, few.0) in
    let one : f.magnitude * 10 ^ 0 ≡ f.magnitude = omega arith in
    let fit : 0 < f.magnitude → digit_count f.magnitude + c ≤ 38 = λ some. omega (arith, h, f.most, f.scales, few.0, few_digits f.magnitude 0 some (omega (arith, one, small))) in
    let below : up < 10 ^ 38 = digits_fit f.magnitude c small fit in
    let m : Num = record { form = decimal128; scale = f.scale + c; whole = signed_by b up } in
    let abs = unsigned_abs-signed b up in
    let proper : IsProperNumber m = (omega (arith, low), wide b up below) in
    let same : up * 10 ^ n.scale ≡ unsigned_abs n.whole * 10 ^ (f.scale + c) =
    omega (arith, ap (λ k. up * 10 ^ k) f.scales, ap (λ k. up * k) (pow-add 10 f.scale f.spare), ap (λ k. k * 10 ^ (f.scale + c)) f.whole, ap (λ k. f.magnitude * 10 ^ f.spare * k) (pow-add 10 f.scale c)) in
    record {
      value = m;
      proper = proper;
      few = (low, omega (arith, abs, below));
      has_key = same_keys m n proper p (same_number m n b (f.scale + c) up refl refl refl same);
      ends = ap (spare_zeros (f.scale + c)) abs ∙ zeros_there n c f;
    }

-- ---- lists of counts

no_more : (n : ℕ) (counts : List ℕ) → AreAtMost counts (replicate n 0) → counts ≡ replicate n 0
no_more zero [] h = refl
no_more zero (c ∷ counts) h = absurd h
no_more (suc n) [] h = absurd h
no_more (suc n) (c ∷ counts) h =
    let none : c ≡ 0 = omega (arith, h.0) in
    ap₂ (λ a more. a ∷ more) none (no_more n counts h.1)

pub none_at_most : (most : List ℕ) → AreAtMost (replicate (length most) 0) most
none_at_most [] = tt
none_at_most (m ∷ most) = (omega arith, none_at_most most)

all_none : (n : ℕ) → AreAtMost (replicate n 0) (replicate n 0)
all_none zero = tt
all_none (suc n) = (omega arith, all_none n)

joined : (a b most others : List ℕ) → AreAtMost a most → AreAtMost b others → AreAtMost (a ++ b) (most ++ others)
joined [] b [] others h k = k
joined [] b (m ∷ most) others h k = absurd h
joined (c ∷ a) b [] others h k = absurd h
joined (c ∷ a) b (m ∷ most) others h k = (h.0, joined a b most others h.1 k)

record Halves (counts most others : List ℕ) : Type 0 where
  front : List ℕ
  behind : List ℕ
  is : counts ≡ front ++ behind
  first : AreAtMost front most
  second : AreAtMost behind others

halves : (counts most others : List ℕ) → AreAtMost counts (most ++ others) → Halves counts most others
halves counts [] others h = record { front = []; behind = counts; is = refl; first = tt; second = h }
halves [] (m ∷ most) others h = absurd h
halves (c ∷ counts) (m ∷ most) others h =
    let x = halves counts most others h.1 in
    record { front = c ∷ x.front; behind = x.behind; is = ap (λ more. c ∷ more) x.is; first = (h.0, x.first); second = x.second }

-- there are as many
pub as_long : (counts most : List ℕ) → AreAtMost counts most → length counts ≡ length most
as_long [] [] h = refl
as_long [] (m ∷ most) h = absurd h
as_long (c ∷ counts) [] h = absurd h
as_long (c ∷ counts) (m ∷ most) h = ap suc (as_long counts most h.1)

-- ---- values

-- the counts of a value in range are such
mutual
  pub own_counts : (t : Tree) (depth : ℕ) → IsWithin HasFewDigits t depth → AreAtMost (counts_at t) (most_at t)
  own_counts (number n) depth w = (own_zeros n w, all_none (length (number_key n) - 1))
  own_counts (array ts) zero w = absurd w
  own_counts (array ts) (suc depth) w = (omega arith, own_items ts depth w)
  own_counts (object ms) zero w = absurd w
  own_counts (object ms) (suc depth) w = (omega arith, own_members ms depth w)
  own_counts null depth w = all_none (length (key_of null))
  own_counts (boolean b) depth w = all_none (length (key_of (boolean b)))
  own_counts (string mark bytes) depth w = all_none (length (key_of (string mark bytes)))
  own_counts t depth w = absurd w

  own_items : (ts : Trees) (depth : ℕ) → AreWithin HasFewDigits ts depth → AreAtMost (counts_at_items ts) (most_at_items ts)
  own_items no_trees depth w = (omega arith, tt)
  own_items (more_trees t ts) depth w = joined (counts_at t) (counts_at_items ts) (most_at t) (most_at_items ts) (own_counts t depth w.0) (own_items ts depth w.1)

  own_members : (ms : Members) (depth : ℕ) → HaveWithin HasFewDigits ms depth → AreAtMost (counts_at_members ms) (most_at_members ms)
  own_members no_members depth w = (omega arith, (omega arith, tt))
  own_members (more_members k t ms) depth w =
      joined (replicate (length (text_key k)) 0) (counts_at t ++ counts_at_members ms) (replicate (length (text_key k)) 0) (most_at t ++ most_at_members ms) (all_none (length (text_key k)))
      (joined (counts_at t) (counts_at_members ms) (most_at t) (most_at_members ms) (own_counts t depth w.0) (own_members ms depth w.1))

-- The value with these zeros.
pub record EndingIn (t : Tree) (depth : ℕ) (counts : List ℕ) : Type 0 where
  pub value : Tree
  pub proper : IsProper value
  pub within : IsWithin HasFewDigits value depth
  pub has_key : key_of value ≡ key_of t
  pub has : counts_at value ≡ counts

record ItemsEndingIn (ts : Trees) (depth : ℕ) (counts : List ℕ) : Type 0 where
  items : Trees
  proper : AreProper items
  within : AreWithin HasFewDigits items depth
  have_key : items_key items ≡ items_key ts
  have : counts_at_items items ≡ counts

record MembersEndingIn (ms : Members) (depth : ℕ) (counts : List ℕ) : Type 0 where
  members : Members
  proper : HaveProperParts members
  below : (k : List ℕ) → IsBelowKeys k ms → IsBelowKeys k members
  ascend : KeysAscend ms → KeysAscend members
  within : HaveWithin HasFewDigits members depth
  have_key : members_key members ≡ members_key ms
  have : counts_at_members members ≡ counts

same : (t : Tree) (depth n : ℕ) (counts : List ℕ) → IsProper t → IsWithin HasFewDigits t depth → counts_at t ≡ replicate n 0 → AreAtMost counts (replicate n 0) → EndingIn t depth counts
same t depth n counts p w e h = record { value = t; proper = p; within = w; has_key = refl; has = e ∙ sym (no_more n counts h) }

ending_number : (n : Num) (depth : ℕ) (counts : List ℕ) → IsProperNumber n → HasFewDigits n → AreAtMost counts (most_at (number n)) → EndingIn (number n) depth counts
ending_number n depth [] p w h = absurd h
ending_number n depth (c ∷ counts) p w h =
    let x = with_zeros n c p w h.0 in
    record {
      value = number x.value;
      proper = x.proper;
      within = x.few;
      has_key = x.has_key;
      has = ap₂ (λ a k. a ∷ replicate (length k - 1) 0) x.ends x.has_key ∙ ap (λ more. c ∷ more) (sym (no_more (length (number_key n) - 1) counts h.1));
    }

first_zero : (counts most : List ℕ) → AreAtMost counts (0 ∷ most) → (others : List ℕ) × (counts ≡ 0 ∷ others) × AreAtMost others most
first_zero [] most h = absurd h
first_zero (c ∷ counts) most h =
    let none : c ≡ 0 = omega (arith, h.0) in
    (counts, ap (λ a. a ∷ counts) none, h.1)

mutual
  pub ending : (t : Tree) (depth : ℕ) (counts : List ℕ) → IsProper t → IsWithin HasFewDigits t depth → AreAtMost counts (most_at t) → EndingIn t depth counts
  ending (number n) depth counts p w h = ending_number n depth counts p w h
  ending (array ts) zero counts p w h = absurd w
  ending (array ts) (suc depth) counts p w h =
      let first = first_zero counts (most_at_items ts) h in
      let x = ending_items ts depth first.0 p w first.2 in
      record { value = array x.items; proper = x.proper; within = x.within; has_key = ap (λ key. 210 ∷ key) x.have_key; has = ap (λ more. 0 ∷ more) x.have ∙ sym first.1 }
  ending (object ms) zero counts p w h = absurd w
  ending (object ms) (suc depth) counts p w h =
      let first = first_zero counts (most_at_members ms) h in
      let x = ending_members ms depth first.0 p.1 w first.2 in
      record { value = object x.members; proper = (x.ascend p.0, x.proper); within = x.within; has_key = ap (λ key. 209 ∷ key) x.have_key; has = ap (λ more. 0 ∷ more) x.have ∙ sym first.1 }
  ending null depth counts p w h = same null depth (length (key_of null)) counts p w refl h
  ending (boolean b) depth counts p w h = same (boolean b) depth (length (key_of (boolean b))) counts p w refl h
  ending (string mark bytes) depth counts p w h = same (string mark bytes) depth (length (key_of (string mark bytes))) counts p w refl h
  ending t depth counts p w h = absurd w

  ending_items : (ts : Trees) (depth : ℕ) (counts : List ℕ) → AreProper ts → AreWithin HasFewDigits ts depth → AreAtMost counts (most_at_items ts) → ItemsEndingIn ts depth counts
  ending_items no_trees depth counts p w h = record { items = no_trees; proper = tt; within = tt; have_key = refl; have = sym (no_more 1 counts h) }
  ending_items (more_trees t ts) depth counts p w h =
      let s = halves counts (most_at t) (most_at_items ts) h in
      let x = ending t depth s.front p.0 w.0 s.first in
      let y = ending_items ts depth s.behind p.1 w.1 s.second in
      record {
        items = more_trees x.value y.items;
        proper = (x.proper, y.proper);
        within = (x.within, y.within);
        have_key = ap₂ (λ a b. a ++ b) x.has_key y.have_key;
        have = ap₂ (λ a b. a ++ b) x.has y.have ∙ sym s.is;
      }

  ending_members : (ms : Members) (depth : ℕ) (counts : List ℕ) → HaveProperParts ms → HaveWithin HasFewDigits ms depth → AreAtMost counts (most_at_members ms) → MembersEndingIn ms depth counts
  ending_members no_members depth counts p w h = record { members = no_members; proper = tt; below = λ k b. tt; ascend = λ a. tt; within = tt; have_key = refl; have = sym (no_more 2 counts h) }
  ending_members (more_members k t ms) depth counts p w h =
      let names = replicate (length (text_key k)) 0 in
      let s = halves counts names (most_at t ++ most_at_members ms) h in
      let u = halves s.behind (most_at t) (most_at_members ms) s.second in
      let x = ending t depth u.front p.1 w.0 u.first in
      let y = ending_members ms depth u.behind p.2 w.1 u.second in
      record {
        members = more_members k x.value y.members;
        proper = (p.0, x.proper, y.proper);
        below = λ l b. (b.0, y.below l b.1);
        ascend = λ a. (y.below k a.0, y.ascend a.1);
        within = (x.within, y.within);
        have_key = ap₂ (λ a b. text_key k ++ (a ++ b)) x.has_key y.have_key;
        have = ap₂ (λ a b. names ++ (a ++ b)) x.has y.have ∙ ap₂ (λ a b. a ++ b) (sym (no_more (length (text_key k)) s.front s.first)) (sym u.is) ∙ sym s.is;
      }
