-- Whether zeros fit what is left of a key.
use Rattle.std.proofs.Common.{◌≡◌, ◌≢◌, ℕ, zero, suc, ◌+◌, ◌-◌, ◌<◌, ◌≤◌, ◌↔◌, inl, inr, List, [], ◌∷◌, ◌++◌, length, replicate, Option, Some, None, MatchOption, refl, sym, ap, ap₂, subst, ◌∙◌, arith, append_assoc, append-nil, length-append}
use Rattle.std.proofs.lemmas.List.{length-replicate}
use Rattle.jsonb_core.proofs.Trees.Runs.{heads, tails}
use Rattle.jsonb_spec.specs.Proper.{IsProper}
use Rattle.jsonb_spec.specs.SortKey.{key_of, number_key, text_key}
use Rattle.jsonb_spec.specs.Tree.{Num, Tree, null, boolean, string, number, array, object, binary, date, timestamp, timestamp_tz, interval, Trees, no_trees, more_trees, Members, no_members, more_members}
use Rattle.key_document.specs.Check.{AreAtMost, Fits, FitsFrom, IsCounted, ZerosFit, most_at, most_at_items, most_at_members, most_open, most_zeros}
use Rattle.key_document.specs.declared.due.ZerosDue.{ZerosDue}
use Rattle.key_text.proofs.Counts.{items_each, members_each, one_each, replicate_more}
use Rattle.key_document.proofs.Trailing.{as_long, none_at_most}
use Rattle.jsonb_spec.specs.SortKey.Open.{Open, items, members, is_object, open_key, end_key, name_key, IsOpen, IsScalar}
use Rattle.jsonb_spec.specs.SortKey.Parts.{opened_tree}
use Rattle.jsonb_spec.specs.Document.PartsOf.{numbers_in}
use Rattle.jsonb_spec.specs.Document.Zeros.{in_sevens, zeros_of}
use Rattle.jsonb_spec.specs.SortKey.Steps.{IsOver, IsPart}
use Rattle.key_zeros.proofs.Splitting.{entry_first, plain_first}
use Rattle.key_zeros.proofs.Taking.{counts_long, one_pending, pending_occurs}
use Rattle.jsonb_spec.specs.Document.Counts.{counts_at, counts_at_items, counts_at_members}
use Rattle.key_walk.proofs.Occurrence.{regroup}

-- ---- byte by byte

-- the next number with zeros is in what is left
pub within_left : (at count : ℕ) (entries most : List ℕ) → FitsFrom at count entries most → at ≤ length most
within_left at count entries [] h = omega (arith, h)
within_left at count entries (m ∷ most) (inl x) = omega (arith, x.0)
within_left at count entries (m ∷ most) (inr y) = omega (arith, within_left at count entries most y.1)

module _ (at count : ℕ) (entries : List ℕ) where
  forth : (n : ℕ) (most : List ℕ) → FitsFrom at count entries (replicate n 0 ++ most) → FitsFrom at count entries most
  forth zero most h = h
  forth (suc n) most (inl x) = absurd (omega (arith, x.1, x.2))
  forth (suc n) most (inr y) = forth n most y.1

  back : (n : ℕ) (most : List ℕ) → FitsFrom at count entries most → FitsFrom at count entries (replicate n 0 ++ most)
  back zero most h = h
  back (suc n) most h = inr (λ e. omega (arith, e, within_left at count entries most h, length-append (replicate n 0) most), back n most h)

  -- bytes with which no number begins
  pub none_passed : (n : ℕ) (most : List ℕ) → FitsFrom at count entries most ↔ FitsFrom at count entries (replicate n 0 ++ most)
  none_passed n most = (back n most, forth n most)

  -- a byte where no zeros are due
  one_passed : (m : ℕ) (most : List ℕ) → at ≢ suc (length most) → FitsFrom at count entries most ↔ FitsFrom at count entries (m ∷ most)
  one_passed m most other = (
    λ h. inr (other, h),
    λ h. elim h [
      | inl x ↦ absurd (other x.0)
      | inr y ↦ y.1
    ],
  )

  -- a byte where some are due
  pub some_due : (m : ℕ) (most : List ℕ) → at ≡ suc (length most) → FitsFrom at count entries (m ∷ most) → (0 < count) × (count ≤ m) × ZerosFit most entries
  some_due m most here h = elim h [
    | inl x ↦ (x.1, x.2, x.3)
    | inr y ↦ absurd (y.0 here)
  ]

  -- no zeros are left
  pub none_left : at ≡ 0 → (most : List ℕ) → FitsFrom at count entries most
  none_left none [] = none
  none_left none (m ∷ most) = inr (λ e. omega (arith, e, none), none_left none most)

-- ---- zeros by what is known of the next number

pub none_needed : (n plain : ℕ) → zeros_of plain (replicate n 0) ≡ []
none_needed zero plain = refl
none_needed (suc n) plain = none_needed n (suc plain)

-- zeros that are none fit always
pub none_fit : (most zeros : List ℕ) → length zeros ≡ 0 → ZerosFit most zeros
none_fit most zeros none = record { counts = replicate (length most) 0; at_most = none_at_most most; are = empty zeros none ∙ sym (none_needed (length most) 0) }
  where
    empty : (zs : List ℕ) → length zs ≡ 0 → zs ≡ []
    empty [] e = refl
    empty (z ∷ zs) e = absurd (omega (arith, e))

-- Counts that are such, with these zeros.
record CountsFor (most : List ℕ) (plain gap count : ℕ) (entries : List ℕ) : Type 0 where
  counts : List ℕ
  at_most : AreAtMost counts most
  are : zeros_of plain counts ≡ in_sevens 8 gap ++ count ∷ entries

counts_for : (at count : ℕ) (entries most : List ℕ) → FitsFrom at count entries most → 0 < at → (plain : ℕ) → CountsFor most plain (plain + (length most - at)) count entries
counts_for at count entries [] h some plain = absurd (omega (arith, h, some))
counts_for at count entries (m ∷ most) (inl x) some plain =
    let f = x.3 in
    record {
      counts = count ∷ f.counts;
      at_most = (x.2, f.at_most);
      are = entry_first plain count f.counts x.1 ∙ ap₂ (λ n es. in_sevens 8 n ++ count ∷ es) {x = plain} {y = plain + (suc (length most) - at)} (omega (arith, x.0)) (sym f.are);
    }
counts_for at count entries (m ∷ most) (inr y) some plain =
    let c = counts_for at count entries most y.1 some (suc plain) in
    record {
      counts = 0 ∷ c.counts;
      at_most = (omega arith, c.at_most);
      are = plain_first plain 0 c.counts refl ∙ c.are ∙ ap (λ n. in_sevens 8 n ++ count ∷ entries) {x = suc plain + (length most - at)} {y = plain + (suc (length most) - at)} (omega (arith, within_left at count entries most y.1));
    }

due_from : (before count at : ℕ) (entries later most : List ℕ) → AreAtMost (replicate before 0 ++ count ∷ later) most → 0 < count → entries ≡ zeros_of 0 later → at ≡ length most - before → FitsFrom at count entries most
due_from zero count at entries later [] h some e is = absurd h
due_from zero count at entries later (m ∷ most) h some e is = inl (omega (arith, is), some, h.0, record { counts = later; at_most = h.1; are = e })
due_from (suc before) count at entries later [] h some e is = absurd h
due_from (suc before) count at entries later (m ∷ most) h some e is =
    inr (λ clash. omega (arith, clash, is), due_from before count at entries later most h.1 some e (omega (arith, is)))

-- ---- the next number

module _ (left : ℕ) (zeros most : List ℕ) (long : length most ≡ left) (some : 0 < length zeros) where
  -- The first number that is due.
  pub record FirstDue : Type 0 where
    pub before : ℕ
    pub count : ℕ
    pub later : List ℕ
    pub low : before < left
    pub counted : 0 < count
    pub occurs : zeros ≡ in_sevens 8 before ++ count ∷ zeros_of 0 later
    pub at_most : AreAtMost (replicate before 0 ++ count ∷ later) most

  pub first_due : ZerosFit most zeros → FirstDue
  first_due f =
      let x = one_pending f.counts zeros f.are some in
      record {
        before = x.before;
        count = x.count;
        later = x.later;
        low = omega (arith, counts_long f.counts x.before x.count x.later x.is, as_long f.counts most f.at_most, long);
        counted = x.some;
        occurs = pending_occurs f.counts zeros f.are x;
        at_most = subst (λ cs. AreAtMost cs most) x.is f.at_most;
      }

  -- some zeros fit where what is known of the first number fits
  pub fit_from : (before at count : ℕ) (entries : List ℕ) → before < left → at ≡ left - before → 0 < count → zeros ≡ in_sevens 8 before ++ count ∷ entries
      → ((x : FirstDue) → (before ≡ x.before) × (count ≡ x.count) × (entries ≡ zeros_of 0 x.later)) → FitsFrom at count entries most ↔ ZerosFit most zeros
  fit_from before at count entries low is counted e first = (
    λ h.
        let c = counts_for at count entries most h (omega (arith, is, low)) 0 in
        record {
          counts = c.counts;
          at_most = c.at_most;
          are = e ∙ ap (λ n. in_sevens 8 n ++ count ∷ entries) {x = before} {y = 0 + (length most - at)} (omega (arith, is, low, long)) ∙ sym c.are;
        },
    λ z.
        let x = first_due z in
        let same = first x in
        subst (λ c. FitsFrom at c entries most) (sym same.1) (due_from x.before x.count at entries x.later most x.at_most x.counted same.2 (omega (arith, is, same.0, long))),
  )

-- ---- a scalar

pub data ScalarMost (t : Tree) : Type 0 where
  no_number : numbers_in t ≡ 0 → (size : ℕ) → most_at t ≡ replicate size 0 → ScalarMost t
  one_number : numbers_in t ≡ 1 → (n : Num) → t ≡ number n → ScalarMost t

pub scalar_most : (t : Tree) → IsScalar t → ScalarMost t
scalar_most (number n) s = one_number refl n refl
scalar_most (array ts) s = absurd s
scalar_most (object ms) s = absurd s
scalar_most null s = no_number refl (length (key_of null)) refl
scalar_most (boolean b) s = no_number refl (length (key_of (boolean b))) refl
scalar_most (string mark bytes) s = no_number refl (length (key_of (string mark bytes))) refl
scalar_most (binary bytes) s = no_number refl (length (key_of (binary bytes))) refl
scalar_most (date days) s = no_number refl (length (key_of (date days))) refl
scalar_most (timestamp micros) s = no_number refl (length (key_of (timestamp micros))) refl
scalar_most (timestamp_tz offset micros) s = no_number refl (length (key_of (timestamp_tz offset micros))) refl
scalar_most (interval months days micros) s = no_number refl (length (key_of (interval months days micros))) refl

-- there is one for each byte
mutual
  most_counted : (t : Tree) → length (most_at t) ≡ length (counts_at t)
  most_counted (number n) = refl
  most_counted (array ts) = ap suc (items_counted ts)
  most_counted (object ms) = ap suc (members_counted ms)
  most_counted null = refl
  most_counted (boolean b) = refl
  most_counted (string mark bytes) = refl
  most_counted (binary bytes) = refl
  most_counted (date days) = refl
  most_counted (timestamp micros) = refl
  most_counted (timestamp_tz offset micros) = refl
  most_counted (interval months days micros) = refl

  items_counted : (ts : Trees) → length (most_at_items ts) ≡ length (counts_at_items ts)
  items_counted no_trees = refl
  items_counted (more_trees t ts) = omega (arith, length-append (most_at t) (most_at_items ts), length-append (counts_at t) (counts_at_items ts), most_counted t, items_counted ts)

  members_counted : (ms : Members) → length (most_at_members ms) ≡ length (counts_at_members ms)
  members_counted no_members = refl
  members_counted (more_members k t ms) =
      let names : List ℕ = replicate (length (text_key k)) 0 in
      omega (
        arith,
        length-append names (most_at t ++ most_at_members ms),
        length-append names (counts_at t ++ counts_at_members ms),
        length-append (most_at t) (most_at_members ms),
        length-append (counts_at t) (counts_at_members ms),
        most_counted t,
        members_counted ms,
      )

pub most_each : (t : Tree) → IsProper t → length (most_at t) ≡ length (key_of t)
most_each t p = most_counted t ∙ one_each t p

pub open_each : (o : Open) → IsOpen o 511 → length (most_open o) ≡ length (open_key o)
open_each (items ts) h = items_counted ts ∙ items_each ts h.0
open_each (members ms) h = members_counted ms ∙ members_each ms h.0

module _ (at count : ℕ) (entries : List ℕ) (t : Tree) (s : IsScalar t) (most : List ℕ) where
  abbrev Here : Type 0
  Here = FitsFrom at count entries (most_at t ++ most)

  -- where no zeros are due
  pub scalar_passed : at ≢ length (most_at t ++ most) → FitsFrom at count entries most ↔ Here
  scalar_passed other = go (scalar_most t s)
    where
      go : ScalarMost t → FitsFrom at count entries most ↔ Here
      go (no_number z size e) = subst (λ l. FitsFrom at count entries most ↔ FitsFrom at count entries (l ++ most)) (sym e) (none_passed at count entries size most)
      go (one_number z n e) =
          let k = length (number_key n) - 1 in
          let is : most_at t ≡ most_zeros n ∷ replicate k 0 = ap most_at e in
          let x = none_passed at count entries k most in
          let y = one_passed at count entries (most_zeros n) (replicate k 0 ++ most) (λ clash. other (clash ∙ ap (λ l. length (l ++ most)) (sym is))) in
          subst (λ l. FitsFrom at count entries most ↔ FitsFrom at count entries (l ++ most)) (sym is) (λ h. y.0 (x.0 h), λ h. x.1 (y.1 h))

pub number_is : (t : Tree) → IsScalar t → (numbers_in t ≡ 0 → ⊥) → (n : Num) × (t ≡ number n)
number_is t s some = elim (scalar_most t s) [
  | no_number z size e ↦ absurd (some z)
  | one_number z n e ↦ (n, e)
]

-- where some are due of a number
module _ (at count : ℕ) (entries : List ℕ) (n : Num) (most : List ℕ) (here : at ≡ length (most_at (number n) ++ most)) where
  abbrev pub behind_number : List ℕ
  behind_number = replicate (length (number_key n) - 1) 0 ++ most

  pub number_due : FitsFrom at count entries (most_at (number n) ++ most) → (count ≤ most_zeros n) × ZerosFit behind_number entries
  number_due h =
      let x = some_due at count entries (most_zeros n) behind_number here h in
      (x.1, x.2)

  pub number_passed : (0 < count) → count ≤ most_zeros n → (due : ZerosDue) → Fits due behind_number ↔ ZerosFit behind_number entries → Fits due most ↔ FitsFrom at count entries (most_at (number n) ++ most)
  number_passed some low due h =
      let x = none_passed due.at due.count due.entries.now (length (number_key n) - 1) most in
      (λ f. inl (here, some, low, h.0 (x.0 f)), λ f. x.1 (h.1 (number_due f).1))

-- ---- the walk

-- what is left of all that are open
abbrev pub most_left : List Open → List ℕ
most_left [] = []
most_left (o ∷ os) = most_open o ++ most_left os

-- What is due fits what is left where it did at first.
pub record Fitting (begun : ZerosDue) (all : List ℕ) (due : ZerosDue) (left : ℕ) (opens : List Open) : Type 0 where
  pub each : length (most_left opens) ≡ left
  pub same : Fits begun all ↔ Fits due (most_left opens)
  pub counted : IsCounted due

pub fitting_begun : (begun : ZerosDue) (left : ℕ) (o : Open) → length (most_open o) ≡ left → IsCounted begun → Fitting begun (most_open o) begun left (o ∷ [])
fitting_begun begun left o long counted =
    let e = sym (append-nil (most_open o)) in
    record {
      each = omega (arith, ap length (append-nil (most_open o)), long);
      same = (λ h. subst (λ l. Fits begun l) e h, λ h. subst (λ l. Fits begun l) (sym e) h);
      counted = counted;
    }

over_most : (over : Open) (under : List Open) → IsOver over → most_left (over ∷ under) ≡ replicate (length (end_key (is_object over))) 0 ++ most_left under
over_most (items no_trees) under h = refl
over_most (items (more_trees t ts)) under h = absurd h
over_most (members no_members) under h = refl
over_most (members (more_members k t ms)) under h = absurd h

part_most : (o : Open) (name : List ℕ) (value : Tree) (others : Open) (under : List Open) → IsPart o name value others → most_left (o ∷ under) ≡ replicate (length (name_key (is_object o) name)) 0 ++ (most_at value ++ most_left (others ∷ under))
part_most (items no_trees) name value others under p = absurd p
part_most (items (more_trees t ts)) name value others under p =
    append_assoc (most_at t) (most_at_items ts) (most_left under) ∙ ap₂ (λ v o. most_at v ++ (most_open o ++ most_left under)) (sym p.1) (sym p.2)
part_most (members no_members) name value others under p = absurd p
part_most (members (more_members k t ms)) name value others under p =
    regroup (replicate (length (text_key k)) 0) (most_at t) (most_at_members ms) (most_left under)
    ∙ ap (λ n. replicate (length (text_key n)) 0 ++ (most_at t ++ (most_at_members ms ++ most_left under))) (sym p.0)
    ∙ ap₂ (λ v o. replicate (length (text_key name)) 0 ++ (most_at v ++ (most_open o ++ most_left under))) (sym p.1) (sym p.2)

pub opened_most : (inside : Open) → most_at (opened_tree inside) ≡ 0 ∷ most_open inside
opened_most (items ts) = refl
opened_most (members ms) = refl

module _ (begun : ZerosDue) (all : List ℕ) (due : ZerosDue) where
  fitting_on : (left n more : ℕ) (opens others : List Open) → left ≡ n + more → most_left opens ≡ replicate n 0 ++ most_left others → Fitting begun all due left opens → Fitting begun all due more others
  fitting_on left n more opens others long e f =
      let x = none_passed due.at due.count due.entries.now n (most_left others) in
      record {
        each = omega (arith, f.each, ap length e, long, length-append (replicate n 0) (most_left others), length-replicate {A = ℕ} n 0);
        same = (λ h. x.1 (subst (λ l. Fits due l) e (f.same.0 h)), λ h. f.same.1 (subst (λ l. Fits due l) (sym e) (x.0 h)));
        counted = f.counted;
      }

  pub end_fits : (left more : ℕ) (over : Open) (under : List Open) → IsOver over → left ≡ length (end_key (is_object over)) + more → Fitting begun all due left (over ∷ under) → Fitting begun all due more under
  end_fits left more over under h long f = fitting_on left (length (end_key (is_object over))) more (over ∷ under) under long (over_most over under h) f

  pub opening_fits : (left more : ℕ) (o : Open) (name : List ℕ) (value : Tree) (others inside : Open) (under : List Open) → IsPart o name value others → value ≡ opened_tree inside → left ≡ length (name_key (is_object o) name) + suc more
      → Fitting begun all due left (o ∷ under) → Fitting begun all due more (inside ∷ others ∷ under)
  opening_fits left more o name value others inside under p w long f =
      let n = length (name_key (is_object o) name) in
      fitting_on left (n + 1) more (o ∷ under) (inside ∷ others ∷ under) (omega (arith, long))
      (part_most o name value others under p ∙ ap (λ cs. replicate n 0 ++ (cs ++ most_left (others ∷ under))) (ap most_at w ∙ opened_most inside) ∙ replicate_more n 1 (most_open inside ++ most_left (others ∷ under))) f

  -- What fits where a value is due.
  pub record FittingHere (left : ℕ) (value : Tree) (opens : List Open) : Type 0 where
    pub each : length (most_at value ++ most_left opens) ≡ left
    pub same : Fits begun all ↔ Fits due (most_at value ++ most_left opens)
    pub counted : IsCounted due

  pub at_value : (left more : ℕ) (o : Open) (name : List ℕ) (value : Tree) (others : Open) (under : List Open) → IsPart o name value others → left ≡ length (name_key (is_object o) name) + more
      → Fitting begun all due left (o ∷ under) → FittingHere more value (others ∷ under)
  at_value left more o name value others under p long f =
      let n = length (name_key (is_object o) name) in
      let e = part_most o name value others under p in
      let behind = most_at value ++ most_left (others ∷ under) in
      let x = none_passed due.at due.count due.entries.now n behind in
      record {
        each = omega (arith, f.each, ap length e, long, length-append (replicate n 0) behind, length-replicate {A = ℕ} n 0);
        same = (λ h. x.1 (subst (λ l. Fits due l) e (f.same.0 h)), λ h. f.same.1 (subst (λ l. Fits due l) (sym e) (x.0 h)));
        counted = f.counted;
      }

  pub value_fits : (left more : ℕ) (value : Tree) (opens : List Open) → FittingHere left value opens → IsProper value → left ≡ length (key_of value) + more → (next : ZerosDue)
      → Fits next (most_left opens) ↔ Fits due (most_at value ++ most_left opens) → IsCounted next → Fitting begun all next more opens
  value_fits left more value opens f p long next x counted = record {
    each = omega (arith, f.each, long, length-append (most_at value) (most_left opens), most_each value p);
    same = (λ h. x.1 (f.same.0 h), λ h. f.same.1 (x.0 h));
    counted = counted;
  }
