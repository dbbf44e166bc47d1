-- The least repeated key, and where it occurs the second time.
use Rattle.std.proofs.Common.{◌≡◌, ◌≢◌, ℕ, ◌+◌, ◌<◌, ◌≤◌, Bool, true, false, cond, ◌⊎◌, inl, inr, List, [], ◌∷◌, ◌++◌, Option, Some, Ordering, Less, Equal, Greater, is_eq, is_gt, nat_cmp, refl, sym, ap, subst, ◌∙◌, arith, eqb, ltb, leb, eq-eqb, le-ltb, le-leb, lt-ltb, leb-true}
use Rattle.std.specs.Ordering.{MatchOrdering, ordering_then}
use Rattle.std.proofs.lemmas.Cmp.{ranked, tied_itself, nat_list_cmp_total}
use Rattle.std.proofs.lemmas.Bool.{cond-false, cond-true}
use Rattle.jsonb_spec.specs.Source.{Spot, adjacent_repeat, first_repeat, spot_cmp}
use Rattle.text_scan.proofs.Steps.Tests.{chosen}
use Rattle.text_common.proofs.Repeats.{AreSorted, IsLow, below, insert_spot, key_cmp, keys, new-below, other_key, same_key, sort_spots, sorted-sort}
use Rattle.jsonb_core.proofs.Trees.MembersInOrder.{IsNew}

-- ---- how many spots pass a test

abbrev pub count : (Spot → Bool) → List Spot → ℕ
count p [] = 0
count p (s ∷ ss) = cond (p s) (1 + count p ss) (count p ss)

count_yes : (p : Spot → Bool) (s : Spot) (ss : List Spot) → p s ≡ true → count p (s ∷ ss) ≡ 1 + count p ss
count_yes p s ss e = cond-true (p s) (1 + count p ss) (count p ss) e

count_no : (p : Spot → Bool) (s : Spot) (ss : List Spot) → p s ≡ false → count p (s ∷ ss) ≡ count p ss
count_no p s ss e = cond-false (p s) (1 + count p ss) (count p ss) e

count_more : (p : Spot → Bool) (s : Spot) (ss : List Spot) → count p ss ≤ count p (s ∷ ss)
count_more p s ss = elim (p s) as (λ b. count p ss ≤ cond b (1 + count p ss) (count p ss)) [ true ↦ omega arith | false ↦ omega arith ]

count_less : (p : Spot → Bool) (s : Spot) (ss : List Spot) → count p (s ∷ ss) ≤ 1 + count p ss
count_less p s ss = elim (p s) as (λ b. cond b (1 + count p ss) (count p ss) ≤ 1 + count p ss) [ true ↦ omega arith | false ↦ omega arith ]

count_append : (p : Spot → Bool) (ss ts : List Spot) → count p (ss ++ ts) ≡ count p ss + count p ts
count_append p [] ts = omega arith
count_append p (s ∷ ss) ts =
    elim (p s) as (λ b. cond b (1 + count p (ss ++ ts)) (count p (ss ++ ts)) ≡ cond b (1 + count p ss) (count p ss) + count p ts) [
      | true ↦ omega (arith, count_append p ss ts)
      | false ↦ count_append p ss ts
    ]

count_swap : (a b : Bool) (n : ℕ) → cond a (1 + cond b (1 + n) n) (cond b (1 + n) n) ≡ cond b (1 + cond a (1 + n) n) (cond a (1 + n) n)
count_swap true true n = refl
count_swap true false n = refl
count_swap false true n = refl
count_swap false false n = refl

count_insert : (p : Spot → Bool) (s : Spot) (ss : List Spot) → count p (insert_spot s ss) ≡ count p (s ∷ ss)
count_insert p s [] = refl
count_insert p s (t ∷ ts) =
    elim (is_gt (spot_cmp s t)) as (λ b. count p (cond b (t ∷ insert_spot s ts) (s ∷ t ∷ ts)) ≡ count p (s ∷ t ∷ ts)) [
      | true ↦ ap (λ (n : ℕ). cond (p t) (1 + n) n) (count_insert p s ts) ∙ count_swap (p t) (p s) (count p ts)
      | false ↦ refl
    ]

count_sort : (p : Spot → Bool) (ss : List Spot) → count p (sort_spots ss) ≡ count p ss
count_sort p [] = refl
count_sort p (s ∷ ss) = count_insert p s (sort_spots ss) ∙ ap (λ (n : ℕ). cond (p s) (1 + n) n) (count_sort p ss)

-- ---- tests

-- it has this key
abbrev pub has : List ℕ → Spot → Bool
has k t = is_eq (key_cmp t.key k)

-- it has the key of the spot, and is before it, up to it, or where it is
abbrev pub holds_before : Spot → Spot → Bool
holds_before s t = cond (has s.key t) (ltb t.offset s.offset) false

abbrev pub holds_upto : Spot → Spot → Bool
holds_upto s t = cond (has s.key t) (leb t.offset s.offset) false

abbrev pub holds_there : Spot → Spot → Bool
holds_there s t = cond (has s.key t) (eqb t.offset s.offset) false

like : (k l : List ℕ) → k ≡ l → is_eq (key_cmp k l) ≡ true
like k l e = ap is_eq (subst (λ (m : List ℕ). key_cmp k m ≡ Equal) e (tied_itself nat_list_cmp_total k))

is_equal : (o : Ordering) → is_eq o ≡ true → o ≡ Equal
is_equal Less e = absurd cc
is_equal Equal e = refl
is_equal Greater e = absurd cc

pub alike : (k l : List ℕ) → is_eq (key_cmp k l) ≡ true → k ≡ l
alike k l e = same_key k l (is_equal (key_cmp k l) e)

unlike : (k l : List ℕ) → k ≢ l → is_eq (key_cmp k l) ≡ false
unlike k l n = unequal (key_cmp k l) (λ e. n (same_key k l e))
  where
    unequal : (o : Ordering) → o ≢ Equal → is_eq o ≡ false
    unequal Less n = refl
    unequal Equal n = absurd (n refl)
    unequal Greater n = refl

-- of two spots with one key the one that is not above the other is no later
no_later : (s t : Spot) → is_eq (key_cmp s.key t.key) ≡ true → is_gt (spot_cmp s t) ≡ false → s.offset ≤ t.offset
no_later s t e f = at_most (nat_cmp s.offset t.offset) (ranked s.offset t.offset (nat_cmp s.offset t.offset) refl) (by_offset (key_cmp s.key t.key) (nat_cmp s.offset t.offset) f e)
  where
    by_offset : (o p : Ordering) → is_gt (ordering_then o p) ≡ false → is_eq o ≡ true → is_gt p ≡ false
    by_offset Less p e f = absurd cc
    by_offset Equal p e f = e
    by_offset Greater p e f = absurd cc

    at_most : (r : Ordering) → MatchOrdering r (s.offset < t.offset) (s.offset ≡ t.offset) (t.offset < s.offset) → is_gt r ≡ false → s.offset ≤ t.offset
    at_most Less h e = omega (arith, h)
    at_most Equal h e = omega (arith, h)
    at_most Greater h e = absurd cc

-- ---- in sorted spots

repeat_cases : (a b s : Spot) (rest : List Spot) → adjacent_repeat (a ∷ b ∷ rest) ≡ Some s → ((is_eq (key_cmp a.key b.key) ≡ true) × (b ≡ s)) ⊎ ((is_eq (key_cmp a.key b.key) ≡ false) × (adjacent_repeat (b ∷ rest) ≡ Some s))
repeat_cases a b s rest e =
    elim (chosen (is_eq (key_cmp a.key b.key)) (Some b) (adjacent_repeat (b ∷ rest)) (Some s) e) [
      | inl h ↦ let same : b ≡ s = (let p : ◌≡◌ {A = Option Spot} (Some b) (Some s) = h.1 in cc) in inl (h.0, same)
      | inr h ↦ inr h
    ]

there : (zs : List Spot) (s : Spot) → adjacent_repeat zs ≡ Some s → 1 ≤ count (holds_there s) zs
there [] s e = absurd cc
there (a ∷ []) s e = absurd cc
there (a ∷ b ∷ rest) s e =
    elim (repeat_cases a b s rest e) [
      | inl h ↦
          let itself : holds_there b b ≡ true = cond-true (has b.key b) (eqb b.offset b.offset) false (like b.key b.key refl) ∙ eq-eqb b.offset b.offset refl in
          subst (λ (t : Spot). 1 ≤ count (holds_there t) (a ∷ b ∷ rest)) h.1 (omega (arith, count_more (holds_there b) a (b ∷ rest), count_yes (holds_there b) b rest itself))
      | inr h ↦ omega (arith, there (b ∷ rest) s h.1, count_more (holds_there s) a (b ∷ rest))
    ]

two_upto : (zs : List Spot) (s : Spot) → AreSorted zs → adjacent_repeat zs ≡ Some s → 2 ≤ count (holds_upto s) zs
two_upto [] s z e = absurd cc
two_upto (a ∷ []) s z e = absurd cc
two_upto (a ∷ b ∷ rest) s z e =
    elim (repeat_cases a b s rest e) [
      | inl h ↦
          let itself : holds_upto b b ≡ true = cond-true (has b.key b) (leb b.offset b.offset) false (like b.key b.key refl) ∙ le-leb b.offset b.offset (omega arith) in
          let first : holds_upto b a ≡ true = cond-true (has b.key a) (leb a.offset b.offset) false h.0 ∙ le-leb a.offset b.offset (no_later a b h.0 z.0.0) in
          subst (λ (t : Spot). 2 ≤ count (holds_upto t) (a ∷ b ∷ rest)) h.1 (omega (arith, count_yes (holds_upto b) a (b ∷ rest) first, count_yes (holds_upto b) b rest itself))
      | inr h ↦ omega (arith, two_upto (b ∷ rest) s z.1 h.1, count_more (holds_upto s) a (b ∷ rest))
    ]

none_before : (s : Spot) (ts : List Spot) → IsLow s ts → count (holds_before s) ts ≡ 0
none_before s [] h = refl
none_before s (t ∷ ts) h =
    let no : holds_before s t ≡ false = elim (has s.key t) as (λ b. has s.key t ≡ b → cond b (ltb t.offset s.offset) false ≡ false) [
      | true ↦ λ e. le-ltb t.offset s.offset (no_later s t (like s.key t.key (sym (alike t.key s.key e))) h.0)
      | false ↦ λ e. refl
    ] refl in
    count_no (holds_before s) t ts no ∙ none_before s ts h.1

-- the key that is found is one of the keys
new_found : (k : List ℕ) (zs : List Spot) (s : Spot) → adjacent_repeat zs ≡ Some s → IsNew k (keys zs) → k ≢ s.key
new_found k [] s e n = absurd cc
new_found k (a ∷ []) s e n = absurd cc
new_found k (a ∷ b ∷ rest) s e n =
    elim (repeat_cases a b s rest e) [
      | inl h ↦ subst (λ (t : Spot). k ≢ t.key) h.1 n.1.0
      | inr h ↦ new_found k (b ∷ rest) s h.1 n.1
    ]

-- a key that is not that of the next spot is no later one's
new_after : (a b : Spot) (rest : List Spot) → AreSorted (a ∷ b ∷ rest) → is_eq (key_cmp a.key b.key) ≡ false → IsNew a.key (keys (b ∷ rest))
new_after a b rest z e =
    let less : key_cmp a.key b.key ≡ Less = below (key_cmp a.key b.key) (nat_cmp a.offset b.offset) z.0.0 e in
    (other_key a.key b.key less, new-below a.key b rest less z.1.0)

one_before : (zs : List Spot) (s : Spot) → AreSorted zs → adjacent_repeat zs ≡ Some s → count (holds_before s) zs ≤ 1
one_before [] s z e = absurd cc
one_before (a ∷ []) s z e = absurd cc
one_before (a ∷ b ∷ rest) s z e =
    elim (repeat_cases a b s rest e) [
      | inl h ↦
          let itself : holds_before b b ≡ false = cond-true (has b.key b) (ltb b.offset b.offset) false (like b.key b.key refl) ∙ le-ltb b.offset b.offset (omega arith) in
          subst (λ (t : Spot). count (holds_before t) (a ∷ b ∷ rest) ≤ 1) h.1
          (omega (arith, count_less (holds_before b) a (b ∷ rest), count_no (holds_before b) b rest itself, none_before b rest z.1.0))
      | inr h ↦
          let no : holds_before s a ≡ false = cond-false (has s.key a) (ltb a.offset s.offset) false (unlike a.key s.key (new_found a.key (b ∷ rest) s h.1 (new_after a b rest z h.0))) in
          omega (arith, count_no (holds_before s) a (b ∷ rest) no, one_before (b ∷ rest) s z.1 h.1)
    ]

none_new : (k : List ℕ) (ts : List Spot) → IsNew k (keys ts) → count (has k) ts ≡ 0
none_new k [] n = refl
none_new k (t ∷ ts) n = count_no (has k) t ts (unlike t.key k (λ e. n.0 (sym e))) ∙ none_new k ts n.1

lesser_once : (zs : List Spot) (s : Spot) → AreSorted zs → adjacent_repeat zs ≡ Some s → (k : List ℕ) → key_cmp k s.key ≡ Less → count (has k) zs ≤ 1
lesser_once [] s z e k l = absurd cc
lesser_once (a ∷ []) s z e k l = absurd cc
lesser_once (a ∷ b ∷ rest) s z e k l =
    elim (repeat_cases a b s rest e) [
      | inl h ↦
          let less : key_cmp k b.key ≡ Less = subst (λ (t : Spot). key_cmp k t.key ≡ Less) (sym h.1) l in
          let first : k ≢ a.key = subst (λ (m : List ℕ). k ≢ m) (sym (alike a.key b.key h.0)) (other_key k b.key less) in
          let n : IsNew k (keys (a ∷ b ∷ rest)) = (first, (other_key k b.key less, new-below k b rest less z.1.0)) in
          omega (arith, none_new k (a ∷ b ∷ rest) n)
      | inr h ↦ elim (has k a) as (λ c. has k a ≡ c → count (has k) (a ∷ b ∷ rest) ≤ 1) [
        | true ↦ λ f.
            let n : IsNew k (keys (b ∷ rest)) = subst (λ (m : List ℕ). IsNew m (keys (b ∷ rest))) (alike a.key k f) (new_after a b rest z h.0) in
            omega (arith, count_less (has k) a (b ∷ rest), none_new k (b ∷ rest) n)
        | false ↦ λ f. omega (arith, count_no (has k) a (b ∷ rest) f, lesser_once (b ∷ rest) s z.1 h.1 k l)
      ] refl
    ]

-- What is known of the spot that is found, whatever the order of the spots.
pub record IsSecond (s : Spot) (ss : List Spot) : Type 0 where
  pub there : 1 ≤ count (holds_there s) ss
  pub upto : 2 ≤ count (holds_upto s) ss
  pub before : count (holds_before s) ss ≤ 1
  pub lesser : (k : List ℕ) → key_cmp k s.key ≡ Less → count (has k) ss ≤ 1

pub second_found : (ss : List Spot) (s : Spot) → first_repeat ss ≡ Some s → IsSecond s ss
unfolding first_repeat
second_found ss s e =
    let z = sorted-sort ss in
    record {
      there = omega (arith, there (sort_spots ss) s e, count_sort (holds_there s) ss);
      upto = omega (arith, two_upto (sort_spots ss) s z e, count_sort (holds_upto s) ss);
      before = omega (arith, one_before (sort_spots ss) s z e, count_sort (holds_before s) ss);
      lesser = λ k l. omega (arith, lesser_once (sort_spots ss) s z e k l, count_sort (has k) ss);
    }

-- ---- in spots that are one after another

-- each is past the number and the ones before it
abbrev pub AreRising : ℕ → List Spot → Type 0
AreRising bound [] = Unit {0}
AreRising bound (s ∷ ss) = (bound < s.offset) × AreRising s.offset ss

pub rising-weaken : (low high : ℕ) (ss : List Spot) → low ≤ high → AreRising high ss → AreRising low ss
rising-weaken low high [] h r = tt
rising-weaken low high (s ∷ ss) h r = (omega (arith, h, r.0), r.1)

past : (bound : ℕ) (left : List Spot) (s : Spot) (right : List Spot) → AreRising bound (left ++ s ∷ right) → bound < s.offset
past bound [] s right r = r.0
past bound (t ∷ left) s right r = omega (arith, r.0, past t.offset left s right r.1)

all_before : (bound : ℕ) (left : List Spot) (s : Spot) (right : List Spot) → AreRising bound (left ++ s ∷ right) → count (holds_before s) left ≡ count (has s.key) left
all_before bound [] s right r = refl
all_before bound (t ∷ left) s right r =
    elim (has s.key t) as (λ b. cond (cond b (ltb t.offset s.offset) false) (1 + count (holds_before s) left) (count (holds_before s) left) ≡ cond b (1 + count (has s.key) left) (count (has s.key) left)) [
      | true ↦ cond-true (ltb t.offset s.offset) (1 + count (holds_before s) left) (count (holds_before s) left) (lt-ltb t.offset s.offset (past t.offset left s right r.1)) ∙ ap (λ (n : ℕ). 1 + n) (all_before t.offset left s right r.1)
      | false ↦ all_before t.offset left s right r.1
    ]

upto_has : (s : Spot) (ts : List Spot) → count (holds_upto s) ts ≤ count (has s.key) ts
upto_has s [] = omega arith
upto_has s (t ∷ ts) =
    elim (has s.key t) as (λ b. cond (cond b (leb t.offset s.offset) false) (1 + count (holds_upto s) ts) (count (holds_upto s) ts) ≤ cond b (1 + count (has s.key) ts) (count (has s.key) ts)) [
      | true ↦ elim (leb t.offset s.offset) as (λ c. cond c (1 + count (holds_upto s) ts) (count (holds_upto s) ts) ≤ 1 + count (has s.key) ts) [
        | true ↦ omega (arith, upto_has s ts)
        | false ↦ omega (arith, upto_has s ts)
      ]
      | false ↦ upto_has s ts
    ]

none_upto : (bound : ℕ) (s : Spot) (ts : List Spot) → s.offset ≤ bound → AreRising bound ts → count (holds_upto s) ts ≡ 0
none_upto bound s [] h r = refl
none_upto bound s (t ∷ ts) h r =
    let no : holds_upto s t ≡ false = elim (has s.key t) as (λ b. cond b (leb t.offset s.offset) false ≡ false) [
      | true ↦ not_least (leb t.offset s.offset) (leb-true t.offset s.offset)
      | false ↦ refl
    ] in
    count_no (holds_upto s) t ts no ∙ none_upto t.offset s ts (omega (arith, h, r.0)) r.1
  where
    not_least : (b : Bool) → (b ≡ true → t.offset ≤ s.offset) → b ≡ false
    not_least true l = absurd (let m : t.offset ≤ s.offset = l refl in omega (arith, h, r.0, m))
    not_least false l = refl

-- the key is once before its second offset
pub once_before : (bound : ℕ) (left : List Spot) (s : Spot) (right : List Spot) → AreRising bound (left ++ s ∷ right) → IsSecond s (left ++ s ∷ right) → count (has s.key) left ≡ 1
once_before bound left s right r i =
    let later : count (holds_upto s) right ≡ 0 = none_upto s.offset s right (omega arith) (rising_right bound left r) in
    omega (arith, i.upto, i.before, count_append (holds_upto s) left (s ∷ right), count_append (holds_before s) left (s ∷ right), count_less (holds_upto s) s right, later, upto_has s left, all_before bound left s right r)
  where
    rising_right : (bound : ℕ) (left : List Spot) → AreRising bound (left ++ s ∷ right) → AreRising s.offset right
    rising_right bound [] r = r.1
    rising_right bound (t ∷ left) r = rising_right t.offset left r.1
