-- Values without zeros, changed.
use Rattle.std.proofs.Common.{◌≡◌, ℕ, zero, suc, ◌+◌, ◌==◌, Bool, true, false, ◌&&◌, if◌then◌else◌, inl, inr, Some, List, [], ◌∷◌, ◌++◌, length, replicate, refl, sym, ap, subst, ◌∙◌, arith, length-append}
use Rattle.std.proofs.lemmas.Bool.{cond-false, ne_eqb}
use Rattle.std.specs.Ordering.{match_ordering}
use Rattle.std.specs.declared.cmp.Ordering.{Ordering}
use Rattle.std.specs.declared.cmp.Ordering.TheVariants.{Less, Equal, Greater}
use Rattle.jsonb_spec.specs.SortKey.Readable.{IsReadable}
use Rattle.jsonb_spec.specs.Containment.{any_item}
use Rattle.jsonb_spec.specs.Order.{bytes_cmp}
use Rattle.jsonb_spec.specs.PartAt.{part_at}
use Rattle.jsonb_spec.specs.SortKey.{text_key}
use Rattle.jsonb_spec.specs.Text.{tree_text}
use Rattle.jsonb_spec.specs.Tree.{Tree, null, boolean, string, number, array, object, binary, date, timestamp, timestamp_tz, interval, Trees, no_trees, more_trees, Members, no_members, more_members, put}
use Rattle.jsonb_spec.specs.Document.{zeros_at}
use Rattle.jsonb_spec.specs.Edit.LeftOut.{any_named, beside_names, has_name, is_named, is_null, items_beside, items_without_nulls, members_beside, members_without_nulls, without_nulls}
use Rattle.jsonb_spec.specs.Document.Counts.{counts_of_items, counts_at, counts_at_items, counts_at_members}
use Rattle.key_document.proofs.Beside.{by_case, no_tree}
use Rattle.key_document.proofs.ItemsJoined.{items_within, joined_array}
use Rattle.key_document.proofs.Slots.{part_inside}
use Rattle.key_document.proofs.Merging.{joined_counts, items_counts_end}
use Rattle.jsonb_spec.specs.Edit.{as_items, merge, merged_members}
use Rattle.jsonb_spec.specs.SortKey.FewestDigits.{with_fewest_digits}
use Rattle.jsonb_spec.specs.Document.Zeros.{counts_in, counts_in_items, counts_in_members, entry_of, in_sevens, plain_behind, zeros_in, zeros_of}
use Rattle.key_document.specs.Splices.{spliced_counts}
use Rattle.key_zeros.proofs.NumberedTexts.{counts_of, numbers_of}
use Rattle.key_zeros.proofs.Splitting.{split}

-- no number has zeros
abbrev AllZero : List ℕ → Type 0
AllZero [] = Unit {0}
AllZero (c ∷ cs) = (c ≡ 0) × AllZero cs

no_entry : (plain c : ℕ) (cs : List ℕ) → length (zeros_of plain (suc c ∷ cs)) ≡ 0 → ⊥
no_entry plain c cs e =
    let entry : entry_of plain (suc c) ≡ in_sevens 8 plain ++ suc c ∷ [] = cond-false (suc c == 0) [] (in_sevens 8 plain ++ suc c ∷ []) (ne_eqb (suc c) 0 (λ e. omega (arith, e))) in
    omega (arith, e, length-append (entry_of plain (suc c)) (zeros_of (plain_behind plain (suc c)) cs), ap length entry, length-append (in_sevens 8 plain) (suc c ∷ []))

all_zero : (plain : ℕ) (cs : List ℕ) → length (zeros_of plain cs) ≡ 0 → AllZero cs
all_zero plain [] e = tt
all_zero plain (zero ∷ cs) e = (refl, all_zero (suc plain) cs e)
all_zero plain (suc c ∷ cs) e = absurd (no_entry plain c cs e)

no_zeros : (plain : ℕ) (cs : List ℕ) → AllZero cs → zeros_of plain cs ≡ []
no_zeros plain [] a = refl
no_zeros plain (zero ∷ cs) a = no_zeros (suc plain) cs a.1
no_zeros plain (suc c ∷ cs) a = absurd (omega (arith, a.0))

both_zero : (xs ys : List ℕ) → AllZero xs → AllZero ys → AllZero (xs ++ ys)
both_zero [] ys a b = b
both_zero (x ∷ xs) ys a b = (a.0, both_zero xs ys a.1 b)

first_zero : (xs ys : List ℕ) → AllZero (xs ++ ys) → AllZero xs
first_zero [] ys a = tt
first_zero (x ∷ xs) ys a = (a.0, first_zero xs ys a.1)

second_zero : (xs ys : List ℕ) → AllZero (xs ++ ys) → AllZero ys
second_zero [] ys a = a
second_zero (x ∷ xs) ys a = second_zero xs ys a.1

name_zero : (n : ℕ) → AllZero (replicate n 0)
name_zero zero = tt
name_zero (suc n) = (refl, name_zero n)

more_zero : (k : List ℕ) (t : Tree) (ms : Members) → AllZero (counts_at t) → AllZero (counts_at_members ms) → AllZero (counts_at_members (more_members k t ms))
more_zero k t ms a b = both_zero (replicate (length (text_key k)) 0) (counts_at t ++ counts_at_members ms) (name_zero (length (text_key k))) (both_zero (counts_at t) (counts_at_members ms) a b)

value_zero : (k : List ℕ) (t : Tree) (ms : Members) → AllZero (counts_at_members (more_members k t ms)) → AllZero (counts_at t)
value_zero k t ms a = first_zero (counts_at t) (counts_at_members ms) (second_zero (replicate (length (text_key k)) 0) (counts_at t ++ counts_at_members ms) a)

rest_zero : (k : List ℕ) (t : Tree) (ms : Members) → AllZero (counts_at_members (more_members k t ms)) → AllZero (counts_at_members ms)
rest_zero k t ms a = second_zero (counts_at t) (counts_at_members ms) (second_zero (replicate (length (text_key k)) 0) (counts_at t ++ counts_at_members ms) a)

put_zero : (k : List ℕ) (t : Tree) (ms : Members) → AllZero (counts_at t) → AllZero (counts_at_members ms) → AllZero (counts_at_members (put k t ms))
put_zero k t no_members a b = more_zero k t no_members a b
put_zero k t (more_members l u ms) a b = by (put_zero k t ms a (rest_zero l u ms b)) (bytes_cmp k l)
  where
    by : AllZero (counts_at_members (put k t ms)) → (o : Ordering) → AllZero (counts_at_members (match_ordering o (more_members k t (more_members l u ms)) (more_members l t ms) (more_members l u (put k t ms))))
    by rest Less = more_zero k t (more_members l u ms) a b
    by rest Equal = more_zero l t ms a (rest_zero l u ms b)
    by rest Greater = more_zero l u (put k t ms) (value_zero l u ms b) rest

merged_zero : (ms ns : Members) → AllZero (counts_at_members ms) → AllZero (counts_at_members ns) → AllZero (counts_at_members (merged_members ms ns))
merged_zero ms no_members a b = a
merged_zero ms (more_members k t ns) a b = merged_zero (put k t ms) ns (put_zero k t ms (value_zero k t ns b) a) (rest_zero k t ns b)

items_zero : (t : Tree) → AllZero (counts_at t) → AllZero (counts_of_items (as_items t))
items_zero t a =
    let x = items_within t in
    first_zero (counts_of_items (as_items t)) x.behind (second_zero x.before (counts_of_items (as_items t) ++ x.behind) (subst AllZero x.counts_are a))

array_zero : (t u : Tree) → AllZero (counts_at t) → AllZero (counts_at u) → AllZero (counts_at (joined_array t u))
array_zero t u a b = (
  refl,
  subst AllZero (sym (joined_counts (as_items t) (as_items u) ∙ ap (λ l. counts_of_items (as_items t) ++ l) (items_counts_end (as_items u))))
      (both_zero (counts_of_items (as_items t)) (counts_of_items (as_items u) ++ 0 ∷ []) (items_zero t a) (both_zero (counts_of_items (as_items u)) (0 ∷ []) (items_zero u b) (refl, tt))),
)

both_merged : (t u : Tree) → AllZero (counts_at t) → AllZero (counts_at u) → AllZero (counts_at (merge t u))
both_merged (object ms) (object ns) a b = (refl, merged_zero ms ns a.1 b.1)
both_merged (object ms) u a b = array_zero (object ms) u a b
both_merged t u a b = array_zero t u a b

pub none_merged : (t u : Tree) → length (zeros_at t) ≡ 0 → length (zeros_at u) ≡ 0 → zeros_at (merge t u) ≡ []
none_merged t u a b = no_zeros 0 (counts_at (merge t u)) (both_merged t u (all_zero 0 (counts_at t) a) (all_zero 0 (counts_at u) b))

-- a part put where no zeros are, and none in it
pub none_spliced : (front entry part behind : List ℕ) (name : ℕ) → length (zeros_of 0 (front ++ (entry ++ behind))) ≡ 0 → length (zeros_of 0 part) ≡ 0 → zeros_of 0 (spliced_counts front name part behind) ≡ []
none_spliced front entry part behind name a b =
    let old = all_zero 0 (front ++ (entry ++ behind)) a in
    let rest = second_zero entry behind (second_zero front (entry ++ behind) old) in
    no_zeros 0 (spliced_counts front name part behind)
    (both_zero front (replicate name 0 ++ (part ++ behind)) (first_zero front (entry ++ behind) old) (both_zero (replicate name 0) (part ++ behind) (name_zero name) (both_zero part behind (all_zero 0 part b) rest)))

-- a part of a value without zeros
pub none_within : (t : Tree) (names : List (List ℕ)) (part : Tree) → IsReadable t → part_at names t ≡ Some part → length (zeros_at t) ≡ 0 → zeros_at part ≡ []
none_within t names part r e none =
    let b = (part_inside t names part r e).1 in
    no_zeros 0 (counts_at part) (first_zero (counts_at part) b.counts_behind (second_zero b.counts_before (counts_at part ++ b.counts_behind) (subst AllZero b.counts_are (all_zero 0 (counts_at t) none))))

-- ---- the text of a value without zeros

mutual
  numbers_have_none : (t : Tree) → AllZero (counts_at t) → AllZero (counts_in t)
  numbers_have_none (number n) a = (a.0, tt)
  numbers_have_none (array ts) a = items_have_none ts a.1
  numbers_have_none (object ms) a = members_have_none ms a.1
  numbers_have_none null a = tt
  numbers_have_none (boolean b) a = tt
  numbers_have_none (string mark bytes) a = tt
  numbers_have_none (binary bytes) a = tt
  numbers_have_none (date days) a = tt
  numbers_have_none (timestamp micros) a = tt
  numbers_have_none (timestamp_tz offset micros) a = tt
  numbers_have_none (interval months days micros) a = tt

  items_have_none : (ts : Trees) → AllZero (counts_at_items ts) → AllZero (counts_in_items ts)
  items_have_none no_trees a = tt
  items_have_none (more_trees t ts) a =
      both_zero (counts_in t) (counts_in_items ts) (numbers_have_none t (first_zero (counts_at t) (counts_at_items ts) a)) (items_have_none ts (second_zero (counts_at t) (counts_at_items ts) a))

  members_have_none : (ms : Members) → AllZero (counts_at_members ms) → AllZero (counts_in_members ms)
  members_have_none no_members a = tt
  members_have_none (more_members k t ms) a =
      both_zero (counts_in t) (counts_in_members ms) (numbers_have_none t (value_zero k t ms a))
      (members_have_none ms (second_zero (counts_at t) (counts_at_members ms) (second_zero (replicate (length (text_key k)) 0) (counts_at t ++ counts_at_members ms) a)))

-- it has the fewest digits
pub text_shortest : (t : Tree) → IsReadable t → length (zeros_at t) ≡ 0 → tree_text t ≡ tree_text (with_fewest_digits t)
text_shortest t r none =
    let x = numbers_of t r in
    let z : zeros_in t ≡ [] = no_zeros 0 (counts_in t) (numbers_have_none t (all_zero 0 (counts_at t) none)) in
    elim (split 0 x.text x.is_numbered) [
      | inl p ↦ x.full ∙ p.same ∙ sym x.shortest
      | inr n ↦ absurd (omega (arith, ap length (sym n.zeros ∙ sym (ap (zeros_of 0) x.counts) ∙ z), length-append (in_sevens 8 (0 + n.before)) (n.zeros_there ∷ zeros_of 0 (counts_of n.later))))
    ]

-- ---- a value without what an object names

picked_members : (b : Bool) (k : List ℕ) (t : Tree) (ms : Members) → AllZero (counts_at t) → AllZero (counts_at_members ms) → AllZero (counts_at_members (if b then ms else more_members k t ms))
picked_members true k t ms a rest = rest
picked_members false k t ms a rest = more_zero k t ms a rest

picked_items : (b : Bool) (t : Tree) (ts : Trees) → AllZero (counts_at t) → AllZero (counts_at_items ts) → AllZero (counts_at_items (if b then ts else more_trees t ts))
picked_items true t ts a rest = rest
picked_items false t ts a rest = both_zero (counts_at t) (counts_at_items ts) a rest

members_beside_zero : (ns ms : Members) → AllZero (counts_at_members ms) → AllZero (counts_at_members (members_beside ns ms))
members_beside_zero ns no_members a = a
members_beside_zero ns (more_members k t ms) a = picked_members (has_name k ns) k t (members_beside ns ms) (value_zero k t ms a) (members_beside_zero ns ms (rest_zero k t ms a))

items_beside_zero : (ns : Members) (ts : Trees) → AllZero (counts_at_items ts) → AllZero (counts_at_items (items_beside ns ts))
items_beside_zero ns no_trees a = a
items_beside_zero ns (more_trees t ts) a = picked_items (is_named ns t) t (items_beside ns ts) (first_zero (counts_at t) (counts_at_items ts) a) (items_beside_zero ns ts (second_zero (counts_at t) (counts_at_items ts) a))

pub none_beside : (ns : Members) (t u : Tree) → beside_names ns t ≡ Some u → length (zeros_at t) ≡ 0 → zeros_at u ≡ []
none_beside ns t u e none = no_zeros 0 (counts_at u) (go t e (all_zero 0 (counts_at t) none))
  where
    go : (t : Tree) → beside_names ns t ≡ Some u → AllZero (counts_at t) → AllZero (counts_at u)
    go (object ms) e a = by_case (λ x. AllZero (counts_at x)) (any_named ns ms) (object (members_beside ns ms)) u e (refl, members_beside_zero ns ms a.1)
    go (array ts) e a = by_case (λ x. AllZero (counts_at x)) (any_item (is_named ns) ts) (array (items_beside ns ts)) u e (refl, items_beside_zero ns ts a.1)
    go null e a = absurd (no_tree u e)
    go (boolean b) e a = absurd (no_tree u e)
    go (string mark bytes) e a = absurd (no_tree u e)
    go (number n) e a = absurd (no_tree u e)
    go (binary bytes) e a = absurd (no_tree u e)
    go (date days) e a = absurd (no_tree u e)
    go (timestamp micros) e a = absurd (no_tree u e)
    go (timestamp_tz offset micros) e a = absurd (no_tree u e)
    go (interval months days micros) e a = absurd (no_tree u e)

-- ---- a value without nulls

mutual
  bare_zero : (b : Bool) (t : Tree) → AllZero (counts_at t) → AllZero (counts_at (without_nulls b t))
  bare_zero b (array ts) a = (refl, bare_items_zero b ts a.1)
  bare_zero b (object ms) a = (refl, bare_members_zero b ms a.1)
  bare_zero b null a = a
  bare_zero b (boolean x) a = a
  bare_zero b (string mark bytes) a = a
  bare_zero b (number n) a = a
  bare_zero b (binary bytes) a = a
  bare_zero b (date days) a = a
  bare_zero b (timestamp micros) a = a
  bare_zero b (timestamp_tz offset micros) a = a
  bare_zero b (interval months days micros) a = a

  bare_items_zero : (b : Bool) (ts : Trees) → AllZero (counts_at_items ts) → AllZero (counts_at_items (items_without_nulls b ts))
  bare_items_zero b no_trees a = a
  bare_items_zero b (more_trees t ts) a =
      picked_items (is_null t && b) (without_nulls b t) (items_without_nulls b ts) (bare_zero b t (first_zero (counts_at t) (counts_at_items ts) a)) (bare_items_zero b ts (second_zero (counts_at t) (counts_at_items ts) a))

  bare_members_zero : (b : Bool) (ms : Members) → AllZero (counts_at_members ms) → AllZero (counts_at_members (members_without_nulls b ms))
  bare_members_zero b no_members a = a
  bare_members_zero b (more_members k t ms) a =
      picked_members (is_null t) k (without_nulls b t) (members_without_nulls b ms) (bare_zero b t (value_zero k t ms a)) (bare_members_zero b ms (rest_zero k t ms a))

pub none_bare : (b : Bool) (t : Tree) → length (zeros_at t) ≡ 0 → zeros_at (without_nulls b t) ≡ []
none_bare b t none = no_zeros 0 (counts_at (without_nulls b t)) (bare_zero b t (all_zero 0 (counts_at t) none))
