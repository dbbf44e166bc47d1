-- The keys of trees, however they go on.
use Rattle.std.proofs.Common.{◌≡◌, ℕ, zero, suc, ◌<◌, true, false, List, [], ◌∷◌, ◌++◌, refl, sym, ap, ◌∙◌, ◌↔◌, append-nil, arith}
use Rattle.std.proofs.lemmas.Map.Lookups.{exact_bytes}
use Rattle.std.specs.Cmp.{tied_itself}
use Rattle.std.specs.Cmp.Lexicographic.{nat_list_cmp_total}
use Rattle.std.specs.Ordering.{nat_cmp, ordering_then}
use Rattle.std.specs.declared.cmp.Ordering.{Ordering}
use Rattle.std.specs.declared.cmp.Ordering.TheVariants.{Less, Equal, Greater}
use Rattle.jsonb_spec.specs.Order.{bytes_cmp, tree_cmp, trees_cmp, members_cmp, Same}
use Rattle.jsonb_spec.specs.SortKey.{number_key, text_key, key_of, items_key, members_key}
use Rattle.jsonb_spec.specs.Tree.{Num, Tree, null, boolean, string, number, array, object, binary, date, timestamp, timestamp_tz, interval, Trees, no_trees, more_trees, Members, no_members, more_members}
use Rattle.jsonb_core.proofs.SortKeys.Comparing.{Compares, same_bytes, then_compares, byte_then, byte_below, byte_above}
use Rattle.jsonb_core.proofs.SortKeys.Fixed.{compares_32_bits, compares_64_bits}
use Rattle.jsonb_core.proofs.SortKeys.Kinds.{is_small, number_begins, begins}
use Rattle.jsonb_core.proofs.SortKeys.Numbers.{IsSmall, numbers_compare}
use Rattle.jsonb_core.proofs.SortKeys.Texts.{text_compares, text_key-other}
use Rattle.jsonb_spec.specs.Proper.{IsProper, AreProper, HaveProperParts}

-- one kind, and then what follows the kind
of_one_kind : (kind : ℕ) (c d : List ℕ) (r : Ordering) → nat_cmp kind kind ≡ Equal → Compares c d r → Compares (kind ∷ c) (kind ∷ d) r
of_one_kind kind c d r e p = byte_then kind kind c d Equal r e p

-- ---- a number beside another kind

number_above : (n : Num) (kind : ℕ) (more : List ℕ) → IsSmall n → kind < 23 → Compares (number_key n) (kind ∷ more) Greater
number_above n kind more p l =
    let x = number_begins n p in
    rw x.is (byte_above x.head kind x.tail more (omega (arith, x.low)))

number_below : (n : Num) (kind : ℕ) (more : List ℕ) → IsSmall n → 207 < kind → Compares (number_key n) (kind ∷ more) Less
number_below n kind more p l =
    let x = number_begins n p in
    rw x.is (byte_below x.head kind x.tail more (omega (arith, x.high)))

below_number : (n : Num) (kind : ℕ) (more : List ℕ) → IsSmall n → kind < 23 → Compares (kind ∷ more) (number_key n) Less
below_number n kind more p l =
    let x = number_begins n p in
    rw x.is (byte_below kind x.head more x.tail (omega (arith, x.low)))

above_number : (n : Num) (kind : ℕ) (more : List ℕ) → IsSmall n → 207 < kind → Compares (kind ∷ more) (number_key n) Greater
above_number n kind more p l =
    let x = number_begins n p in
    rw x.is (byte_above kind x.head more x.tail (omega (arith, x.high)))

number_first : (n : Num) (u : Tree) → IsProper (number n) → IsProper u → Compares (key_of (number n)) (key_of u) (tree_cmp (number n) u)
number_first n (number m) p q = numbers_compare n m (is_small n p) (is_small m q)
number_first n null p q = number_below n 211 _ (is_small n p) (omega arith)
number_first n (string k s) p q = number_below n 208 _ (is_small n p) (omega arith)
number_first n (array ts) p q = number_below n 210 _ (is_small n p) (omega arith)
number_first n (object ms) p q = number_below n 209 _ (is_small n p) (omega arith)
number_first n (binary b) p q = number_above n 16 _ (is_small n p) (omega arith)
number_first n (date d) p q = number_above n 17 _ (is_small n p) (omega arith)
number_first n (timestamp t) p q = number_above n 18 _ (is_small n p) (omega arith)
number_first n (timestamp_tz o t) p q = number_above n 19 _ (is_small n p) (omega arith)
number_first n (interval m d t) p q = number_above n 20 _ (is_small n p) (omega arith)
number_first n (boolean true) p q = number_above n 22 _ (is_small n p) (omega arith)
number_first n (boolean false) p q = number_above n 21 _ (is_small n p) (omega arith)

number_second : (t : Tree) (n : Num) → IsProper t → IsProper (number n) → Compares (key_of t) (key_of (number n)) (tree_cmp t (number n))
number_second (number m) n p q = numbers_compare m n (is_small m p) (is_small n q)
number_second null n p q = above_number n 211 _ (is_small n q) (omega arith)
number_second (string k s) n p q = above_number n 208 _ (is_small n q) (omega arith)
number_second (array ts) n p q = above_number n 210 _ (is_small n q) (omega arith)
number_second (object ms) n p q = above_number n 209 _ (is_small n q) (omega arith)
number_second (binary b) n p q = below_number n 16 _ (is_small n q) (omega arith)
number_second (date d) n p q = below_number n 17 _ (is_small n q) (omega arith)
number_second (timestamp t) n p q = below_number n 18 _ (is_small n q) (omega arith)
number_second (timestamp_tz o t) n p q = below_number n 19 _ (is_small n q) (omega arith)
number_second (interval m d t) n p q = below_number n 20 _ (is_small n q) (omega arith)
number_second (boolean true) n p q = below_number n 22 _ (is_small n q) (omega arith)
number_second (boolean false) n p q = below_number n 21 _ (is_small n q) (omega arith)

-- an array that has ended is below one that goes on
items_end : (u : Tree) (more : List ℕ) → IsProper u → Compares (0 ∷ []) (key_of u ++ more) Less
items_end u more p =
    let x = begins u p in
    rw x.is (byte_below 0 x.head [] (x.tail ++ more) x.above)

items_go_on : (u : Tree) (more : List ℕ) → IsProper u → Compares (key_of u ++ more) (0 ∷ []) Greater
items_go_on u more p =
    let x = begins u p in
    rw x.is (byte_above x.head 0 (x.tail ++ more) [] x.above)

-- an object that has ended is below one that goes on
members_end : (key more : List ℕ) → Compares (0 ∷ 0 ∷ []) (text_key key ++ more) Less
members_end [] more = record { compared = λ x y. refl }
members_end (zero ∷ key) more = record { compared = λ x y. refl }
members_end (suc b ∷ key) more = rw (text_key-other b key) (byte_below 0 (suc b) (0 ∷ []) (text_key key ++ more) (omega arith))

members_go_on : (key more : List ℕ) → Compares (text_key key ++ more) (0 ∷ 0 ∷ []) Greater
members_go_on [] more = record { compared = λ x y. refl }
members_go_on (zero ∷ key) more = record { compared = λ x y. refl }
members_go_on (suc b ∷ key) more = rw (text_key-other b key) (byte_above (suc b) 0 (text_key key ++ more) (0 ∷ []) (omega arith))

mutual
  pub tree_compares : (t u : Tree) → IsProper t → IsProper u → Compares (key_of t) (key_of u) (tree_cmp t u)
  tree_compares (binary b) (binary c) p q = of_one_kind 16 _ _ _ refl (text_compares b c)
  tree_compares (date d) (date e) p q = of_one_kind 17 _ _ _ refl (compares_32_bits d e p q)
  tree_compares (timestamp d) (timestamp e) p q = of_one_kind 18 _ _ _ refl (compares_64_bits d e p q)
  tree_compares (timestamp_tz o t) (timestamp_tz n u) p q =
      of_one_kind 19 _ _ _ refl (then_compares _ _ _ _ _ _ (compares_32_bits o n p.0 q.0) (compares_64_bits t u p.1 q.1))
  tree_compares (interval m d t) (interval n e u) p q =
      of_one_kind 20 _ _ _ refl
      (then_compares _ _ _ _ _ _ (compares_32_bits m n p.0 q.0)
      (then_compares _ _ _ _ _ _ (compares_32_bits d e p.1 q.1) (compares_64_bits t u p.2 q.2)))
  tree_compares (string k s) (string l t) p q = of_one_kind 208 _ _ _ refl (text_compares s t)
  tree_compares (object ms) (object ns) p q = of_one_kind 209 _ _ _ refl (members_compare ms ns p.1 q.1)
  tree_compares (array ts) (array us) p q = of_one_kind 210 _ _ _ refl (items_compare ts us p q)
  tree_compares null null p q = same_bytes (211 ∷ [])
  tree_compares (number m) u p q = number_first m u p q
  tree_compares t (number n) p q = number_second t n p q
  tree_compares (boolean true) (boolean true) p q = record { compared = λ x y. refl }
  tree_compares (boolean true) (boolean false) p q = record { compared = λ x y. refl }
  tree_compares (boolean false) (boolean true) p q = record { compared = λ x y. refl }
  tree_compares (boolean false) (boolean false) p q = record { compared = λ x y. refl }
  tree_compares (boolean true) u p q = record { compared = λ x y. refl }
  tree_compares (boolean false) u p q = record { compared = λ x y. refl }
  tree_compares t (boolean true) p q = record { compared = λ x y. refl }
  tree_compares t (boolean false) p q = record { compared = λ x y. refl }
  tree_compares t u p q = record { compared = λ x y. refl }

  items_compare : (ts us : Trees) → AreProper ts → AreProper us → Compares (items_key ts) (items_key us) (trees_cmp ts us)
  items_compare no_trees no_trees p q = same_bytes (0 ∷ [])
  items_compare no_trees (more_trees u us) p q = items_end u (items_key us) q.0
  items_compare (more_trees t ts) no_trees p q = items_go_on t (items_key ts) p.0
  items_compare (more_trees t ts) (more_trees u us) p q =
      then_compares _ _ _ _ _ _ (tree_compares t u p.0 q.0) (items_compare ts us p.1 q.1)

  members_compare : (ms ns : Members) → HaveProperParts ms → HaveProperParts ns → Compares (members_key ms) (members_key ns) (members_cmp ms ns)
  members_compare no_members no_members p q = same_bytes (0 ∷ 0 ∷ [])
  members_compare no_members (more_members l u ns) p q = members_end l (key_of u ++ members_key ns)
  members_compare (more_members k t ms) no_members p q = members_go_on k (key_of t ++ members_key ms)
  members_compare (more_members k t ms) (more_members l u ns) p q =
      then_compares _ _ _ _ _ _ (text_compares k l)
      (then_compares _ _ _ _ _ _ (tree_compares t u p.1 q.1) (members_compare ms ns p.2 q.2))

-- ---- what follows for keys alone

then_equal : (r : Ordering) → ordering_then r Equal ≡ r
then_equal Less = refl
then_equal Equal = refl
then_equal Greater = refl

second_ties : (r s : Ordering) → ordering_then r s ≡ Equal → s ≡ Equal
second_ties Less s e = cc e
second_ties Equal s e = e
second_ties Greater s e = cc e

same_lists : (xs : List ℕ) → bytes_cmp xs xs ≡ Equal
same_lists xs = tied_itself nat_list_cmp_total xs

nothing_more : (more : List ℕ) → bytes_cmp more [] ≡ Equal → more ≡ []
nothing_more [] e = refl
nothing_more (b ∷ more) e = cc e

pub keys_order : (t u : Tree) → IsProper t → IsProper u → bytes_cmp (key_of t) (key_of u) ≡ tree_cmp t u
keys_order t u p q =
    (λ i. bytes_cmp (sym (append-nil (key_of t)) i) (sym (append-nil (key_of u)) i)) ∙ (tree_compares t u p q).compared [] []
    ∙ then_equal (tree_cmp t u)

pub keys_same : (t u : Tree) → IsProper t → IsProper u → (key_of t ≡ key_of u) ↔ Same t u
keys_same t u p q = (
  λ e. sym (keys_order t u p q) ∙ ap (bytes_cmp (key_of t)) (sym e) ∙ same_lists (key_of t),
  λ s. exact_bytes (key_of t) (key_of u) (keys_order t u p q ∙ s),
)

pub keys_no_front : (t u : Tree) → IsProper t → IsProper u → (more : List ℕ) → key_of u ≡ key_of t ++ more → more ≡ []
keys_no_front t u p q more e =
    nothing_more more
    (second_ties (tree_cmp t u) (bytes_cmp more [])
    (sym ((tree_compares t u p q).compared more []) ∙ ap (bytes_cmp (key_of t ++ more)) (append-nil (key_of u) ∙ e) ∙ same_lists (key_of t ++ more)))
