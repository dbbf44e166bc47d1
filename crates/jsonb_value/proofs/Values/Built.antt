-- A map that is built at once of pairs in the order of their keys has these pairs.
use Rattle.std.proofs.Common.{◌≡◌, ℕ, List, [], ◌∷◌, Ordering, Less, Equal, Greater, Option, Some, None, unwrap_or, true, BTreeMap, String, Global, string_bytes, string_cmp, nat_cmp, ⊎_elim, refl, ap, sym, ◌∙◌, rules}
use Rattle.std.proofs.lemmas.Cmp.{eq_by_cmp_equiv, tied_itself}
use Rattle.std.proofs.lemmas.Bool.{cases_Bool}
use Rattle.std.proofs.lemmas.Map.{lookup-none}
use Rattle.std.proofs.lemmas.Map.Entries.{lookup_head, lookup_tail, none_past_head, none_below_head}
use Rattle.std.proofs.lemmas.Map.Keys.{sorted_tail, IsDistinct-from_sorted}
use Rattle.std.proofs.lemmas.Map.Lookups.{exact_bytes}
use Rattle.std.proofs.lemmas.Map.Made.{update_all_none}
use Rattle.std.specs.BTreeMap.{IsFromIterResult, is_at}
use Rattle.std.specs.Cmp.Lexicographic.{slice_cmp}
use Rattle.std.specs.List.{AllByRecursion}
use Rattle.std.specs.List.Sorted.{IsStrictlySortedBy}
use Rattle.std.specs.Map.{keys_of, lookup}
use Rattle.std.specs.Ordering.{eq_by_cmp, is_eq, ordering_reverse}
use Rattle.std.specs.String.{string_cmp_total}
use Rattle.jsonb_spec.specs.Keys.{IsBelowKeys, KeysAscend}
use Rattle.jsonb_spec.specs.Tree.{Members, Member, no_members, more_members}
use Rattle.jsonb_value.specs.View.{view, members_view, pairs_view}
use Rattle.jsonb_value.specs.declared.value.Value.{Value}
use Rattle.jsonb_value.proofs.Values.Members.{Entry}

above_key : (k : List ℕ) (es : List Entry) → IsBelowKeys k (members_view es) → AllByRecursion (λ y. slice_cmp nat_cmp k (string_bytes y) ≡ Less) (keys_of es)
above_key k [] h = tt
above_key k (e ∷ es) h = (h.0, above_key k es h.1)

keys_sorted : (es : List Entry) → KeysAscend (members_view es) → IsStrictlySortedBy string_cmp (keys_of es)
unfolding IsStrictlySortedBy
keys_sorted [] h = tt
keys_sorted (e ∷ es) h = (above_key (string_bytes e.0) es h.0, keys_sorted es h.1)

-- the members that pairs are
abbrev pub members_of_pairs : List Member → Members
members_of_pairs [] = no_members
members_of_pairs (m ∷ ms) = more_members m.0 m.1 (members_of_pairs ms)

pub members_view-pairs_view : (es : List Entry) → members_view es ≡ members_of_pairs (pairs_view es)
members_view-pairs_view [] = refl
members_view-pairs_view (e ∷ es) = ap (more_members (string_bytes e.0) (view e.1)) (members_view-pairs_view es)

abbrev find : List Entry → String Global → Option Value
find es q = lookup (is_at (string_cmp q)) es

some_is_not_none : (v : Value) → Some v ≡ None → ⊥
some_is_not_none v e = absurd (search rules)

at_head : (x : Entry) (xs : List Entry) → find (x ∷ xs) x.0 ≡ Some x.1
at_head x xs = lookup_head (is_at (string_cmp x.0)) x xs (ap is_eq (tied_itself string_cmp_total x.0))

past_head : (q : String Global) (x : Entry) (xs : List Entry) → IsStrictlySortedBy string_cmp (keys_of (x ∷ xs)) → eq_by_cmp string_cmp q x.0 ≡ true → find xs q ≡ None
past_head q x xs s t = lookup-none (is_at (string_cmp q)) xs (none_past_head (eq_by_cmp_equiv string_cmp_total) q x xs (IsDistinct-from_sorted string_cmp _ s) t)

module _ (x y : Entry) (xs ys : List Entry) (s : IsStrictlySortedBy string_cmp (keys_of (x ∷ xs))) (t : IsStrictlySortedBy string_cmp (keys_of (y ∷ ys))) (h : (q : String Global) → find (x ∷ xs) q ≡ find (y ∷ ys) q) where
  by_heads : (r : Ordering) → string_cmp x.0 y.0 ≡ r → string_cmp x.0 y.0 ≡ Equal
  by_heads Less p = absurd (some_is_not_none x.1 (sym (at_head x xs) ∙ h x.0 ∙ lookup-none _ (y ∷ ys) (none_below_head string_cmp_total x.0 y ys t p)))
  by_heads Equal p = p
  by_heads Greater p = absurd (some_is_not_none y.1 (sym (at_head y ys) ∙ sym (h y.0) ∙ lookup-none _ (x ∷ xs) (none_below_head string_cmp_total y.0 x xs s (string_cmp_total.antisymm y.0 x.0 ∙ ap ordering_reverse p))))

  heads : string_cmp x.0 y.0 ≡ Equal
  heads = by_heads (string_cmp x.0 y.0) refl

  values : x.1 ≡ y.1
  values = ap (λ u. unwrap_or u x.1) (sym (at_head x xs) ∙ h x.0 ∙ lookup_head (is_at (string_cmp x.0)) y ys (ap is_eq heads))

  tails : (q : String Global) → find xs q ≡ find ys q
  tails q =
      let t' = eq_by_cmp_equiv string_cmp_total in
      let e : eq_by_cmp string_cmp q y.0 ≡ eq_by_cmp string_cmp q x.0 = t'.symm q y.0 ∙ sym (t'.congr x.0 y.0 q (ap is_eq heads)) ∙ t'.symm x.0 q in
      ⊎_elim
      (λ b. past_head q x xs s b ∙ sym (past_head q y ys t (e ∙ b)))
      (λ b. sym (lookup_tail (is_at (string_cmp q)) x xs b) ∙ h q ∙ lookup_tail (is_at (string_cmp q)) y ys (e ∙ b))
      (cases_Bool (eq_by_cmp string_cmp q x.0))

-- entries in order that answer every look-up alike are the same members
members_view-found : (es fs : List Entry) → IsStrictlySortedBy string_cmp (keys_of es) → IsStrictlySortedBy string_cmp (keys_of fs) → ((q : String Global) → find es q ≡ find fs q)
    → members_view es ≡ members_view fs
members_view-found [] [] s t h = refl
members_view-found [] (y ∷ ys) s t h = absurd (some_is_not_none y.1 (sym (h y.0 ∙ at_head y ys)))
members_view-found (x ∷ xs) [] s t h = absurd (some_is_not_none x.1 (sym (at_head x xs) ∙ h x.0))
members_view-found (x ∷ xs) (y ∷ ys) s t h =
    let r = members_view-found xs ys (sorted_tail string_cmp x.0 (keys_of xs) s) (sorted_tail string_cmp y.0 (keys_of ys) t) (tails x y xs ys s t h) in
    let same = exact_bytes (string_bytes x.0) (string_bytes y.0) (heads x y xs ys s t h) in
    λ i. more_members (same i) (view (values x y xs ys s t h i)) (r i)

-- pairs that look alike are the same members
pub members_view-alike : (es fs : List Entry) → pairs_view es ≡ pairs_view fs → members_view es ≡ members_view fs
members_view-alike es fs h = members_view-pairs_view es ∙ ap members_of_pairs h ∙ sym (members_view-pairs_view fs)

pub members_view-built : (es : List Entry) (m : BTreeMap (String Global) Value) → KeysAscend (members_view es) → IsFromIterResult string_cmp es m → members_view m.entries ≡ members_view es
members_view-built es m h made =
    let sorted = keys_sorted es h in
    members_view-found m.entries es made.1 sorted
    (λ q. made.0 q ∙ update_all_none (eq_by_cmp_equiv string_cmp_total) (eq_by_cmp string_cmp) (λ x y. refl) es q (IsDistinct-from_sorted string_cmp (keys_of es) sorted))
