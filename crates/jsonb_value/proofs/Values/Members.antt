-- A map's entries beside the members that they mean.
use Rattle.std.proofs.Common.{◌≡◌, ℕ, List, [], ◌∷◌, ◌++◌, String, Global, Ordering, Less, Equal, Greater, string_bytes, string_cmp, refl, sym, ap, subst, append_assoc, append-nil, ◌∙◌}
use Rattle.std.specs.BTreeMap.{insert_entry}
use Rattle.std.specs.List.{AllByRecursion}
use Rattle.std.specs.List.Sorted.{IsStrictlySortedBy}
use Rattle.std.specs.Map.{keys_of}
use Rattle.std.specs.Ordering.{match_ordering}
use Rattle.jsonb_spec.specs.Tree.{no_members, more_members, put, put_all}
use Rattle.jsonb_core.proofs.Trees.MembersInOrder.{turned}
use Rattle.jsonb_value.specs.View.{view, members_view, pairs_view}
use Rattle.jsonb_value.specs.declared.value.Value.{Value}

abbrev pub Entry : Type 0
Entry = String Global × Value

members_view-match_ordering : (o : Ordering) (a b c : List Entry) → members_view (match_ordering o a b c) ≡ match_ordering o (members_view a) (members_view b) (members_view c)
members_view-match_ordering Less a b c = refl
members_view-match_ordering Equal a b c = refl
members_view-match_ordering Greater a b c = refl

-- an insert puts the value's tree at the key
pub members_view-insert_entry : (es : List Entry) (k : String Global) (v : Value) → members_view (insert_entry string_cmp es k v) ≡ put (string_bytes k) (view v) (members_view es)
members_view-insert_entry [] k v = refl
members_view-insert_entry (e ∷ es) k v =
    members_view-match_ordering (string_cmp k e.0) _ _ _ ∙ rw (members_view-insert_entry es k v)

at_middle : (P : String Global → Type 0) (es : List Entry) (e : Entry) (more : List Entry) → AllByRecursion P (keys_of (es ++ e ∷ more)) → P e.0
at_middle P [] e more h = h.0
at_middle P (x ∷ es) e more h = at_middle P es e more h.1

-- a key above all others goes last
put_last : (done : List Entry) (e : Entry) (more : List Entry) → IsStrictlySortedBy string_cmp (keys_of (done ++ e ∷ more))
    → put (string_bytes e.0) (view e.1) (members_view done) ≡ members_view (done ++ e ∷ [])
unfolding IsStrictlySortedBy
put_last [] e more h = refl
put_last (x ∷ done) e more h =
    let above = turned (string_bytes x.0) (string_bytes e.0) (at_middle (λ k. string_cmp x.0 k ≡ Less) done e more h.0) in
    rw above (ap (more_members (string_bytes x.0) (view x.1)) (put_last done e more h.1))

put_all-from : (left done : List Entry) → IsStrictlySortedBy string_cmp (keys_of (done ++ left)) → put_all (pairs_view left) (members_view done) ≡ members_view (done ++ left)
put_all-from [] done h = ap members_view (sym (append-nil done))
put_all-from (e ∷ left) done h =
    let moved : done ++ e ∷ left ≡ (done ++ e ∷ []) ++ left = sym (append_assoc done (e ∷ []) left) in
    ap (put_all (pairs_view left)) (put_last done e left h)
    ∙ put_all-from left (done ++ e ∷ []) (subst (λ es. IsStrictlySortedBy string_cmp (keys_of es)) moved h)
    ∙ ap members_view (sym moved)

-- members whose keys ascend, put in one after the other, stay as they are
pub put_all-sorted : (es : List Entry) → IsStrictlySortedBy string_cmp (keys_of es) → put_all (pairs_view es) no_members ≡ members_view es
put_all-sorted es h = put_all-from es [] h

-- a copy of the next member joins the copies
pub put_all-more : (all es : List Entry) (e : Entry) (left copies more : List Entry) (k : String Global) (v : Value) → es ≡ e ∷ left → more ≡ insert_entry string_cmp copies k v
    → string_bytes k ≡ string_bytes e.0 → view v ≡ view e.1 → put_all (pairs_view es) (members_view copies) ≡ members_view all → put_all (pairs_view left) (members_view more) ≡ members_view all
put_all-more all es e left copies more k v next inserted named copied so_far =
    ap (put_all (pairs_view left)) (ap members_view inserted ∙ members_view-insert_entry copies k v ∙ (λ i. put (named i) (copied i) (members_view copies)))
    ∙ ap (λ fs. put_all (pairs_view fs) (members_view copies)) (sym next)
    ∙ so_far
