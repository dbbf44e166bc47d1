-- A change at a path is one of the part that the path leads to.
use Rattle.std.proofs.Common.{◌≡◌, ℕ, zero, suc, ◌==◌, false, inl, inr, List, [], ◌∷◌, Option, Some, None, if◌then◌else◌, length, refl, sym, ap, subst, ◌∙◌}
use Rattle.std.specs.Option.{option_and_then}
use Rattle.std.specs.Ordering.{is_eq, match_ordering}
use Rattle.std.specs.Prelude.{option_map}
use Rattle.std.specs.Str.{bytes_eq}
use Rattle.std.specs.Str.Parse.{digits_value}
use Rattle.std.specs.declared.cmp.Ordering.{Ordering}
use Rattle.std.specs.declared.cmp.Ordering.TheVariants.{Less, Equal, Greater}
use Rattle.std.proofs.Math.Bool.{and-false}
use Rattle.std.proofs.lemmas.Bool.{cases_eq, cond-false, ne_eqb}
use Rattle.jsonb_path.proofs.PartsReadBack.{part_proper}
use Rattle.jsonb_spec.specs.Accessors.{find_member, item_at}
use Rattle.jsonb_spec.specs.Keys.{KeysAscend}
use Rattle.jsonb_spec.specs.Order.{bytes_cmp}
use Rattle.jsonb_spec.specs.PartAt.{child_at, index_named, leads_well, part_at}
use Rattle.jsonb_spec.specs.Proper.{IsProper}
use Rattle.jsonb_spec.specs.Tree.{Tree, array, object, Trees, no_trees, more_trees, Members, no_members, more_members}
use Rattle.key_walk.proofs.Occurrence.{below_all, equal_names}
use Rattle.jsonb_spec.specs.Edit.{Outcome, stays, goes, becomes, member_before, changed_member, item_before, changed_item, step_named, changed_at_step, changed_part, part_with, within, changed_at}
use Rattle.key_walk.proofs.Finds.{child_there}
use Rattle.key_document.proofs.Changing.{none_some}

pub some_none : {A : Type 0} {a : A} → Some a ≡ None → ⊥
some_none e = cc

becomes_stays : (t : Tree) → becomes t ≡ stays → ⊥
becomes_stays t e = cc

abbrev or_else : {A : Type 0} → A → Option A → A
or_else a None = a
or_else a (Some b) = b

pub same_some : {A : Type 0} {a b : A} → Some a ≡ Some b → a ≡ b
same_some {A} {a} e = ap (or_else a) e

-- What is changed is this part alone, and there is an answer where it doesn't stay as it is.
pub record ChangesPart {A : Type 0} (changed : (Option Tree → Outcome) → Option A) (part : Tree) : Type 0 where
  pub same : (change : Option Tree → Outcome) → changed change ≡ changed (λ there. change (Some part))
  pub some : (change : Option Tree → Outcome) → (change (Some part) ≡ stays → ⊥) → changed change ≡ None → ⊥

map_none : {A B : Type 0} (into : A → B) (x : Option A) → option_map into x ≡ None → x ≡ None
map_none into None e = refl
map_none into (Some a) e = absurd (some_none e)

inside : {A B : Type 0} (into : A → B) (changed : (Option Tree → Outcome) → Option A) (part : Tree) → ChangesPart changed part → ChangesPart (λ change. option_map into (changed change)) part
inside into changed part x = record {
  same = λ change. ap (option_map into) (x.same change);
  some = λ change other none. x.some change other (map_none into (changed change) none);
}

-- ---- members

member_some : (k : List ℕ) (o : Outcome) (ms : Members) → (o ≡ stays → ⊥) → member_before k o ms ≡ None → ⊥
member_some k stays ms other e = other refl
member_some k goes ms other e = some_none e
member_some k (becomes t) ms other e = some_none e

members_part : (name : List ℕ) (ms : Members) (part : Tree) → KeysAscend ms → find_member (bytes_eq name) ms ≡ Some part → ChangesPart (λ change. changed_member change name ms) part
members_part name no_members part a e = absurd (none_some e)
members_part name (more_members k t ms) part a e = by (members_part name ms part a.1) (bytes_cmp name k) refl
  where
    found : (o : Ordering) → bytes_cmp name k ≡ o → (if is_eq o then Some t else find_member (bytes_eq name) ms) ≡ Some part
    found o is = sym (ap (λ b. if b then Some t else find_member (bytes_eq name) ms) (equal_names name k ∙ ap is_eq is)) ∙ e

    by : (find_member (bytes_eq name) ms ≡ Some part → ChangesPart (λ change. changed_member change name ms) part) → (o : Ordering) → bytes_cmp name k ≡ o
        → ChangesPart (λ change. match_ordering o (member_before name (change None) (more_members k t ms)) (member_before k (change (Some t)) ms) (option_map (more_members k t) (changed_member change name ms))) part
    by rest Less less = absurd (none_some (sym (below_all name k ms less a.0) ∙ found Less less))
    by rest Equal equal =
        subst (λ u. ChangesPart (λ change. member_before k (change (Some t)) ms) u) (same_some (found Equal equal))
        (record { same = λ change. refl; some = λ change other none. member_some k (change (Some t)) ms other none })
    by rest Greater greater = inside (more_members k t) (λ change. changed_member change name ms) part (rest (found Greater greater))

-- ---- items

item_some : (o : Outcome) (ts : Trees) → (o ≡ stays → ⊥) → item_before o ts ≡ None → ⊥
item_some stays ts other e = other refl
item_some goes ts other e = some_none e
item_some (becomes t) ts other e = some_none e

items_part : (index : ℕ) (ts : Trees) (part : Tree) → item_at ts index ≡ Some part → ChangesPart (λ change. changed_item change index ts) part
items_part index no_trees part e = absurd (none_some e)
items_part zero (more_trees t ts) part e =
    subst (λ u. ChangesPart (λ change. item_before (change (Some t)) ts) u) (same_some e)
    (record { same = λ change. refl; some = λ change other none. item_some (change (Some t)) ts other none })
items_part (suc index) (more_trees t ts) part e = inside (more_trees t) (λ change. changed_item change index ts) part (items_part index ts part e)

-- an index is one that counts from the front
step_is : (name : List ℕ) (index : ℕ) → index_named name ≡ Some index → step_named name ≡ Some (false, index)
step_is [] index e = absurd (none_some e)
step_is (c ∷ cs) index e = elim (cases_eq c 45) [
  | inl minus ↦ absurd (none_some (sym (no_index cs) ∙ subst (λ d. index_named (d ∷ cs) ≡ Some index) minus e))
  | inr other ↦ cond-false (c == 45) _ (option_map (λ n. (false, n)) (index_named (c ∷ cs))) (ne_eqb c 45 other) ∙ ap (option_map (λ n. (false, n))) e
]
  where
    no_index : (cs : List ℕ) → index_named (45 ∷ cs) ≡ None
    no_index cs = ap (λ b. if b then Some (digits_value 10 (45 ∷ cs)) else None) (and-false (leads_well (45 ∷ cs)))

-- ---- a child, and a part within it

child_part : (name : List ℕ) (t u : Tree) → IsProper t → child_at name t ≡ Some u → ChangesPart (λ change. changed_part change name t) u
child_part name (object ms) u p e = inside object (λ change. changed_member change name ms) u (members_part name ms u p.0 e)
child_part name (array ts) u p e = by (index_named name) refl e
  where
    by : (o : Option ℕ) → index_named name ≡ o → option_and_then (item_at ts) o ≡ Some u → ChangesPart (λ change. changed_part change name (array ts)) u
    by None is e = absurd (none_some e)
    by (Some index) is e =
        subst (λ s. ChangesPart (λ change. option_map array (option_and_then (changed_at_step change ts) s)) u) (sym (step_is name index is))
        (inside array (λ change. changed_item change index ts) u (items_part index ts u e))
child_part name t u p e = absurd (none_some e)

with_none : (x : Option Tree) → part_with x ≡ stays → x ≡ None
with_none None e = refl
with_none (Some t) e = absurd (becomes_stays t e)

pub at_part : (name : List ℕ) (names : List (List ℕ)) (t part : Tree) → IsProper t → part_at (name ∷ names) t ≡ Some part → ChangesPart (λ change. changed_at change (name ∷ names) t) part
at_part name [] t part p e = by (child_at name t) refl e
  where
    by : (o : Option Tree) → child_at name t ≡ o → option_and_then (part_at []) o ≡ Some part → ChangesPart (λ change. changed_at change (name ∷ []) t) part
    by None is e = absurd (none_some e)
    by (Some u) is e = subst (λ v. ChangesPart (λ change. changed_part change name t) v) (same_some e) (child_part name t u p is)
at_part name (next ∷ names) t part p e = by (λ u q f. at_part next names u part q f) (child_at name t) refl e
  where
    by : ((u : Tree) → IsProper u → part_at (next ∷ names) u ≡ Some part → ChangesPart (λ change. changed_at change (next ∷ names) u) part)
        → (o : Option Tree) → child_at name t ≡ o → option_and_then (part_at (next ∷ names)) o ≡ Some part → ChangesPart (λ change. changed_at change (name ∷ next ∷ names) t) part
    by within_it None is e = absurd (none_some e)
    by within_it (Some u) is e =
        let outer = child_part name t u p is in
        let inner = within_it u (part_proper t (name ∷ []) u (u, child_there name t u is, refl) p) e in
        record {
          same = λ change.
              outer.same (within (changed_at change (next ∷ names))) ∙ ap (λ x. changed_part (λ there. part_with x) name t) (inner.same change)
              ∙ sym (outer.same (within (changed_at (λ there. change (Some part)) (next ∷ names))));
          some = λ change other none.
              outer.some (within (changed_at change (next ∷ names))) (λ same. inner.some change other (with_none (changed_at change (next ∷ names) u) same)) none;
        }

-- at a path that has names
pub part_changes : (names : List (List ℕ)) (t part : Tree) → (length names ≡ 0 → ⊥) → IsProper t → part_at names t ≡ Some part → ChangesPart (λ change. changed_at change names t) part
part_changes [] t part some p e = absurd (some refl)
part_changes (name ∷ names) t part some p e = at_part name names t part p e
