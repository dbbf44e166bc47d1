-- What the two makers build holds what was parsed.
use Rattle.std.proofs.Common.{◌≡◌, ◌≢◌, ℕ, Bool, true, false, MatchBool, cond, List, [], ◌∷◌, ◌++◌, map, String, Vec, Global, rules, Result, Some, None, Ok, Err, IfOk, OnOk, Less, Equal, Greater, is_eq, string_bytes, string_cmp, nat_cmp, refl, sym, ap, ap₂, subst, ◌∙◌}
use Rattle.std.proofs.lemmas.Cmp.{nat_list_cmp_total, tied_itself}
use Rattle.std.proofs.lemmas.List.{map-append}
use Rattle.std.specs.BTreeMap.{insert_entry, is_at}
use Rattle.std.specs.Cmp.Lexicographic.{slice_cmp}
use Rattle.std.specs.Map.{lookup}
use Rattle.std.specs.Ordering.{match_ordering}
use Rattle.jsonb_spec.specs.Grammar.{AreDistinct}
use Rattle.jsonb_spec.specs.Tree.{Member, Members, put, put_all, trees_of}
use Rattle.jsonb_spec.specs.Tree.Members.{no_members}
use Rattle.jsonb_spec.specs.Tree.Tree.{array, object}
use Rattle.jsonb_value.specs.View.{members_view, view}
use Rattle.jsonb_value.specs.declared.value.Value.{Value, the_lemmas}
use Rattle.jsonb_value.specs.declared.value.Value as value
use Rattle.jsonb_value.proofs.Values.Members.{Entry, members_view-insert_entry}
use Rattle.jsonb.specs.FrameContents.{AreSeen, MapHolds, found_keys, names}
use Rattle.text_parse.specs.Stack.{object_end}
use Rattle.jsonb.specs.Source.{source_view}
use Rattle.jsonb.specs.declared.parser.ast.JsonAst.{JsonAst}
use Rattle.jsonb.specs.declared.parser.ast.JsonAst as ast
use Rattle.jsonb_spec.specs.Parsing.Container.{object_or_fault}
use Rattle.jsonb_spec.specs.Source.{Found, Source, Spot, array_source_of, member_of, object_source_of, spot_of, tree_of_source}
use Rattle.text_common.proofs.Repeats.{no_repeat}
use Rattle.text_parse.proofs.Containers.Sources.{array_tree, object_tree}
use Rattle.text_parse.proofs.Containers.Values.{same_keys}
use Rattle.jsonb.proofs.Offsets.Views.{source-Array}
use Rattle.jsonb_core.proofs.Trees.MembersInOrder.{IsNew}

-- ---- values in turn

pub seen-snoc : {V : Type 0} (Sees : V → Source → Type 0) (vs : List V) (ss : List Source) (v : V) (s : Source) → AreSeen Sees vs ss → Sees v s → AreSeen Sees (vs ++ v ∷ []) (ss ++ s ∷ [])
seen-snoc Sees [] [] v s h i = (i, tt)
seen-snoc Sees [] (t ∷ ts) v s h i = absurd h
seen-snoc Sees (w ∷ vs) [] v s h i = absurd h
seen-snoc Sees (w ∷ vs) (t ∷ ts) v s h i = (h.0, seen-snoc Sees vs ts v s h.1 i)

-- ---- arrays

seen_map : {V W : Type 0} (f : V → W) (g : Source → W) (vs : List V) (ss : List Source) → AreSeen (λ v s. f v ≡ g s) vs ss → map f vs ≡ map g ss
seen_map f g [] [] h = refl
seen_map f g [] (s ∷ ss) h = absurd h
seen_map f g (v ∷ vs) [] h = absurd h
seen_map f g (v ∷ vs) (s ∷ ss) h = ap₂ (λ x xs. x ∷ xs) h.0 (seen_map f g vs ss h.1)

same-sources : (ss : List Source) → map (λ s. s) ss ≡ ss
same-sources [] = refl
same-sources (s ∷ ss) = ap (λ ts. s ∷ ts) (same-sources ss)

array_seen : (v : Vec Value Global) → view (value.Array v) ≡ array (trees_of (map view v.items))
array_seen v = search (rules, the_lemmas)

pub array_of_values : (v w : Vec Value Global) (ss : List Source) → w.items ≡ v.items → AreSeen (λ x s. view x ≡ tree_of_source s) v.items ss → view (value.Array w) ≡ tree_of_source (array_source_of ss)
array_of_values v w ss same seen =
    array_seen w ∙ ap (λ xs. array (trees_of (map view xs))) same ∙ ap (λ ts. array (trees_of ts)) (seen_map view tree_of_source v.items ss seen) ∙ sym (array_tree ss)

pub array_of_asts : (v : Vec JsonAst Global) (ss : List Source) → AreSeen (λ x s. source_view x ≡ s) v.items ss → source_view (ast.Array v) ≡ array_source_of ss
array_of_asts v ss seen = source-Array v ∙ ap array_source_of (seen_map source_view (λ s. s) v.items ss seen ∙ same-sources ss)

-- ---- the keys of a map

new-missing : (k : String Global) (es : List Entry) → lookup (is_at (string_cmp k)) es ≡ None → IsNew (string_bytes k) (names es)
new-missing k [] e = tt
new-missing k (x ∷ es) e =
    elim (is_eq (string_cmp k x.0)) as (λ b. is_eq (string_cmp k x.0) ≡ b → cond b (Some x.1) (lookup (is_at (string_cmp k)) es) ≡ None → IsNew (string_bytes k) (names (x ∷ es))) [
      | true ↦ λ p g. absurd cc
      | false ↦ λ p g. (λ same. let tied = tied_itself nat_list_cmp_total (string_bytes k) in absurd (let yes : is_eq (string_cmp k x.0) ≡ true = ap is_eq (ap (λ (l : List ℕ). slice_cmp nat_cmp (string_bytes k) l) (sym same) ∙ tied) in cc), new-missing k es g)
    ] refl e

-- a key that none of the map is with one more is none of the map, nor that one
new-insert : (l : List ℕ) (es : List Entry) (k : String Global) (v : Value) → IsNew l (names (insert_entry string_cmp es k v)) → lookup (is_at (string_cmp k)) es ≡ None → (l ≢ string_bytes k) × IsNew l (names es)
new-insert l [] k v h e = (h.0, tt)
new-insert l (x ∷ es) k v h e =
    elim (string_cmp k x.0) as (λ o. IsNew l (names (match_ordering o ((k, v) ∷ x ∷ es) ((x.0, v) ∷ es) (x ∷ insert_entry string_cmp es k v))) → cond (is_eq o) (Some x.1) (lookup (is_at (string_cmp k)) es) ≡ None → (l ≢ string_bytes k) × IsNew l (names (x ∷ es))) [
      | Less ↦ λ g n. g
      | Equal ↦ λ g n. absurd cc
      | Greater ↦ λ g n. let r = new-insert l es k v g.1 n in (r.0, (g.0, r.1))
    ] h e

new-snoc : (k l : List ℕ) (ls : List (List ℕ)) → IsNew k ls → k ≢ l → IsNew k (ls ++ l ∷ [])
new-snoc k l [] h n = (n, tt)
new-snoc k l (m ∷ ls) h n = (h.0, new-snoc k l ls h.1 n)

distinct-snoc : (l : List ℕ) (ls : List (List ℕ)) → AreDistinct ls → IsNew l ls → AreDistinct (ls ++ l ∷ [])
distinct-snoc l [] d h = (tt, tt)
distinct-snoc l (m ∷ ls) d h = (new-snoc m l ls d.0 (λ e. h.0 (sym e)), distinct-snoc l ls d.1 h.1)

found_keys-snoc : (fs : List Found) (f : Found) → found_keys (fs ++ f ∷ []) ≡ found_keys fs ++ f.key ∷ []
found_keys-snoc fs f = ap (λ ss. map (λ s. s.key) ss) (map-append spot_of fs (f ∷ [])) ∙ map-append (λ (s : Spot). s.key) (map spot_of fs) (spot_of f ∷ [])

put_all-snoc : (ms : List Member) (m : Member) (done : Members) → put_all (ms ++ m ∷ []) done ≡ put m.0 m.1 (put_all ms done)
put_all-snoc [] m done = refl
put_all-snoc (n ∷ ms) m done = put_all-snoc ms m (put n.0 n.1 done)

-- what follows for what was put in
pub on_ok : {X A P Q : Type 0} (r : Result X A) → (P → Q) → OnOk r P → OnOk r Q
on_ok (Ok x) f h = f h
on_ok (Err e) f h = tt

-- a member that the map takes, or whose key it has
pub if_put : {A E M P : Type 0} (r : Result Bool A) → IfOk r (λ _. E) → IfOk r (λ b. MatchBool b M (Unit {0})) → (E → M → P) → IfOk r (λ b. MatchBool b P (true ≡ true))
if_put (Ok true) e m f = f e m
if_put (Ok false) e m f = refl
if_put (Err x) e m f = tt

-- one more member, whose key the map does not have
pub put-more : (fs : List Found) (f : Found) (es more : List Entry) (k : String Global) (v : Value) → MapHolds fs es → more ≡ insert_entry string_cmp es k v → lookup (is_at (string_cmp k)) es ≡ None
    → string_bytes k ≡ f.key → view v ≡ tree_of_source f.source → MapHolds (fs ++ f ∷ []) more
put-more fs f es more k v h inserted missing named seen =
    record {
      put =
          ap members_view inserted ∙ members_view-insert_entry es k v
          ∙ (λ i. put (named i) (seen i) (h.put i))
          ∙ sym (ap (λ ms. put_all ms no_members) (map-append member_of fs (f ∷ [])) ∙ put_all-snoc (map member_of fs) (member_of f) no_members);
      distinct = subst AreDistinct (sym (found_keys-snoc fs f)) (distinct-snoc f.key (found_keys fs) h.distinct (h.known f.key (subst (λ l. IsNew l (names es)) named (new-missing k es missing))));
      known = λ l n.
          let r = new-insert l es k v (subst (λ xs. IsNew l (names xs)) inserted n) missing in
          subst (IsNew l) (sym (found_keys-snoc fs f)) (new-snoc l f.key (found_keys fs) (h.known l r.1) (λ e. r.0 (e ∙ sym named)));
    }

-- the object of the members that were found
pub put-end : (fs : List Found) (es : List Entry) (rest : List ℕ) → MapHolds fs es → (s : Source) × (object (members_view es) ≡ tree_of_source s) × (object_end fs rest ≡ Ok (s, rest))
put-end fs es rest h = (
  object_source_of fs,
  ap (λ ms. object ms) h.put ∙ sym (object_tree fs (subst AreDistinct (same_keys fs) h.distinct)),
  ap (λ o. object_or_fault o fs rest) (no_repeat (map spot_of fs) h.distinct),
)
