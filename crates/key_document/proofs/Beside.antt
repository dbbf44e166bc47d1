-- Members and items that an object names, left out one after the other.
use Rattle.std.proofs.Common.{◌≡◌, ℕ, zero, suc, ◌<◌, ◌≤◌, ◌∷◌, inl, inr, MatchBool, Bool, true, false, ◌||◌, if◌then◌else◌, Less, List, [], ◌++◌, Option, Some, None, length, refl, sym, ap, subst, ◌∙◌, arith, length-append}
use Rattle.std.specs.Ordering.{is_eq}
use Rattle.std.specs.Str.{bytes_eq}
use Rattle.jsonb_spec.specs.SortKey.Readable.{IsAnyNumber}
use Rattle.jsonb_spec.specs.Containment.{any_item}
use Rattle.jsonb_spec.specs.Keys.{IsBelowKeys}
use Rattle.jsonb_spec.specs.Order.{bytes_cmp}
use Rattle.jsonb_spec.specs.Proper.{HaveProperParts}
use Rattle.jsonb_spec.specs.SortKey.{items_key, key_of, members_key, text_key}
use Rattle.jsonb_spec.specs.Text.Range.{IsWithin, AreWithin, HaveWithin}
use Rattle.jsonb_spec.specs.Tree.{Tree, null, boolean, string, number, array, object, Trees, no_trees, more_trees, Members, no_members, more_members}
use Rattle.std.proofs.lemmas.Slice.Eq.{bytes_eq-Decides}
use Rattle.key_walk.proofs.Holding.{above_is_other, turned_back}
use Rattle.key_walk.proofs.Occurrence.{equal_names}
use Rattle.jsonb_core.proofs.SortKeys.Texts.{text_key-other}
use Rattle.jsonb_spec.specs.SortKey.Passing.{joined_members}
use Rattle.jsonb_spec.specs.Edit.Merging.{AreFirst, AreReplaced, keys_of_members}
use Rattle.key_edit.specs.Merging.{IsLast}
use Rattle.key_edit.specs.declared.merge.Step.{Step}
use Rattle.key_edit.proofs.Merged.{joined_key}
use Rattle.jsonb_spec.specs.Edit.LeftOut.{any_named, beside_names, has_name, is_named, items_beside, members_beside}
use Rattle.key_document.specs.Retaining.{unless}
use Rattle.key_document.proofs.MembersJoined.{counts_each, counts_of_members, first_proper, joined_counts}
use Rattle.key_document.proofs.Retained.{PassedNext}
use Rattle.jsonb_spec.specs.Document.Counts.{counts_at, counts_at_items, counts_at_members}

-- ---- names

same_name : (k : List ℕ) → bytes_eq k k ≡ true
same_name k = (bytes_eq-Decides k k).1 refl

-- a name below those of the object isn't one of them
not_named : (k : List ℕ) (ns : Members) → IsBelowKeys k ns → has_name k ns ≡ false
not_named k no_members b = refl
not_named k (more_members l u ns) b = ap (λ x. x || has_name k ns) (equal_names k l ∙ ap is_eq b.0) ∙ not_named k ns b.1

-- a name of the object that is below those of the members isn't looked for
name_passed : (k l : List ℕ) (u : Tree) (ns : Members) → bytes_cmp l k ≡ Less → has_name k (more_members l u ns) ≡ has_name k ns
name_passed k l u ns less = ap (λ x. x || has_name k ns) (above_is_other k l (turned_back l k less))

rest_passed : (l : List ℕ) (u : Tree) (ns ms : Members) → IsBelowKeys l ms → members_beside (more_members l u ns) ms ≡ members_beside ns ms
rest_passed l u ns no_members b = refl
rest_passed l u ns (more_members k t ms) b = (λ i. if name_passed k l u ns b.0 i then rest_passed l u ns ms b.1 i else more_members k t (rest_passed l u ns ms b.1 i))

any_passed : (l : List ℕ) (u : Tree) (ns ms : Members) → IsBelowKeys l ms → any_named (more_members l u ns) ms ≡ any_named ns ms
any_passed l u ns no_members b = refl
any_passed l u ns (more_members k t ms) b = (λ i. name_passed k l u ns b.0 i || any_passed l u ns ms b.1 i)

-- where no name is left, all members stay
none_named : (ms : Members) → members_beside no_members ms ≡ ms
none_named no_members = refl
none_named (more_members k t ms) = ap (more_members k t) (none_named ms)

none_any : (ms : Members) → any_named no_members ms ≡ false
none_any no_members = refl
none_any (more_members k t ms) = none_any ms

pub rest_stays : (ms ns : Members) (step : Step) → IsLast ms ns step → (members_beside ns ms ≡ ms) × (any_named ns ms ≡ false)
rest_stays ms ns step l = elim l [
  | inl r ↦ (ap (members_beside ns) r.0 ∙ sym r.0, ap (any_named ns) r.0)
  | inr r ↦ (ap (λ n. members_beside n ms) r.0 ∙ none_named ms, ap (λ n. any_named n ms) r.0 ∙ none_any ms)
]

-- ---- a step through the members of an object

abbrev pub MemberPassed : Bool → Members → Members → Members → Members → Type 0
MemberPassed gone ms ns members others =
    PassedNext gone (members_key ms) (counts_at_members ms) (members_key (members_beside ns ms)) (counts_at_members (members_beside ns ms)) (members_key members) (counts_at_members members)
    (members_key (members_beside others members)) (counts_at_members (members_beside others members))
    × (any_named ns ms ≡ (gone || any_named others members))

-- those that come before all names stay
run_stays : (run ms ns : Members) → AreFirst run ns → members_beside ns (joined_members run ms) ≡ joined_members run (members_beside ns ms)
run_stays no_members ms ns h = refl
run_stays (more_members k t run) ms ns h =
    ap (λ b. if b then members_beside ns (joined_members run ms) else more_members k t (members_beside ns (joined_members run ms))) (not_named k ns h.0) ∙ ap (more_members k t) (run_stays run ms ns h.1)

run_any : (run ms ns : Members) → AreFirst run ns → any_named ns (joined_members run ms) ≡ any_named ns ms
run_any no_members ms ns h = refl
run_any (more_members k t run) ms ns h = ap (λ b. b || any_named ns (joined_members run ms)) (not_named k ns h.0) ∙ run_any run ms ns h.1

pub run_passed : (run ms ns : Members) → AreFirst run ns → HaveProperParts (joined_members run ms) → MemberPassed false (joined_members run ms) ns ms ns
run_passed run ms ns h p = (
  record {
    one = keys_of_members run;
    one_counts = counts_of_members run;
    each = counts_each run (first_proper run ms p);
    key_is = joined_key run ms;
    counts_are = joined_counts run ms;
    later_is = ap members_key (run_stays run ms ns h) ∙ joined_key run (members_beside ns ms);
    later_counts_are = ap counts_at_members (run_stays run ms ns h) ∙ joined_counts run (members_beside ns ms);
  },
  run_any run ms ns h,
)

-- names that come before all members aren't looked for
part_passed : (part ns ms : Members) → AreFirst part ms → members_beside (joined_members part ns) ms ≡ members_beside ns ms
part_passed no_members ns ms h = refl
part_passed (more_members l u part) ns ms h = rest_passed l u (joined_members part ns) ms h.0 ∙ part_passed part ns ms h.1

part_any : (part ns ms : Members) → AreFirst part ms → any_named (joined_members part ns) ms ≡ any_named ns ms
part_any no_members ns ms h = refl
part_any (more_members l u part) ns ms h = any_passed l u (joined_members part ns) ms h.0 ∙ part_any part ns ms h.1

some_key : (k : List ℕ) → 0 < length (text_key k)
some_key [] = omega arith
some_key (zero ∷ k) = omega arith
some_key (suc b ∷ k) = omega (arith, ap length (text_key-other b k))

-- none is replaced, and the part is passed
none_replaced : (ms part ns : Members) → AreFirst part ms → MemberPassed false ms (joined_members part ns) ms ns
none_replaced ms part ns h = (
  record {
    one = [];
    one_counts = [];
    each = refl;
    key_is = refl;
    counts_are = refl;
    later_is = ap members_key (part_passed part ns ms h);
    later_counts_are = ap counts_at_members (part_passed part ns ms h);
  },
  part_any part ns ms h,
)

-- one is replaced, which has the first name of the part
one_replaced : (k : List ℕ) (u : Tree) (ms : Members) (l : List ℕ) (v : Tree) (part ns : Members) → k ≡ l → AreFirst (more_members l v part) ms → HaveProperParts (more_members k u ms) → MemberPassed true (more_members k u ms) (joined_members (more_members l v part) ns) ms ns
one_replaced k u ms l v part ns same h p =
    let all = joined_members (more_members l v part) ns in
    let named : has_name k all ≡ true = ap (λ x. has_name x all) same ∙ ap (λ x. x || has_name l (joined_members part ns)) (same_name l) in
    let goes = ap (λ b. if b then members_beside all ms else more_members k u (members_beside all ms)) named ∙ part_passed (more_members l v part) ns ms h in (
      record {
        one = keys_of_members (more_members k u no_members);
        one_counts = counts_of_members (more_members k u no_members);
        each = counts_each (more_members k u no_members) (p.0, p.1, tt);
        key_is = joined_key (more_members k u no_members) ms;
        counts_are = joined_counts (more_members k u no_members) ms;
        later_is = ap members_key goes;
        later_counts_are = ap counts_at_members goes;
      },
      ap (λ b. b || any_named all ms) named,
    )

longer : (k : List ℕ) (u : Tree) (ms : Members) → length (members_key ms) < length (members_key (more_members k u ms))
longer k u ms = omega (arith, some_key k, length-append (text_key k) (key_of u ++ members_key ms), length-append (key_of u) (members_key ms))

pub replaced_passed : (gone : Bool) (replaced ms part ns : Members) → AreReplaced replaced part → AreFirst part ms → HaveProperParts (joined_members replaced ms)
    → MatchBool gone (length (members_key ms) < length (members_key (joined_members replaced ms))) (length (members_key (joined_members replaced ms)) ≤ length (members_key ms))
    → MemberPassed gone (joined_members replaced ms) (joined_members part ns) ms ns
replaced_passed true no_members ms part ns r h p m = absurd (omega (arith, m))
replaced_passed false no_members ms part ns r h p m = none_replaced ms part ns h
replaced_passed gone (more_members k u rest) ms no_members ns r h p m = absurd r
replaced_passed true (more_members k u no_members) ms (more_members l v part) ns r h p m = one_replaced k u ms l v part ns r.0 h p
replaced_passed false (more_members k u no_members) ms (more_members l v part) ns r h p m = absurd (omega (arith, m, longer k u ms))
replaced_passed gone (more_members k u (more_members j w rest)) ms (more_members l v part) ns r h p m = absurd (some_members r.1)
  where
    some_members : more_members j w rest ≡ no_members → ⊥
    some_members e = cc

-- ---- a step through the items of an array

pub push_key : (b : Bool) (one : Tree) (ts : Trees) → items_key (if b then ts else more_trees one ts) ≡ unless b (key_of one) (items_key ts)
push_key true one ts = refl
push_key false one ts = refl

pub push_counts : (b : Bool) (one : Tree) (ts : Trees) → counts_at_items (if b then ts else more_trees one ts) ≡ unless b (counts_at one) (counts_at_items ts)
push_counts true one ts = refl
push_counts false one ts = refl

-- ---- what stays is nested no deeper

pub picked : {X : Type 0} (Is : X → Type 0) (b : Bool) (x y : X) → Is x → Is y → Is (if b then x else y)
picked Is true x y p q = p
picked Is false x y p q = q

members_within : (ns ms : Members) (depth : ℕ) → HaveWithin IsAnyNumber ms depth → HaveWithin IsAnyNumber (members_beside ns ms) depth
members_within ns no_members depth w = tt
members_within ns (more_members k t ms) depth w =
    let rest = members_within ns ms depth w.1 in
    picked (λ m. HaveWithin IsAnyNumber m depth) (has_name k ns) (members_beside ns ms) (more_members k t (members_beside ns ms)) rest (w.0, rest)

items_within : (ns : Members) (ts : Trees) (depth : ℕ) → AreWithin IsAnyNumber ts depth → AreWithin IsAnyNumber (items_beside ns ts) depth
items_within ns no_trees depth w = tt
items_within ns (more_trees t ts) depth w =
    let rest = items_within ns ts depth w.1 in
    picked (λ m. AreWithin IsAnyNumber m depth) (is_named ns t) (items_beside ns ts) (more_trees t (items_beside ns ts)) rest (w.0, rest)

some_tree : (t u : Tree) → Some t ≡ Some u → t ≡ u
some_tree t u e = cc

pub no_tree : (u : Tree) → ◌≡◌ {A = Option Tree} None (Some u) → ⊥
no_tree u e = cc

pub by_case : (Is : Tree → Type 0) (b : Bool) (t u : Tree) → (if b then Some t else None) ≡ Some u → Is t → Is u
by_case Is true t u e p = subst Is (some_tree t u e) p
by_case Is false t u e p = absurd (no_tree u e)

pub beside_within : (ns : Members) (t u : Tree) → beside_names ns t ≡ Some u → IsWithin IsAnyNumber t 512 → IsWithin IsAnyNumber u 512
beside_within ns (object ms) u e w = by_case (λ x. IsWithin IsAnyNumber x 512) (any_named ns ms) (object (members_beside ns ms)) u e (members_within ns ms 511 w)
beside_within ns (array ts) u e w = by_case (λ x. IsWithin IsAnyNumber x 512) (any_item (is_named ns) ts) (array (items_beside ns ts)) u e (items_within ns ts 511 w)
beside_within ns null u e w = absurd (no_tree u e)
beside_within ns (boolean b) u e w = absurd (no_tree u e)
beside_within ns (string mark bytes) u e w = absurd (no_tree u e)
beside_within ns (number n) u e w = absurd (no_tree u e)
beside_within ns t u e w = absurd w

-- of neither an object nor an array nothing is left out
pub none_beside_scalar : (ns : Members) (t : Tree) → ((ms : Members) → t ≡ object ms → ⊥) → ((ts : Trees) → t ≡ array ts → ⊥) → beside_names ns t ≡ None
none_beside_scalar ns (object ms) a b = absurd (a ms refl)
none_beside_scalar ns (array ts) a b = absurd (b ts refl)
none_beside_scalar ns t a b = refl
