-- Items of two values, one after the other.
use Rattle.std.proofs.Common.{◌≡◌, ℕ, true, false, List, [], ◌∷◌, ◌++◌, Bor, Some, None, Result, Ok, Err, MatchResult, refl, sym, ap, subst, ◌∙◌, append_assoc, append-nil}
use Rattle.jsonb_spec.specs.SortKey.Readable.{IsAnyNumber, IsReadable}
use Rattle.key_value.proofs.Texts.{none_some}
use Rattle.jsonb_spec.specs.SortKey.Checked.{HaveReadable}
use Rattle.jsonb_spec.specs.SortKey.Open.{Open, items, members, is_object, open_key, IsOpen}
use Rattle.jsonb_spec.specs.SortKey.Parts.{opened_tree}
use Rattle.key_walk.proofs.Finds.{parent_of}
use Rattle.key_walk.proofs.Occurrence.{left_of, object_left}
use Rattle.jsonb_spec.specs.SortKey.{key_of, items_key, members_key}
use Rattle.jsonb_spec.specs.Text.Range.{IsWithin, AreWithin}
use Rattle.jsonb_spec.specs.Tree.{Tree, array, object, Trees, no_trees, more_trees, Members}
use Rattle.jsonb_spec.specs.Edit.{as_items, joined_items, merge, merged_members}
use Rattle.key_edit.specs.Merging.{keys_of_items}
use Rattle.key_edit.specs.declared.error.EditError.{EditError}
use Rattle.key_edit.specs.declared.error.EditError.TheVariants.{TooDeep}

pub items_end : (ts : Trees) → items_key ts ≡ keys_of_items ts ++ 0 ∷ []
items_end no_trees = refl
items_end (more_trees t ts) = ap (λ l. key_of t ++ l) (items_end ts) ∙ sym (append_assoc (key_of t) (keys_of_items ts) (0 ∷ []))

joined_key : (ts us : Trees) → items_key (joined_items ts us) ≡ keys_of_items ts ++ items_key us
joined_key no_trees us = refl
joined_key (more_trees t ts) us = ap (λ l. key_of t ++ l) (joined_key ts us) ∙ sym (append_assoc (key_of t) (keys_of_items ts) (items_key us))

pub joined_is : (ts us : Trees) (first second : List ℕ) → first ≡ keys_of_items ts → second ≡ keys_of_items us → 0xD2 ∷ (first ++ (second ++ 0 ∷ [])) ≡ key_of (array (joined_items ts us))
joined_is ts us first second e f = ap (λ l. 0xD2 ∷ l) (ap (λ l. l ++ (second ++ 0 ∷ [])) e ∙ ap (λ l. keys_of_items ts ++ (l ++ 0 ∷ [])) f ∙ ap (λ l. keys_of_items ts ++ l) (sym (items_end us)) ∙ sym (joined_key ts us))

pub joined_within : (ts us : Trees) (depth : ℕ) → AreWithin IsAnyNumber ts depth → AreWithin IsAnyNumber us depth → AreWithin IsAnyNumber (joined_items ts us) depth
joined_within no_trees us depth h i = i
joined_within (more_trees t ts) us depth h i = (h.0, joined_within ts us depth h.1 i)

pub second_within : (ts us : Trees) (depth : ℕ) → AreWithin IsAnyNumber (joined_items ts us) depth → AreWithin IsAnyNumber us depth
second_within no_trees us depth h = h
second_within (more_trees t ts) us depth h = second_within ts us depth h.1

-- ---- the items of one value

pub record ItemsThere (t : Tree) (rest : List ℕ) : Type 0 where
  pub ts : Trees
  pub whole : t ≡ array ts
  pub is : as_items t ≡ ts
  pub within : AreWithin IsAnyNumber ts 511
  pub occurs : rest ≡ items_key ts

pub items_there : (t : Tree) → IsReadable t → (key rest : List ℕ) → key ≡ key_of t → key ≡ 0xD2 ∷ rest → ItemsThere t rest
items_there t r key rest e begins =
    let x = parent_of t r 0xD2 rest key [] begins (e ∙ sym (append-nil (key_of t))) false refl in
    go x.open_there x.is x.fits x.occurs x.whole
  where
    true_false : true ≡ false → ⊥
    true_false x = cc

    go : (o : Open) → is_object o ≡ false → IsOpen o 511 → rest ≡ open_key o ++ [] → opened_tree o ≡ t → ItemsThere t rest
    go (members ms) is h occurs whole = absurd (true_false is)
    go (items ts) is h occurs whole = record { ts = ts; whole = sym whole; is = ap as_items (sym whole); within = h.1; occurs = occurs ∙ append-nil (items_key ts) }

abbrev pub ReportedItems : Tree → Result (Bor (List ℕ)) EditError → Type 0
ReportedItems t reported = MatchResult reported (λ l. (l.now ≡ keys_of_items (as_items t)) × AreWithin IsAnyNumber (as_items t) 511) (λ e. (e ≡ TooDeep) × (AreWithin IsAnyNumber (as_items t) 511 → ⊥))

pub array_items : (t : Tree) → IsReadable t → (key rest : List ℕ) → key ≡ key_of t → key ≡ 0xD2 ∷ rest → (reported : Result (Bor (List ℕ)) EditError)
    → ((last : ℕ) → (keys : List ℕ) → rest ≡ keys ++ last ∷ [] → MatchResult reported (λ front. front.now ≡ keys) (λ e. ⊥)) → ReportedItems t reported
array_items t r key rest e begins reported without =
    let x = items_there t r key rest e begins in
    go reported x (without 0 (keys_of_items x.ts) (x.occurs ∙ items_end x.ts))
  where
    go : (reported : Result (Bor (List ℕ)) EditError) → (x : ItemsThere t rest) → MatchResult reported (λ front. front.now ≡ keys_of_items x.ts) (λ e. ⊥) → ReportedItems t reported
    go (Ok l) x h = (h ∙ ap keys_of_items (sym x.is), subst (λ ts. AreWithin IsAnyNumber ts 511) (sym x.is) x.within)
    go (Err e) x h = absurd h

pub one_item : (t : Tree) (key : List ℕ) → key ≡ key_of t → ((ts : Trees) → (more : List ℕ) → key ≡ key_of (array ts) ++ more → None ≡ Some (items_key ts ++ more)) → (reported : Result (Bor (List ℕ)) EditError)
    → MatchResult reported (λ l. (l.now ≡ key) × IsWithin IsAnyNumber t 511) (λ e. (e ≡ TooDeep) × (IsWithin IsAnyNumber t 511 → ⊥)) → ReportedItems t reported
one_item (array ts) key e none reported h = absurd (none_some _ (none ts [] (e ∙ sym (append-nil (key_of (array ts))))))
one_item t key e none (Ok l) h = (h.0 ∙ e ∙ sym (append-nil (key_of t)), (h.1, tt))
one_item t key e none (Err x) h = (h.0, λ w. h.1 w.0)

-- ---- two values

-- the members of an object, by the bytes behind its first one
pub record MembersThere (t : Tree) (rest : List ℕ) : Type 0 where
  pub ms : Members
  pub is : t ≡ object ms
  pub readable : HaveReadable ms
  pub occurs : rest ≡ members_key ms

pub members_there : (t : Tree) → IsReadable t → (key rest : List ℕ) → key ≡ key_of t → key ≡ 0xD1 ∷ rest → MembersThere t rest
members_there t r key rest e begins =
    let o = object_left t r true rest [] (left_of t true rest [] (parent_of t r 0xD1 rest key [] begins (e ∙ sym (append-nil (key_of t))) true refl)) refl in
    record { ms = o.ms; is = sym o.is; readable = record { ascend = o.ascend; proper = o.proper; within = o.within }; occurs = o.occurs ∙ append-nil (members_key o.ms) }

pub merged_objects : (t u : Tree) (ms ns : Members) → t ≡ object ms → u ≡ object ns → object (merged_members ms ns) ≡ merge t u
merged_objects t u ms ns e f = ap (λ v. merge (object ms) v) (sym f) ∙ ap (λ v. merge v u) (sym e)

pub merged_items : (t u : Tree) → ((ms ns : Members) → t ≡ object ms → u ≡ object ns → ⊥) → array (joined_items (as_items t) (as_items u)) ≡ merge t u
merged_items (object ms) (object ns) other = absurd (other ms ns refl refl)
merged_items (object ms) u other = refl
merged_items t u other = refl
