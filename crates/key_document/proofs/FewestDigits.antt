-- Values with the fewest digits, changed: they are the changed values with the fewest digits.
use Rattle.std.proofs.Common.{◌≡◌, ◌↔◌, ℕ, zero, suc, ◌-◌, nat_lt, Bool, true, false, List, [], ◌∷◌, ◌++◌, Option, Some, None, option_map, Ordering, Less, Equal, Greater, if◌then◌else◌, refl, ap, ap₂, ◌∙◌, append-nil}
use Rattle.std.specs.Option.{option_and_then}
use Rattle.std.specs.Ordering.{match_ordering}
use Rattle.jsonb_spec.specs.Accessors.{trees_len}
use Rattle.jsonb_spec.specs.Document.{behind_key, document_of}
use Rattle.jsonb_spec.specs.Document.Zeros.{zeros_of}
use Rattle.jsonb_spec.specs.Edit.{Outcome, stays, goes, becomes, as_items, changed_at, changed_at_step, changed_item, changed_item_back, changed_items, changed_member, changed_part, item_before, joined_items, member_before, merge, merged_members, part_with, remove, set_to, step_named, with_item, with_member, with_part, within, without_part}
use Rattle.jsonb_spec.specs.Grammar.{max_depth}
use Rattle.jsonb_spec.specs.Order.{bytes_cmp}
use Rattle.jsonb_spec.specs.SortKey.{key_of}
use Rattle.jsonb_spec.specs.SortKey.FewestDigits.{with_fewest_digits, items_with_fewest_digits, members_with_fewest_digits}
use Rattle.jsonb_spec.specs.SortKey.Readable.{IsAnyNumber, IsReadable}
use Rattle.jsonb_spec.specs.Text.Range.{IsWithin, AreWithin, HaveWithin}
use Rattle.jsonb_spec.specs.Tree.{Tree, null, boolean, string, number, array, object, Trees, no_trees, more_trees, Members, no_members, more_members, put}
use Rattle.key_document.proofs.Fitting.{none_needed}
use Rattle.key_text.proofs.Whole.{key_retained, no_counts, readable_retained, within_retained}

-- ---- the document, and the depth

pub fewest_document : (t : Tree) → IsReadable t → IsReadable (with_fewest_digits t) × (document_of (with_fewest_digits t) ≡ key_of t)
fewest_document t r =
    let x = no_counts t max_depth r.within in
    let key = key_of (with_fewest_digits t) in (
      readable_retained t r,
      ap (λ counts. key ++ behind_key (zeros_of 0 counts)) x.all ∙ ap (λ zeros. key ++ behind_key zeros) (none_needed x.size 0) ∙ append-nil key ∙ key_retained t r.proper,
    )

mutual
  within_again : (t : Tree) (depth : ℕ) → IsWithin IsAnyNumber (with_fewest_digits t) depth → IsWithin IsAnyNumber t depth
  within_again (array ts) zero h = absurd h
  within_again (array ts) (suc depth) h = items_again ts depth h
  within_again (object ms) zero h = absurd h
  within_again (object ms) (suc depth) h = members_again ms depth h
  within_again (number n) depth h = tt
  within_again t depth h = h

  items_again : (ts : Trees) (depth : ℕ) → AreWithin IsAnyNumber (items_with_fewest_digits ts) depth → AreWithin IsAnyNumber ts depth
  items_again no_trees depth h = tt
  items_again (more_trees t ts) depth h = (within_again t depth h.0, items_again ts depth h.1)

  members_again : (ms : Members) (depth : ℕ) → HaveWithin IsAnyNumber (members_with_fewest_digits ms) depth → HaveWithin IsAnyNumber ms depth
  members_again no_members depth h = tt
  members_again (more_members k t ms) depth h = (within_again t depth h.0, members_again ms depth h.1)

pub same_depth : (t : Tree) (depth : ℕ) → IsWithin IsAnyNumber (with_fewest_digits t) depth ↔ IsWithin IsAnyNumber t depth
same_depth t depth = (within_again t depth, within_retained IsAnyNumber IsAnyNumber (λ n any. tt) t depth)

-- ---- a change, and the one that makes the same with the fewest digits

abbrev outcome_fewest : Outcome → Outcome
outcome_fewest stays = stays
outcome_fewest goes = goes
outcome_fewest (becomes t) = becomes (with_fewest_digits t)

abbrev Follows : (Option Tree → Outcome) → (Option Tree → Outcome) → Type 0
Follows change other = (there : Option Tree) → other (option_map with_fewest_digits there) ≡ outcome_fewest (change there)

-- ---- members

before_member : (k : List ℕ) (o : Outcome) (ms : Members) → member_before k (outcome_fewest o) (members_with_fewest_digits ms) ≡ option_map members_with_fewest_digits (member_before k o ms)
before_member k stays ms = refl
before_member k goes ms = refl
before_member k (becomes t) ms = refl

behind_member : (k : List ℕ) (t : Tree) (x : Option Members) → option_map (more_members k (with_fewest_digits t)) (option_map members_with_fewest_digits x) ≡ option_map members_with_fewest_digits (option_map (more_members k t) x)
behind_member k t None = refl
behind_member k t (Some ms) = refl

members_follow : (change other : Option Tree → Outcome) → Follows change other → (name : List ℕ) (ms : Members) → changed_member other name (members_with_fewest_digits ms) ≡ option_map members_with_fewest_digits (changed_member change name ms)
members_follow change other f name no_members = ap (λ o. member_before name o no_members) (f None) ∙ before_member name (change None) no_members
members_follow change other f name (more_members k t ms) = by (members_follow change other f name ms) (bytes_cmp name k)
  where
    by : changed_member other name (members_with_fewest_digits ms) ≡ option_map members_with_fewest_digits (changed_member change name ms) → (o : Ordering)
        → match_ordering o (member_before name (other None) (members_with_fewest_digits (more_members k t ms))) (member_before k (other (Some (with_fewest_digits t))) (members_with_fewest_digits ms)) (option_map (more_members k (with_fewest_digits t)) (changed_member other name (members_with_fewest_digits ms)))
        ≡ option_map members_with_fewest_digits (match_ordering o (member_before name (change None) (more_members k t ms)) (member_before k (change (Some t)) ms) (option_map (more_members k t) (changed_member change name ms)))
    by rest Less = ap (λ o. member_before name o (members_with_fewest_digits (more_members k t ms))) (f None) ∙ before_member name (change None) (more_members k t ms)
    by rest Equal = ap (λ o. member_before k o (members_with_fewest_digits ms)) (f (Some t)) ∙ before_member k (change (Some t)) ms
    by rest Greater = ap (option_map (more_members k (with_fewest_digits t))) rest ∙ behind_member k t (changed_member change name ms)

put_follows : (k : List ℕ) (t : Tree) (ms : Members) → put k (with_fewest_digits t) (members_with_fewest_digits ms) ≡ members_with_fewest_digits (put k t ms)
put_follows k t no_members = refl
put_follows k t (more_members l u ms) = by (put_follows k t ms) (bytes_cmp k l)
  where
    by : put k (with_fewest_digits t) (members_with_fewest_digits ms) ≡ members_with_fewest_digits (put k t ms) → (o : Ordering)
        → match_ordering o (more_members k (with_fewest_digits t) (members_with_fewest_digits (more_members l u ms))) (more_members l (with_fewest_digits t) (members_with_fewest_digits ms)) (more_members l (with_fewest_digits u) (put k (with_fewest_digits t) (members_with_fewest_digits ms)))
        ≡ members_with_fewest_digits (match_ordering o (more_members k t (more_members l u ms)) (more_members l t ms) (more_members l u (put k t ms)))
    by rest Less = refl
    by rest Equal = refl
    by rest Greater = ap (more_members l (with_fewest_digits u)) rest

-- ---- items

before_item : (o : Outcome) (ts : Trees) → item_before (outcome_fewest o) (items_with_fewest_digits ts) ≡ option_map items_with_fewest_digits (item_before o ts)
before_item stays ts = refl
before_item goes ts = refl
before_item (becomes t) ts = refl

behind_item : (t : Tree) (x : Option Trees) → option_map (more_trees (with_fewest_digits t)) (option_map items_with_fewest_digits x) ≡ option_map items_with_fewest_digits (option_map (more_trees t) x)
behind_item t None = refl
behind_item t (Some ts) = refl

item_follows : (change other : Option Tree → Outcome) → Follows change other → (index : ℕ) (ts : Trees) → changed_item other index (items_with_fewest_digits ts) ≡ option_map items_with_fewest_digits (changed_item change index ts)
item_follows change other f index no_trees = ap (λ o. item_before o no_trees) (f None) ∙ before_item (change None) no_trees
item_follows change other f zero (more_trees t ts) = ap (λ o. item_before o (items_with_fewest_digits ts)) (f (Some t)) ∙ before_item (change (Some t)) ts
item_follows change other f (suc index) (more_trees t ts) =
    ap (option_map (more_trees (with_fewest_digits t))) (item_follows change other f index ts) ∙ behind_item t (changed_item change index ts)

as_many : (ts : Trees) → trees_len (items_with_fewest_digits ts) ≡ trees_len ts
as_many no_trees = refl
as_many (more_trees t ts) = ap suc (as_many ts)

step_follows : (change other : Option Tree → Outcome) → Follows change other → (ts : Trees) (step : Bool × ℕ) → changed_at_step other (items_with_fewest_digits ts) step ≡ option_map items_with_fewest_digits (changed_at_step change ts step)
step_follows change other f ts (false, index) = item_follows change other f index ts
step_follows change other f ts (true, back) =
    ap (λ n. if nat_lt n back then item_before (other None) (items_with_fewest_digits ts) else changed_item other (n - back) (items_with_fewest_digits ts)) (as_many ts) ∙ by (nat_lt (trees_len ts) back)
  where
    by : (b : Bool) → (if b then item_before (other None) (items_with_fewest_digits ts) else changed_item other (trees_len ts - back) (items_with_fewest_digits ts))
        ≡ option_map items_with_fewest_digits (if b then item_before (change None) ts else changed_item change (trees_len ts - back) ts)
    by true = ap (λ o. item_before o (items_with_fewest_digits ts)) (f None) ∙ before_item (change None) ts
    by false = item_follows change other f (trees_len ts - back) ts

-- ---- a part, and one at a path

of_items : (x : Option Trees) → option_map array (option_map items_with_fewest_digits x) ≡ option_map with_fewest_digits (option_map array x)
of_items None = refl
of_items (Some ts) = refl

of_members : (x : Option Members) → option_map object (option_map members_with_fewest_digits x) ≡ option_map with_fewest_digits (option_map object x)
of_members None = refl
of_members (Some ms) = refl

named_follows : (change other : Option Tree → Outcome) → Follows change other → (ts : Trees) (x : Option (Bool × ℕ)) → option_map array (option_and_then (changed_at_step other (items_with_fewest_digits ts)) x) ≡ option_map with_fewest_digits (option_map array (option_and_then (changed_at_step change ts) x))
named_follows change other f ts None = refl
named_follows change other f ts (Some step) = ap (option_map array) (step_follows change other f ts step) ∙ of_items (changed_at_step change ts step)

part_follows : (change other : Option Tree → Outcome) → Follows change other → (name : List ℕ) (t : Tree) → changed_part other name (with_fewest_digits t) ≡ option_map with_fewest_digits (changed_part change name t)
part_follows change other f name (object ms) = ap (option_map object) (members_follow change other f name ms) ∙ of_members (changed_member change name ms)
part_follows change other f name (array ts) = named_follows change other f ts (step_named name)
part_follows change other f name t = refl

within_follows : (change other : Tree → Option Tree) → ((t : Tree) → other (with_fewest_digits t) ≡ option_map with_fewest_digits (change t)) → Follows (within change) (within other)
within_follows change other f None = refl
within_follows change other f (Some t) = ap part_with (f t) ∙ by (change t)
  where
    by : (x : Option Tree) → part_with (option_map with_fewest_digits x) ≡ outcome_fewest (part_with x)
    by None = refl
    by (Some u) = refl

path_follows : (change other : Option Tree → Outcome) → Follows change other → (names : List (List ℕ)) (t : Tree) → changed_at other names (with_fewest_digits t) ≡ option_map with_fewest_digits (changed_at change names t)
path_follows change other f [] t = refl
path_follows change other f (name ∷ []) t = part_follows change other f name t
path_follows change other f (name ∷ next ∷ names) t =
    part_follows (within (changed_at change (next ∷ names))) (within (changed_at other (next ∷ names))) (within_follows (changed_at change (next ∷ names)) (changed_at other (next ∷ names)) (path_follows change other f (next ∷ names))) name t

-- ---- the changes

pub set_fewest : (names : List (List ℕ)) (part : Tree) (create : Bool) (t : Tree) → with_part names (with_fewest_digits part) create (with_fewest_digits t) ≡ option_map with_fewest_digits (with_part names part create t)
set_fewest names part create t = path_follows (set_to part create) (set_to (with_fewest_digits part) create) (follows create) names t
  where
    follows : (create : Bool) → Follows (set_to part create) (set_to (with_fewest_digits part) create)
    follows true None = refl
    follows false None = refl
    follows create (Some u) = refl

pub removed_fewest : (names : List (List ℕ)) (t : Tree) → without_part names (with_fewest_digits t) ≡ option_map with_fewest_digits (without_part names t)
removed_fewest names t = path_follows remove remove follows names t
  where
    follows : Follows remove remove
    follows None = refl
    follows (Some u) = refl

pub member_fewest : (name : List ℕ) (part t : Tree) → with_member name (with_fewest_digits part) (with_fewest_digits t) ≡ option_map with_fewest_digits (with_member name part t)
member_fewest name part (object ms) = ap (λ ns. Some (object ns)) (put_follows name part ms)
member_fewest name part t = refl

joined_follow : (ts us : Trees) → joined_items (items_with_fewest_digits ts) (items_with_fewest_digits us) ≡ items_with_fewest_digits (joined_items ts us)
joined_follow no_trees us = refl
joined_follow (more_trees t ts) us = ap (more_trees (with_fewest_digits t)) (joined_follow ts us)

pub item_fewest : (part t : Tree) → with_item (with_fewest_digits part) (with_fewest_digits t) ≡ option_map with_fewest_digits (with_item part t)
item_fewest part (array ts) = ap (λ us. Some (array us)) (joined_follow ts (more_trees part no_trees))
item_fewest part t = refl

merged_follow : (ms ns : Members) → merged_members (members_with_fewest_digits ms) (members_with_fewest_digits ns) ≡ members_with_fewest_digits (merged_members ms ns)
merged_follow ms no_members = refl
merged_follow ms (more_members k t ns) = ap (λ x. merged_members x (members_with_fewest_digits ns)) (put_follows k t ms) ∙ merged_follow (put k t ms) ns

items_follow : (t : Tree) → as_items (with_fewest_digits t) ≡ items_with_fewest_digits (as_items t)
items_follow (array ts) = refl
items_follow t = refl

both_follow : (t u : Tree) → array (joined_items (as_items (with_fewest_digits t)) (as_items (with_fewest_digits u))) ≡ array (items_with_fewest_digits (joined_items (as_items t) (as_items u)))
both_follow t u = ap₂ (λ ts us. array (joined_items ts us)) (items_follow t) (items_follow u) ∙ ap array (joined_follow (as_items t) (as_items u))

pub merged_fewest : (t u : Tree) → merge (with_fewest_digits t) (with_fewest_digits u) ≡ with_fewest_digits (merge t u)
merged_fewest (object ms) (object ns) = ap object (merged_follow ms ns)
merged_fewest (object ms) u = both_follow (object ms) u
merged_fewest t u = both_follow t u
