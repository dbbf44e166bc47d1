-- What members and items hold, one after the other, in the order of their names.
use Rattle.std.proofs.Common.{◌≡◌, ℕ, zero, suc, ◌+◌, ◌-◌, ◌≤◌, true, false, ◌&&◌, if◌then◌else◌, Some, None, List, Less, Equal, Greater, refl, sym, ap, subst, ◌∙◌, arith}
use Rattle.std.proofs.lemmas.Map.Lookups.{exact_bytes}
use Rattle.std.specs.Cmp.Lexicographic.{nat_list_cmp_total}
use Rattle.std.specs.Ordering.{is_eq, ordering_reverse}
use Rattle.std.specs.Option.{option_map_or}
use Rattle.std.specs.Str.{bytes_eq}
use Rattle.jsonb_spec.specs.SortKey.Readable.{IsAnyNumber, IsReadableAt}
use Rattle.jsonb_path.proofs.PartsReadBack.{deeper}
use Rattle.jsonb_spec.specs.Containment.{holds, holds_members}
use Rattle.jsonb_spec.specs.SortKey.Open.{items, members, IsOpen}
use Rattle.key_walk.specs.SideBySide.{AreReadableAt, HaveReadableAt}
use Rattle.key_walk.proofs.Occurrence.{equal_names, below_all}
use Rattle.jsonb_spec.specs.Accessors.{find_member}
use Rattle.jsonb_spec.specs.Keys.{IsBelowKeys}
use Rattle.jsonb_spec.specs.Order.{bytes_cmp}
use Rattle.jsonb_spec.specs.Text.Range.{IsWithin, AreWithin, HaveWithin}
use Rattle.jsonb_spec.specs.Tree.{Tree, array, object, Trees, Members, no_members, more_members}

-- ---- names

other_name : (k l : List ℕ) → bytes_cmp k l ≡ Less → bytes_eq k l ≡ false
other_name k l less = equal_names k l ∙ ap is_eq less

pub above_is_other : (k l : List ℕ) → bytes_cmp k l ≡ Greater → bytes_eq k l ≡ false
above_is_other k l more = equal_names k l ∙ ap is_eq more

pub one_name : (k l : List ℕ) → bytes_cmp k l ≡ Equal → bytes_eq k l ≡ true
one_name k l same = equal_names k l ∙ ap is_eq same

pub turned_round : (k l : List ℕ) → bytes_cmp k l ≡ Greater → bytes_cmp l k ≡ Less
turned_round k l more = nat_list_cmp_total.antisymm l k ∙ ap ordering_reverse more

pub turned_back : (k l : List ℕ) → bytes_cmp k l ≡ Less → bytes_cmp l k ≡ Greater
turned_back k l less = nat_list_cmp_total.antisymm l k ∙ ap ordering_reverse less

pub below_more : (k l : List ℕ) (ns : Members) → bytes_cmp k l ≡ Less → IsBelowKeys l ns → IsBelowKeys k ns
below_more k l no_members less below = tt
below_more k l (more_members m u ns) less below = (nat_list_cmp_total.trans k l m less below.0, below_more k l ns less below.1)

-- ---- members

-- no member of a name below all of theirs is looked at
pub drop_below : (k : List ℕ) (t : Tree) (ms ns : Members) → IsBelowKeys k ns → holds_members (more_members k t ms) ns ≡ holds_members ms ns
drop_below k t ms no_members below = refl
drop_below k t ms (more_members name u ns) below =
    let other = above_is_other name k (turned_back k name below.0) in
    (λ i. option_map_or (λ v. holds v u) (if other i then Some t else find_member (bytes_eq name) ms) false && drop_below k t ms ns below.1 i)

-- a name below all of ours isn't there
pub none_past : (name k : List ℕ) (t : Tree) (ms : Members) → bytes_cmp k name ≡ Greater → IsBelowKeys k ms → find_member (bytes_eq name) (more_members k t ms) ≡ None
none_past name k t ms more below =
    let less = turned_round k name more in
    ap (λ b. if b then Some t else find_member (bytes_eq name) ms) (other_name name k less) ∙ below_all name k ms less below

-- the first of ours has another name
pub one_passed : (name k : List ℕ) (t : Tree) (ms : Members) → bytes_cmp k name ≡ Less → find_member (bytes_eq name) (more_members k t ms) ≡ find_member (bytes_eq name) ms
one_passed name k t ms less = ap (λ b. if b then Some t else find_member (bytes_eq name) ms) (above_is_other name k (turned_back k name less))

-- the first of ours has the name of the first of theirs
pub first_found : (name k : List ℕ) (t u : Tree) (ms ns : Members) → bytes_cmp k name ≡ Equal → IsBelowKeys name ns
    → holds_members (more_members k t ms) (more_members name u ns) ≡ (holds t u && holds_members ms ns)
first_found name k t u ms ns same others =
    let is = exact_bytes k name same in
    let found : bytes_eq name k ≡ true = ap (λ b. bytes_eq b k) (sym is) ∙ one_name k k (ap (bytes_cmp k) is ∙ same) in
    (λ i. option_map_or (λ v. holds v u) (if found i then Some t else find_member (bytes_eq name) ms) false && drop_below k t ms ns (subst (λ b. IsBelowKeys b ns) (sym is) others) i)

-- ---- as many levels left, or more

rising : (P : ℕ → Type 0) → ((d : ℕ) → P d → P (suc d)) → (depth more levels : ℕ) → more + depth ≡ levels → P depth → P levels
rising P step depth zero levels e p = let same : depth ≡ levels = omega (arith, e) in subst P same p
rising P step depth (suc more) levels e p = rising P step (suc depth) more levels (omega (arith, e)) (step depth p)

pub readable_up : (t : Tree) (depth levels : ℕ) → depth ≤ levels → IsReadableAt depth t → IsReadableAt levels t
readable_up t depth levels l r = record { proper = r.proper; within = rising (IsWithin IsAnyNumber t) (deeper IsAnyNumber t) depth (levels - depth) levels (omega (arith, l)) r.within }

pub items_open : (ts : Trees) (depth levels : ℕ) → depth ≤ levels → AreReadableAt depth ts → IsOpen (items ts) levels
items_open ts depth levels l r = (r.proper, rising (AreWithin IsAnyNumber ts) (λ d w. deeper IsAnyNumber (array ts) (suc d) w) depth (levels - depth) levels (omega (arith, l)) r.within)

pub members_open : (ms : Members) (depth levels : ℕ) → depth ≤ levels → HaveReadableAt depth ms → IsOpen (members ms) levels
members_open ms depth levels l r = (r.proper, rising (HaveWithin IsAnyNumber ms) (λ d w. deeper IsAnyNumber (object ms) (suc d) w) depth (levels - depth) levels (omega (arith, l)) r.within)
