-- Two keys that are walked side by side: members and items, up to where they were walked.
use Rattle.std.proofs.Common.{◌≡◌, ℕ, ◌≤◌, ◌⊎◌, inl, inr, true, false, ◌&&◌, ◌||◌, List, [], ◌++◌, None, Less, Equal, Greater, refl, sym, ap, subst, ◌∙◌, append_assoc}
use Rattle.std.specs.Str.{bytes_eq}
use Rattle.jsonb_spec.specs.SortKey.Readable.{IsReadableAt}
use Rattle.key_walk.specs.declared.containment.Walk.{Walk}
use Rattle.jsonb_spec.specs.Containment.{any_item, holds, holds_members}
use Rattle.jsonb_spec.specs.SortKey.Open.{items, end_key}
use Rattle.key_walk.specs.SideBySide.{AreReadableAt, HaveReadableAt, IsLeft, Occurs, OccursInside}
use Rattle.key_walk.proofs.Holding.{below_more, drop_below, none_past, one_passed, first_found, items_open}
use Rattle.key_walk.proofs.Opens.{no_end}
use Rattle.key_walk.proofs.Occurrence.{regroup}
use Rattle.key_walk.proofs.Walked.{moved_on}
use Rattle.jsonb_spec.specs.Accessors.{find_member}
use Rattle.jsonb_spec.specs.Keys.{IsBelowKeys}
use Rattle.jsonb_spec.specs.Order.{bytes_cmp}
use Rattle.jsonb_spec.specs.SortKey.{key_of, items_key, members_key, text_key}
use Rattle.jsonb_spec.specs.Tree.{Tree, Trees, no_trees, more_trees, Members, no_members, more_members}

-- ---- our members, up to a name

-- the members that are left, among which the name is looked for
pub record MembersAhead (depth : ℕ) (ms : Members) (name key ours more : List ℕ) : Type 0 where
  pub left : Members
  pub have_readable : HaveReadableAt depth left
  pub found : find_member (bytes_eq name) ms ≡ find_member (bytes_eq name) left
  pub same : (u : Tree) (ns : Members) → IsBelowKeys name ns → holds_members ms (more_members name u ns) ≡ holds_members left (more_members name u ns)
  pub occurs : IsLeft key ours (members_key left ++ more)

abbrev pub PassesMembers : Walk → Walk → List ℕ → Type 0
PassesMembers start now name_key = (depth : ℕ) → depth ≤ 511 → (ms : Members) → HaveReadableAt depth ms → (name more : List ℕ) → name_key ≡ text_key name → IsLeft start.key.now start.ours.now (members_key ms ++ more)
    → MembersAhead depth ms name now.key.now now.ours.now more

pub members_ahead : (depth : ℕ) (ms : Members) (name key ours more : List ℕ) → HaveReadableAt depth ms → IsLeft key ours (members_key ms ++ more) → MembersAhead depth ms name key ours more
members_ahead depth ms name key ours more h occurs = record { left = ms; have_readable = h; found = refl; same = λ u ns below. refl; occurs = occurs }

-- the first of them
pub record MemberAhead (depth : ℕ) (ms : Members) (name key ours more : List ℕ) : Type 0 where
  pub first : List ℕ
  pub value : Tree
  pub readable : IsReadableAt depth value
  pub others : Members
  pub below : IsBelowKeys first others
  pub have_readable : HaveReadableAt depth others
  pub found : find_member (bytes_eq name) ms ≡ find_member (bytes_eq name) (more_members first value others)
  pub same : (u : Tree) (ns : Members) → IsBelowKeys name ns → holds_members ms (more_members name u ns) ≡ holds_members (more_members first value others) (more_members name u ns)
  pub occurs : IsLeft key ours (text_key first ++ (key_of value ++ (members_key others ++ more)))

none_or_first : (depth : ℕ) (ms : Members) (name key ours more : List ℕ) → MembersAhead depth ms name key ours more → ((find_member (bytes_eq name) ms ≡ None) × (ours ≡ end_key true ++ more)) ⊎ MemberAhead depth ms name key ours more
none_or_first depth ms name key ours more m = go m.left m.have_readable m.found m.same m.occurs
  where
    go : (left : Members) → HaveReadableAt depth left → find_member (bytes_eq name) ms ≡ find_member (bytes_eq name) left → ((u : Tree) (ns : Members) → IsBelowKeys name ns → holds_members ms (more_members name u ns) ≡ holds_members left (more_members name u ns)) → IsLeft key ours (members_key left ++ more)
        → ((find_member (bytes_eq name) ms ≡ None) × (ours ≡ end_key true ++ more)) ⊎ MemberAhead depth ms name key ours more
    go no_members h found same occurs = inl (found, occurs.is)
    go (more_members k t others) h found same occurs = inr (record {
      first = k;
      value = t;
      readable = record { proper = h.proper.1; within = h.within.0 };
      others = others;
      below = h.ascend.0;
      have_readable = record { ascend = h.ascend.1; proper = h.proper.2; within = h.within.1 };
      found = found;
      same = same;
      occurs = subst (IsLeft key ours) (regroup (text_key k) (key_of t) (members_key others) more) occurs;
    })

pub no_member_ahead : (depth : ℕ) (ms : Members) (name key ours more tail : List ℕ) → MembersAhead depth ms name key ours more → ours ≡ end_key true ++ tail → find_member (bytes_eq name) ms ≡ None
no_member_ahead depth ms name key ours more tail m over = elim (none_or_first depth ms name key ours more m) [
  | inl x ↦ x.0
  | inr n ↦ absurd (no_end true n.first n.value depth n.readable ours tail (members_key n.others ++ more) over n.occurs.is)
]

pub member_ahead : (depth : ℕ) (ms : Members) (name key ours more : List ℕ) → MembersAhead depth ms name key ours more → ((tail : List ℕ) → ours ≡ end_key true ++ tail → ⊥) → MemberAhead depth ms name key ours more
member_ahead depth ms name key ours more m not_over = elim (none_or_first depth ms name key ours more m) [
  | inl x ↦ absurd (not_over more x.1)
  | inr n ↦ n
]

-- its name is below the one that is looked for
pub member_passed : (depth : ℕ) (ms : Members) (name key ours more value others : List ℕ) (n : MemberAhead depth ms name key ours more) → bytes_cmp n.first name ≡ Less → others ≡ members_key n.others ++ more → MembersAhead depth ms name key others more
member_passed depth ms name key ours more value others n less is = record {
  left = n.others;
  have_readable = n.have_readable;
  found = n.found ∙ one_passed name n.first n.value n.others less;
  same = λ u ns below. n.same u ns below ∙ drop_below n.first n.value n.others (more_members name u ns) (less, below_more n.first name ns less below);
  occurs = moved_on key ours (text_key n.first ++ key_of n.value) others (members_key n.others ++ more) (subst (IsLeft key ours) (sym (append_assoc (text_key n.first) (key_of n.value) (members_key n.others ++ more))) n.occurs) is;
}

-- its name is above it
pub member_past : (depth : ℕ) (ms : Members) (name key ours more : List ℕ) (n : MemberAhead depth ms name key ours more) → bytes_cmp n.first name ≡ Greater → find_member (bytes_eq name) ms ≡ None
member_past depth ms name key ours more n above = n.found ∙ none_past name n.first n.value n.others above n.below

-- it is the one
pub member_is : (depth : ℕ) (ms : Members) (name key ours more : List ℕ) (n : MemberAhead depth ms name key ours more) → bytes_cmp n.first name ≡ Equal → (u : Tree) (ns : Members) → IsBelowKeys name ns
    → holds_members ms (more_members name u ns) ≡ (holds n.value u && holds_members n.others ns)
member_is depth ms name key ours more n same u ns below = n.same u ns below ∙ first_found name n.first n.value u n.others ns same below

-- ---- our items, up to a value

-- the items that are left, among which it is looked for
pub record ItemsAhead (depth : ℕ) (ts : Trees) (u : Tree) (key ours more : List ℕ) : Type 0 where
  pub left : Trees
  pub are_readable : AreReadableAt depth left
  pub same : any_item (λ t. holds t u) ts ≡ any_item (λ t. holds t u) left
  pub occurs : IsLeft key ours (items_key left ++ more)

abbrev pub PassesItems : Walk → Walk → Tree → Type 0
PassesItems start now u = (depth : ℕ) → depth ≤ 511 → (ts : Trees) → AreReadableAt depth ts → (more : List ℕ) → IsLeft start.key.now start.ours.now (items_key ts ++ more) → ItemsAhead depth ts u now.key.now now.ours.now more

pub items_ahead : (depth : ℕ) (ts : Trees) (u : Tree) (key ours more : List ℕ) → AreReadableAt depth ts → IsLeft key ours (items_key ts ++ more) → ItemsAhead depth ts u key ours more
items_ahead depth ts u key ours more h occurs = record { left = ts; are_readable = h; same = refl; occurs = occurs }

-- the first of them
pub record ItemAhead (depth : ℕ) (ts : Trees) (u : Tree) (key ours more : List ℕ) : Type 0 where
  pub item : Tree
  pub readable : IsReadableAt depth item
  pub others : Trees
  pub are_readable : AreReadableAt depth others
  pub same : any_item (λ t. holds t u) ts ≡ (holds item u || any_item (λ t. holds t u) others)
  pub occurs : IsLeft key ours (key_of item ++ (items_key others ++ more))

none_or_item : (depth : ℕ) (ts : Trees) (u : Tree) (key ours more : List ℕ) → ItemsAhead depth ts u key ours more → ((any_item (λ t. holds t u) ts ≡ false) × (ours ≡ end_key false ++ more)) ⊎ ItemAhead depth ts u key ours more
none_or_item depth ts u key ours more m = go m.left m.are_readable m.same m.occurs
  where
    go : (left : Trees) → AreReadableAt depth left → any_item (λ t. holds t u) ts ≡ any_item (λ t. holds t u) left → IsLeft key ours (items_key left ++ more) → ((any_item (λ t. holds t u) ts ≡ false) × (ours ≡ end_key false ++ more)) ⊎ ItemAhead depth ts u key ours more
    go no_trees h same occurs = inl (same, occurs.is)
    go (more_trees t others) h same occurs = inr (record {
      item = t;
      readable = record { proper = h.proper.0; within = h.within.0 };
      others = others;
      are_readable = record { proper = h.proper.1; within = h.within.1 };
      same = same;
      occurs = subst (IsLeft key ours) (append_assoc (key_of t) (items_key others) more) occurs;
    })

pub no_item_ahead : (depth : ℕ) (ts : Trees) (u : Tree) (key ours more tail : List ℕ) → ItemsAhead depth ts u key ours more → ours ≡ end_key false ++ tail → any_item (λ t. holds t u) ts ≡ false
no_item_ahead depth ts u key ours more tail m over = elim (none_or_item depth ts u key ours more m) [
  | inl x ↦ x.0
  | inr n ↦ absurd (no_end false [] n.item depth n.readable ours tail (items_key n.others ++ more) over n.occurs.is)
]

pub item_ahead : (depth : ℕ) (ts : Trees) (u : Tree) (key ours more : List ℕ) → ItemsAhead depth ts u key ours more → ((tail : List ℕ) → ours ≡ end_key false ++ tail → ⊥) → ItemAhead depth ts u key ours more
item_ahead depth ts u key ours more m not_over = elim (none_or_item depth ts u key ours more m) [
  | inl x ↦ absurd (not_over more x.1)
  | inr n ↦ n
]

-- it doesn't hold the value
pub item_passed : (depth : ℕ) (ts : Trees) (u : Tree) (key ours more others : List ℕ) (n : ItemAhead depth ts u key ours more) → holds n.item u ≡ false → others ≡ items_key n.others ++ more → ItemsAhead depth ts u key others more
item_passed depth ts u key ours more others n isnt is = record {
  left = n.others;
  are_readable = n.are_readable;
  same = n.same ∙ ap (λ b. b || any_item (λ t. holds t u) n.others) isnt;
  occurs = moved_on key ours (key_of n.item) others (items_key n.others ++ more) n.occurs is;
}

-- it holds the value
pub item_is : (depth : ℕ) (ts : Trees) (u : Tree) (key ours more : List ℕ) (n : ItemAhead depth ts u key ours more) → holds n.item u ≡ true → any_item (λ t. holds t u) ts ≡ true
item_is depth ts u key ours more n is = n.same ∙ ap (λ b. b || any_item (λ t. holds t u) n.others) is

pub item_inside : (depth : ℕ) (ts : Trees) (more behind : List ℕ) (walk : Walk) → depth ≤ 511 → AreReadableAt depth ts → Occurs walk (items_key ts ++ more) behind → OccursInside false walk more behind
item_inside depth ts more behind walk l h occurs = record { parts = items ts; is = refl; fits = items_open ts depth 511 l h; occurs = occurs }
