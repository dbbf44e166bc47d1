-- One step of a merge of members, and the keys of items.
use Rattle.std.specs.Prelude.{◌≡◌, ◌⊎◌, List, [], ℕ, ◌++◌, MatchBool}
use Rattle.jsonb_spec.specs.SortKey.Checked.{HaveReadable}
use Rattle.jsonb_spec.specs.SortKey.Passing.{joined_members}
use Rattle.jsonb_spec.specs.SortKey.{key_of, members_key}
use Rattle.jsonb_spec.specs.Tree.{Trees, no_trees, more_trees, Members, no_members}
use Rattle.jsonb_spec.specs.Edit.{merged_members}
use Rattle.key_edit.specs.declared.merge.Step.{Step}
use Rattle.jsonb_spec.specs.Edit.Merging.{keys_of_members, AreFirst, AreReplaced}

-- the keys of the items, without the end of an array
abbrev pub keys_of_items : Trees → List ℕ
keys_of_items no_trees = []
keys_of_items (more_trees t ts) = key_of t ++ keys_of_items ts

-- Some of the members come before all of the others, and those behind them are left.
pub record ComeFirst (ms ns : Members) (rest : List ℕ) : Type 0 where
  pub first : Members
  pub left : Members
  pub is : ms ≡ joined_members first left
  pub are_first : AreFirst first ns
  pub readable : HaveReadable left
  pub rest_is : rest ≡ members_key left

-- The members of both begin with these: a run of those on the left side that come before all on the right, and a part
-- of those on the right that come before what is left on the left; a member with the first name of the part is
-- replaced. What is left on both sides is merged behind them.
pub record StepsOn (ms ns : Members) (step : Step) : Type 0 where
  pub run : Members
  pub replaced : Members
  pub part : Members
  pub members : Members
  pub others : Members
  pub left_is : ms ≡ joined_members run (joined_members replaced members)
  pub right_is : ns ≡ joined_members part others
  pub run_first : AreFirst run ns
  pub part_first : AreFirst part members
  pub are_replaced : AreReplaced replaced part
  pub merged_is : merged_members ms ns ≡ joined_members run (joined_members part (merged_members members others))
  pub run_is : step.run.now ≡ keys_of_members run
  pub part_is : step.part.now ≡ keys_of_members part
  pub members_are : step.members.now ≡ members_key members
  pub others_are : step.others.now ≡ members_key others
  pub readable : HaveReadable members
  pub others_readable : HaveReadable others

-- One side has no member, and the bytes are those of all members on the other one.
abbrev pub IsLast : Members → Members → Step → Type 0
IsLast ms ns step =
    ((ms ≡ no_members) × (step.run.now ≡ []) × (step.part.now ≡ members_key ns))
    ⊎ ((ns ≡ no_members) × (step.run.now ≡ members_key ms) × (step.part.now ≡ []))

-- The bytes are the last ones, or they come first.
abbrev pub IsStep : Members → Members → Step → Type 0
IsStep ms ns step = MatchBool step.over (IsLast ms ns step) (StepsOn ms ns step)
