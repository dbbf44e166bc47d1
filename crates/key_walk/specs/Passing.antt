-- Members passed up to a name.
use Rattle.std.specs.Prelude.{◌≡◌, ◌++◌, List, ℕ, Option, Some, None, Ok, if◌then◌else◌, MatchOption}
use Rattle.std.specs.Ordering.{is_gt}
use Rattle.std.specs.Str.{bytes_eq}
use Rattle.jsonb_spec.specs.Order.{bytes_cmp}
use Rattle.jsonb_spec.specs.Keys.{IsBelowKeys}
use Rattle.jsonb_spec.specs.SortKey.{members_key}
use Rattle.jsonb_spec.specs.Tree.{Tree, Members, no_members, more_members}
use Rattle.jsonb_spec.specs.SortKey.Checked.{HaveReadable}
use Rattle.key_walk.specs.Found.{Finds}
use Rattle.key_walk.specs.declared.pass.Passed.{Passed}
use Rattle.jsonb_spec.specs.SortKey.Passing.{joined_members, AreBelow, IsFirst}

-- The first members are passed, whose names are below this one. It is below the names of all others, or the first of
-- them has it.
pub record PassesBelow (ms : Members) (name : List ℕ) (passed : Passed) : Type 0 where
  pub below : Members
  pub others : Members
  pub is : ms ≡ joined_members below others
  pub are_below : AreBelow below name
  pub readable : HaveReadable others
  pub rest_is : passed.rest.now ≡ members_key others
  pub same : MatchOption passed.same (IsBelowKeys name others) (IsFirst name others)

-- the members from the first one on whose name isn't below this one
abbrev pub members_from : List ℕ → Members → Members
members_from name no_members = no_members
members_from name (more_members first t ms) =
    if is_gt (bytes_cmp name first) then members_from name ms else more_members first t ms

-- the value of the first one, where it has this name
abbrev pub first_named : List ℕ → Members → Option Tree
first_named name no_members = None
first_named name (more_members first t ms) = if bytes_eq name first then Some t else None

-- Members are passed up to the first one whose name isn't below this one, and its value is found, if it has the name.
pub record PassesTo (bytes name : List ℕ) (ms : Members) (more : List ℕ) (passed : Passed) : Type 0 where
  pub rest_is : passed.rest.now ≡ members_key (members_from name ms) ++ more
  pub same : Finds bytes (first_named name (members_from name ms)) (Ok passed.same)
