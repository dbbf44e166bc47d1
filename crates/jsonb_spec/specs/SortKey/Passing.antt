-- Members passed up to a name.
use Rattle.std.specs.Prelude.{◌≡◌, List, ℕ, ⊤, ◌++◌}
use Rattle.std.specs.Borrow.{Bor}
use Rattle.std.specs.declared.cmp.Ordering.TheVariants.{Less}
use Rattle.jsonb_spec.specs.Order.{bytes_cmp}
use Rattle.jsonb_spec.specs.SortKey.{key_of, members_key}
use Rattle.jsonb_spec.specs.Tree.{Tree, Members, no_members, more_members}

-- the members of both, one after the other
abbrev pub joined_members : Members → Members → Members
joined_members no_members ns = ns
joined_members (more_members name t ms) ns = more_members name t (joined_members ms ns)

-- each member's name is below this one
abbrev pub AreBelow : Members → List ℕ → Type 0
AreBelow no_members name = ⊤
AreBelow (more_members first t ms) name = (bytes_cmp first name ≡ Less) × AreBelow ms name

-- The first member has this name, and the bytes are from its value on.
abbrev pub IsFirst : List ℕ → Members → Bor (List ℕ) → Type 0
IsFirst name ms bytes =
    (t : Tree) × (others : Members) × (ms ≡ more_members name t others) × (bytes.now ≡ key_of t ++ members_key others)
