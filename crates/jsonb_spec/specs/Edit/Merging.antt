-- The members of two objects, which are merged in steps.
use Rattle.std.specs.Prelude.{◌≡◌, List, [], ℕ, ⊤, ◌++◌}
use Rattle.jsonb_spec.specs.Keys.{IsBelowKeys}
use Rattle.jsonb_spec.specs.SortKey.{key_of, text_key}
use Rattle.jsonb_spec.specs.Tree.{Members, no_members, more_members}

-- the names and the keys of the members, without the end of an object
abbrev pub keys_of_members : Members → List ℕ
keys_of_members no_members = []
keys_of_members (more_members name t ms) = text_key name ++ (key_of t ++ keys_of_members ms)

-- each of the first ones has a name that is below all names of the others
abbrev pub AreFirst : Members → Members → Type 0
AreFirst no_members ns = ⊤
AreFirst (more_members name t ms) ns = IsBelowKeys name ns × AreFirst ms ns

-- there is none, or one that has the name of the first of the others
abbrev pub AreReplaced : Members → Members → Type 0
AreReplaced no_members ns = ⊤
AreReplaced (more_members name t ms) no_members = ⊥
AreReplaced (more_members name t ms) (more_members other u ns) = (name ≡ other) × (ms ≡ no_members)
