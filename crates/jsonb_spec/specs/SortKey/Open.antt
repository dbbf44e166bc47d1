-- What is in a key behind the beginning of an array or an object: parts, and an end.
use Rattle.std.specs.Prelude.{ℕ, Bool, true, false, List, [], ◌∷◌, ⊤}
use Rattle.jsonb_spec.specs.SortKey.Readable.{IsAnyNumber}
use Rattle.jsonb_spec.specs.Proper.{AreProper, HaveProperParts}
use Rattle.jsonb_spec.specs.SortKey.{items_key, members_key, text_key}
use Rattle.jsonb_spec.specs.SortKey.Kind as kind
use Rattle.jsonb_spec.specs.Text.Range.{AreWithin, HaveWithin}
use Rattle.jsonb_spec.specs.Tree.{Num, Tree, array, object, Trees, Members}

-- an array or an object that is open: the items or the members that are left of it
pub data Open : Type 0 where
  items : Trees → Open
  members : Members → Open

-- whether it is an object
abbrev pub is_object : Open → Bool
is_object (items ts) = false
is_object (members ms) = true

-- what is left of its key
abbrev pub open_key : Open → List ℕ
open_key (items ts) = items_key ts
open_key (members ms) = members_key ms

-- what is left is well-formed, with arrays and objects nested no deeper than the number, and these numbers
abbrev pub IsOpenWith : (Num → Type 0) → Open → ℕ → Type 0
IsOpenWith IsIn (items ts) depth = AreProper ts × AreWithin IsIn ts depth
IsOpenWith IsIn (members ms) depth = HaveProperParts ms × HaveWithin IsIn ms depth

-- the same with any numbers
abbrev pub IsOpen : Open → ℕ → Type 0
IsOpen o depth = IsOpenWith IsAnyNumber o depth

-- how an object or an array ends
abbrev pub end_key : Bool → List ℕ
end_key true = kind.terminator ∷ kind.terminator ∷ []
end_key false = kind.terminator ∷ []

-- the key of a member's name, which an item has none of
abbrev pub name_key : Bool → List ℕ → List ℕ
name_key true name = text_key name
name_key false name = []

-- neither an array nor an object
abbrev pub IsScalar : Tree → Type 0
IsScalar (array ts) = ⊥
IsScalar (object ms) = ⊥
IsScalar t = ⊤

-- the first byte of the key of an object, or of an array
abbrev pub opening_byte : Bool → ℕ
opening_byte true = kind.object
opening_byte false = kind.array
