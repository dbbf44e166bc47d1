-- The kinds of values, by the first bytes of their keys.
use Rattle.std.specs.Prelude.{◌≡◌, ℕ, ◌⊎◌, List, ◌∷◌, Option, Some, None}
use Rattle.key_walk.specs.declared.walk.Kind.{Kind}
use Rattle.key_walk.specs.declared.walk.Kind.TheVariants as variants
use Rattle.jsonb_spec.specs.SortKey.Kind as kind
use Rattle.jsonb_spec.specs.Tree.{Tree, null, boolean, string, number, array, object}
use Rattle.jsonb_spec.specs.SortKey.Parts.{IsNumberByte}

-- the kind of a value of JSON's kinds
abbrev pub kind_of_tree : Tree → Option Kind
kind_of_tree null = Some variants.Null
kind_of_tree (boolean b) = Some variants.Bool
kind_of_tree (number n) = Some variants.Number
kind_of_tree (string mark bytes) = Some variants.String
kind_of_tree (array ts) = Some variants.Array
kind_of_tree (object ms) = Some variants.Object
kind_of_tree t = None

-- The keys of the kind begin with this byte.
abbrev pub IsFirstByte : Kind → ℕ → Type 0
IsFirstByte variants.Bool first = (first ≡ kind.false) ⊎ (first ≡ kind.true)
IsFirstByte variants.Number first = IsNumberByte first
IsFirstByte variants.String first = first ≡ kind.string
IsFirstByte variants.Object first = first ≡ kind.object
IsFirstByte variants.Array first = first ≡ kind.array
IsFirstByte variants.Null first = first ≡ kind.null

-- The bytes begin with none of these bytes, or there are none.
abbrev pub BeginsNoKey : List ℕ → Type 0
BeginsNoKey bytes = (first : ℕ) → (rest : List ℕ) → bytes ≡ first ∷ rest → (kind : Kind) → IsFirstByte kind first → ⊥
