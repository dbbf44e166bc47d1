-- What is between parts that are joined, and the sort keys of what is parsed.
use Rattle.std.specs.Prelude.{ℕ, Bool, true, false, List, [], ◌∷◌, ◌++◌}
use Rattle.std.specs.List.{flat_map}
use Rattle.jsonb_spec.specs.Ascii as ascii
use Rattle.jsonb_spec.specs.SortKey.{key_of, text_key}
use Rattle.jsonb_spec.specs.Source.{Source, Found, tree_of_source}

-- ---- bytes

-- what is between two members
abbrev pub between : Bool → List ℕ
between true = ascii.comma ∷ []
between false = []

-- the members' bytes, with what is between them
abbrev pub join_pieces : Bool → List (List ℕ) → List ℕ
join_pieces commas [] = []
join_pieces commas (piece ∷ pieces) = piece ++ flat_map (λ other. between commas ++ other) pieces

-- ---- what was found

-- the sort key of a value
abbrev pub source_key : Source → List ℕ
source_key s = key_of (tree_of_source s)

-- a member in the sort key of its object
abbrev pub member_key : Found → List ℕ
member_key f = text_key f.key ++ source_key f.source
