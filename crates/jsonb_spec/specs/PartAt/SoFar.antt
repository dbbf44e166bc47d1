-- The part at keys in arrays and objects that are open, of which some parts ended.
use Rattle.std.specs.Prelude.{◌≡◌, ℕ, suc, Bool, false, ◌==◌, if◌then◌else◌, List, [], ◌∷◌, length, Option, Some, None}
use Rattle.std.specs.Option.{option_and_then, option_map_or, option_or}
use Rattle.std.specs.Str.{bytes_eq}
use Rattle.jsonb_spec.specs.Tree.{Tree}
use Rattle.jsonb_spec.specs.Source.Open.{Open, elements_so_far, members_so_far}
use Rattle.jsonb_spec.specs.Source.{Found, Source, tree_of_source}
use Rattle.jsonb_spec.specs.PartAt.{index_named, part_at}

-- ---- the path and what is open

-- whether the part that the container waits for is at this key
abbrev pub waits_at : Open → List ℕ → Bool
waits_at (elements_so_far ss) key = option_map_or (λ i. i == length ss) (index_named key) false
waits_at (members_so_far fs k offset) key = bytes_eq key k.1

-- what is left of the path behind the part that the container waits for
abbrev pub follow : Open → List (List ℕ) → Option (List (List ℕ))
follow c [] = None
follow c (key ∷ keys) = if waits_at c key then Some keys else None

-- What is left of the path behind the containers that are open, the innermost first. None where they lead elsewhere.
abbrev pub path_behind : List (List ℕ) → List Open → Option (List (List ℕ))
path_behind keys [] = Some keys
path_behind keys (c ∷ cs) = option_and_then (follow c) (path_behind keys cs)

-- the part in one of the members with this key
abbrev pub in_members : List ℕ → List (List ℕ) → List Found → Option Tree
in_members key keys [] = None
in_members key keys (f ∷ fs) =
    option_or (if bytes_eq key f.key then part_at keys (tree_of_source f.source) else None) (in_members key keys fs)

-- the part in the item of an index, where the first one has another index
abbrev pub in_items : ℕ → ℕ → List (List ℕ) → List Source → Option Tree
in_items index first keys [] = None
in_items index first keys (s ∷ ss) =
    option_or (if index == first then part_at keys (tree_of_source s) else None) (in_items index (suc first) keys ss)

-- the part in one of the parts of a container that ended
abbrev pub within : Open → List (List ℕ) → Option Tree
within c [] = None
within (elements_so_far ss) (key ∷ keys) = option_and_then (λ i. in_items i 0 keys ss) (index_named key)
within (members_so_far fs k offset) (key ∷ keys) = in_members key keys fs

-- the part in what ended of all that is open
abbrev pub part_of_ended : List (List ℕ) → List Open → Option Tree
part_of_ended keys [] = None
part_of_ended keys (c ∷ cs) = option_or (part_of_ended keys cs) (option_and_then (within c) (path_behind keys cs))

-- the part in what ended of all that is open, and in a value where one was due
abbrev pub part_with_value : List (List ℕ) → Source → List Open → Option Tree
part_with_value keys s cs = option_or (part_of_ended keys cs) (option_and_then (λ rest. part_at rest (tree_of_source s))
    (path_behind keys cs))

-- ---- what is left of the path

-- the part inside a value, which isn't the value itself
abbrev pub part_inside : Source → List (List ℕ) → Option Tree
part_inside s [] = None
part_inside s (key ∷ keys) = part_at (key ∷ keys) (tree_of_source s)

-- No path leads into the value: it holds no others.
abbrev pub HasNoParts : Source → Type 0
HasNoParts s = (rest : List (List ℕ)) → part_inside s rest ≡ None
