-- The sort key of arrays and objects that are open, as far as it is written.
use Rattle.std.specs.Prelude.{ℕ, Bool, true, false, List, [], ◌∷◌, ◌++◌, map}
use Rattle.jsonb_spec.specs.SortKey.{text_key}
use Rattle.jsonb_spec.specs.SortKey.Kind as kind
use Rattle.jsonb_spec.specs.Source.Open.{Open, elements_so_far, members_so_far}
use Rattle.jsonb_spec.specs.SortKey.Joined.{join_pieces, member_key, source_key}

-- the parts' keys one after the other
abbrev pub keys_joined : List (List ℕ) → List ℕ
keys_joined keys = join_pieces false keys

-- from the first byte to the end of the last part, in the order of the source
abbrev pub parts_key : Open → List ℕ
parts_key (elements_so_far ss) = kind.array ∷ keys_joined (map source_key ss)
parts_key (members_so_far fs key offset) = kind.object ∷ keys_joined (map member_key fs)

-- from there to where a value is due: in an object the key that waits for its value
abbrev pub lead_key : Open → List ℕ
lead_key (elements_so_far ss) = []
lead_key (members_so_far fs key offset) = text_key key.1

-- All that are open, the innermost first: up to where a value is due, or up to the end of the innermost's last part.
abbrev pub open_key : Bool → List Open → List ℕ
open_key due [] = []
open_key true (c ∷ cs) = open_key true cs ++ (parts_key c ++ lead_key c)
open_key false (c ∷ cs) = open_key true cs ++ parts_key c
