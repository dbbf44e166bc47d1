-- Arrays and objects that are open while a text is parsed.
use Rattle.std.specs.Prelude.{ℕ, List, [], ◌∷◌, ◌++◌}
use Rattle.jsonb_spec.specs.Tree.{Mark}
use Rattle.jsonb_spec.specs.Tree.Mark.{plain}
use Rattle.jsonb_spec.specs.Source.{Source, Found, found_member}

-- An array or an object that is open: its parts so far, and in an object the key that waits for its value, with the
-- offset after it.
pub data Open : Type 0 where
  elements_so_far : List Source → Open
  members_so_far : List Found → Mark × List ℕ → ℕ → Open

-- the container with one more part; its key is used up
abbrev pub add_part : Open → Source → Open
add_part (elements_so_far front) s = elements_so_far (front ++ s ∷ [])
add_part (members_so_far front key offset) s =
    members_so_far (front ++ found_member key s offset ∷ []) (plain, []) 0
