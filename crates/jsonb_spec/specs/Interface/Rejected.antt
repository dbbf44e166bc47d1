-- Which bytes encode a path.
use Rattle.std.specs.Prelude.{ℕ, List}
use Rattle.jsonb_spec.specs.Path.{IsPath}

-- The bytes encode a path.
abbrev pub IsSomePath : List ℕ → Type 0
IsSomePath bytes = (keys : List (List ℕ)) × IsPath bytes keys
