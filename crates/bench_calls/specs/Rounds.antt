-- How many rounds of a benchmark went well.
use Rattle.std.specs.Prelude.{◌≡◌, ◌≤◌, ℕ, List}
use Rattle.jsonb_spec.specs.Grammar.{IsNoDocument}
use Rattle.jsonb_spec.specs.Mode.{Mode}

-- There are no more than are asked for, and nothing goes well with a text that is no document.
pub record CountsRounds (mode : Mode) (text : List ℕ) (rounds count : ℕ) : Type 0 where
  pub most : count ≤ rounds
  pub rejected : IsNoDocument mode text → count ≡ 0
