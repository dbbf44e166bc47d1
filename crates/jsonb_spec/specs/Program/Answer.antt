-- What a command answers.
use Rattle.std.specs.Prelude.{ℕ, Bool, List}

-- what the command answers to a text, and prints of it
pub record Answer : Type 0 where
  pub yes : Bool
  pub part : List ℕ
