-- The text of a value with the fewest digits, and what a buffer retains and lacks.
use Rattle.std.specs.Prelude.{ℕ, ◌+◌, ◌<◌, ◌≤◌, List, length, Vec, vec_len, vec_capacity}
use Rattle.std.specs.declared.alloc.Global.{Global}
use Rattle.jsonb_spec.specs.Text.Appending.{Extends}
use Rattle.jsonb_spec.specs.Text.{tree_text}
use Rattle.jsonb_spec.specs.Tree.{Tree}
use Rattle.jsonb_spec.specs.SortKey.FewestDigits.{with_fewest_digits}

-- Nothing that was there is lost.
pub record Preserves (old new : Vec ℕ Global) : Type 0 where
  pub retained : Extends old.items new.items
  pub capacity : vec_capacity old ≤ vec_capacity new

-- The capacity for these bytes is missing.
abbrev pub LacksCapacity : Vec ℕ Global → List ℕ → Type 0
LacksCapacity buf bytes = vec_capacity buf < vec_len buf + length bytes

-- the text of a value with the fewest digits
abbrev pub value_text : Tree → List ℕ
value_text t = tree_text (with_fewest_digits t)
