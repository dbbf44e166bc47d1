use Rattle.std.proofs.Common.{◌≡◌, ◌<◌, ◌≤◌, ℕ, List, length, ◌-◌}
use Rattle.std.specs.Prelude.{slice_index}
use Rattle.jsonb_spec.specs.Ascii as ascii
use Rattle.text_write.proofs.integer_key.significant_len.Given as goal

pub record Left (digits : List ℕ) (len : ℕ) : Type 0 where
  pub some : 0 < len
  pub within : len ≤ length digits
  pub zeros : (k : ℕ) → len ≤ k → k < length digits → slice_index digits k ≡ ascii.digit_zero

abbrev pub invariant-zeros : goal.invariant-zeros
invariant-zeros l = Left l.digits l.len

abbrev pub decreases-zeros : goal.decreases-zeros
decreases-zeros l = l.len - 1
