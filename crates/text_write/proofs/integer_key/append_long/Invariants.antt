use Rattle.std.proofs.Common.{◌≡◌, ◌+◌, ◌≤◌, ◌++◌, ℕ, Bool, List, Vec, length, map}
use Rattle.std.specs.Vec.{vec_capacity, vec_len}
use Rattle.std.specs.declared.alloc.Global.{Global}
use Rattle.jsonb_spec.specs.SortKey.{invert_if}
use Rattle.text_write.specs.IntegerKey.{digit_bytes}
use Rattle.jsonb_spec.specs.Text.Appending.{Extends}
use Rattle.text_write.proofs.integer_key.append_long.Given as goal

pub record Left (negative : Bool) (digits rest before : List ℕ) (out : Vec ℕ Global) : Type 0 where
  pub bytes : out.items ++ map (invert_if negative) (digit_bytes rest) ≡ before ++ map (invert_if negative) (digit_bytes digits)
  pub retained : Extends before out.items
  pub sink : vec_len out + length rest ≤ vec_capacity out

abbrev pub invariant-pairs : goal.invariant-pairs
invariant-pairs l = Left l.negative l.digits l.rest l.fn.out.items l.out

abbrev pub decreases-pairs : goal.decreases-pairs
decreases-pairs l = length l.rest
