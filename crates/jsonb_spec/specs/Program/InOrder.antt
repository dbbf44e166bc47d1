-- The order of keys, and which of them may follow which.
use Rattle.std.specs.Prelude.{ℕ, Bool, true, false, List}
use Rattle.std.specs.List.Sorted.{IsSorted, IsStrictlySortedBy}
use Rattle.std.specs.Ordering.{flip_args, is_le, is_lt}
use Rattle.std.specs.declared.cmp.Ordering.{Ordering}
use Rattle.jsonb_spec.specs.Order.{bytes_cmp}

-- the order of keys: byte by byte, or the reverse
abbrev pub key_order : Bool → List ℕ → List ℕ → Ordering
key_order false = bytes_cmp
key_order true = flip_args bytes_cmp

-- The keys are in order, up or down: none is before the one in front of it; or each is behind those in front of it.
abbrev pub Ascend : Bool → Bool → List (List ℕ) → Type 0
Ascend down false keys = IsSorted (key_order down) keys
Ascend down true keys = IsStrictlySortedBy (key_order down) keys

-- whether the second key may be right behind the first one
abbrev pub may_follow : Bool → Bool → List ℕ → List ℕ → Bool
may_follow down false first second = is_le (key_order down first second)
may_follow down true first second = is_lt (key_order down first second)
