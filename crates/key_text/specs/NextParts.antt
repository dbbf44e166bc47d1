-- What comes next of an array or an object, and what is appended before it.
use Rattle.std.specs.Prelude.{◌≡◌, ℕ, ◌+◌, ◌<◌, ◌≤◌, Bool, List, ◌++◌, length, Result, Ok, Err, Vec, vec_len}
use Rattle.std.specs.Vec.{vec_capacity}
use Rattle.std.specs.declared.alloc.Global.{Global}
use Rattle.jsonb_spec.specs.Text.Appending.{comma_before}
use Rattle.key_text.specs.Writes.{name_text}
use Rattle.key_text.specs.declared.write.Next.{Next}
use Rattle.key_text.specs.declared.write.Next.TheVariants as next
use Rattle.key_value.specs.declared.error.KeyError.{KeyError}
use Rattle.key_value.specs.declared.error.KeyError.TheVariants.{OutOfMemory}
use Rattle.jsonb_spec.specs.SortKey.Open.{end_key, name_key}

-- The bytes don't begin with the end.
abbrev pub NoEnd : Bool → List ℕ → Type 0
NoEnd object bytes = (tail : List ℕ) → bytes ≡ end_key object ++ tail → ⊥

-- The end comes next, and nothing is appended; or a value does, before which a comma is appended, but for the first, and
-- the name of a member. Else memory ran out, as the capacity for these is missing.
abbrev pub BeginsNext : Bool → Bool → List ℕ → Result Next KeyError → Vec ℕ Global → Vec ℕ Global → Type 0
BeginsNext object first bytes (Ok (next.End others)) old new =
    (bytes ≡ end_key object ++ others.now)
    × ((tail : List ℕ) → bytes ≡ end_key object ++ tail → others.now ≡ tail) × (new.items ≡ old.items)
BeginsNext object first bytes (Ok (next.Value value)) old new = NoEnd object bytes
    × ((name more : List ℕ) → bytes ≡ name_key object name ++ more
    → (value.now ≡ more) × (new.items ≡ old.items ++ (comma_before first ++ name_text object name)))
BeginsNext object first bytes (Err e) old new = NoEnd object bytes
    × ((name more : List ℕ) → bytes ≡ name_key object name ++ more → (e ≡ OutOfMemory)
    × (vec_capacity old < vec_len old + length (comma_before first ++ name_text object name)))

-- What is left is no longer than the bytes, and behind an end shorter.
abbrev pub NextIsWithin : List ℕ → Next → Type 0
NextIsWithin bytes (next.End others) = length others.now < length bytes
NextIsWithin bytes (next.Value value) = length value.now ≤ length bytes
