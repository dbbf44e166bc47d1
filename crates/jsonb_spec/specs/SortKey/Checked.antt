-- Which bytes are a sort key.
use Rattle.std.specs.Prelude.{◌≡◌, ℕ, List}
use Rattle.jsonb_spec.specs.SortKey.Readable.{IsAnyNumber}
use Rattle.jsonb_spec.specs.Keys.{KeysAscend}
use Rattle.jsonb_spec.specs.Proper.{IsProper, AreProper, HaveProperParts}
use Rattle.jsonb_spec.specs.SortKey.{key_of}
use Rattle.jsonb_spec.specs.Text.Range.{IsInRange, AreWithin, HaveWithin}
use Rattle.jsonb_spec.specs.Tree.{Tree, Trees, Members}

-- The bytes are the sort key of a value in range: one that an extended text can have.
pub record IsSortKey (bytes : List ℕ) : Type 0 where
  pub value : Tree
  pub proper : IsProper value
  pub in_range : IsInRange value
  pub is_key : bytes ≡ key_of value

-- The items of a value of JSON's kinds, with at most 512 arrays and objects in one another.
pub record AreReadable (ts : Trees) : Type 0 where
  pub proper : AreProper ts
  pub within : AreWithin IsAnyNumber ts 511

-- The members of such a value.
pub record HaveReadable (ms : Members) : Type 0 where
  pub ascend : KeysAscend ms
  pub proper : HaveProperParts ms
  pub within : HaveWithin IsAnyNumber ms 511
