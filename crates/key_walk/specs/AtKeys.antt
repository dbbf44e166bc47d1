-- What a call finds in bytes that begin with the key of a value, or with parts of an array or an object.
use Rattle.std.specs.Prelude.{◌≡◌, ◌≢◌, ◌↔◌, ◌⊎◌, ◌<◌, ◌≤◌, ℕ, List, ◌++◌, length, Option, Result, IfOk, IfSome}
use Rattle.std.specs.Borrow.{Bor}
use Rattle.jsonb_spec.specs.SortKey.Readable.{IsAnyNumber}
use Rattle.jsonb_spec.specs.Proper.{AreProper, HaveProperParts}
use Rattle.jsonb_spec.specs.SortKey.{items_key, members_key}
use Rattle.jsonb_spec.specs.SortKey.Kind as kind
use Rattle.jsonb_spec.specs.Text.Range.{AreWithin, HaveWithin}
use Rattle.jsonb_spec.specs.Tree.{Members, Tree, Trees}
use Rattle.key_walk.specs.declared.find.NoKey.{NoKey}
use Rattle.key_walk.specs.Found.{Finds}
use Rattle.jsonb_spec.specs.SortKey.AtKeys.{AtKey, Leaves}

-- Whichever items the bytes begin with, this is so of them, and of the bytes behind their end.
abbrev pub AtItems : List ℕ → (Trees → List ℕ → Type 0) → Type 0
AtItems bytes Is =
    (ts : Trees) → AreProper ts → AreWithin IsAnyNumber ts 511 → (more : List ℕ)
    → bytes ≡ items_key ts ++ more → Is ts more

-- Whichever members the bytes begin with, this is so of them, and of the bytes behind their end.
abbrev pub AtMembers : List ℕ → (Members → List ℕ → Type 0) → Type 0
AtMembers bytes Is =
    (ms : Members) → HaveProperParts ms → HaveWithin IsAnyNumber ms 511 → (more : List ℕ)
    → bytes ≡ members_key ms ++ more → Is ms more

-- Bytes are left exactly where they may be behind what is checked, and fewer than there were.
pub record Checks (IsBehind : List ℕ → Type 0) (bytes : List ℕ) (result : Option (Bor (List ℕ))) : Type 0 where
  pub found : (more : List ℕ) → Leaves result more ↔ IsBehind more
  pub shorter : IfSome result (λ rest. length rest.now < length bytes)

-- What is found is no longer than these bytes.
abbrev pub FindsWithin : List ℕ → Result (Option (Bor (List ℕ))) NoKey → Type 0
FindsWithin bytes result = IfOk result (λ answer. IfSome answer (λ rest. length rest.now ≤ length bytes))

-- The part that is asked for is found at a key, or nothing where the value has none; and of any bytes what is found is
-- no longer than they are.
pub record FindsPart (bytes : List ℕ) (part_of : Tree → Option Tree) (result : Result (Option (Bor (List ℕ))) NoKey)
    : Type 0 where
  pub found : AtKey bytes (λ t more. Finds bytes (part_of t) result)
  pub within : FindsWithin bytes result

-- The byte is a whole key: of false, true, 0 or null.
abbrev pub IsWord : ℕ → Type 0
IsWord byte = (byte ≡ kind.false) ⊎ ((byte ≡ kind.true) ⊎ ((byte ≡ kind.zero) ⊎ (byte ≡ kind.null)))

-- The byte is no whole key.
abbrev pub IsNoWord : ℕ → Type 0
IsNoWord byte = (byte ≢ kind.false) × (byte ≢ kind.true) × (byte ≢ kind.zero) × (byte ≢ kind.null)
