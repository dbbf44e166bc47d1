-- What the check of contents for JSON guarantees.
use Rattle.std.specs.Prelude.{◌≡◌, ◌≢◌, ℕ, ◌+◌, ◌<◌, ◌≤◌, List, ◌∷◌, ◌++◌, Ok, Err, slice_index}
use Rattle.jsonb_spec.specs.Ascii as ascii
use Rattle.jsonb_spec.specs.Code.{Code}
use Rattle.jsonb_spec.specs.Mode.{Mode}
use Rattle.jsonb_spec.specs.Tree.{Mark}
use Rattle.jsonb_spec.specs.Grammar.StringBody.{Item, encoding}
use Rattle.jsonb_core.specs.Error.CodeView.{code_of}
use Rattle.jsonb_core.specs.declared.error.Error.{Error}
use Rattle.jsonb_core.specs.declared.error.Error.TheVariants.{Syntax}
use Rattle.jsonb_spec.specs.Parsing.String.{Body, item_at}

-- Of the first bytes none is a control character, and behind none that is a u an opening brace follows.
abbrev pub AreClean : List ℕ → ℕ → Type 0
AreClean bytes count = (k : ℕ) → k < count → (ascii.space ≤ slice_index bytes k)
    × (slice_index bytes k ≡ ascii.lower_u → slice_index bytes (k + 1) ≢ ascii.open_brace)

-- an item is parsed of a byte and those behind it, and these are left
pub record ParsesItem (mode : Mode) (byte : ℕ) (bytes rest : List ℕ) : Type 0 where
  pub item : Item
  pub parsed : item_at mode byte bytes ≡ Ok item
  pub split : byte ∷ bytes ≡ encoding item ++ rest

-- no item is parsed of them
abbrev pub ParsesNoItem : Mode → ℕ → List ℕ → Type 0
ParsesNoItem mode byte bytes = (f : Code × ℕ) × (item_at mode byte bytes ≡ Err f)

-- the error is the fault that is parsed of contents, where the check counts from `idx`
abbrev pub RejectsContents : ℕ → Error → Body (Mark × List ℕ) → Type 0
RejectsContents idx (Syntax code offset) read = (count : ℕ) × (read ≡ Err (code_of code, count))
    × (offset ≡ idx + count)
RejectsContents idx other read = ⊥
