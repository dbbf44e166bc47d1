-- What each status and each out parameter says of the key of a scalar, and of the reason of an error.
use Rattle.std.specs.Prelude.{◌≡◌, ◌≢◌, ℕ, ℤ, List, Bool, Option, Some, None, Err, FitsSigned, if◌then◌else◌}
use Rattle.std.specs.Int.{w64}
use Rattle.jsonb_spec.specs.Code.Message.{reason_text}
use Rattle.jsonb_spec.specs.SortKey.Decimals.{IsShortDecimal}
use Rattle.jsonb_spec.specs.Parsing.Document.{document_of}
use Rattle.jsonb_spec.specs.Accessors.{IsWholeNumber}
use Rattle.jsonb_spec.specs.Code.{Code}
use Rattle.jsonb_spec.specs.Grammar.{IsNoDocument}
use Rattle.jsonb_spec.specs.Mode.{Mode}
use Rattle.jsonb_spec.specs.Tree.{Tree, number, int64}
use Rattle.jsonb_spec.specs.Interface.{NumberChooses}

-- The status and the number of a boolean, or the status of a value of another kind.
abbrev pub IsBoolean : Option Bool → ℕ → ℕ → Type 0
IsBoolean (Some b) status value = (status ≡ 0) × (value ≡ (if b then 1 else 0))
IsBoolean None status value = status ≡ 5

-- the tree of an integer of 64 bits
abbrev pub integer : ℤ → Tree
integer value = number (record { form = int64; scale = 0; whole = value })

-- The status and the integer of a number that is one of 64 bits, or the status of a value that is no such number.
pub record IsInteger (t : Tree) (status : ℕ) (value : ℤ) : Type 0 where
  pub found : status ≡ 0 → IsWholeNumber t value × FitsSigned w64 value
  pub other : status ≢ 0 → (status ≡ 5) × ((v : ℤ) → IsWholeNumber t v → FitsSigned w64 v → ⊥)

-- The status and the decimal of a number of at most 18 digits, or the status of a value that is no such number.
pub record IsDecimal (t : Tree) (status : ℕ) (digits : ℤ) (scale : ℕ) : Type 0 where
  pub found : status ≡ 0 → IsShortDecimal t digits scale
  pub other : status ≢ 0 → (status ≡ 5) × ((d : ℤ) → (s : ℕ) → IsShortDecimal t d s → ⊥)

-- The number chooses a mode in which the text is no document, and the bytes say in words why, without an offset.
pub record IsReasonOf (number : ℕ) (text bytes : List ℕ) : Type 0 where
  pub mode : Mode
  pub chosen : NumberChooses number mode
  pub no_document : IsNoDocument mode text
  pub code : Code
  pub position : ℕ
  pub exact : document_of mode text ≡ Err (record { code = code; offset = position })
  pub is_text : bytes ≡ reason_text code
