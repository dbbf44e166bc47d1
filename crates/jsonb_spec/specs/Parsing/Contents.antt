-- What the contents of a string mean, and where a quote or a backslash is among bytes.
use Rattle.std.specs.Prelude.{◌≡◌, ◌≢◌, ◌⊎◌, ℕ, ◌<◌, ◌≤◌, List, [], length, slice_index, Ok, Err}
use Rattle.jsonb_spec.specs.Ascii as ascii
use Rattle.jsonb_spec.specs.Mode.{Mode}
use Rattle.jsonb_spec.specs.Grammar.StringBody.{Item, meaning}
use Rattle.jsonb_spec.specs.Parsing.String.{Body, items_within}

-- what the items mean that are parsed of a body
abbrev pub meaning_of_body : Body (List Item) → List ℕ
meaning_of_body (Ok items) = meaning items
meaning_of_body (Err f) = []

-- what a body means, UTF-8 or not
unfoldable pub decoded_text : Mode → List ℕ → List ℕ
decoded_text mode bytes = meaning_of_body (items_within (length bytes) mode bytes)

abbrev pub IsQuoteOrBackslash : ℕ → ℕ → Type 0
IsQuoteOrBackslash quote b = (b ≡ quote) ⊎ (b ≡ ascii.backslash)

-- neither is from one index up to another
abbrev pub IsClear : ℕ → List ℕ → ℕ → ℕ → Type 0
IsClear quote bytes from to = (k : ℕ) → from ≤ k → k < to
    → (slice_index bytes k ≢ quote) × (slice_index bytes k ≢ ascii.backslash)
