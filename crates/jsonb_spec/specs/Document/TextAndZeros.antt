-- The text and the zeros of a value.
use Rattle.std.specs.Prelude.{◌≡◌, ℕ, List}
use Rattle.jsonb_spec.specs.SortKey.Readable.{IsReadable}
use Rattle.jsonb_spec.specs.Text.{tree_text}
use Rattle.jsonb_spec.specs.Tree.{Tree}
use Rattle.jsonb_spec.specs.SortKey.FewestDigits.{with_fewest_digits}
use Rattle.jsonb_spec.specs.Document.Zeros.{zeros_in}

-- Whichever value has this text with the fewest digits, and these zeros, this is so of it.
abbrev pub OfTextAndZeros : List ℕ → List ℕ → (Tree → Type 0) → Type 0
OfTextAndZeros shortest zeros Is =
    (t : Tree) → IsReadable t → shortest ≡ tree_text (with_fewest_digits t) → zeros ≡ zeros_in t → Is t
