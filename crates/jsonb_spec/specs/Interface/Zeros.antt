-- What the statuses of the call on the zeros that end decimals say.
use Rattle.std.specs.Prelude.{◌≡◌, ℕ, List}
use Rattle.jsonb_spec.specs.SortKey.Readable.{IsReadable}
use Rattle.jsonb_spec.specs.Text.{tree_text}
use Rattle.jsonb_spec.specs.Tree.{Tree}
use Rattle.jsonb_spec.specs.SortKey.FewestDigits.{with_fewest_digits}
use Rattle.jsonb_spec.specs.Document.Zeros.{zeros_in}

-- Whichever value has this text with the fewest digits, and these zeros, the text is its serialized form.
abbrev pub IsTextWithZeros : List ℕ → List ℕ → List ℕ → Type 0
IsTextWithZeros shortest zeros text =
    (t : Tree) → IsReadable t → shortest ≡ tree_text (with_fewest_digits t) → zeros ≡ zeros_in t → text ≡ tree_text t

-- No value has this text with the fewest digits, and these zeros.
abbrev pub LackZeros : List ℕ → List ℕ → Type 0
LackZeros shortest zeros =
    (t : Tree) → IsReadable t → shortest ≡ tree_text (with_fewest_digits t) → zeros ≡ zeros_in t → ⊥
