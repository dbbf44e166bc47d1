-- The text of an integer is its digits.
use Rattle.std.proofs.Common.{◌≡◌, ℕ, ◌<◌, pos, Bool, true, false, List, refl}
use Rattle.std.specs.Prelude.{neg_ℤ}
use Rattle.jsonb_spec.specs.Grammar.StandardNumber.{IsStandardNumber}
use Rattle.jsonb_spec.specs.Text.NumberText.{number_text}
use Rattle.jsonb_core.specs.declared.number.Number.TheVariants as form
use Rattle.text_scan.specs.ShortInteger.{short_view}
use Rattle.text_common.proofs.EncodedNumbers.{below_zero, encoded_number}

-- an integer that is no 0 with a minus
pub verbatim_text : (negative : Bool) (magnitude end : ℕ) (bytes : List ℕ) → (negative ≡ true → 0 < magnitude) → IsStandardNumber bytes (short_view (record { negative = negative; magnitude = magnitude; end = end }))
    → bytes ≡ number_text (short_view (record { negative = negative; magnitude = magnitude; end = end }))
verbatim_text false magnitude end bytes some is = encoded_number (form.UInt64 magnitude) bytes tt is
verbatim_text true magnitude end bytes some is = encoded_number (form.Int64 (neg_ℤ (pos magnitude))) bytes (below_zero magnitude (some refl)) is
