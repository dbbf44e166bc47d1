use Rattle.std.proofs.Common.{◌≡◌, ◌||◌, false, sym, ap, ◌∙◌}
use Rattle.std.specs.Char.{encode_utf8}
use Rattle.std.specs.Char.Utf16.{is_high_surrogate, is_low_surrogate}
use Rattle.std.specs.Str.Parse.{digits_value}
use Rattle.jsonb_core.proofs.Strings.Units.{alone-character}
use Rattle.text_scan.proofs.util.decoder.unit.read_alone.Goals as goal

pub returns-clause-alone : goal.returns-clause-alone
returns-clause-alone c =
    let digits = c.split_at.result.0.now in
    let value = c.in_ok-value.ensures.value in
    let whole : (is_high_surrogate (digits_value 16 digits) || is_low_surrogate (digits_value 16 digits)) ≡ false =
    ap (λ v. is_high_surrogate v || is_low_surrogate v) (sym value) ∙ sym c.if-is_surrogate.ensures in
    alone-character digits whole ∙ ap encode_utf8 (sym value)
