use Rattle.std.proofs.Common.{take, ◌≡◌, true, false, sym, ap, ◌∙◌, ◌++◌, ◌||◌}
use Rattle.std.specs.Char.{encode_utf8}
use Rattle.jsonb_core.proofs.Strings.Units.{alone-retained, alone-character}
use Rattle.text_scan.proofs.util.decoder.unit.push_alone.Goals as goal
use Rattle.std.specs.Char.Utf16.{is_high_surrogate, is_low_surrogate}
use Rattle.std.specs.Str.Parse.{digits_value}

pub returns-then-is_surrogate-clause-written : goal.returns-then-is_surrogate-clause-written
returns-then-is_surrogate-clause-written c =
    let digits = c.args.digits.now in
    let half : (is_high_surrogate (digits_value 16 digits) || is_low_surrogate (digits_value 16 digits)) ≡ true =
    ap (λ value. is_high_surrogate value || is_low_surrogate value) (sym c.requires.value) ∙ sym c.is_surrogate.ensures ∙ c.if-is_surrogate.true in
    c.push_verbatim.ensures.written ∙ ap (λ added. take c.args.len c.args.text.now ++ added) (sym (alone-retained digits half))

pub returns-else-is_surrogate-clause-written : goal.returns-else-is_surrogate-clause-written
returns-else-is_surrogate-clause-written c =
    let digits = c.args.digits.now in
    let whole : (is_high_surrogate (digits_value 16 digits) || is_low_surrogate (digits_value 16 digits)) ≡ false =
    ap (λ value. is_high_surrogate value || is_low_surrogate value) (sym c.requires.value) ∙ sym c.is_surrogate.ensures ∙ c.if-is_surrogate.false in
    c.push_char.ensures.written ∙ ap (λ added. take c.args.len c.args.text.now ++ added) (ap encode_utf8 c.requires.value ∙ sym (alone-character digits whole))
