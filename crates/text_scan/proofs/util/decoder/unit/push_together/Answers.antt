use Rattle.std.proofs.Common.{take, ◌≡◌, true, false, sym, ap, ◌∙◌, ◌++◌}
use Rattle.std.proofs.lemmas.List.{append_assoc}
use Rattle.std.specs.Char.{encode_utf8}
use Rattle.jsonb_core.proofs.Strings.Units.{together-retained, together-character}
use Rattle.text_scan.proofs.util.decoder.unit.push_together.Goals as goal
use Rattle.std.specs.Char.Utf16.{is_low_surrogate, surrogate_pair_char}
use Rattle.std.specs.Str.Parse.{digits_value}
use Rattle.jsonb_spec.specs.Grammar.StringBody.{encoding, unit}

pub returns-then-is_surrogate_low-clause-written : goal.returns-then-is_surrogate_low-clause-written
returns-then-is_surrogate_low-clause-written c =
    let high = c.args.high.now in
    let next = c.args.next.now in
    let low : is_low_surrogate (digits_value 16 next.digits.now) ≡ true = ap is_low_surrogate (sym c.requires.value.1) ∙ sym c.is_surrogate_low.ensures ∙ c.if-is_surrogate_low.true in
    let same = ap (λ value. encode_utf8 (surrogate_pair_char value next.value)) c.requires.value.0 ∙ ap (λ value. encode_utf8 (surrogate_pair_char (digits_value 16 high.digits.now) value)) c.requires.value.1 in
    c.push_char.ensures.written ∙ ap (λ added. take c.args.len c.args.text.now ++ added) (same ∙ sym (together-character high.digits.now next.digits.now low))

pub returns-else-is_surrogate_low-clause-written : goal.returns-else-is_surrogate_low-clause-written
returns-else-is_surrogate_low-clause-written c =
    let high = c.args.high.now in
    let next = c.args.next.now in
    let other : is_low_surrogate (digits_value 16 next.digits.now) ≡ false = ap is_low_surrogate (sym c.requires.value.1) ∙ sym c.is_surrogate_low.ensures ∙ c.if-is_surrogate_low.false in
    c.push_verbatim.ensures.written ∙ ap (λ added. added ++ encoding (unit false next.digits.now)) c.push_verbatim-len.ensures.written
    ∙ append_assoc (take c.args.len c.args.text.now) (encoding (unit false high.digits.now)) (encoding (unit false next.digits.now))
    ∙ ap (λ added. take c.args.len c.args.text.now ++ added) (sym (together-retained high.digits.now next.digits.now other))
