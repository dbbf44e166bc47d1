use Rattle.std.proofs.Common.{sym, ap, ◌∙◌, ◌≡◌, ◌≢◌}
use Rattle.std.specs.Prelude.{slice_index}
use Rattle.std.specs.Char.{to_ascii_lowercase}
use Rattle.std.proofs.lemmas.Result.{err_from_is_err_and}
use Rattle.jsonb_spec.specs.Parsing.ExtendedNumber.{unrepresentable_word, invalid_word}
use Rattle.text_scan.proofs.Scalars.WordLetters.{words_misspelled, words_nan_minus, words_nan_plus, words_infinity}
use Rattle.text_scan.proofs.parser.extended_number.scan_word.Goals as goal

pub returns-in_err-end-clause-scan : goal.returns-in_err-end-clause-scan
returns-in_err-end-clause-scan c =
    let p = err_from_is_err_and c.from_residual.result c.from_residual.ensures.1 in
    let other : to_ascii_lowercase (slice_index c.args.bytes.now 0) ≢ 110 = λ e. c.if-to_ascii_lowercase-ne110.true (c.to_ascii_lowercase.ensures.value ∙ (ap to_ascii_lowercase c.byte_at.ensures ∙ e)) in
    rw (p.1, p.2) (ap unrepresentable_word c.in_err-end.ensures.scan ∙ sym (words_infinity c.args.offset c.args.negative c.args.bytes.now other))

pub returns-then-to_ascii_lowercase-ne110-clause-scan : goal.returns-then-to_ascii_lowercase-ne110-clause-scan
returns-then-to_ascii_lowercase-ne110-clause-scan c =
    let other : to_ascii_lowercase (slice_index c.args.bytes.now 0) ≢ 110 = λ e. c.if-to_ascii_lowercase-ne110.true (c.to_ascii_lowercase.ensures.value ∙ (ap to_ascii_lowercase c.byte_at.ensures ∙ e)) in
    ap unrepresentable_word c.in_ok-end.ensures.scan ∙ sym (words_infinity c.args.offset c.args.negative c.args.bytes.now other)

pub returns-in_err-end-2-clause-scan : goal.returns-in_err-end-2-clause-scan
returns-in_err-end-2-clause-scan c =
    let p = err_from_is_err_and c.from_residual-in_err-end-2.result c.from_residual-in_err-end-2.ensures.1 in
    let letter : to_ascii_lowercase (slice_index c.args.bytes.now 0) ≡ 110 = ap to_ascii_lowercase (sym c.byte_at.ensures) ∙ (sym c.to_ascii_lowercase.ensures.value ∙ c.if-to_ascii_lowercase-ne110.false) in
    rw (p.1, p.2) (sym (words_misspelled c.args.offset c.args.negative c.args.bytes.now _ letter (sym c.in_err-end-2.ensures.scan)))

pub returns-then-negative-clause-scan : goal.returns-then-negative-clause-scan
returns-then-negative-clause-scan c =
    let letter : to_ascii_lowercase (slice_index c.args.bytes.now 0) ≡ 110 = ap to_ascii_lowercase (sym c.byte_at.ensures) ∙ (sym c.to_ascii_lowercase.ensures.value ∙ c.if-to_ascii_lowercase-ne110.false) in
    c.invalid.ensures.scan ∙ (ap invalid_word c.in_ok-end-2.ensures.scan ∙ sym (words_nan_minus c.args.offset c.args.negative c.args.bytes.now letter c.if-negative.true))

pub returns-clause-scan : goal.returns-clause-scan
returns-clause-scan c =
    let letter : to_ascii_lowercase (slice_index c.args.bytes.now 0) ≡ 110 = ap to_ascii_lowercase (sym c.byte_at.ensures) ∙ (sym c.to_ascii_lowercase.ensures.value ∙ c.if-to_ascii_lowercase-ne110.false) in
    ap unrepresentable_word c.in_ok-end-2.ensures.scan ∙ sym (words_nan_plus c.args.offset c.args.negative c.args.bytes.now letter c.if-negative.false)
