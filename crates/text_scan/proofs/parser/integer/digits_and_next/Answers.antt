use Rattle.std.proofs.Common.{◌≡◌, ◌+◌, drop, drop-drop, ap, arith}
use Rattle.std.proofs.lemmas.List.{take_rest}
use Rattle.jsonb_spec.specs.Parsing.Number.{digits_length}
use Rattle.text_scan.proofs.Numbers.DigitRuns.{count_digits}
use Rattle.text_scan.proofs.parser.integer.digits_and_next.Goals as goal

pub returns-then-near-lt16-clause-digits : goal.returns-then-near-lt16-clause-digits
returns-then-near-lt16-clause-digits c = count_digits c.args.bytes.now c.near_digits-near.result c.near_digits-near.ensures.digits

pub returns-clause-digits : goal.returns-clause-digits
returns-clause-digits c =
    let bytes = c.args.bytes.now in
    let more = c.digits_within-more.result.0 in
    let front = count_digits bytes 16 (λ k low. c.near_digits-near.ensures.digits k (omega (arith, low))) in
    let back = rw (take_rest bytes 16) at c.digits_within-more.ensures.digits in
    let joined : digits_length (drop more (drop 16 bytes)) ≡ digits_length (drop (16 + more) bytes) = ap digits_length (drop-drop more 16 bytes) in
    omega (arith, front, back, joined)
