use Rattle.std.proofs.Common.{◌≡◌, ◌==◌, sym, ap, ◌∙◌, Some}
use Rattle.jsonb_spec.specs.Grammar.ExactNumber.{moved_number}
use Rattle.jsonb_core.specs.View.{number_view}
use Rattle.text_scan.specs.ScannedNumber.{number_views}
use Rattle.jsonb_spec.specs.Parsing.ExactNumber.{right_at, left_at, few_digits}
use Rattle.text_scan.proofs.Numbers.ExactRead.{extended_read, json_read}
use Rattle.text_scan.proofs.parser.exact.short_exact.Goals as goal

number_is : (c : goal.In_ok-number) → let d = c.in_ok-decimal.decimal in let end = c.in_ok-exponent.exponent.end in
    Some (number_view c.in_ok-number.number) ≡ few_digits (moved_number (c.byte_at-negative.result == 45) d.value d.behind (right_at c.args.bytes.now d.end end) (left_at c.args.bytes.now d.end end))
number_is c =
    let d = c.in_ok-decimal.decimal in
    let right = right_at c.args.bytes.now d.end c.in_ok-exponent.exponent.end in
    let left = left_at c.args.bytes.now d.end c.in_ok-exponent.exponent.end in
    sym (ap number_views c.in_ok-number.was) ∙ (c.moved.ensures right left c.in_ok-exponent.ensures.shift ∙ ap (λ v. few_digits (moved_number (c.byte_at-negative.result == 45) v d.behind right left)) c.from.ensures)

pub returns-clause-extended : goal.returns-clause-extended
returns-clause-extended c = extended_read c.args.bytes.now c.in_ok-decimal.decimal c.in_ok-exponent.exponent.end c.byte_at-negative.result (number_view c.in_ok-number.number) c.in_ok-decimal.ensures c.in_ok-exponent.ensures.end c.byte_at-negative.ensures (number_is c)

pub returns-clause-json : goal.returns-clause-json
returns-clause-json c = λ whole found. json_read c.args.bytes.now c.in_ok-decimal.decimal c.in_ok-exponent.exponent.end c.byte_at-negative.result whole (number_view c.in_ok-number.number) c.in_ok-decimal.ensures c.in_ok-exponent.ensures.end c.byte_at-negative.ensures (number_is c) found
