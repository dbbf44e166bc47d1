use Rattle.std.proofs.Common.{ap, sym, ◌∙◌, subst, ◌+◌, Some, rules}
use Rattle.std.specs.Prelude.{◌==◌}
use Rattle.std.specs.Str.Parse.{digits_value}
use Rattle.jsonb_core.specs.View.{number_view}
use Rattle.text_scan.specs.Answer.{Fails}
use Rattle.text_parse.specs.Parser.{rest_of, size_of}
use Rattle.jsonb_spec.specs.Parsing.Number.{ContinuesAfterInteger, integer_of, whole_digits}
use Rattle.text_scan.proofs.Numbers.Steps.{HasWhole, whole_end, invalid_at, read_past, integer_read, integer_missing, found_whole, found_has_whole, found_end, found_missing, found_needless, found_value}
use Rattle.text_parse.proofs.parser.Parser.parse_standard_number.Goals as goal

pub returns-then-digits-eq0 : goal.returns-then-digits-eq0
returns-then-digits-eq0 c =
    record {
      parses =
          let found = found_whole c.rest-bytes.result.now c.after_minus.result.now c.from-start.result c.leading_digits-digits.result.len c.byte_at-negative.result c.byte_at-negative.ensures c.from-start.ensures c.after_minus.ensures c.leading_digits-digits.ensures.len in
          rw c.invalid_number.ensures (invalid_at c.args.self.now.offset c.from-start.result c.args.self.now.buf.now c.rest-bytes.result.now c.args.self.now.inside c.rest-bytes.ensures (found_missing c.rest-bytes.result.now c.from-start.result c.leading_digits-digits.result.len found c.if-digits-eq0.true));
      takes_no_memory = search rules;
      advances = search rules;
    }

pub returns-then-first-eq48 : goal.returns-then-first-eq48
returns-then-first-eq48 c =
    record {
      parses =
          let found = found_whole c.rest-bytes.result.now c.after_minus.result.now c.from-start.result c.leading_digits-digits.result.len c.byte_at-negative.result c.byte_at-negative.ensures c.from-start.ensures c.after_minus.ensures c.leading_digits-digits.ensures.len in
          rw c.invalid_number-then-first-eq48.ensures (invalid_at c.args.self.now.offset (c.from-start.result + 2) c.args.self.now.buf.now c.rest-bytes.result.now c.args.self.now.inside c.rest-bytes.ensures (found_needless c.rest-bytes.result.now c.from-start.result c.leading_digits-digits.result.len c.byte_at-first.result found c.if-digits-gt1.true c.byte_at-first.ensures c.if-first-eq48.true));
      takes_no_memory = search rules;
      advances = search rules;
    }

pub returns-then-continues_after_integer : goal.returns-then-continues_after_integer
returns-then-continues_after_integer c =
    record {
      parses =
          let found = found_whole c.rest-bytes.result.now c.after_minus.result.now c.from-start.result c.leading_digits-digits.result.len c.byte_at-negative.result c.byte_at-negative.ensures c.from-start.ensures c.after_minus.ensures c.leading_digits-digits.ensures.len in
          let has_whole = found_has_whole c.rest-bytes.result.now c.from-start.result c.leading_digits-digits.result.len c.byte_at-first.result found c.if-digits-eq0.false c.byte_at-first.ensures c.else-digits-gt1.either in
          subst (Fails c.number_without_integer.result) (sym (read_past (size_of c.args.self.now) (c.from-start.result + c.leading_digits-digits.result.len) (rest_of c.args.self.now) (subst HasWhole c.rest-bytes.ensures has_whole) (found_end c.rest-bytes.result.now c.from-start.result c.leading_digits-digits.result.len found ∙ ap whole_end c.rest-bytes.ensures))) c.number_without_integer.ensures.fault;
      takes_no_memory = search rules;
      advances = search rules;
    }

pub returns-in-Some : goal.returns-in-Some
returns-in-Some c =
    record {
      parses =
          let found = found_whole c.rest-bytes.result.now c.after_minus.result.now c.from-start.result c.leading_digits-digits.result.len c.byte_at-negative.result c.byte_at-negative.ensures c.from-start.ensures c.after_minus.ensures c.leading_digits-digits.ensures.len in
          let has_whole = found_has_whole c.rest-bytes.result.now c.from-start.result c.leading_digits-digits.result.len c.byte_at-first.result found c.if-digits-eq0.false c.byte_at-first.ensures c.else-digits-gt1.either in
          let value = found_value c.rest-bytes.result.now c.after_minus.result.now c.leading_digits-digits.result.value c.after_minus.ensures c.leading_digits-digits.ensures.value in
          integer_read c.args.self.now.offset (c.from-start.result + c.leading_digits-digits.result.len) c.args.self.now.buf.now c.rest-bytes.result.now (Some (number_view c.in-Some.number)) c.rest-bytes.ensures has_whole (found_end c.rest-bytes.result.now c.from-start.result c.leading_digits-digits.result.len found) (λ goes_on. c.if-continues_after_integer.ensures (subst ContinuesAfterInteger (sym c.byte_at.ensures) goes_on)) (ap (λ b. integer_of (b == 45) (digits_value 10 (whole_digits c.rest-bytes.result.now))) (sym c.byte_at-negative.ensures) ∙ c.in-Some.ensures (digits_value 10 (whole_digits c.rest-bytes.result.now)) value);
      takes_no_memory = search rules;
      advances = search rules;
    }

pub returns-in-None : goal.returns-in-None
returns-in-None c =
    record {
      parses =
          let found = found_whole c.rest-bytes.result.now c.after_minus.result.now c.from-start.result c.leading_digits-digits.result.len c.byte_at-negative.result c.byte_at-negative.ensures c.from-start.ensures c.after_minus.ensures c.leading_digits-digits.ensures.len in
          let has_whole = found_has_whole c.rest-bytes.result.now c.from-start.result c.leading_digits-digits.result.len c.byte_at-first.result found c.if-digits-eq0.false c.byte_at-first.ensures c.else-digits-gt1.either in
          let value = found_value c.rest-bytes.result.now c.after_minus.result.now c.leading_digits-digits.result.value c.after_minus.ensures c.leading_digits-digits.ensures.value in
          integer_missing c.args.self.now.offset (c.from-start.result + c.leading_digits-digits.result.len) c.args.self.now.buf.now c.rest-bytes.result.now c.args.self.now.inside c.rest-bytes.ensures has_whole (found_end c.rest-bytes.result.now c.from-start.result c.leading_digits-digits.result.len found) (λ goes_on. c.if-continues_after_integer.ensures (subst ContinuesAfterInteger (sym c.byte_at.ensures) goes_on)) (ap (λ b. integer_of (b == 45) (digits_value 10 (whole_digits c.rest-bytes.result.now))) (sym c.byte_at-negative.ensures) ∙ c.in-None.ensures (digits_value 10 (whole_digits c.rest-bytes.result.now)) value);
      takes_no_memory = search rules;
      advances = search rules;
    }
