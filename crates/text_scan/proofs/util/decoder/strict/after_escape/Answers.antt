use Rattle.std.proofs.Common.{sym}
use Rattle.std.proofs.lemmas.List.{nil_from_length}
use Rattle.jsonb_spec.specs.Mode.{standard}
use Rattle.text_scan.proofs.Strings.Strict.{escape_item, unit_item, cut_none, letter_none, unit_none}
use Rattle.text_scan.proofs.util.decoder.strict.after_escape.Goals as goal

pub returns-in_default-clause-none : goal.returns-in_default-clause-none
returns-in_default-clause-none c = cut_none c.args.bytes.now (nil_from_length c.args.bytes.now c.in_default.ensures.cases)

pub returns-in_default-read_unit-clause-none : goal.returns-in_default-read_unit-clause-none
returns-in_default-read_unit-clause-none c = unit_none c.in-Some.letter.now c.args.bytes.now c.in-Some.rest.now _ _ c.in-Some.ensures.cases.0 c.if-letter-eq117.true (c.in_default-read_unit.ensures.err standard tt)

pub returns-then-letter-eq117-clause-some : goal.returns-then-letter-eq117-clause-some
returns-then-letter-eq117-clause-some c =
    let unit = c.in-Ok.unit in
    unit_item c.in-Some.letter.now c.args.bytes.now c.in-Some.rest.now unit.digits.now unit.rest.now unit.value c.in-Some.ensures.cases.0 c.if-letter-eq117.true c.in-Ok.ensures.ok

pub returns-in_default-escaped_byte-clause-none : goal.returns-in_default-escaped_byte-clause-none
returns-in_default-escaped_byte-clause-none c =
    letter_none c.in-Some.letter.now c.args.bytes.now c.in-Some.rest.now c.in-Some.ensures.cases.0 c.if-letter-eq117.false (sym c.in_default-escaped_byte.ensures)

pub returns-clause-some : goal.returns-clause-some
returns-clause-some c = escape_item c.in-Some.letter.now c.in-Some-escaped_byte.field-0 c.args.bytes.now c.in-Some.rest.now c.in-Some.ensures.cases.0 (sym c.in-Some-escaped_byte.ensures)
