use Rattle.std.proofs.Common.{◌≡◌, ◌-◌, ◌+◌, length, sym, ◌∙◌, arith}
use Rattle.jsonb_spec.specs.Line.{is_line_feed}
use Rattle.text_scan.proofs.Offsets.Lines.{behind_none, behind_last}
use Rattle.text_scan.proofs.line.last_line_len.Goals as goal

pub returns-in-Some-clause-value : goal.returns-in-Some-clause-value
returns-in-Some-clause-value c =
    let behind = behind_last is_line_feed c.args.bytes.now c.in-Some.offset c.in-Some.ensures.0 c.in-Some.ensures.1 in
    let same : length c.args.bytes.now - c.in-Some.offset - 1 ≡ length c.args.bytes.now - (c.in-Some.offset + 1) = omega arith in
    same ∙ sym behind

pub returns-in-None-clause-value : goal.returns-in-None-clause-value
returns-in-None-clause-value c = sym (behind_none is_line_feed c.args.bytes.now c.in-None.ensures)
