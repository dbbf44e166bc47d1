use Rattle.std.proofs.Common.{◌≡◌, ◌+◌, Err, ap, arith, inl, inr, length}
use Rattle.jsonb_spec.specs.Text.{tree_text}
use Rattle.std.specs.Vec.{vec_capacity, vec_len}
use Rattle.text_scan.specs.Answer.{grammar_of}
use Rattle.jsonb.proofs.Lines.{capacity_stays, line_fits, line_grows, line_passed, line_rejected, line_written, memory_lacks}
use Rattle.text_members.proofs.Fronts.{extends_on}
use Rattle.jsonb.proofs.parser.lines.write_lines.Goals as goal

pub returns-in-Err-clause-rejects : goal.returns-in-Err-clause-rejects
returns-in-Err-clause-rejects c =
    line_rejected (grammar_of c.args.grammar) c.args.text.now c.lines.rest.now c.split_line.result.0.now c.split_line.result.1.now c.in-Err.error c.split_line.ensures.lines
    (record { rejects = c.in-Err.ensures.rejects; follows = c.in-Err.ensures.follows }) c.lines.invariant.rejected

pub returns-in-Err-clause-memory : goal.returns-in-Err-clause-memory
returns-in-Err-clause-memory c = λ is.
    let before = c.args.sink.now.written.out in
    let now = c.lines.sink.written.out in
    let line = c.split_line.result.0.now in
    memory_lacks (grammar_of c.args.grammar) c.args.text.now c.lines.rest.now line c.split_line.result.1.now (vec_capacity before) (vec_capacity now) (vec_len before) (vec_len now) c.split_line.ensures.lines
    (λ byte there. c.lines.invariant.parts byte (c.split_line.ensures.parts byte (inl there))) c.lines.invariant.capacity (c.in-Err.ensures.memory (ap Err is)) c.lines.invariant.lacks

pub returns-in-Err-clause-capacity : goal.returns-in-Err-clause-capacity
returns-in-Err-clause-capacity c =
    capacity_stays c.args.text.now c.split_line.result.0.now (vec_capacity c.args.sink.now.written.out) (vec_capacity c.lines.sink.written.out) (vec_capacity c.write_line.new.sink.written.out)
    (λ byte there. c.lines.invariant.parts byte (c.split_line.ensures.parts byte (inl there))) c.lines.invariant.capacity c.in-Err.ensures.capacity

pub lines-preserved : goal.lines-preserved
lines-preserved c =
    let line = c.split_line.result.0.now in
    let others = c.split_line.result.1.now in
    let appended = c.in_default.ensures.appends in
    let before = c.args.sink.now.written.out in
    let now = c.lines.sink.written.out in
    let next = c.write_line.new.sink.written.out in
    let grown = line_grows (grammar_of c.args.grammar) line now.items next.items appended in
    let longer : vec_len next ≡ vec_len now + (length (tree_text appended.tree) + 1) = omega (arith, grown, now.ok.0, next.ok.0) in
    record {
      written = line_written (grammar_of c.args.grammar) c.args.text.now c.lines.rest.now c.args.sink.now.written.out.items c.lines.sink.written.out.items line others c.write_line.new.sink.written.out.items c.split_line.ensures.lines appended
          c.lines.invariant.written;
      rejected = line_passed (grammar_of c.args.grammar) c.args.text.now c.lines.rest.now line others appended.tree c.split_line.ensures.lines appended.parsed c.split_line.ensures.length c.lines.invariant.within c.lines.invariant.rejected;
      retained = extends_on c.lines.invariant.retained c.write_line.ensures.retained;
      within = omega (arith, c.lines.invariant.within, c.split_line.ensures.shorter);
      parts = λ byte there. c.lines.invariant.parts byte (c.split_line.ensures.parts byte (inr there));
      capacity = capacity_stays c.args.text.now line (vec_capacity before) (vec_capacity now) (vec_capacity next) (λ byte there. c.lines.invariant.parts byte (c.split_line.ensures.parts byte (inl there))) c.lines.invariant.capacity
          c.write_line.ensures.capacity;
      lacks = line_fits (grammar_of c.args.grammar) c.args.text.now c.lines.rest.now line others appended.tree (vec_capacity before) (vec_len before) (vec_len now) (vec_len next) c.split_line.ensures.lines appended.parsed.document longer
          c.lines.invariant.lacks;
    }
