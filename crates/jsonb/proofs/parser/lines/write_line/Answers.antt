use Rattle.std.proofs.Common.{◌≡◌, ◌+◌, Err, arith, length, vec_capacity, vec_len}
use Rattle.std.proofs.lemmas.Result.{err_from_is_err_and}
use Rattle.jsonb_spec.specs.Text.{tree_text}
use Rattle.jsonb_core.specs.declared.error.Error.TheVariants.{OutOfMemory}
use Rattle.text_scan.specs.Answer.{grammar_of}
use Rattle.jsonb.proofs.Lines.{feed_lacks, text_grows, text_lacks_line}
use Rattle.jsonb.proofs.parser.lines.write_line.Goals as goal

pub returns-in_err-write_line_form-clause-memory : goal.returns-in_err-write_line_form-clause-memory
returns-in_err-write_line_form-clause-memory c = λ is.
    let residual = err_from_is_err_and c.from_residual.result c.from_residual.ensures.1 in
    let reported : c.write_line_form.result ≡ Err OutOfMemory = (let returned = residual.1 in let same = residual.2 in let was = c.in_err-write_line_form.was in cc) in
    text_lacks_line (grammar_of c.args.grammar) c.args.line.now (vec_capacity c.args.sink.now.written.out) (vec_len c.args.sink.now.written.out) (c.write_line_form.ensures.appends.memory reported)

pub returns-in-Err-clause-memory : goal.returns-in-Err-clause-memory
returns-in-Err-clause-memory c = λ is.
    let before = c.args.sink.now.written.out in
    let now = c.write_line_form.new.sink.written.out in
    let appended = c.in_ok-write_line_form.ensures.appends.ok in
    let grown = text_grows (grammar_of c.args.grammar) c.args.line.now before.items now.items appended.tree appended.parsed.document appended.appended in
    let longer : vec_len now ≡ vec_len before + length (tree_text appended.tree) = omega (arith, grown, before.ok.0, now.ok.0) in
    feed_lacks (grammar_of c.args.grammar) c.args.line.now (vec_capacity before) (vec_capacity now) (vec_len before) (vec_len now) appended.tree appended.parsed.document c.in_ok-write_line_form.ensures.appends.capacity c.in-Err.ensures.full longer
