use Rattle.std.proofs.Common.{sym}
use Rattle.key_document.proofs.NamesLeft.{finish_lacks}
use Rattle.key_document.proofs.names.finish.Goals as goal

pub returns-in_err-write_rest-clause-finished : goal.returns-in_err-write_rest-clause-finished
returns-in_err-write_rest-clause-finished c = λ first t last last_counts old each s.
    finish_lacks first t c.args.retaining.now.found old c.from_residual.result c.in_err-write_rest.field-0.0 c.args.out.now c.write_rest.new.out c.if-not-retaining.false c.from_residual.ensures.1 (c.in_err-write_rest.ensures.written first _ _ last last_counts old each s)

pub returns-clause-finished : goal.returns-clause-finished
returns-clause-finished c = λ first t last last_counts old each s. (sym c.if-not-retaining.false, c.in_ok-write_rest.ensures.written first _ _ last last_counts old each s)
