use Rattle.std.proofs.Common.{◌++◌, []}
use Rattle.key_document.proofs.Retained.{rest_ahead, rest_each, rest_lacks, rest_written}
use Rattle.key_document.proofs.retain.write_rest.Goals as goal

pub returns-in_err-write_bytes-clause-written : goal.returns-in_err-write_bytes-clause-written
returns-in_err-write_bytes-clause-written c = λ first bytes counts last last_counts old each s.
    rest_lacks first bytes counts old last last_counts c.args.retaining.now c.args.out.now c.write_bytes.new.out s c.from_residual.result c.in_err-write_bytes.field-0.0 c.from_residual.ensures.1
    (c.in_err-write_bytes.ensures.written (s.waiting_counts ++ last_counts) []
    (rest_each first bytes counts old last last_counts c.args.retaining.now c.args.out.now c.write_bytes.new.out s each)
    (rest_ahead first bytes counts old last last_counts c.args.retaining.now c.args.out.now c.write_bytes.new.out s))

pub returns-clause-written : goal.returns-clause-written
returns-clause-written c = λ first bytes counts last last_counts old each s.
    rest_written first bytes counts old last last_counts c.args.retaining.now c.args.out.now c.write_bytes.new.out s
    (c.in_ok-write_bytes.ensures.written (s.waiting_counts ++ last_counts) []
    (rest_each first bytes counts old last last_counts c.args.retaining.now c.args.out.now c.write_bytes.new.out s each)
    (rest_ahead first bytes counts old last last_counts c.args.retaining.now c.args.out.now c.write_bytes.new.out s)).0
