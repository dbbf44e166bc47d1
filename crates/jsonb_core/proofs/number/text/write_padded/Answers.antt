use Rattle.std.proofs.Common.{arith, rules, ◌<◌, ◌^◌}
use Rattle.std.proofs.lemmas.Fmt.{length-decimal-le}
use Rattle.std.specs.Fmt.{decimal}
use Rattle.jsonb_core.proofs.Numbers.Rows.{padded_enough, padded_zeros, row_digits}
use Rattle.jsonb_core.proofs.number.text.write_padded.Goals as goal

pub write_digits-start-requires : goal.write_digits-start-requires
write_digits-start-requires c =
    let small : c.args.magnitude < 2 ^ 64 = search rules in
    (omega (arith, length-decimal-le 20 c.args.magnitude (omega arith) (omega (arith, small)) small), omega (arith, c.told-row))

pub returns-then-start-scale-lt64-clause-digits : goal.returns-then-start-scale-lt64-clause-digits
returns-then-start-scale-lt64-clause-digits c =
    let w = c.write_digits-start in
    padded_enough c.args.scale w.result (decimal c.args.magnitude) w.new.buf w.ensures.start c.if-start-scale-lt64.true (row_digits w.result (decimal c.args.magnitude) c.args.row.now w.new.buf c.requires.zeros w.ensures.written)

pub returns-then-start-scale-lt64-clause-space : goal.returns-then-start-scale-lt64-clause-space
returns-then-start-scale-lt64-clause-space c =
    let small : c.args.magnitude < 2 ^ 64 = search rules in
    omega (arith, c.write_digits-start.ensures.start, length-decimal-le 20 c.args.magnitude (omega arith) (omega (arith, small)) small)

pub returns-clause-digits : goal.returns-clause-digits
returns-clause-digits c =
    let w = c.write_digits-start in
    padded_zeros c.args.scale w.result (decimal c.args.magnitude) c.args.row.now w.new.buf c.requires.few c.requires.zeros w.ensures.start (omega (arith, c.if-start-scale-lt64.false)) (row_digits w.result (decimal c.args.magnitude) c.args.row.now w.new.buf c.requires.zeros w.ensures.written) w.ensures.before
