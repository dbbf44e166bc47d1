use Rattle.std.proofs.Common.{length, arith}
use Rattle.std.proofs.lemmas.Bool.{eqb-true}
use Rattle.key_table.proofs.Splitting.{ends_with, no_end_of_size, no_number}
use Rattle.key_table.proofs.check.is_end.Goals as goal
use Rattle.key_document.proofs.Checked.{refused}

pub returns-in_default : goal.returns-in_default
returns-in_default c = refused (no_number c.args.bytes.now c.args.count c.after_two.result c.after_two.ensures c.in_default.is)

pub returns-then-rest-eq1 : goal.returns-then-rest-eq1
returns-then-rest-eq1 c = ends_with c.args.bytes.now c.args.count c.after_two.result c.after_two.ensures c.in-Some.rest c.in-Some.is (omega (arith, c.if-rest-eq1.true)) (omega (arith, c.if-rest-eq1.true))

pub returns-else-rest-eq1 : goal.returns-else-rest-eq1
returns-else-rest-eq1 c = (λ one. absurd (c.if-rest-eq1.false (eqb-true (length c.in-Some.rest.now) 1 one)), λ e. absurd (no_end_of_size c.args.bytes.now c.args.count c.after_two.result c.after_two.ensures c.in-Some.rest c.in-Some.is (λ one. c.if-rest-eq1.false one) e))
