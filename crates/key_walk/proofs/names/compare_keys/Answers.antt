use Rattle.std.proofs.Common.{arith, sym, ◌∙◌}
use Rattle.key_walk.proofs.KeyFronts.{few_compare, few_not_over, first_compare, first_not_over}
use Rattle.key_walk.proofs.names.compare_keys.Goals as goal

pub returns-then-bytes-key-clause-compares : goal.returns-then-bytes-key-clause-compares
returns-then-bytes-key-clause-compares c = λ name is text more e. c.cmp.ensures ∙ few_compare c.args.key.now c.args.bytes.now name is c.if-bytes-key.true text more e

pub returns-then-bytes-key-clause-not_over : goal.returns-then-bytes-key-clause-not_over
returns-then-bytes-key-clause-not_over c = λ name is same. few_not_over c.args.key.now c.args.bytes.now name is c.if-bytes-key.true (sym c.cmp.ensures ∙ same)

pub returns-clause-compares : goal.returns-clause-compares
returns-clause-compares c = λ name is text more e. c.cmp-2.ensures ∙ first_compare c.args.key.now c.args.bytes.now name is _ c.split_at.ensures.front (omega (arith, c.if-bytes-key.false)) text more e

pub returns-clause-not_over : goal.returns-clause-not_over
returns-clause-not_over c = λ name is same. first_not_over c.args.key.now c.args.bytes.now name is _ c.split_at.ensures.front (omega (arith, c.if-bytes-key.false)) (sym c.cmp-2.ensures ∙ same)
