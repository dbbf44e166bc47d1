use Rattle.std.proofs.Common.{length, ap, ◌∙◌, arith}
use Rattle.std.proofs.lemmas.List.{length-set}
use Rattle.key_text.proofs.Few.{few_begun, few_ended, few_left}
use Rattle.key_text.proofs.number.encode_few.Goals as goal

pub pairs-init : goal.pairs-init
pairs-init c = record {
  encodes = λ tail. few_begun c.args.bytes.now c.args.row.now tail c.requires;
  few = omega arith;
  size = ap length c.requires;
}

pub returns-then-byte-eq0-clause-found : goal.returns-then-byte-eq0-clause-found
returns-then-byte-eq0-clause-found c = λ some C M below positive most tail more e.
    few_ended c.args.bytes.now tail c.pairs.row c.pairs.pairs c.digits_of_pair-tens.result.0 c.digits_of_pair-tens.result.1 (c.pairs.invariant.encodes tail) (omega (arith, c.pairs-test.true)) (omega (arith, c.pairs-test.true)) c.pairs.invariant.size C M below positive most more e c.digits_of_pair-tens.ensures c.if-byte-eq0.true

pub pairs-preserved : goal.pairs-preserved
pairs-preserved c = record {
  encodes = λ tail C M below positive most more e.
      few_left c.args.bytes.now tail c.pairs.row c.pairs.pairs c.digits_of_pair-tens.result.0 c.digits_of_pair-tens.result.1 (c.pairs.invariant.encodes tail) (omega (arith, c.pairs-test.true)) (omega (arith, c.pairs-test.true)) c.pairs.invariant.size C M below positive most more e c.digits_of_pair-tens.ensures c.if-byte-eq0.false;
  few = omega (arith, c.pairs-test.true);
  size = length-set _ _ _ ∙ length-set _ _ _ ∙ c.pairs.invariant.size;
}
