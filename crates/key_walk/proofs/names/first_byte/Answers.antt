use Rattle.std.proofs.Common.{sym, arith, ◌∙◌}
use Rattle.key_walk.proofs.KeyFronts.{first_number, some_taken}
use Rattle.key_walk.proofs.names.first_byte.Goals as goal

pub returns : goal.returns
returns c = record {
  front = λ size some. record {
    count = 1;
    some = omega arith;
    bits = c.first_bytes.ensures.1;
    within = some_taken c.args.bytes.now size some c.requires;
    is = c.first_bytes.ensures.0 ∙ c.from.ensures ∙ sym (first_number c.args.bytes.now size some);
    whole = λ more. absurd (omega (arith, more, c.first_bytes.ensures.2));
  };
}
