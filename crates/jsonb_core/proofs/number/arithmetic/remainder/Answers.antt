use Rattle.std.proofs.Common.{rules, ap, ◌∙◌, sym, ⊎_elim}
use Rattle.std.specs.Int.{w128, cast_unsigned}
use Rattle.std.specs.Prelude.{int_rem}
use Rattle.jsonb_core.proofs.Numbers.Integers.{int_rem_is, int_rem_fits, int_rem_passed}
use Rattle.jsonb_core.proofs.number.arithmetic.remainder.Goals as goal

pub returns : goal.returns
returns c = record {
  no_divisor = search rules;
  overflows = λ least.
      absurd (⊎_elim (λ other. other.1 (ap (cast_unsigned w128) least.1)) (λ other. other (ap (cast_unsigned w128) (least.0 ∙ sym c.from.ensures))) c.else-left-from.either);
  divides = λ some _.
      (int_rem c.args.left c.args.right, int_rem_is c.args.left c.args.right some, c.number_of_kind.ensures (int_rem c.args.left c.args.right) (int_rem_fits c.args.left c.args.right c.ranges.left, int_rem_passed c.args.left c.args.right c.ranges.left c.ranges.right));
}
