use Rattle.std.proofs.Common.{◌∷◌, ◌+◌, ◌<◌, ◌++◌, refl, length, map, arith, rules, sym, ap, ◌∙◌}
use Rattle.jsonb_spec.specs.SortKey.{exponent_key, invert_if}
use Rattle.key_value.proofs.Exact.{far_exact, near_exact, if_some}
use Rattle.key_value.proofs.number.exponent_after.Goals as goal

pub returns-then-byte-clause-read : goal.returns-then-byte-clause-read
returns-then-byte-clause-read c =
    if_some c.read_second.result c.read_second.ensures.read (λ r read. record {
      occurs = far_exact c.args.negative c.args.first r.0 (c.args.first ∷ c.args.rest.now) c.args.rest.now r.1.now (search rules) (sym c.invert_if-byte.ensures ∙ c.if-byte.true) refl read.0 read.1;
      shorter = omega (arith, ap length read.0);
      few = omega (arith, read.1);
    })

pub returns-clause-read : goal.returns-clause-read
returns-clause-read c =
    let small : c.invert_if-byte.result < 256 = search rules in
    record {
      occurs = near_exact c.args.negative c.args.first c.invert_if-byte.result (c.args.first ∷ c.args.rest.now) c.args.rest.now (search rules) c.invert_if-byte.ensures (omega (arith, c.if-byte-lt130.false)) refl
          ∙ ap (λ b. map (invert_if c.args.negative) (exponent_key (b + 95)) ++ c.args.rest.now) (sym c.from.ensures);
      shorter = omega (arith);
      few = omega (arith, small, c.from.ensures);
    }
