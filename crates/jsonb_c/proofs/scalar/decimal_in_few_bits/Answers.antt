use Rattle.std.proofs.Common.{[], sym, ◌∙◌}
use Rattle.jsonb_c.proofs.Decimals.{is_short}
use Rattle.jsonb_c.proofs.KeyParts.{all_of_it}
use Rattle.jsonb_c.proofs.scalar.decimal_in_few_bits.Goals as goal

pub returns : goal.returns
returns c = λ t k.
    is_short t k.readable c.in_ok-kind.kind (c.in_ok-kind.ensures.kind t k.readable [] (all_of_it c.args.key.now t k)) (sym c.is_number.ensures ∙ c.if-not-is_number.false) c.args.key.now (all_of_it c.args.key.now t k) c.short_decimal.result c.short_decimal.ensures
