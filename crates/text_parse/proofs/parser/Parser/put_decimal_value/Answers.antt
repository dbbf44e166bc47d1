use Rattle.std.proofs.Common.{inr, sym, ◌∙◌}
use Rattle.jsonb_spec.specs.Tree.{number}
use Rattle.text_common.specs.declared.verbatim.Verbatim.TheVariants.{Decimal}
use Rattle.text_parse.proofs.Scalars.Built.{number_before_point, put_so, puts_on}
use Rattle.text_parse.proofs.parser.Parser.put_decimal_value.Goals as goal

pub returns-then-verbatim_decimal : goal.returns-then-verbatim_decimal
returns-then-verbatim_decimal g c =
    let passed = c.if-verbatim_decimal.ensures.passes in
    put_so g.V.Handler c.verbatim_decimal.ensures.advances (number passed.value) c.put.ensures
    (inr (record { verbatim = Decimal; is = c.scalar-decimal.ensures (sym c.wants.ensures.verbatim ∙ c.if-verbatim_decimal.ensures.asked); holds = passed.holds })) passed.parses

pub returns : goal.returns
returns g c =
    puts_on g.V.Handler c.verbatim_decimal.ensures.advances (number_before_point c.args.self.now c.verbatim_decimal.new.self c.args.front c.if-verbatim_decimal.ensures.passes c.requires.point)
    c.put_number.ensures
