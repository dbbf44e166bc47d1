use Rattle.std.proofs.Common.{inr, subst, sym, ◌∙◌}
use Rattle.jsonb_spec.specs.Tree.{number}
use Rattle.text_common.specs.declared.verbatim.Verbatim.TheVariants.{Integer}
use Rattle.text_parse.specs.Parser.{PassesFront}
use Rattle.text_parse.proofs.Scalars.Built.{put_so, puts_on, scalar_still}
use Rattle.text_parse.proofs.parser.Parser.put_strict_value.Goals as goal

pub returns-in-Some-Integer : goal.returns-in-Some-Integer
returns-in-Some-Integer g c =
    let passed = subst (λ found. PassesFront c.args.self.now c.strict_front.new.self found) c.in-Some-Integer.field-0-is c.in-Some-Integer.ensures.passes in
    put_so g.V.Handler c.strict_front.ensures.advances (number passed.value) c.put.ensures
    (inr (record { verbatim = Integer; is = c.scalar-integer.ensures (sym c.wants.ensures.verbatim ∙ c.in-Some-Integer.ensures.asked); holds = passed.holds })) passed.parses

pub returns-in-Some-Point : goal.returns-in-Some-Point
returns-in-Some-Point g c =
    let p = c.strict_front.new.self in
    puts_on g.V.Handler c.strict_front.ensures.advances (scalar_still c.args.self.now p (subst (λ found. PassesFront c.args.self.now p found) c.in-Some-Point.field-0-is c.in-Some-Point.ensures.passes).0)
    c.put_decimal_value.ensures

pub returns-in-None : goal.returns-in-None
returns-in-None g c = puts_on g.V.Handler c.strict_front.ensures.advances (scalar_still c.args.self.now c.strict_front.new.self c.in-None.ensures.passes) c.put_short_value.ensures
