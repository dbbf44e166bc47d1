use Rattle.jsonb_core.proofs.Numbers.Pointed.{joined_whole, joined_inside, joined_before}
use Rattle.jsonb_core.proofs.number.text.decimal_parts.Goals as goal

pub returns-then-exponents-eq0-clause-text : goal.returns-then-exponents-eq0-clause-text
returns-then-exponents-eq0-clause-text c =
    cc (c.sign_of-sign.ensures, joined_whole c.args.scale c.args.digits.now c.if-exponents-eq0.true c.requires.some_digit)

pub returns-then-exponents-digits-clause-text : goal.returns-then-exponents-digits-clause-text
returns-then-exponents-digits-clause-text c =
    cc (c.sign_of-sign.ensures, joined_inside c.args.scale c.args.digits.now _ _ c.if-exponents-eq0.false c.if-exponents-digits.true c.split_at.ensures.front c.split_at.ensures.back)

pub returns-clause-text : goal.returns-clause-text
returns-clause-text c =
    cc (c.sign_of-sign.ensures, joined_before c.args.scale c.args.digits.now c.if-exponents-eq0.false c.if-exponents-digits.false)
