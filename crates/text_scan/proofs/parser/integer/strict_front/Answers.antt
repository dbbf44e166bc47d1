use Rattle.std.proofs.Common.{◌≡◌, ◌-◌, length, get_or, refl, sym, subst, ap, arith}
use Rattle.std.proofs.lemmas.List.{length-drop}
use Rattle.jsonb_spec.specs.Parsing.Number.{ContinuesNumber, digits_length, whole_start}
use Rattle.text_scan.proofs.Numbers.Verbatim.{verbatim_read}
use Rattle.text_scan.proofs.Numbers.VerbatimDecimals.{before_point}
use Rattle.text_scan.proofs.Numbers.Ends.{whole_start_within}
use Rattle.text_scan.proofs.Numbers.Steps.{starts_here}
use Rattle.text_scan.proofs.parser.integer.strict_front.Goals as goal

pub returns-clause-found : goal.returns-clause-found
returns-clause-found c =
    let bytes = c.args.bytes.now in
    let ds = c.after_minus-digits.result.now in
    let len = c.digits_and_next-len.result.0 in
    let start : length bytes - length ds ≡ whole_start bytes =
    omega (arith, ap length c.after_minus-digits.ensures, length-drop (whole_start bytes) bytes, whole_start_within bytes) in
    verbatim_read bytes ds (length bytes - length ds) len (get_or bytes 0 0) c.after_minus-digits.ensures refl start c.if-len-eq0.false c.digits_and_next-len.ensures.digits
    (λ more. c.if-continues_number.ensures (subst ContinuesNumber (sym c.digits_and_next-len.ensures.next) more)) (omega arith) c.if-not-may_begin.ensures

pub returns-clause-first : goal.returns-clause-first
returns-clause-first c =
    starts_here c.args.bytes.now (omega (arith, c.if-len-eq0.false, ap digits_length c.after_minus-digits.ensures, c.digits_and_next-len.ensures.digits))

pub returns-then-next-eq46-clause-found : goal.returns-then-next-eq46-clause-found
returns-then-next-eq46-clause-found c =
    before_point c.args.bytes.now c.after_minus-digits.result.now c.digits_and_next-len.result.0 c.digits_and_next-len.result.1 c.after_minus-digits.ensures c.if-len-eq0.false c.digits_and_next-len.ensures.digits c.digits_and_next-len.ensures.next c.if-next-eq46.true

pub returns-then-next-eq46-clause-first : goal.returns-then-next-eq46-clause-first
returns-then-next-eq46-clause-first c =
    starts_here c.args.bytes.now (omega (arith, c.if-len-eq0.false, ap digits_length c.after_minus-digits.ensures, c.digits_and_next-len.ensures.digits))
