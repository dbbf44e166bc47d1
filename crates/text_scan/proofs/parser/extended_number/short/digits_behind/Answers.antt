use Rattle.std.proofs.Common.{arith, ◌≡◌, ap, refl, sym, ◌∙◌, take}
use Rattle.std.specs.Str.Parse.{digits_value_after}
use Rattle.jsonb_spec.specs.Parsing.Number.{digits_length}
use Rattle.text_scan.proofs.Numbers.DigitValues.{adds_behind}
use Rattle.text_scan.proofs.Numbers.Steps.{digits_go_on, digits_end_here, digits_end_past}
use Rattle.text_scan.proofs.parser.extended_number.short.digits_behind.Goals as goal
use Rattle.text_scan.proofs.parser.extended_number.short.digits_behind.Goals.{then-digits-test+else-is_ascii_digit, else-digits-test}

pub overflow_mul-value : goal.overflow_mul-value
overflow_mul-value c =
    let i = c.digits.invariant in
    let step = adds_behind c.args.bytes.now c.args.before.len c.digits.count c.args.before.value c.digits.value _ c.digits-test.true (omega (arith, i.1, c.if-before-count-eq-SAFE_DIGITS.false)) (sym c.is_ascii_digit.ensures.value ∙ c.if-is_ascii_digit.true) i.3 i.4 refl in
    omega (arith, step.fits)

pub overflow_add-value : goal.overflow_add-value
overflow_add-value c =
    let i = c.digits.invariant in
    let step = adds_behind c.args.bytes.now c.args.before.len c.digits.count c.args.before.value c.digits.value c.from.result c.digits-test.true (omega (arith, i.1, c.if-before-count-eq-SAFE_DIGITS.false)) (sym c.is_ascii_digit.ensures.value ∙ c.if-is_ascii_digit.true) i.3 i.4 c.from.ensures in
    omega (arith, step.fits)

pub digits-preserved : goal.digits-preserved
digits-preserved c =
    let i = c.digits.invariant in
    let step = adds_behind c.args.bytes.now c.args.before.len c.digits.count c.args.before.value c.digits.value c.from.result c.digits-test.true (omega (arith, i.1, c.if-before-count-eq-SAFE_DIGITS.false)) (sym c.is_ascii_digit.ensures.value ∙ c.if-is_ascii_digit.true) i.3 i.4 c.from.ensures in (
      omega (arith, c.digits-test.true),
      omega (arith, i.1, c.if-before-count-eq-SAFE_DIGITS.false),
      digits_go_on c.args.bytes.now c.digits.count (digits_length c.args.bytes.now) (sym c.is_ascii_digit.ensures.value ∙ c.if-is_ascii_digit.true) i.2,
      step.is_value,
      step.below,
    )

pub returns-clause-len : goal.returns-clause-len
returns-clause-len c =
    let all : c.digits.count ≡ digits_length c.args.bytes.now = elim c.digits-test.branch [
      | then-digits-test+else-is_ascii_digit w ↦ digits_end_here c.args.bytes.now c.digits.count (digits_length c.args.bytes.now) (sym w.is_ascii_digit.ensures.value ∙ w.if-is_ascii_digit.false) c.digits.invariant.2
      | else-digits-test w ↦ digits_end_past c.args.bytes.now c.digits.count (digits_length c.args.bytes.now) w.digits-test.false c.digits.invariant.2
    ] in
    omega (arith, all)

pub returns-clause-value : goal.returns-clause-value
returns-clause-value c =
    let all : c.digits.count ≡ digits_length c.args.bytes.now = elim c.digits-test.branch [
      | then-digits-test+else-is_ascii_digit w ↦ digits_end_here c.args.bytes.now c.digits.count (digits_length c.args.bytes.now) (sym w.is_ascii_digit.ensures.value ∙ w.if-is_ascii_digit.false) c.digits.invariant.2
      | else-digits-test w ↦ digits_end_past c.args.bytes.now c.digits.count (digits_length c.args.bytes.now) w.digits-test.false c.digits.invariant.2
    ] in
    c.digits.invariant.3 ∙ ap (λ n. digits_value_after 10 c.args.before.value (take n c.args.bytes.now)) all
