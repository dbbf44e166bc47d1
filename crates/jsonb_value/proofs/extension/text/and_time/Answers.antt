use Rattle.std.proofs.Common.{◌≡◌, ◌≢◌, length, unsigned_abs, ap, length-append, arith}
use Rattle.std.proofs.lemmas.Int.{ints, to_z-of_z}
use Rattle.std.specs.Fmt.InlineText.{inline_text}
use Rattle.jsonb_value.proofs.Appending.IntervalTexts.{length-with_piece, length-sign_text, beside_no_time, beside_time}
use Rattle.jsonb_value.proofs.extension.text.and_time.Goals as goal

pub returns-then-micros-eq0 : goal.returns-then-micros-eq0
returns-then-micros-eq0 c =
    let none : unsigned_abs c.args.micros ≡ 0 = omega (arith, ints) in
    beside_no_time (inline_text c.args.text) c.args.micros none

pub and-signed-requires : goal.and-signed-requires
and-signed-requires c =
    omega (arith, length-with_piece (inline_text c.args.text), ap length c.and_space.ensures, ap length c.sign_of.ensures, length-sign_text)

pub and_clock-requires : goal.and_clock-requires
and_clock-requires c =
    omega (
      arith,
      length-with_piece (inline_text c.args.text),
      ap length c.and_space.ensures,
      ap length c.sign_of.ensures,
      length-sign_text,
      ap length c.and-signed.ensures,
      length-append (inline_text c.and_space.result) c.sign_of.result.now,
    )

pub returns : goal.returns
returns c =
    let fits = c.ranges.micros in
    let some : unsigned_abs c.args.micros ≢ 0 = omega (arith, ints) in
    let sign = simp to_z-of_z at c.sign_of.ensures in
    let size = simp to_z-of_z at c.unsigned_abs.ensures.value in
    let joined = beside_time (inline_text c.args.text) c.args.micros (inline_text c.and_clock.result) some in
    joined (cc (c.and_clock.ensures, c.and-signed.ensures, c.and_space.ensures))
