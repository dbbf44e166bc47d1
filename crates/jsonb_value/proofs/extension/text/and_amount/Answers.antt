use Rattle.std.proofs.Common.{◌≡◌, ◌≢◌, ℕ, length, unsigned_abs, ap, sym, ◌∙◌, length-append, append-nil, arith}
use Rattle.std.proofs.lemmas.Int.{ints, to_z-of_z}
use Rattle.std.specs.Fmt.InlineText.{inline_text}
use Rattle.jsonb_value.proofs.Appending.IntervalTexts.{length-with_piece, beside_no_amount, beside_amount, one_ends, more_end}
use Rattle.jsonb_value.proofs.extension.text.and_amount.Goals as goal

pub returns-then-amount-eq0-clause-text : goal.returns-then-amount-eq0-clause-text
returns-then-amount-eq0-clause-text c =
    let none : unsigned_abs c.args.amount ≡ 0 = omega (arith, ints) in
    beside_no_amount (inline_text c.args.text) c.args.amount c.args.unit.now none

pub and-number-requires : goal.and-number-requires
and-number-requires c = omega (arith, length-with_piece (inline_text c.args.text), ap length c.and_space.ensures)

pub and-requires : goal.and-requires
and-requires c =
    omega (arith, length-with_piece (inline_text c.args.text), ap length c.and_space.ensures, ap length c.and-number.ensures, length-append (inline_text c.and_space.result) c.format.result.now)

pub and-named-requires : goal.and-named-requires
and-named-requires c =
    omega (
      arith,
      length-with_piece (inline_text c.args.text),
      ap length c.and_space.ensures,
      ap length c.and-number.ensures,
      length-append (inline_text c.and_space.result) c.format.result.now,
      ap length c.and.ensures,
      length-append {A = ℕ},
    )

pub and-requires-else-unsigned_abs-eq1 : goal.and-requires-else-unsigned_abs-eq1
and-requires-else-unsigned_abs-eq1 c =
    omega (arith, length-with_piece (inline_text c.args.text), ap length c.and_space.ensures, ap length c.and-number.ensures, ap length c.and.ensures, ap length c.and-named.ensures, length-append {A = ℕ})

pub returns-then-unsigned_abs-eq1-clause-text : goal.returns-then-unsigned_abs-eq1-clause-text
returns-then-unsigned_abs-eq1-clause-text c =
    let fits = c.ranges.amount in
    let some : unsigned_abs c.args.amount ≢ 0 = omega (arith, ints) in
    let size = simp to_z-of_z at c.unsigned_abs.ensures.value in
    let number = simp to_z-of_z at c.format.ensures.text in
    let last = one_ends (unsigned_abs c.args.amount) (sym size ∙ c.if-unsigned_abs-eq1.true) in
    let nothing = append-nil (inline_text c.and-named.result) in
    let joined = beside_amount (inline_text c.args.text) c.args.amount c.args.unit.now _ (inline_text c.and-named.result) some last in
    joined (cc (c.and-named.ensures, c.and.ensures, c.and-number.ensures, c.and_space.ensures))

pub returns-then-unsigned_abs-eq1-clause-length : goal.returns-then-unsigned_abs-eq1-clause-length
returns-then-unsigned_abs-eq1-clause-length c =
    omega (arith, length-with_piece (inline_text c.args.text), ap length c.and_space.ensures, ap length c.and-number.ensures, ap length c.and.ensures, ap length c.and-named.ensures, length-append {A = ℕ})

pub returns-else-unsigned_abs-eq1-clause-text : goal.returns-else-unsigned_abs-eq1-clause-text
returns-else-unsigned_abs-eq1-clause-text c =
    let fits = c.ranges.amount in
    let some : unsigned_abs c.args.amount ≢ 0 = omega (arith, ints) in
    let size = simp to_z-of_z at c.unsigned_abs.ensures.value in
    let number = simp to_z-of_z at c.format.ensures.text in
    let last = more_end (unsigned_abs c.args.amount) (λ e. c.if-unsigned_abs-eq1.false (size ∙ e)) in
    let joined = beside_amount (inline_text c.args.text) c.args.amount c.args.unit.now _ (inline_text c.and-else-unsigned_abs-eq1.result) some last in
    joined (cc (c.and-else-unsigned_abs-eq1.ensures, c.and-named.ensures, c.and.ensures, c.and-number.ensures, c.and_space.ensures))

pub returns-else-unsigned_abs-eq1-clause-length : goal.returns-else-unsigned_abs-eq1-clause-length
returns-else-unsigned_abs-eq1-clause-length c =
    omega (
      arith,
      length-with_piece (inline_text c.args.text),
      ap length c.and_space.ensures,
      ap length c.and-number.ensures,
      ap length c.and.ensures,
      ap length c.and-named.ensures,
      ap length c.and-else-unsigned_abs-eq1.ensures,
      length-append {A = ℕ},
    )
