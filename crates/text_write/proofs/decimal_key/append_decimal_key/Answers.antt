use Rattle.std.proofs.Common.{◌≡◌, ◌≤◌, ◌++◌, ◌∙◌, ◌==◌, ap, map, take, subst, sym, arith}
use Rattle.std.specs.Str.Parse.{AllDigits, digits_value}
use Rattle.jsonb_spec.specs.SortKey.{invert_if, magnitude_key}
use Rattle.text_write.proofs.DecimalKeys.{decimal_of, some_written, zero_written}
use Rattle.text_members.proofs.Outcomes.{on_ok}
use Rattle.text_write.proofs.decimal_key.append_decimal_key.Goals as goal

pub returns-then-digits-ge32-clause-bytes : goal.returns-then-digits-ge32-clause-bytes
returns-then-digits-ge32-clause-bytes c = λ n short text.
    let of = decimal_of n c.args.bytes.now c.after_minus-digits.result.now short text c.after_minus-digits.ensures in
    absurd (omega (arith, of.few, c.if-digits-ge32.true))

pub returns-then-pointed-eq0-clause-bytes : goal.returns-then-pointed-eq0-clause-bytes
returns-then-pointed-eq0-clause-bytes c = λ n short text.
    let of = decimal_of n c.args.bytes.now c.after_minus-digits.result.now short text c.after_minus-digits.ensures in
    let found = c.pointed_digits-pointed in
    c.in_ok-extend_from_slice.ensures.items ∙ ap (λ xs. c.args.out.now.items ++ xs) (sym (zero_written n _ _ found.result.row found.result.count of c.if-pointed-eq0.true found.ensures.value))

pub returns-clause-bytes : goal.returns-clause-bytes
returns-clause-bytes c =
    on_ok c.append_pointed.result c.append_pointed.ensures.bytes (λ wrote n short text.
    let of = decimal_of n c.args.bytes.now c.after_minus-digits.result.now short text c.after_minus-digits.ensures in
    let found = c.pointed_digits-pointed in
    some_written n _ _ found.result.row c.args.out.now.items c.append_pointed.new.out.items found.result.count found.result.scale short of (omega (arith, c.if-pointed-eq0.false)) found.ensures.size found.ensures.few.0 found.ensures.digits found.ensures.value (found.ensures.leads (omega (arith, c.if-pointed-eq0.false))) found.ensures.scale
    (subst (λ b. AllDigits 10 (take found.result.count found.result.row) → found.result.scale ≤ 30 → c.append_pointed.new.out.items ≡ c.args.out.now.items ++ map (invert_if (b == 45)) (magnitude_key found.result.scale (digits_value 10 (take found.result.count found.result.row)))) c.byte_at.ensures wrote))
