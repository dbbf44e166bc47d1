use Rattle.std.proofs.Common.{◌≡◌, ◌<◌, ◌++◌, length, sym, ap, ◌∙◌, arith, eqb-true}
use Rattle.std.proofs.lemmas.Bool.{eqb-false}
use Rattle.key_text.proofs.Appending.{retained, preserves_on, retained_by}
use Rattle.key_zeros.specs.declared.error.ZerosError.TheVariants.{OutOfMemory}
use Rattle.jsonb_spec.specs.Document.Counts.{ending_text}
use Rattle.key_zeros.specs.Scan.{after_numbers}
use Rattle.key_zeros.proofs.Errors.{or_error}
use Rattle.key_zeros.proofs.Restoring.{restores, rest_fits, rest_appended, next_there, entry_occurs, few_before, number_there, text_split, no_number, same_number, number_fits, number_appended}
use Rattle.key_zeros.proofs.restore.append_text.Goals as goal

pub entries-init : goal.entries-init
entries-init c = record { restores = restores c.args.shortest.now c.args.zeros.now c.args.buf.now.items; preserves = retained c.args.buf.now }

pub returns-in_default-clause-found : goal.returns-in_default-clause-found
returns-in_default-clause-found c = λ t r e z.
    let x = c.entries.invariant.restores t r e z in
    let some : 0 < length c.entries.left.now = omega (arith, eqb-false (length c.entries.left.now) 0 (sym c.is_empty.ensures ∙ c.entries-test.true)) in
    let next = next_there t c.entries.text.now c.entries.left.now c.args.buf.now.items c.entries.buf.items x some in
    let few = few_before t c.entries.text.now c.entries.left.now c.args.buf.now.items c.entries.buf.items x some in
    absurd (c.in_default.ensures.found next.before next.zeros_there (omega (arith, few, ap length e)) next.some _ (entry_occurs t c.entries.text.now c.entries.left.now c.args.buf.now.items c.entries.buf.items x some))

pub returns-in_default-after_numbers-clause-found : goal.returns-in_default-after_numbers-clause-found
returns-in_default-after_numbers-clause-found c = λ t r e z.
    let x = c.entries.invariant.restores t r e z in
    let some : 0 < length c.entries.left.now = omega (arith, eqb-false (length c.entries.left.now) 0 (sym c.is_empty.ensures ∙ c.entries-test.true)) in
    let next = next_there t c.entries.text.now c.entries.left.now c.args.buf.now.items c.entries.buf.items x some in
    let few = few_before t c.entries.text.now c.entries.left.now c.args.buf.now.items c.entries.buf.items x some in
    let entry = c.in-Some.ensures.found next.before next.zeros_there (omega (arith, few, ap length e)) next.some _ (entry_occurs t c.entries.text.now c.entries.left.now c.args.buf.now.items c.entries.buf.items x some) in
    absurd (no_number _ _ (c.in_default-after_numbers.ensures.exact ∙ ap (λ n. after_numbers n c.entries.text.now) entry.0 ∙ number_there t c.entries.text.now c.entries.left.now c.args.buf.now.items c.entries.buf.items x some))

pub returns-in_err-append_number-clause-found : goal.returns-in_err-append_number-clause-found
returns-in_err-append_number-clause-found c = λ t r e z.
    let x = c.entries.invariant.restores t r e z in
    let some : 0 < length c.entries.left.now = omega (arith, eqb-false (length c.entries.left.now) 0 (sym c.is_empty.ensures ∙ c.entries-test.true)) in
    let next = next_there t c.entries.text.now c.entries.left.now c.args.buf.now.items c.entries.buf.items x some in
    let few = few_before t c.entries.text.now c.entries.left.now c.args.buf.now.items c.entries.buf.items x some in
    let entry = c.in-Some.ensures.found next.before next.zeros_there (omega (arith, few, ap length e)) next.some _ (entry_occurs t c.entries.text.now c.entries.left.now c.args.buf.now.items c.entries.buf.items x some) in
    let number = same_number _ _ _ _ (c.in-Some-after_numbers.ensures.exact ∙ ap (λ n. after_numbers n c.entries.text.now) entry.0 ∙ number_there t c.entries.text.now c.entries.left.now c.args.buf.now.items c.entries.buf.items x some) in
    let before = c.front.ensures next.front (text_split t c.entries.text.now c.entries.left.now c.args.buf.now.items c.entries.buf.items x some ∙ ap (λ rest. next.front ++ rest) (sym number.1)) in
    let space = number_fits t c.entries.text.now c.entries.left.now c.args.buf.now.items c.entries.buf.items x some in
    let same : length (c.front.result.now ++ ending_text c.in-Some-after_numbers.pointed c.in-Some.count) ≡ length (next.front ++ ending_text next.has_point next.zeros_there) = (λ i. length (before i ++ ending_text (number.0 i) (entry.1 i))) in
    or_error OutOfMemory c.from_residual.result c.args.buf.now c.append_number.new.buf _ c.from_residual.ensures.1
    (omega (arith, space, same, c.entries.invariant.preserves.capacity, c.in_err-append_number.ensures.full))

pub entries-preserved : goal.entries-preserved
entries-preserved c = record {
  restores = λ t r e z.
      let x = c.entries.invariant.restores t r e z in
      let some : 0 < length c.entries.left.now = omega (arith, eqb-false (length c.entries.left.now) 0 (sym c.is_empty.ensures ∙ c.entries-test.true)) in
      let next = next_there t c.entries.text.now c.entries.left.now c.args.buf.now.items c.entries.buf.items x some in
      let few = few_before t c.entries.text.now c.entries.left.now c.args.buf.now.items c.entries.buf.items x some in
      let entry = c.in-Some.ensures.found next.before next.zeros_there (omega (arith, few, ap length e)) next.some _ (entry_occurs t c.entries.text.now c.entries.left.now c.args.buf.now.items c.entries.buf.items x some) in
      let number = same_number _ _ _ _ (c.in-Some-after_numbers.ensures.exact ∙ ap (λ n. after_numbers n c.entries.text.now) entry.0 ∙ number_there t c.entries.text.now c.entries.left.now c.args.buf.now.items c.entries.buf.items x some) in
      let before = c.front.ensures next.front (text_split t c.entries.text.now c.entries.left.now c.args.buf.now.items c.entries.buf.items x some ∙ ap (λ rest. next.front ++ rest) (sym number.1)) in
      number_appended t c.entries.text.now c.entries.left.now c.args.buf.now.items c.entries.buf.items x some c.append_number.new.buf.items c.in-Some.others.now c.in-Some-after_numbers.behind.now number.1 entry.2
      (c.in_ok-append_number.ensures.ok ∙ (λ i. c.entries.buf.items ++ (before i ++ ending_text (number.0 i) (entry.1 i))));
  preserves = preserves_on c.args.buf.now c.entries.buf c.append_number.new.buf c.entries.invariant.preserves (retained_by c.entries.buf c.append_number.new.buf c.in_ok-append_number.ensures);
}

pub returns-in_err-extend_from_slice-clause-found : goal.returns-in_err-extend_from_slice-clause-found
returns-in_err-extend_from_slice-clause-found c = λ t r e z.
    let x = c.entries.invariant.restores t r e z in
    let none = eqb-true (length c.entries.left.now) 0 (sym c.is_empty.ensures ∙ c.entries-test.false) in
    let space = rest_fits t c.entries.text.now c.entries.left.now c.args.buf.now.items c.entries.buf.items x none in
    or_error OutOfMemory c.from_residual-in_err-extend_from_slice.result c.args.buf.now c.extend_from_slice.new.self _ c.from_residual-in_err-extend_from_slice.ensures.1
    (omega (arith, space, c.entries.invariant.preserves.capacity, c.in_err-extend_from_slice.ensures.full))

pub returns-clause-found : goal.returns-clause-found
returns-clause-found c = λ t r e z.
    let x = c.entries.invariant.restores t r e z in
    let none = eqb-true (length c.entries.left.now) 0 (sym c.is_empty.ensures ∙ c.entries-test.false) in
    rest_appended t c.entries.text.now c.entries.left.now c.args.buf.now.items c.entries.buf.items x none c.extend_from_slice.new.self.items c.in_ok-extend_from_slice.ensures.items
