use Rattle.std.proofs.Common.{◌≡◌, ◌+◌, ◌<◌, ◌^◌, ◌++◌, length, refl, sym, subst, ap, ◌∙◌, append-nil, arith, eqb-true, length-append}
use Rattle.std.specs.Prelude.{vec_len, vec_capacity}
use Rattle.jsonb_spec.specs.Document.Counts.{counts_at}
use Rattle.jsonb_spec.specs.Document.{behind_key, end_of, zeros_at}
use Rattle.jsonb_spec.specs.Edit.LeftOut.{without_nulls}
use Rattle.key_document.specs.declared.error.DocumentError.TheVariants.{OutOfMemory}
use Rattle.key_text.proofs.Counts.{one_each}
use Rattle.key_document.proofs.Joining.{lacks_zeros}
use Rattle.key_document.proofs.NoZeros.{none_bare}
use Rattle.key_document.proofs.nulls.write_tail.Goals as goal

pub returns-then-is_empty-clause-written : goal.returns-then-is_empty-clause-written
returns-then-is_empty-clause-written c = λ t r e z.
    let none = none_bare c.args.in_arrays t (sym (ap length z) ∙ eqb-true (length c.args.zeros.now) 0 (sym c.is_empty.ensures ∙ c.if-is_empty.true)) in
    sym (ap (λ zs. c.args.out.now.items ++ behind_key zs) none ∙ append-nil c.args.out.now.items)

pub returns-in_err-all-clause-written : goal.returns-in_err-all-clause-written
returns-in_err-all-clause-written c = λ t r e z.
    absurd (c.in_err-all.ensures.found (counts_at t) (omega (arith, one_each t r.proper, ap length e)) z)

pub returns-in_err-write_value-clause-written : goal.returns-in_err-write_value-clause-written
returns-in_err-write_value-clause-written c = λ t r e z.
    let small : length (counts_at t) < 2 ^ 63 = omega (arith, one_each t r.proper, ap length e) in
    let pends = c.in_ok-all.ensures.found (counts_at t) small z in
    let zeros = zeros_at (without_nulls c.args.in_arrays t) in
    let x = c.in_err-write_value.ensures.written t r e (pends, omega (arith, small)) in
    lacks_zeros c.from_residual-in_err-write_value.result c.in_err-write_value.field-0.0 c.args.out.now c.write_value.new.out zeros (behind_key zeros) c.from_residual-in_err-write_value.ensures.1 x.0 x.1 (omega (arith, length-append zeros (end_of (length zeros))))

pub returns-in_err-end_zeros-clause-written : goal.returns-in_err-end_zeros-clause-written
returns-in_err-end_zeros-clause-written c = λ t r e z.
    let small : length (counts_at t) < 2 ^ 63 = omega (arith, one_each t r.proper, ap length e) in
    let pends = c.in_ok-all.ensures.found (counts_at t) small z in
    let zeros = zeros_at (without_nulls c.args.in_arrays t) in
    let mid = c.write_value.new.out in
    let joined : mid.items ≡ c.args.out.now.items ++ zeros = c.in_ok-write_value.ensures.written t r e (pends, omega (arith, small)) in
    let full = c.in_err-end_zeros.ensures.ended c.args.out.now.items zeros (omega (arith, c.len-start.ensures, c.args.out.now.ok.0)) joined in
    lacks_zeros c.from_residual-in_err-end_zeros.result OutOfMemory c.args.out.now c.end_zeros.new.out (behind_key zeros) (behind_key zeros) c.from_residual-in_err-end_zeros.ensures.1 refl (omega (arith, full, c.in_ok-write_value.ensures.preserves.capacity, c.len-start.ensures)) (omega arith)

pub returns-clause-written : goal.returns-clause-written
returns-clause-written c = λ t r e z.
    let small : length (counts_at t) < 2 ^ 63 = omega (arith, one_each t r.proper, ap length e) in
    let pends = c.in_ok-all.ensures.found (counts_at t) small z in
    let zeros = zeros_at (without_nulls c.args.in_arrays t) in
    let mid = c.write_value.new.out in
    let joined : mid.items ≡ c.args.out.now.items ++ zeros = c.in_ok-write_value.ensures.written t r e (pends, omega (arith, small)) in
    c.in_ok-end_zeros.ensures.ended c.args.out.now.items zeros (omega (arith, c.len-start.ensures, c.args.out.now.ok.0)) joined
