use Rattle.std.proofs.Common.{◌≡◌, ◌+◌, ◌<◌, ◌^◌, ◌++◌, length, refl, subst, sym, ap, ◌∙◌, append-nil, arith, eqb-true, length-append}
use Rattle.std.specs.Prelude.{vec_len, vec_capacity}
use Rattle.jsonb_spec.specs.Edit.{merge}
use Rattle.jsonb_spec.specs.Document.{behind_key, end_of, zeros_at}
use Rattle.key_document.specs.declared.error.DocumentError.TheVariants.{OutOfMemory}
use Rattle.key_document.proofs.Joining.{lacks_zeros}
use Rattle.key_document.proofs.NoZeros.{none_merged}
use Rattle.key_document.proofs.merge.merge_tail.Goals as goal

pub returns-then-is_empty-2-clause-merged : goal.returns-then-is_empty-2-clause-merged
returns-then-is_empty-2-clause-merged c = λ t u r i e z f w fit.
    let none = none_merged t u (sym (ap length z) ∙ eqb-true (length c.args.zeros.now) 0 (sym c.is_empty.ensures ∙ c.if-is_empty.true)) (sym (ap length w) ∙ eqb-true (length c.args.other_zeros.now) 0 (sym c.is_empty-then-is_empty.ensures ∙ c.if-is_empty-2.true)) in
    sym (ap (λ zs. c.args.out.now.items ++ behind_key zs) none ∙ append-nil c.args.out.now.items)

pub returns-in_err-end_zeros-clause-merged : goal.returns-in_err-end_zeros-clause-merged
returns-in_err-end_zeros-clause-merged c = λ t u r i e z f w fit.
    let zeros = zeros_at (merge t u) in
    let mid = c.merge_zeros.new.out in
    let joined : mid.items ≡ c.args.out.now.items ++ zeros = c.in_ok-merge_zeros.ensures.merged t u r i e z f w fit in
    let full = c.in_err-end_zeros.ensures.ended c.args.out.now.items zeros (omega (arith, c.len-start.ensures, c.args.out.now.ok.0)) joined in
    lacks_zeros c.from_residual-in_err-end_zeros.result OutOfMemory c.args.out.now c.end_zeros.new.out (behind_key zeros) (behind_key zeros) c.from_residual-in_err-end_zeros.ensures.1 refl (omega (arith, full, c.in_ok-merge_zeros.ensures.preserves.capacity, c.len-start.ensures)) (omega arith)
