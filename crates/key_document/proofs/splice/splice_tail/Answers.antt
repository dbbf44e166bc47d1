use Rattle.std.proofs.Common.{◌++◌, ap, append-nil, arith, eqb-true, length, sym, ◌∙◌}
use Rattle.jsonb_spec.specs.Document.{behind_key}
use Rattle.key_document.proofs.Changing.{cut_back}
use Rattle.key_document.proofs.NoZeros.{none_spliced}
use Rattle.key_document.proofs.splice.splice_tail.Goals as goal

pub returns-then-is_empty-2-clause-spliced : goal.returns-then-is_empty-2-clause-spliced
returns-then-is_empty-2-clause-spliced c = λ front entry part behind x.
    let none = none_spliced front entry part behind c.args.lengths.now.name (sym (ap length x.zeros_are) ∙ eqb-true (length c.args.zeros.now) 0 (sym c.is_empty.ensures ∙ c.if-is_empty.true)) (sym (ap length x.part_are) ∙ eqb-true (length c.args.part_zeros.now) 0 (sym c.is_empty-then-is_empty.ensures ∙ c.if-is_empty-2.true)) in
    sym (ap (λ zs. c.args.out.now.items ++ behind_key zs) none ∙ append-nil c.args.out.now.items)

pub returns-in-Err-clause-preserves : goal.returns-in-Err-clause-preserves
returns-in-Err-clause-preserves c = record {
  err = λ before is more. c.truncate.ensures.items ∙ cut_back before c.args.out.now.items c.splice_zeros.new.out.items more c.in-Err.ensures.preserves.retained c.args.start is;
  capacity = omega (arith, c.in-Err.ensures.preserves.capacity, c.truncate.ensures.capacity);
}
