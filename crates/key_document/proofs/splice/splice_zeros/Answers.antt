use Rattle.std.proofs.Common.{◌≡◌, ◌++◌, refl, arith}
use Rattle.jsonb_spec.specs.Document.Zeros.{zeros_of}
use Rattle.jsonb_spec.specs.Document.{behind_key}
use Rattle.key_document.specs.Splices.{spliced_counts}
use Rattle.key_document.specs.declared.error.DocumentError.TheVariants.{OutOfMemory}
use Rattle.key_document.proofs.Joining.{lacks_zeros}
use Rattle.key_document.proofs.splice.splice_zeros.Goals as goal

pub returns-in_err-end_zeros-clause-spliced : goal.returns-in_err-end_zeros-clause-spliced
returns-in_err-end_zeros-clause-spliced c = λ front entry part behind x.
    let zeros = zeros_of 0 (spliced_counts front c.args.lengths.now.name part behind) in
    let mid = c.join_zeros.new.out in
    let joined : mid.items ≡ c.args.out.now.items ++ zeros = c.in_ok-join_zeros.ensures.joined front entry part behind x in
    let full = c.in_err-end_zeros.ensures.ended c.args.out.now.items zeros (omega (arith, c.len-start.ensures, c.args.out.now.ok.0)) joined in
    lacks_zeros c.from_residual-in_err-end_zeros.result OutOfMemory c.args.out.now c.end_zeros.new.out (behind_key zeros) (behind_key zeros) c.from_residual-in_err-end_zeros.ensures.1 refl (omega (arith, full, c.in_ok-join_zeros.ensures.preserves.capacity, c.len-start.ensures)) (omega arith)

pub returns-clause-spliced : goal.returns-clause-spliced
returns-clause-spliced c = λ front entry part behind x.
    let zeros = zeros_of 0 (spliced_counts front c.args.lengths.now.name part behind) in
    let mid = c.join_zeros.new.out in
    let joined : mid.items ≡ c.args.out.now.items ++ zeros = c.in_ok-join_zeros.ensures.joined front entry part behind x in
    c.in_ok-end_zeros.ensures.ended c.args.out.now.items zeros (omega (arith, c.len-start.ensures, c.args.out.now.ok.0)) joined
