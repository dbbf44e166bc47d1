use Rattle.std.proofs.Common.{drop, length, take, ◌++◌, ap, arith, sym, ◌∙◌}
use Rattle.std.proofs.lemmas.List.{length-drop}
use Rattle.key_text.proofs.Appending.{both, no_capacity_second}
use Rattle.key_document.proofs.StepsCopied.{first_zeros, lacks_step, mid_within, step_plain, step_zeros}
use Rattle.jsonb_spec.specs.Document.Zeros.{zeros_of}
use Rattle.key_document.proofs.merge.copy_step.Goals as goal

pub returns-in_err-mid-clause-copied : goal.returns-in_err-mid-clause-copied
returns-in_err-mid-clause-copied c = λ xs ys p q enough part a b fit.
    let run = length c.args.step.now.run.now in
    let size = length c.args.step.now.part.now in
    let plain = c.args.merging.now.plain in
    let x = c.in_err-mid.ensures.found xs p (omega (arith, enough)) a (omega (arith, fit)) in
    lacks_step c.from_residual.result c.in_err-mid.field-0.0 c.args.out.now c.copy.new.out run c.args.replaced size plain xs ys c.from_residual.ensures.1 x.0
    (omega (arith, x.1, first_zeros run size plain xs ys))

pub returns-in_err-ours-clause-copied : goal.returns-in_err-ours-clause-copied
returns-in_err-ours-clause-copied c = λ xs ys p q enough part a b fit.
    let run = length c.args.step.now.run.now in
    let x = c.in_ok-mid.ensures.found xs p (omega (arith, enough)) a (omega (arith, fit)) in
    absurd (c.in_err-ours.ensures.found (drop run xs) (omega (arith, a, length-drop run xs)) x.2 (omega (arith, enough, length-drop run xs)))

pub returns-in_err-plain-clause-copied : goal.returns-in_err-plain-clause-copied
returns-in_err-plain-clause-copied c = λ xs ys p q enough part a b fit.
    let run = length c.args.step.now.run.now in
    let size = length c.args.step.now.part.now in
    let plain = c.args.merging.now.plain in
    let x = c.in_ok-mid.ensures.found xs p (omega (arith, enough)) a (omega (arith, fit)) in
    let small = mid_within run size plain c.in_ok-mid.mid xs ys x.1 (omega (arith, enough)) in
    let y = c.in_err-plain.ensures.found ys q part b (omega (arith, fit, small)) in
    let full = no_capacity_second c.args.out.now c.copy.new.out (zeros_of plain (take run xs)) (zeros_of c.in_ok-mid.mid (take size ys)) x.0 c.in_ok-mid.ensures.preserves.capacity y.1 in
    lacks_step c.from_residual-in_err-plain.result c.in_err-plain.field-0.0 c.args.out.now c.copy-2.new.out run c.args.replaced size plain xs ys c.from_residual-in_err-plain.ensures.1 y.0
    (omega (arith, full, ap length (step_zeros run size plain c.in_ok-mid.mid xs ys x.1)))

pub returns-clause-copied : goal.returns-clause-copied
returns-clause-copied c = λ xs ys p q enough part a b fit.
    let run = length c.args.step.now.run.now in
    let size = length c.args.step.now.part.now in
    let plain = c.args.merging.now.plain in
    let x = c.in_ok-mid.ensures.found xs p (omega (arith, enough)) a (omega (arith, fit)) in
    let small = mid_within run size plain c.in_ok-mid.mid xs ys x.1 (omega (arith, enough)) in
    let ours = c.in_ok-ours.ensures.found (drop run xs) (omega (arith, a, length-drop run xs)) x.2 (omega (arith, enough, length-drop run xs)) in
    let y = c.in_ok-plain.ensures.found ys q part b (omega (arith, fit, small)) in (
      both c.args.out.now.items c.copy.new.out.items c.copy-2.new.out.items (zeros_of plain (take run xs)) (zeros_of c.in_ok-mid.mid (take size ys)) x.0 y.0 ∙ ap (λ z. c.args.out.now.items ++ z) (sym (step_zeros run size plain c.in_ok-mid.mid xs ys x.1)),
      y.1 ∙ step_plain run size plain c.in_ok-mid.mid xs ys x.1,
      ours,
      y.2,
    )
