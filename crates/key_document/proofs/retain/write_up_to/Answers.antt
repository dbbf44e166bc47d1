use Rattle.std.proofs.Common.{◌++◌, length, sym, ap, ◌∙◌, arith, refl, true, length-append}
use Rattle.key_document.specs.Retaining.{output_of}
use Rattle.key_document.proofs.Retained.{write_goes, write_lacks}
use Rattle.key_document.proofs.retain.write_up_to.Goals as goal

pub returns-in_err-written-clause-written : goal.returns-in_err-written-clause-written
returns-in_err-written-clause-written c = λ first bytes counts one one_counts ahead_counts later later_counts old e each s.
    let same = c.front-stays.ensures s.waiting s.pending_is in
    let y = c.in_err-written.ensures.written s.waiting_counts (one_counts ++ ahead_counts) (s.each ∙ ap length (sym same)) s.are_ahead in
    write_lacks first bytes counts old one one_counts c.args.here.now c.args.behind.now ahead_counts later later_counts c.args.retaining.now c.args.out.now c.write_bytes.new.out e each s c.from_residual.result c.in_err-written.field-0.0 c.front-stays.result.now c.from_residual.ensures.1 same
    (y.0, omega (arith, y.1, c.reserve.ensures.preserves.capacity, ap length c.reserve.ensures.same, c.args.out.now.ok.0, c.reserve.new.out.ok.0))

pub returns-in_err-output-clause-written : goal.returns-in_err-output-clause-written
returns-in_err-output-clause-written c = λ first bytes counts one one_counts ahead_counts later later_counts old e each s.
    let same = c.front-stays.ensures s.waiting s.pending_is in
    let w = c.in_ok-written.ensures.written s.waiting_counts (one_counts ++ ahead_counts) (s.each ∙ ap length (sym same)) s.are_ahead in
    absurd (c.in_err-output.ensures one_counts ahead_counts (omega (arith, each, c.saturating_sub-size.ensures, ap length e, length-append one c.args.behind.now)) w.1)

pub returns-clause-written : goal.returns-clause-written
returns-clause-written c = λ first bytes counts one one_counts ahead_counts later later_counts old e each s.
    let same = c.front-stays.ensures s.waiting s.pending_is in
    let w = c.in_ok-written.ensures.written s.waiting_counts (one_counts ++ ahead_counts) (s.each ∙ ap length (sym same)) s.are_ahead in
    let l = c.in_ok-output.ensures one_counts ahead_counts (omega (arith, each, c.saturating_sub-size.ensures, ap length e, length-append one c.args.behind.now)) w.1 in
    write_goes first bytes counts old one one_counts c.args.here.now c.args.behind.now ahead_counts later later_counts c.args.retaining.now c.args.out.now c.write_bytes.new.out e each s c.in_ok-written.written (record { output = c.in_ok-output.output; pending = c.args.behind; found = true }) c.front-stays.result.now same
    (w.0 ∙ ap (λ o. o ++ output_of c.args.retaining.now.output c.front-stays.result.now s.waiting_counts) c.reserve.ensures.same, w.1, w.2) l refl refl
