use Rattle.std.proofs.Common.{◌++◌, drop, sym, ap, ◌∙◌, arith, length, length-append}
use Rattle.std.proofs.lemmas.List.{take_rest}
use Rattle.jsonb_spec.specs.Text.NumberText.{number_text}
use Rattle.jsonb_spec.specs.Document.Counts.{count_of, ending_text}
use Rattle.key_document.specs.DueZeros.{AreDue}
use Rattle.key_document.proofs.DueZeros.{due_now, fails, whole_text}
use Rattle.key_document.proofs.due.ZerosDue.append_due.Goals as goal

pub returns-in_err-append_ending-clause-completes : goal.returns-in_err-append_ending-clause-completes
returns-in_err-append_ending-clause-completes c = λ n proper front long is passed counts here due.
    let x = due_now c.args.self.now passed (count_of n) counts due here in
    let text = take_rest c.deref.result.now c.args.start ∙ ap (drop c.args.start) c.deref.ensures.value in
    let whole = whole_text n proper front c.args.buf.now.items c.args.start long is c.contains-pointed.result c.args.self.now.count _ text c.contains-pointed.ensures.value x.same x.some in
    fails (AreDue c.args.self.now) counts (front ++ number_text n) c.from_residual.result c.args.buf.now c.append_ending.new.buf c.from_residual.ensures.1 (omega (arith, c.in_err-append_ending.ensures.full, ap length whole, length-append c.args.buf.now.items (ending_text c.contains-pointed.result c.args.self.now.count)))

pub returns-clause-completes : goal.returns-clause-completes
returns-clause-completes c = λ n proper front long is passed counts here due.
    let x = due_now c.args.self.now passed (count_of n) counts due here in
    let text = take_rest c.deref.result.now c.args.start ∙ ap (drop c.args.start) c.deref.ensures.value in
    let whole = whole_text n proper front c.args.buf.now.items c.args.start long is c.contains-pointed.result c.args.self.now.count _ text c.contains-pointed.ensures.value x.same x.some in
    (c.in_ok-append_ending.ensures.ok ∙ sym whole, c.in_ok-next.ensures.due (omega (arith, x.short, here, c.saturating_sub.ensures)) counts (omega (arith, here, c.saturating_sub.ensures)) x.entries)
