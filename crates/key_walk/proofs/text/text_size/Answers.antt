use Rattle.std.proofs.Common.{[], ◌∷◌, ◌++◌, ◌==◌, Some, length, ap, arith, sym, ◌∙◌}
use Rattle.key_value.proofs.Texts.{byte_read, none_some, some_same}
use Rattle.key_walk.proofs.Occurrence.{true_false}
use Rattle.key_walk.proofs.Strings.{one_longer, text_read}
use Rattle.key_walk.proofs.text.text_size.Goals as goal

pub bytes-preserved : goal.bytes-preserved
bytes-preserved c =
    let r = c.bytes.invariant.reads in
    record {
      reads = (r.0 ++ c.in-Some.field-0-0 ∷ [], one_longer r.0 c.bytes.size c.in-Some.field-0-0 r.1, byte_read c.args.key.now r.0 c.bytes.rest.now c.in-Some.others.now c.in-Some.field-0-0 r.2 c.in-Some.ensures.byte);
      within = omega (arith, c.in-Some.ensures.shorter, c.bytes.invariant.within);
    }

pub returns-in_err-after-clause-sized : goal.returns-in_err-after-clause-sized
returns-in_err-after-clause-sized c = λ text e.
    let r = c.bytes.invariant.reads in
    let done = text_read c.args.key.now r.0 c.bytes.rest.now r.2 c.in_default.ensures.byte text e in
    absurd (none_some [] (c.in_err-after.ensures.found [] done.1))

pub returns-then-not-is_empty-clause-sized : goal.returns-then-not-is_empty-clause-sized
returns-then-not-is_empty-clause-sized c = λ text e.
    let r = c.bytes.invariant.reads in
    let done = text_read c.args.key.now r.0 c.bytes.rest.now r.2 c.in_default.ensures.byte text e in
    let none = some_same c.in_ok-after.after.now [] (c.in_ok-after.ensures.found [] done.1) in
    absurd (true_false (sym (c.is_empty.ensures ∙ ap (λ xs. length xs == 0) none) ∙ c.if-not-is_empty.true))

pub returns-clause-sized : goal.returns-clause-sized
returns-clause-sized c = λ text e.
    let r = c.bytes.invariant.reads in
    let done = text_read c.args.key.now r.0 c.bytes.rest.now r.2 c.in_default.ensures.byte text e in
    ap Some (sym r.1 ∙ ap length (sym done.0))
