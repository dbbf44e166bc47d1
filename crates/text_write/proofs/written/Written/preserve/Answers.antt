use Rattle.std.proofs.Common.{◌++◌, ◌≤◌, slice_range, sym, ap, subst, ◌∙◌, append_assoc}
use Rattle.text_write.proofs.Ranges.{joined}
use Rattle.text_write.proofs.written.Written.preserve.Goals as goal

pub returns-then-from-self-clause-bytes : goal.returns-then-from-self-clause-bytes
returns-then-from-self-clause-bytes c =
    let w = c.args.self.now in
    let here = c.if-from-self.true in
    ap (λ part. w.out.items ++ part) (joined w.text.now w.from w.end c.args.to w.ordered (subst (λ n. n ≤ c.args.to) here c.requires.ordered))
    ∙ sym (append_assoc w.out.items (slice_range w.text.now w.from w.end) (slice_range w.text.now w.end c.args.to))
    ∙ ap (λ n. (w.out.items ++ slice_range w.text.now w.from w.end) ++ slice_range w.text.now n c.args.to) (sym here)
