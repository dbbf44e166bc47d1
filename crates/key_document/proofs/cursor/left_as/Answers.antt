use Rattle.std.proofs.Common.{◌≡◌, ◌-◌, drop, inr, length, ap, sym, subst, ◌∙◌, arith}
use Rattle.jsonb_spec.specs.Document.Numbers.{Pends, PendsAt}
use Rattle.key_document.proofs.Remaining.{entries_behind}
use Rattle.key_document.proofs.cursor.left_as.Goals as goal

pub returns-in-Some-clause-left : goal.returns-in-Some-clause-left
returns-in-Some-clause-left c = λ front behind z p.
    let zeros = c.args.zeros.now in
    let others = c.in-Some.others.now in
    let q = subst (Pends behind) c.in-Some.is p in
    let size : c.saturating_sub.result ≡ length zeros - length others = omega (arith, c.saturating_sub.ensures) in
    let e : drop c.saturating_sub.result zeros ≡ others = ap (λ n. drop n zeros) size ∙ entries_behind zeros front behind c.in-Some.before c.in-Some.count others z q in
    inr (subst (PendsAt behind c.in-Some.before c.in-Some.count) (sym e) q)
