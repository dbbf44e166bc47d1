use Rattle.std.proofs.Common.{inl, inr, sym, arith}
use Rattle.key_document.proofs.Remaining.{no_zeros}
use Rattle.key_document.proofs.cursor.zeros_of_number.Goals as goal
use Rattle.key_document.proofs.cursor.zeros_of_number.Goals.{then-left-eq0-via-then-left-eq0, then-left-eq0-via-else-left-eq0+then-gap-left}

pub returns-then-left-eq0-clause-zeros : goal.returns-then-left-eq0-clause-zeros
returns-then-left-eq0-clause-zeros c = λ t r e l h b.
    let none = no_zeros t c.args.left.now c.args.offset l h (elim c.then-left-eq0.branch [
      | then-left-eq0-via-then-left-eq0 w ↦ inl (w.if-left-eq0.true)
      | then-left-eq0-via-else-left-eq0+then-gap-left w ↦ inr (omega (arith, w.if-gap-left.true, c.in-Some.ensures))
    ]) in
    (sym none, l, omega (arith, h))
