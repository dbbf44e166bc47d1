use Rattle.std.proofs.Common.{◌++◌, drop, ap, subst, sym, ◌∙◌, arith}
use Rattle.std.proofs.lemmas.List.{take-append-drop}
use Rattle.key_text.specs.Writes.{TakesNumber}
use Rattle.key_text.proofs.Integers.{number_taken, pair_taken}
use Rattle.key_text.proofs.number.append_positive.Goals as goal

pub returns-then-append_pair-clause-found : goal.returns-then-append_pair-clause-found
returns-then-append_pair-clause-found c = λ some n proper more e.
    number_taken n proper c.args.first c.from-front.result c.args.digits.now more e (omega (arith, c.if-first-le-NO_FRONT.false)) c.from-front.ensures 1 c.args.buf.now.items c.append_pair.new.buf.items some
    (subst (λ ds. TakesNumber c.from-front.result ds 1 c.args.buf.now.items c.append_pair.new.buf.items) (sym c.in-Some.ensures.cases.0)
    (pair_taken c.from-front.result c.in-Some.byte.now c.in-Some.field-0-1.now c.args.buf.now.items c.append_pair.new.buf.items c.if-byte-eq0.true (omega (arith, c.from-front.ensures, c.if-first-le-NO_FRONT.false)) (omega (arith, c.if-front-le2.true))
    (c.append_pair.ensures.appended c.if-append_pair.true)))

pub returns-in-Some-first_chunk-clause-found : goal.returns-in-Some-first_chunk-clause-found
returns-in-Some-first_chunk-clause-found c = λ some n proper more e.
    number_taken n proper c.args.first c.from-front.result c.args.digits.now more e (omega (arith, c.if-first-le-NO_FRONT.false)) c.from-front.ensures c.append_few.result c.args.buf.now.items c.append_few.new.buf.items some
    (subst (λ ds. TakesNumber c.from-front.result ds c.append_few.result c.args.buf.now.items c.append_few.new.buf.items) (ap (λ ds. ds ++ drop 8 c.args.digits.now) c.in-Some-first_chunk.ensures.cases.same ∙ take-append-drop 8 c.args.digits.now)
    (c.append_few.ensures.found (drop 8 c.args.digits.now)))

pub returns-clause-found : goal.returns-clause-found
returns-clause-found c = λ some n proper more e.
    number_taken n proper c.args.first c.from-front.result c.args.digits.now more e (omega (arith, c.if-first-le-NO_FRONT.false)) c.from-front.ensures c.append_many.result c.args.buf.now.items c.append_many.new.buf.items some c.append_many.ensures.found
