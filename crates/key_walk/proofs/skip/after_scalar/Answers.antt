use Rattle.std.proofs.Common.{ap, Some, refl}
use Rattle.key_value.proofs.FirstBytes.{no_key, string_there, number_there}
use Rattle.key_walk.proofs.Scalars.{scalar_begins, word_skipped}
use Rattle.key_walk.proofs.skip.after_scalar.Goals as goal

pub returns-in_err-first-clause-found : goal.returns-in_err-first-clause-found
returns-in_err-first-clause-found c = λ depth t r s more e. absurd (no_key depth t r c.args.bytes.now more e c.in_err-first.ensures.cases)

pub returns-then-first-clause-found : goal.returns-then-first-clause-found
returns-then-first-clause-found c = λ depth t r s more e.
    let x = string_there depth t r c.in_ok-first.first.now c.in_ok-first.rest.now c.args.bytes.now more c.in_ok-first.ensures.cases.0 e c.if-first.true in
    c.after_text.ensures.found x.0 more x.2

pub returns-then-is_word-clause-found : goal.returns-then-is_word-clause-found
returns-then-is_word-clause-found c = λ depth t r s more e.
    ap Some (word_skipped depth t r s c.in_ok-first.first.now c.in_ok-first.rest.now c.args.bytes.now more c.in_ok-first.ensures.cases.0 e (c.is_word.ensures.yes c.if-is_word.true))

pub returns-clause-found : goal.returns-clause-found
returns-clause-found c = λ depth t r s more e.
    let not = c.is_word.ensures.no c.if-is_word.false in
    let other = scalar_begins depth t r s c.in_ok-first.first.now c.in_ok-first.rest.now c.args.bytes.now more c.in_ok-first.ensures.cases.0 e in
    let n = number_there depth t r c.in_ok-first.first.now c.in_ok-first.rest.now c.args.bytes.now more c.in_ok-first.ensures.cases.0 e not.0 not.1 c.if-first.false other.0 other.1 not.3 in
    c.after_number.ensures.found n.0 n.1 c.in_ok-first.first.now c.in_ok-first.rest.now c.in_ok-first.ensures.cases.0 not.2 refl more n.2
