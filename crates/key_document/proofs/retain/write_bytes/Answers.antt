use Rattle.std.proofs.Common.{◌++◌, length, subst, arith, length-append}
use Rattle.key_document.specs.Retaining.{AreAhead}
use Rattle.key_document.proofs.Retained.{zeros_written}
use Rattle.key_document.proofs.retain.write_bytes.Goals as goal

pub returns-in_ok-more-in-Zeros-clause-written : goal.returns-in_ok-more-in-Zeros-clause-written
returns-in_ok-more-in-Zeros-clause-written c = λ counts behind long a.
    let there = subst (λ o. AreAhead o (counts ++ behind)) c.in-Zeros.is a in
    zeros_written c.in-Zeros.plain c.in-Zeros.left counts behind (length c.args.bytes.now) long c.args.output.now c.args.bytes.now c.args.out.now c.copy.new.out c.in_ok-more-in-Zeros.more c.in_ok-more-in-Zeros.rest c.in-Zeros.is there
    (c.in_ok-more-in-Zeros.ensures.found (counts ++ behind) there.0 (omega (arith, long, length-append counts behind)) (omega (arith, there.1)) (omega (arith, there.1, long, length-append counts behind)))
