use Rattle.std.proofs.Common.{arith, sym, true≢false, eq-eqb, get_or}
use Rattle.key_walk.proofs.PlainBytes.{no_zero_there, text_up_to, text_utf8}
use Rattle.key_walk.proofs.ascii.longer_run.Goals as goal

pub returns-in_default : goal.returns-in_default
returns-in_default c = λ more t.
    no_zero_there c.args.bytes.now c.split_at.result.1.now more c.args.run c.requires.run.within c.requires.run.plain c.split_at.ensures.back
    (λ k l h. c.in_default.ensures k (omega arith) l (eq-eqb (get_or c.split_at.result.1.now k 0) 0 h)) t

pub returns-then-not-is_utf8 : goal.returns-then-not-is_utf8
returns-then-not-is_utf8 c = λ more t.
    true≢false (sym (c.if-not-is_utf8.ensures.1 (text_utf8 c.args.bytes.now c.split_at.result.1.now c.split_at-2.result.0.now c.args.run c.in-Some.zero c.requires.run.within c.requires.run.plain c.split_at.ensures.back c.in-Some.ensures c.split_at-2.ensures.front more t)))

pub returns : goal.returns
returns c =
    text_up_to c.args.bytes.now c.split_at.result.1.now c.split_at-2.result.0.now c.args.run c.in-Some.zero c.requires.run.within c.requires.run.plain c.split_at.ensures.back c.in-Some.ensures c.split_at-2.ensures.front (c.is_utf8.ensures.0 c.if-not-is_utf8.false)
