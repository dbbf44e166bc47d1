use Rattle.std.proofs.Common.{rules, take, arith}
use Rattle.key_walk.specs.Frames.{TextFirst}
use Rattle.key_walk.proofs.Checks.{never, exactly, through}
use Rattle.key_walk.proofs.CheckedTexts.{zero_at, some_mark, no_other_mark, text_ends, text_goes_on}
use Rattle.key_walk.proofs.check.checked_text.Goals as goal

pub zeros-init : goal.zeros-init
zeros-init c = record { whole = λ more. (λ t. t, λ t. t); within = omega arith }

pub returns-in_default-split_first : goal.returns-in_default-split_first
returns-in_default-split_first c = record {
  checks = record {
    found = let rest = c.zeros.rest.now in
        let tail = c.split_at.result.1.now in
        let run = take c.in-Some.zero rest in
        let z = zero_at rest tail c.in-Some.zero c.in-Some.ensures c.split_at.ensures.back in
        never (TextFirst c.args.bytes.now) (λ more t. some_mark rest run tail more z c.in_default-split_first.ensures.cases ((c.zeros.invariant.whole more).1 t));
    shorter = search rules;
  };
}

pub returns-then-mark-eq-TEXT_END : goal.returns-then-mark-eq-TEXT_END
returns-then-mark-eq-TEXT_END c = record {
  checks = record {
    found = let rest = c.zeros.rest.now in
        let tail = c.split_at.result.1.now in
        let run = take c.in-Some.zero rest in
        let z = zero_at rest tail c.in-Some.zero c.in-Some.ensures c.split_at.ensures.back in
        exactly (TextFirst c.args.bytes.now) c.in-Some-split_first.others.now
        (λ more. through _ _ _ (text_ends rest run tail c.in-Some-split_first.others.now c.in-Some-split_first.mark.now z c.in-Some-split_first.ensures.cases.0 c.if-mark-eq-TEXT_END.true c.in-Some.ensures.utf8 more) (c.zeros.invariant.whole more));
    shorter = search rules;
  };
}

pub returns-then-mark : goal.returns-then-mark
returns-then-mark c = record {
  checks = record {
    found = let rest = c.zeros.rest.now in
        let tail = c.split_at.result.1.now in
        let run = take c.in-Some.zero rest in
        let z = zero_at rest tail c.in-Some.zero c.in-Some.ensures c.split_at.ensures.back in
        never (TextFirst c.args.bytes.now) (λ more t. no_other_mark rest run tail c.in-Some-split_first.others.now more c.in-Some-split_first.mark.now z c.in-Some-split_first.ensures.cases.0 c.if-mark-eq-TEXT_END.false c.if-mark.true ((c.zeros.invariant.whole more).1 t));
    shorter = search rules;
  };
}

pub zeros-preserved : goal.zeros-preserved
zeros-preserved c =
    let rest = c.zeros.rest.now in
    let tail = c.split_at.result.1.now in
    let run = take c.in-Some.zero rest in
    let z = zero_at rest tail c.in-Some.zero c.in-Some.ensures c.split_at.ensures.back in
    record {
      whole = λ more. through _ _ _ (text_goes_on rest run tail c.in-Some-split_first.others.now c.in-Some-split_first.mark.now z c.in-Some-split_first.ensures.cases.0 c.if-mark.false c.in-Some.ensures.utf8 more) (c.zeros.invariant.whole more);
      within = omega (arith, c.in-Some-split_first.ensures.cases.1, c.split_at.ensures.back_len, c.zeros.invariant.within);
    }

pub returns : goal.returns
returns c = record {
  checks = record {
    found = never (TextFirst c.args.bytes.now) (λ more t. c.in_default.ensures more ((c.zeros.invariant.whole more).1 t));
    shorter = search rules;
  };
}
