use Rattle.std.proofs.Common.{Some, ap, arith}
use Rattle.key_walk.proofs.AfterTexts.{behind_zero, no_more_bytes, zero_there, text_over, text_goes_on, no_other_mark}
use Rattle.key_walk.proofs.skip.after_any_text.Goals as goal

pub returns-in_err-mark-clause-found : goal.returns-in_err-mark-clause-found
returns-in_err-mark-clause-found c = λ text more e.
    absurd (no_more_bytes c.args.bytes.now c.zeros.rest.now c.split_at.result.1.now c.in-Some.zero c.zeros.invariant.skips c.in-Some.ensures c.split_at.ensures.back c.in_err-mark.ensures.cases text more e)

pub returns-then-mark-eq-TEXT_END-clause-found : goal.returns-then-mark-eq-TEXT_END-clause-found
returns-then-mark-eq-TEXT_END-clause-found c = λ text more e.
    let behind = behind_zero c.args.bytes.now c.zeros.rest.now c.split_at.result.1.now c.in_ok-mark.others.now c.in-Some.zero c.in_ok-mark.mark.now c.zeros.invariant.skips c.in-Some.ensures c.split_at.ensures.back c.in_ok-mark.ensures.cases.0 text more e in
    ap Some (text_over c.in_ok-mark.mark.now c.in_ok-mark.others.now more behind c.if-mark-eq-TEXT_END.true)

pub returns-then-mark-clause-found : goal.returns-then-mark-clause-found
returns-then-mark-clause-found c = λ text more e.
    let behind = behind_zero c.args.bytes.now c.zeros.rest.now c.split_at.result.1.now c.in_ok-mark.others.now c.in-Some.zero c.in_ok-mark.mark.now c.zeros.invariant.skips c.in-Some.ensures c.split_at.ensures.back c.in_ok-mark.ensures.cases.0 text more e in
    absurd (no_other_mark c.in_ok-mark.mark.now c.in_ok-mark.others.now more behind c.if-mark-eq-TEXT_END.false c.if-mark.true)

pub zeros-preserved : goal.zeros-preserved
zeros-preserved c = record {
  skips = λ text more e.
      let behind = behind_zero c.args.bytes.now c.zeros.rest.now c.split_at.result.1.now c.in_ok-mark.others.now c.in-Some.zero c.in_ok-mark.mark.now c.zeros.invariant.skips c.in-Some.ensures c.split_at.ensures.back c.in_ok-mark.ensures.cases.0 text more e in
      text_goes_on c.in_ok-mark.mark.now c.in_ok-mark.others.now more behind c.if-mark.false;
  within = omega (arith, c.in_ok-mark.ensures.cases.1, c.split_at.ensures.back_len, c.zeros.invariant.within);
}

pub returns-clause-found : goal.returns-clause-found
returns-clause-found c = λ text more e. absurd (zero_there c.args.bytes.now c.zeros.rest.now c.zeros.invariant.skips c.in_default.ensures text more e)
