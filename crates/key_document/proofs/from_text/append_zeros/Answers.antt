use Rattle.std.proofs.Common.{◌≡◌, ◌+◌, ◌-◌, ◌++◌, length, sym, ap, ◌∙◌, arith}
use Rattle.jsonb_spec.specs.Document.Zeros.{entry_of, plain_behind, zeros_of}
use Rattle.key_text.proofs.Appending.{preserves_on, retained}
use Rattle.key_document.specs.Tokens.{tokens_counts, tokens_key, tokens_text}
use Rattle.key_document.proofs.Joining.{lacks_zeros}
use Rattle.key_document.proofs.ZerosOfText.{a_number, a_string, entry_fits, key_there, left, mark_bound, mark_long, mark_passed, number_bound, number_passed, number_shorter, number_some, number_there, string_bound, string_passed, zeros_begun, zeros_written}
use Rattle.key_document.proofs.from_text.append_zeros.Goals as goal

pub parts-init : goal.parts-init
parts-init c = record {
  writes = zeros_begun c.args.text.now c.args.at c.args.plain c.args.out.now.items;
  preserves = retained c.args.out.now;
}

pub returns-in_default-string_size-clause-appended : goal.returns-in_default-string_size-clause-appended
returns-in_default-string_size-clause-appended c = λ ts a e front k f fit.
    let s = a_string c.args.text.now c.args.at c.args.plain c.args.out.now.items c.parts.rest.now c.parts.at c.parts.plain c.parts.out.items c.parts.invariant.writes c.in-Some.first.now c.in-Some.others.now c.in-Some.ensures.cases.0 ts a e front k f fit c.if-first-eq34.true in
    absurd (c.in_default-string_size.ensures.found s.text (tokens_text s.later) s.occurs)

pub parts-preserved-then-first-eq34 : goal.parts-preserved-then-first-eq34
parts-preserved-then-first-eq34 c = record {
  writes = λ ts a e front k f fit.
      let s = a_string c.args.text.now c.args.at c.args.plain c.args.out.now.items c.parts.rest.now c.parts.at c.parts.plain c.parts.out.items c.parts.invariant.writes c.in-Some.first.now c.in-Some.others.now c.in-Some.ensures.cases.0 ts a e front k f fit c.if-first-eq34.true in
      let x = c.in-Some-string_size.ensures.found s.text (tokens_text s.later) s.occurs in
      let bound = string_bound c.args.text.now c.args.at c.args.plain c.args.out.now.items c.parts.rest.now c.parts.at c.parts.plain c.parts.out.items c.parts.invariant.writes c.in-Some.first.now c.in-Some.others.now c.in-Some.ensures.cases.0 ts a e front k f fit c.if-first-eq34.true c.in-Some-string_size.size x.0 in
      let at_now : c.saturating_add-at.result ≡ c.parts.at + c.in-Some-string_size.size = omega (arith, c.saturating_add-at.ensures, bound.0, c.args.out.now.ok.1, c.args.out.now.ok.0, c.args.out.now.small) in
      let plain_now : c.saturating_add-plain.result ≡ c.parts.plain + c.in-Some-string_size.size = omega (arith, c.saturating_add-plain.ensures, bound.1) in
      string_passed c.args.text.now c.args.at c.args.plain c.args.out.now.items c.parts.rest.now c.parts.at c.parts.plain c.parts.out.items c.parts.invariant.writes c.in-Some.first.now c.in-Some.others.now c.in-Some.ensures.cases.0 ts a e front k f fit c.if-first-eq34.true c.in-Some-string_size.behind.now c.in-Some-string_size.size c.saturating_add-at.result c.saturating_add-plain.result x.1 x.0 at_now plain_now;
  preserves = c.parts.invariant.preserves;
}

pub returns-in_err-count-clause-appended : goal.returns-in_err-count-clause-appended
returns-in_err-count-clause-appended c = λ ts a e front k f fit.
    let n = a_number c.args.text.now c.args.at c.args.plain c.args.out.now.items c.parts.rest.now c.parts.at c.parts.plain c.parts.out.items c.parts.invariant.writes c.in-Some.first.now c.in-Some.others.now c.in-Some.ensures.cases.0 ts a e front k f fit (sym c.is_number_byte.ensures ∙ c.if-is_number_byte.true) in
    absurd (c.in_err-count.ensures.found n.value n.proper (tokens_text n.later) n.ends (number_there c.args.text.now c.args.at c.args.plain c.args.out.now.items c.parts.rest.now c.parts.at c.parts.plain c.parts.out.items c.parts.invariant.writes c.in-Some.first.now c.in-Some.others.now c.in-Some.ensures.cases.0 ts a e front k f fit (sym c.is_number_byte.ensures ∙ c.if-is_number_byte.true)))

pub returns-then-behind-rest-clause-appended : goal.returns-then-behind-rest-clause-appended
returns-then-behind-rest-clause-appended c = λ ts a e front k f fit.
    let n = a_number c.args.text.now c.args.at c.args.plain c.args.out.now.items c.parts.rest.now c.parts.at c.parts.plain c.parts.out.items c.parts.invariant.writes c.in-Some.first.now c.in-Some.others.now c.in-Some.ensures.cases.0 ts a e front k f fit (sym c.is_number_byte.ensures ∙ c.if-is_number_byte.true) in
    let x = c.in_ok-count.ensures.found n.value n.proper (tokens_text n.later) n.ends (number_there c.args.text.now c.args.at c.args.plain c.args.out.now.items c.parts.rest.now c.parts.at c.parts.plain c.parts.out.items c.parts.invariant.writes c.in-Some.first.now c.in-Some.others.now c.in-Some.ensures.cases.0 ts a e front k f fit (sym c.is_number_byte.ensures ∙ c.if-is_number_byte.true)) in
    absurd (omega (arith, c.if-behind-rest.true, number_shorter c.args.text.now c.args.at c.args.plain c.args.out.now.items c.parts.rest.now c.parts.at c.parts.plain c.parts.out.items c.parts.invariant.writes c.in-Some.first.now c.in-Some.others.now c.in-Some.ensures.cases.0 ts a e front k f fit (sym c.is_number_byte.ensures ∙ c.if-is_number_byte.true) c.in_ok-count.behind.now x.1))

pub returns-in_err-size-clause-appended : goal.returns-in_err-size-clause-appended
returns-in_err-size-clause-appended c = λ ts a e front k f fit.
    let n = a_number c.args.text.now c.args.at c.args.plain c.args.out.now.items c.parts.rest.now c.parts.at c.parts.plain c.parts.out.items c.parts.invariant.writes c.in-Some.first.now c.in-Some.others.now c.in-Some.ensures.cases.0 ts a e front k f fit (sym c.is_number_byte.ensures ∙ c.if-is_number_byte.true) in
    let l = left c.args.text.now c.args.at c.args.plain c.args.out.now.items c.parts.rest.now c.parts.at c.parts.plain c.parts.out.items c.parts.invariant.writes c.in-Some.first.now c.in-Some.others.now c.in-Some.ensures.cases.0 ts a e front k f fit in
    absurd (c.in_err-size.ensures.found n.value n.proper l.gone (tokens_key n.later ++ l.underway.front) (c.deref.ensures.value ∙ key_there c.args.text.now c.args.at c.args.plain c.args.out.now.items c.parts.rest.now c.parts.at c.parts.plain c.parts.out.items c.parts.invariant.writes c.in-Some.first.now c.in-Some.others.now c.in-Some.ensures.cases.0 ts a e front k f fit (sym c.is_number_byte.ensures ∙ c.if-is_number_byte.true)) l.at_is)

pub returns-in_err-plain-clause-appended : goal.returns-in_err-plain-clause-appended
returns-in_err-plain-clause-appended c = λ ts a e front k f fit.
    let n = a_number c.args.text.now c.args.at c.args.plain c.args.out.now.items c.parts.rest.now c.parts.at c.parts.plain c.parts.out.items c.parts.invariant.writes c.in-Some.first.now c.in-Some.others.now c.in-Some.ensures.cases.0 ts a e front k f fit (sym c.is_number_byte.ensures ∙ c.if-is_number_byte.true) in
    let l = left c.args.text.now c.args.at c.args.plain c.args.out.now.items c.parts.rest.now c.parts.at c.parts.plain c.parts.out.items c.parts.invariant.writes c.in-Some.first.now c.in-Some.others.now c.in-Some.ensures.cases.0 ts a e front k f fit in
    let x = c.in_ok-count.ensures.found n.value n.proper (tokens_text n.later) n.ends (number_there c.args.text.now c.args.at c.args.plain c.args.out.now.items c.parts.rest.now c.parts.at c.parts.plain c.parts.out.items c.parts.invariant.writes c.in-Some.first.now c.in-Some.others.now c.in-Some.ensures.cases.0 ts a e front k f fit (sym c.is_number_byte.ensures ∙ c.if-is_number_byte.true)) in
    let size = c.in_ok-size.ensures.found n.value n.proper l.gone (tokens_key n.later ++ l.underway.front) (c.deref.ensures.value ∙ key_there c.args.text.now c.args.at c.args.plain c.args.out.now.items c.parts.rest.now c.parts.at c.parts.plain c.parts.out.items c.parts.invariant.writes c.in-Some.first.now c.in-Some.others.now c.in-Some.ensures.cases.0 ts a e front k f fit (sym c.is_number_byte.ensures ∙ c.if-is_number_byte.true)) l.at_is in
    let bound = number_bound c.args.text.now c.args.at c.args.plain c.args.out.now.items c.parts.rest.now c.parts.at c.parts.plain c.parts.out.items c.parts.invariant.writes c.in-Some.first.now c.in-Some.others.now c.in-Some.ensures.cases.0 ts a e front k f fit (sym c.is_number_byte.ensures ∙ c.if-is_number_byte.true) c.in_ok-size.size size in
    let lacks = c.in_err-plain.ensures.found bound.1 (omega (arith, size, number_some c.args.text.now c.args.at c.args.plain c.args.out.now.items c.parts.rest.now c.parts.at c.parts.plain c.parts.out.items c.parts.invariant.writes c.in-Some.first.now c.in-Some.others.now c.in-Some.ensures.cases.0 ts a e front k f fit (sym c.is_number_byte.ensures ∙ c.if-is_number_byte.true))) in
    lacks_zeros c.from_residual-in_err-plain.result c.in_err-plain.field-0.0 c.args.out.now c.pass_number.new.out (zeros_of c.args.plain (tokens_counts ts)) (zeros_of c.args.plain (tokens_counts ts)) c.from_residual-in_err-plain.ensures.1 lacks.0
    (omega (arith, lacks.1, ap (λ m. length (entry_of c.parts.plain m)) x.0, c.parts.invariant.preserves.capacity, c.args.out.now.ok.0, c.parts.out.ok.0, entry_fits c.args.text.now c.args.at c.args.plain c.args.out.now.items c.parts.rest.now c.parts.at c.parts.plain c.parts.out.items c.parts.invariant.writes c.in-Some.first.now c.in-Some.others.now c.in-Some.ensures.cases.0 ts a e front k f fit (sym c.is_number_byte.ensures ∙ c.if-is_number_byte.true) c.in_ok-size.size size)) (omega arith)

pub parts-preserved-then-is_number_byte : goal.parts-preserved-then-is_number_byte
parts-preserved-then-is_number_byte c = record {
  writes = λ ts a e front k f fit.
      let n = a_number c.args.text.now c.args.at c.args.plain c.args.out.now.items c.parts.rest.now c.parts.at c.parts.plain c.parts.out.items c.parts.invariant.writes c.in-Some.first.now c.in-Some.others.now c.in-Some.ensures.cases.0 ts a e front k f fit (sym c.is_number_byte.ensures ∙ c.if-is_number_byte.true) in
      let l = left c.args.text.now c.args.at c.args.plain c.args.out.now.items c.parts.rest.now c.parts.at c.parts.plain c.parts.out.items c.parts.invariant.writes c.in-Some.first.now c.in-Some.others.now c.in-Some.ensures.cases.0 ts a e front k f fit in
      let x = c.in_ok-count.ensures.found n.value n.proper (tokens_text n.later) n.ends (number_there c.args.text.now c.args.at c.args.plain c.args.out.now.items c.parts.rest.now c.parts.at c.parts.plain c.parts.out.items c.parts.invariant.writes c.in-Some.first.now c.in-Some.others.now c.in-Some.ensures.cases.0 ts a e front k f fit (sym c.is_number_byte.ensures ∙ c.if-is_number_byte.true)) in
      let size = c.in_ok-size.ensures.found n.value n.proper l.gone (tokens_key n.later ++ l.underway.front) (c.deref.ensures.value ∙ key_there c.args.text.now c.args.at c.args.plain c.args.out.now.items c.parts.rest.now c.parts.at c.parts.plain c.parts.out.items c.parts.invariant.writes c.in-Some.first.now c.in-Some.others.now c.in-Some.ensures.cases.0 ts a e front k f fit (sym c.is_number_byte.ensures ∙ c.if-is_number_byte.true)) l.at_is in
      let bound = number_bound c.args.text.now c.args.at c.args.plain c.args.out.now.items c.parts.rest.now c.parts.at c.parts.plain c.parts.out.items c.parts.invariant.writes c.in-Some.first.now c.in-Some.others.now c.in-Some.ensures.cases.0 ts a e front k f fit (sym c.is_number_byte.ensures ∙ c.if-is_number_byte.true) c.in_ok-size.size size in
      let y = c.in_ok-plain.ensures.found bound.1 (omega (arith, size, number_some c.args.text.now c.args.at c.args.plain c.args.out.now.items c.parts.rest.now c.parts.at c.parts.plain c.parts.out.items c.parts.invariant.writes c.in-Some.first.now c.in-Some.others.now c.in-Some.ensures.cases.0 ts a e front k f fit (sym c.is_number_byte.ensures ∙ c.if-is_number_byte.true))) in
      let at_now : c.saturating_add-at-then-is_number_byte.result ≡ c.parts.at + c.in_ok-size.size = omega (arith, c.saturating_add-at-then-is_number_byte.ensures, bound.0, c.args.out.now.ok.1, c.args.out.now.ok.0, c.args.out.now.small) in
      number_passed c.args.text.now c.args.at c.args.plain c.args.out.now.items c.parts.rest.now c.parts.at c.parts.plain c.parts.out.items c.parts.invariant.writes c.in-Some.first.now c.in-Some.others.now c.in-Some.ensures.cases.0 ts a e front k f fit (sym c.is_number_byte.ensures ∙ c.if-is_number_byte.true) c.in_ok-count.behind.now c.pass_number.new.out.items c.in_ok-size.size c.saturating_add-at-then-is_number_byte.result c.in_ok-plain.plain x.1 size at_now
      (y.0 ∙ ap (λ m. plain_behind c.parts.plain m + (c.in_ok-size.size - 1)) x.0) (y.1 ∙ ap (λ m. c.parts.out.items ++ entry_of c.parts.plain m) x.0);
  preserves = preserves_on c.args.out.now c.parts.out c.pass_number.new.out c.parts.invariant.preserves c.in_ok-plain.ensures.preserves;
}

pub returns-then-more-others-clause-appended : goal.returns-then-more-others-clause-appended
returns-then-more-others-clause-appended c = λ ts a e front k f fit.
    absurd (omega (arith, c.if-more-others.true, c.mark_behind-more.ensures, mark_long c.args.text.now c.args.at c.args.plain c.args.out.now.items c.parts.rest.now c.parts.at c.parts.plain c.parts.out.items c.parts.invariant.writes c.in-Some.first.now c.in-Some.others.now c.in-Some.ensures.cases.0 ts a e front k f fit c.if-first-eq34.false (sym c.is_number_byte.ensures ∙ c.if-is_number_byte.false)))

pub parts-preserved : goal.parts-preserved
parts-preserved c = record {
  writes = λ ts a e front k f fit.
      let bound = mark_bound c.args.text.now c.args.at c.args.plain c.args.out.now.items c.parts.rest.now c.parts.at c.parts.plain c.parts.out.items c.parts.invariant.writes c.in-Some.first.now c.in-Some.others.now c.in-Some.ensures.cases.0 ts a e front k f fit c.if-first-eq34.false (sym c.is_number_byte.ensures ∙ c.if-is_number_byte.false) c.mark_size-size.result c.mark_size-size.ensures in
      let at_now : c.saturating_add-at-in-Some.result ≡ c.parts.at + c.mark_size-size.result = omega (arith, c.saturating_add-at-in-Some.ensures, bound.0, c.args.out.now.ok.1, c.args.out.now.ok.0, c.args.out.now.small) in
      let plain_now : c.saturating_add-plain-in-Some.result ≡ c.parts.plain + c.mark_size-size.result = omega (arith, c.saturating_add-plain-in-Some.ensures, bound.1) in
      mark_passed c.args.text.now c.args.at c.args.plain c.args.out.now.items c.parts.rest.now c.parts.at c.parts.plain c.parts.out.items c.parts.invariant.writes c.in-Some.first.now c.in-Some.others.now c.in-Some.ensures.cases.0 ts a e front k f fit c.if-first-eq34.false (sym c.is_number_byte.ensures ∙ c.if-is_number_byte.false) c.split_at.result.1.now c.mark_behind-more.result c.mark_size-size.result c.saturating_add-at-in-Some.result c.saturating_add-plain-in-Some.result
      c.mark_behind-more.ensures c.split_at.ensures.back c.mark_size-size.ensures at_now plain_now;
  preserves = c.parts.invariant.preserves;
}

pub returns-clause-appended : goal.returns-clause-appended
returns-clause-appended c = λ ts a e front k f fit.
    zeros_written c.args.text.now c.args.at c.args.plain c.args.out.now.items c.parts.rest.now c.parts.at c.parts.plain c.parts.out.items c.parts.invariant.writes c.in_default.ensures.cases ts a e front k f fit
