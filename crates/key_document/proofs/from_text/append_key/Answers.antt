use Rattle.std.proofs.Common.{refl, sym, ◌∙◌, arith}
use Rattle.std.specs.Prelude.{vec_len}
use Rattle.jsonb_spec.specs.SortKey.{key_of}
use Rattle.key_text.proofs.Appending.{preserves_on, retained, retained_by}
use Rattle.key_document.proofs.FromText.{a_number, a_string, all_written, mark_fits, mark_long, mark_written, number_fits, number_shorter, number_there, number_written, parts_begun, string_fits, string_written}
use Rattle.key_document.proofs.Items.{part_lacks, part_passed}
use Rattle.key_document.specs.Tokens.{tokens_text}
use Rattle.key_document.proofs.from_text.append_key.Goals as goal

pub parts-init : goal.parts-init
parts-init c = record {
  writes = parts_begun c.args.text.now c.args.out.now.items _ refl;
  preserves = retained c.args.out.now;
}

pub returns-in_err-rest-clause-found : goal.returns-in_err-rest-clause-found
returns-in_err-rest-clause-found c = λ t r e.
    let s = a_string c.args.text.now c.parts.rest.now c.parts.zeros c.args.out.now.items c.parts.out.items c.parts.invariant.writes c.in-Some.first.now c.in-Some.others.now c.in-Some.ensures.cases.0 t r e c.if-first-eq34.true in
    let lacks = c.in_err-rest.ensures.found s.text (tokens_text s.later) s.occurs in
    part_passed _ c.from_residual.result c.args.out.now c.append_string.new.out (key_of t) c.in_err-rest.field-0.0 c.from_residual.ensures.1 lacks.0
    (omega (arith, lacks.1, c.parts.invariant.preserves.capacity, string_fits c.args.text.now c.parts.rest.now c.parts.zeros c.args.out.now.items c.parts.out.items c.parts.invariant.writes c.in-Some.first.now c.in-Some.others.now c.in-Some.ensures.cases.0 t r e c.if-first-eq34.true))

pub parts-preserved-then-first-eq34 : goal.parts-preserved-then-first-eq34
parts-preserved-then-first-eq34 c = record {
  writes = λ t r e.
      let s = a_string c.args.text.now c.parts.rest.now c.parts.zeros c.args.out.now.items c.parts.out.items c.parts.invariant.writes c.in-Some.first.now c.in-Some.others.now c.in-Some.ensures.cases.0 t r e c.if-first-eq34.true in
      let x = c.in_ok-rest.ensures.found s.text (tokens_text s.later) s.occurs in
      string_written c.args.text.now c.parts.rest.now c.parts.zeros c.args.out.now.items c.parts.out.items c.parts.invariant.writes c.in-Some.first.now c.in-Some.others.now c.in-Some.ensures.cases.0 t r e c.if-first-eq34.true c.in_ok-rest.rest.now c.append_string.new.out.items x.0 x.1;
  preserves = preserves_on c.args.out.now c.parts.out c.append_string.new.out c.parts.invariant.preserves c.in_ok-rest.ensures.preserves;
}

pub returns-in_err-count-clause-found : goal.returns-in_err-count-clause-found
returns-in_err-count-clause-found c = λ t r e.
    let n = a_number c.args.text.now c.parts.rest.now c.parts.zeros c.args.out.now.items c.parts.out.items c.parts.invariant.writes c.in-Some.first.now c.in-Some.others.now c.in-Some.ensures.cases.0 t r e (sym c.is_number_byte.ensures ∙ c.if-is_number_byte.true) in
    let lacks = c.in_err-count.ensures.found n.value n.proper (tokens_text n.later) n.ends (number_there c.args.text.now c.parts.rest.now c.parts.zeros c.args.out.now.items c.parts.out.items c.parts.invariant.writes c.in-Some.first.now c.in-Some.others.now c.in-Some.ensures.cases.0 t r e (sym c.is_number_byte.ensures ∙ c.if-is_number_byte.true)) in
    part_passed _ c.from_residual-in_err-count.result c.args.out.now c.append_number.new.out (key_of t) c.in_err-count.field-0.0 c.from_residual-in_err-count.ensures.1 lacks.0
    (omega (arith, lacks.1, c.parts.invariant.preserves.capacity, number_fits c.args.text.now c.parts.rest.now c.parts.zeros c.args.out.now.items c.parts.out.items c.parts.invariant.writes c.in-Some.first.now c.in-Some.others.now c.in-Some.ensures.cases.0 t r e (sym c.is_number_byte.ensures ∙ c.if-is_number_byte.true)))

pub returns-then-behind-rest-clause-found : goal.returns-then-behind-rest-clause-found
returns-then-behind-rest-clause-found c = λ t r e.
    let n = a_number c.args.text.now c.parts.rest.now c.parts.zeros c.args.out.now.items c.parts.out.items c.parts.invariant.writes c.in-Some.first.now c.in-Some.others.now c.in-Some.ensures.cases.0 t r e (sym c.is_number_byte.ensures ∙ c.if-is_number_byte.true) in
    let x = c.in_ok-count.ensures.found n.value n.proper (tokens_text n.later) n.ends (number_there c.args.text.now c.parts.rest.now c.parts.zeros c.args.out.now.items c.parts.out.items c.parts.invariant.writes c.in-Some.first.now c.in-Some.others.now c.in-Some.ensures.cases.0 t r e (sym c.is_number_byte.ensures ∙ c.if-is_number_byte.true)) in
    absurd (omega (arith, c.if-behind-rest.true, number_shorter c.args.text.now c.parts.rest.now c.parts.zeros c.args.out.now.items c.parts.out.items c.parts.invariant.writes c.in-Some.first.now c.in-Some.others.now c.in-Some.ensures.cases.0 t r e (sym c.is_number_byte.ensures ∙ c.if-is_number_byte.true) c.in_ok-count.behind.now x.0.1))

pub parts-preserved-then-is_number_byte : goal.parts-preserved-then-is_number_byte
parts-preserved-then-is_number_byte c = record {
  writes = λ t r e.
      let n = a_number c.args.text.now c.parts.rest.now c.parts.zeros c.args.out.now.items c.parts.out.items c.parts.invariant.writes c.in-Some.first.now c.in-Some.others.now c.in-Some.ensures.cases.0 t r e (sym c.is_number_byte.ensures ∙ c.if-is_number_byte.true) in
      let x = c.in_ok-count.ensures.found n.value n.proper (tokens_text n.later) n.ends (number_there c.args.text.now c.parts.rest.now c.parts.zeros c.args.out.now.items c.parts.out.items c.parts.invariant.writes c.in-Some.first.now c.in-Some.others.now c.in-Some.ensures.cases.0 t r e (sym c.is_number_byte.ensures ∙ c.if-is_number_byte.true)) in
      number_written c.args.text.now c.parts.rest.now c.parts.zeros c.args.out.now.items c.parts.out.items c.parts.invariant.writes c.in-Some.first.now c.in-Some.others.now c.in-Some.ensures.cases.0 t r e (sym c.is_number_byte.ensures ∙ c.if-is_number_byte.true) c.in_ok-count.behind.now c.append_number.new.out.items c.first_zeros-zeros.result c.in_ok-count.count x.0.1 x.1 x.0.0
      c.first_zeros-zeros.ensures.kept c.first_zeros-zeros.ensures.none (λ none some. let f = c.first_zeros-zeros.ensures.found none some in (f.0, omega (arith, f.1, c.len-at.ensures, c.parts.out.ok.0)));
  preserves = preserves_on c.args.out.now c.parts.out c.append_number.new.out c.parts.invariant.preserves c.in_ok-count.ensures.preserves;
}

pub returns-in_err-append_mark-clause-found : goal.returns-in_err-append_mark-clause-found
returns-in_err-append_mark-clause-found c = λ t r e.
    part_lacks _ c.from_residual-in_err-append_mark.result c.args.out.now c.append_mark.new.out (key_of t) c.from_residual-in_err-append_mark.ensures.1
    (omega (arith, c.in_err-append_mark.ensures.full, c.parts.invariant.preserves.capacity, mark_fits c.args.text.now c.parts.rest.now c.parts.zeros c.args.out.now.items c.parts.out.items c.parts.invariant.writes c.in-Some.first.now c.in-Some.others.now c.in-Some.ensures.cases.0 t r e c.if-first-eq34.false (sym c.is_number_byte.ensures ∙ c.if-is_number_byte.false)))

pub returns-then-size-others-clause-found : goal.returns-then-size-others-clause-found
returns-then-size-others-clause-found c = λ t r e.
    absurd (omega (arith, c.if-size-others.true, c.mark_behind-size.ensures, mark_long c.args.text.now c.parts.rest.now c.parts.zeros c.args.out.now.items c.parts.out.items c.parts.invariant.writes c.in-Some.first.now c.in-Some.others.now c.in-Some.ensures.cases.0 t r e c.if-first-eq34.false (sym c.is_number_byte.ensures ∙ c.if-is_number_byte.false)))

pub parts-preserved : goal.parts-preserved
parts-preserved c = record {
  writes = λ t r e. mark_written c.args.text.now c.parts.rest.now c.parts.zeros c.args.out.now.items c.parts.out.items c.parts.invariant.writes c.in-Some.first.now c.in-Some.others.now c.in-Some.ensures.cases.0 t r e c.if-first-eq34.false (sym c.is_number_byte.ensures ∙ c.if-is_number_byte.false) c.mark_behind-size.result c.split_at.result.1.now c.append_mark.new.out.items c.mark_behind-size.ensures c.split_at.ensures.back c.in_ok-append_mark.ensures.ok;
  preserves = preserves_on c.args.out.now c.parts.out c.append_mark.new.out c.parts.invariant.preserves (retained_by c.parts.out c.append_mark.new.out c.in_ok-append_mark.ensures);
}

pub returns-clause-found : goal.returns-clause-found
returns-clause-found c = λ t r e. all_written c.args.text.now c.parts.rest.now c.parts.zeros c.args.out.now.items c.parts.out.items (vec_len c.args.out.now) c.parts.invariant.writes c.in_default.ensures.cases (omega (arith, c.args.out.now.ok.0)) t r e
