use Rattle.std.proofs.Common.{◌≡◌, ◌+◌, ◌-◌, ◌<◌, ◌^◌, ◌++◌, length, ◌∙◌, ap, arith, length-append}
use Rattle.std.proofs.lemmas.List.{length-reverse}
use Rattle.std.specs.Prelude.{reverse, vec_len, vec_capacity}
use Rattle.jsonb_spec.specs.Document.Zeros.{in_sevens}
use Rattle.jsonb_spec.specs.Document.{end_of}
use Rattle.key_document.proofs.Ending.{end_some, ended_whole, ends_with, none_behind, not_ended, turned_end}
use Rattle.key_document.proofs.document.end_zeros.Goals as goal

pub returns-then-end-start-clause-ended : goal.returns-then-end-start-clause-ended
returns-then-end-start-clause-ended c = λ before zeros start e.
    e ∙ ap (λ l. before ++ l) (none_behind zeros (omega (arith, c.if-end-start.true, c.len-end.ensures, c.args.out.now.ok.0, ap length e, length-append before zeros, start)))

pub returns-in_err-append_sevens-clause-ended : goal.returns-in_err-append_sevens-clause-ended
returns-in_err-append_sevens-clause-ended c = λ before zeros start e.
    let old = c.args.out.now in
    let size : c.len-end.result - c.args.start ≡ length zeros = omega (arith, c.len-end.ensures, old.ok.0, ap length e, length-append before zeros, start) in
    let small : c.len-end.result - c.args.start < 2 ^ 63 = omega (arith, c.len-end.ensures, old.ok.0, old.ok.1, old.small) in
    not_ended old c.append_sevens.new.buf before zeros c.args.start (c.len-end.result - c.args.start) start e size c.from_residual.result c.from_residual.ensures.0 (λ none. omega (arith, none, c.if-end-start.false)) (c.in_err-append_sevens.ensures.appends small).full

pub returns-clause-ended : goal.returns-clause-ended
returns-clause-ended c = λ before zeros start e.
    let old = c.args.out.now in
    let n = c.len-end.result - c.args.start in
    let size : c.len-end.result - c.args.start ≡ length zeros = omega (arith, c.len-end.ensures, old.ok.0, ap length e, length-append before zeros, start) in
    let small : c.len-end.result - c.args.start < 2 ^ 63 = omega (arith, c.len-end.ensures, old.ok.0, old.ok.1, old.small) in
    let sevens = in_sevens 8 n in
    let mid = c.append_sevens.new.buf in
    let appended : mid.items ≡ old.items ++ sevens = (c.in_ok-append_sevens.ensures.appends small).ok in
    let all : c.deref_mut.result.now ≡ old.items ++ sevens = c.deref_mut.ensures.value ∙ appended in
    let at : c.len-end.result ≡ length old.items = omega (arith, c.len-end.ensures, old.ok.0) in
    let whole : vec_len mid ≡ length c.deref_mut.result.now = omega (arith, mid.ok.0, ap length c.deref_mut.ensures.value) in
    let long : vec_len mid ≡ vec_len old + length (reverse sevens) = omega (arith, mid.ok.0, old.ok.0, ap length appended, length-append old.items sevens, length-reverse sevens) in
    ended_whole old c.extend_from_slice.new.self before zeros c.args.start n start e size c.extend_from_slice.result
    (ends_with c.extend_from_slice.result old c.extend_from_slice.new.self _ (reverse sevens) (end_of n) (vec_capacity mid) (vec_len mid)
    (turned_end (vec_len mid) c.len-end.result c.deref_mut.result.now c.reverse.new.self _ _ old.items sevens all at whole c.reverse.ensures.after)
    (end_some n (λ none. omega (arith, none, c.if-end-start.false))) long c.in_ok-append_sevens.ensures.preserves.capacity c.extend_from_slice.ensures.capacity c.extend_from_slice.ensures.items c.extend_from_slice.ensures.full)
