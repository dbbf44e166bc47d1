use Rattle.std.proofs.Common.{◌≡◌, [], ◌++◌, Ok, append-nil, length, map, string_bytes, refl, true, subst, sym, ap, ◌∙◌, arith}
use Rattle.key_value.proofs.Texts.{some_same, none_some}
use Rattle.jsonb_spec.specs.PartAt.{part_at}
use Rattle.jsonb_spec.specs.SortKey.{key_of}
use Rattle.key_walk.specs.Found.{Finds}
use Rattle.key_document.specs.Changes.{Answers}
use Rattle.jsonb_spec.specs.Document.{behind_key}
use Rattle.key_document.proofs.Changing.{answer_lacking, nothing_appended}
use Rattle.key_document.proofs.NoZeros.{none_within}
use Rattle.key_document.proofs.Slots.{no_error, none_there, part_found}
use Rattle.key_document.proofs.part.append_plain_part.Goals as goal

pub returns-in_err-rest-clause-answers : goal.returns-in_err-rest-clause-answers
returns-in_err-rest-clause-answers c = λ t r e none. absurd (no_error c.args.key.now (part_at (map string_bytes c.args.names.now) t) _ (c.in_err-rest.ensures.finds.found t r [] (e ∙ sym (append-nil (key_of t)))))

pub returns-in_default-clause-answers : goal.returns-in_default-clause-answers
returns-in_default-clause-answers c = λ t r e none.
    let o = part_at (map string_bytes c.args.names.now) t in
    nothing_appended o c.args.out.now (none_there c.args.key.now o (subst (λ a. Finds c.args.key.now o (Ok a)) c.in_default.is (c.in_ok-rest.ensures.finds.found t r [] (e ∙ sym (append-nil (key_of t))))))

pub returns-in_default-after_key-clause-answers : goal.returns-in_default-after_key-clause-answers
returns-in_default-after_key-clause-answers c = λ t r e none.
    let o = part_at (map string_bytes c.args.names.now) t in
    let p = part_found c.args.key.now o c.in-Some.rest (subst (λ a. Finds c.args.key.now o (Ok a)) c.in-Some.is (c.in_ok-rest.ensures.finds.found t r [] (e ∙ sym (append-nil (key_of t))))) in
    absurd (none_some _ (c.in_default-after_key.ensures.found p.part p.readable p.behind p.occurs))

pub returns-in_err-extend_from_slice-clause-answers : goal.returns-in_err-extend_from_slice-clause-answers
returns-in_err-extend_from_slice-clause-answers c = λ t r e none.
    let o = part_at (map string_bytes c.args.names.now) t in
    let p = part_found c.args.key.now o c.in-Some.rest (subst (λ a. Finds c.args.key.now o (Ok a)) c.in-Some.is (c.in_ok-rest.ensures.finds.found t r [] (e ∙ sym (append-nil (key_of t))))) in
    let rest : c.in-Some-after_key.behind.now ≡ p.behind = some_same c.in-Some-after_key.behind.now p.behind (c.in-Some-after_key.ensures.found p.part p.readable p.behind p.occurs) in
    let is : c.front.result.now ≡ key_of p.part = c.front.ensures (key_of p.part) (p.occurs ∙ ap (λ b. key_of p.part ++ b) (sym rest)) in
    answer_lacking o p.part c.from_residual-in_err-extend_from_slice.result c.args.out.now c.extend_from_slice.new.self p.is c.from_residual-in_err-extend_from_slice.ensures.1 (omega (arith, c.in_err-extend_from_slice.ensures.full, ap length is))

pub returns-clause-answers : goal.returns-clause-answers
returns-clause-answers c = λ t r e none.
    let names = map string_bytes c.args.names.now in
    let o = part_at names t in
    let p = part_found c.args.key.now o c.in-Some.rest (subst (λ a. Finds c.args.key.now o (Ok a)) c.in-Some.is (c.in_ok-rest.ensures.finds.found t r [] (e ∙ sym (append-nil (key_of t))))) in
    let rest : c.in-Some-after_key.behind.now ≡ p.behind = some_same c.in-Some-after_key.behind.now p.behind (c.in-Some-after_key.ensures.found p.part p.readable p.behind p.occurs) in
    let is : c.front.result.now ≡ key_of p.part = c.front.ensures (key_of p.part) (p.occurs ∙ ap (λ b. key_of p.part ++ b) (sym rest)) in
    let zeros = none_within t names p.part r p.is none in
    subst (λ o. Answers o (Ok true) c.args.out.now c.extend_from_slice.new.self) (sym p.is) (
      record {
        ok = c.in_ok-extend_from_slice.ensures.items ∙ ap (λ k. c.args.out.now.items ++ k) (is ∙ sym (append-nil (key_of p.part)) ∙ ap (λ z. key_of p.part ++ behind_key z) (sym zeros));
        fits = p.readable.within;
        errors = tt;
      },
      refl,
    )
