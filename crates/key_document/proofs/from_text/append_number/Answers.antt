use Rattle.std.proofs.Common.{◌++◌, length, ap, ◌∙◌, arith}
use Rattle.key_document.proofs.Digits.{digits_of_number, number_small, same_key}
use Rattle.jsonb_core.specs.View.{number_view}
use Rattle.key_document.proofs.Items.{part_lacks}
use Rattle.key_document.proofs.from_text.append_number.Goals as goal

pub returns-in_default-clause-found : goal.returns-in_default-clause-found
returns-in_default-clause-found c = λ n p more ends e. absurd (c.in_default.ensures.read (number_small n p more c.args.bytes.now ends e))

pub returns-in_default-number_of-clause-found : goal.returns-in_default-number_of-clause-found
returns-in_default-number_of-clause-found c = λ n p more ends e.
    let d = digits_of_number n p more c.args.bytes.now c.in-Some.digits ends e (c.in-Some.ensures.read (number_small n p more c.args.bytes.now ends e)) in
    absurd (c.in_default-number_of.ensures.number n p more e d)

pub returns-in_err-append_number_key-clause-found : goal.returns-in_err-append_number_key-clause-found
returns-in_err-append_number_key-clause-found c = λ n p more ends e.
    let d = digits_of_number n p more c.args.bytes.now c.in-Some.digits ends e (c.in-Some.ensures.read (number_small n p more c.args.bytes.now ends e)) in
    let x = c.in-Some-number_of.ensures.number n p more e d in
    part_lacks _ c.from_residual.result c.args.out.now c.append_number_key.new.buf _ c.from_residual.ensures.1 (omega (arith, c.in_err-append_number_key.ensures.appends.full, ap length (same_key (number_view c.in-Some-number_of.number) n x.0 x.1)))

pub returns-clause-found : goal.returns-clause-found
returns-clause-found c = λ n p more ends e.
    let d = digits_of_number n p more c.args.bytes.now c.in-Some.digits ends e (c.in-Some.ensures.read (number_small n p more c.args.bytes.now ends e)) in
    let x = c.in-Some-number_of.ensures.number n p more e d in
    ((d.zeros, d.rest), c.in_ok-append_number_key.ensures.appends.ok ∙ ap (λ l. c.args.out.now.items ++ l) (same_key (number_view c.in-Some-number_of.number) n x.0 x.1))
