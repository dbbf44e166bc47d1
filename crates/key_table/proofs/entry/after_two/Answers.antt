use Rattle.std.proofs.Common.{◌++◌, Some, sym, ap, ◌∙◌, arith}
use Rattle.std.proofs.lemmas.List.{append_cancel_left}
use Rattle.key_value.proofs.Texts.{some_same}
use Rattle.jsonb_spec.specs.Table.{in_two}
use Rattle.key_table.proofs.Walking.{two_first}
use Rattle.key_table.proofs.entry.after_two.Goals as goal

pub returns : goal.returns
returns c = λ rest.
    let cut = two_first c.args.bytes.now c.in_ok-first.first.now c.in_ok-first.rest.now c.args.number (λ k. (c.type_inv.bytes k).fits) (omega (arith, c.in_ok-first.ensures.cases.2)) c.in_ok-first.ensures.cases.0 c.in_ok-first.ensures.cases.1 (sym c.if-from_be_bytes-number.false ∙ c.from_be_bytes.ensures) in
    (λ same. cut ∙ ap (λ l. in_two c.args.number ++ l) (some_same c.in_ok-first.rest.now rest same), λ is. ap Some (append_cancel_left (in_two c.args.number) c.in_ok-first.rest.now rest (sym cut ∙ is)))
