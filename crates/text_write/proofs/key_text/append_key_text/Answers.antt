use Rattle.std.proofs.Common.{◌++◌, ◌∷◌, [], ap, take, ◌∙◌, arith}
use Rattle.std.proofs.lemmas.List.{take-take}
use Rattle.text_members.proofs.Outcomes.{on_ok}
use Rattle.text_write.proofs.key_text.append_key_text.Goals as goal

pub returns-in-Some-clause-bytes : goal.returns-in-Some-clause-bytes
returns-in-Some-clause-bytes c =
    on_ok c.append_row.result c.append_row.ensures.bytes (λ e.
    e ∙ ap (λ xs. c.args.out.now.items ++ (xs ++ 0 ∷ 1 ∷ [])) (ap (take c.args.count) c.in-Some.ensures.cases.same ∙ take-take c.args.count 32 c.args.bytes.now (omega arith)))
