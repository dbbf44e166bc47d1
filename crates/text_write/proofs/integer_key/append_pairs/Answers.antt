use Rattle.std.proofs.Common.{◌++◌, ◌∙◌, ap, map, take, arith}
use Rattle.std.proofs.lemmas.List.{take-take}
use Rattle.jsonb_spec.specs.SortKey.{invert_if}
use Rattle.text_write.specs.IntegerKey.{digit_bytes}
use Rattle.text_members.proofs.Outcomes.{on_ok}
use Rattle.text_write.proofs.integer_key.append_pairs.Goals as goal

pub returns-in-Some-clause-bytes : goal.returns-in-Some-clause-bytes
returns-in-Some-clause-bytes c =
    let len = c.args.len in
    on_ok c.append_short.result c.append_short.ensures.bytes (λ e.
    e
    ∙ ap (λ xs. c.args.out.now.items ++ map (invert_if c.args.negative) (digit_bytes xs)) (ap (take len) c.in-Some.ensures.cases.same ∙ take-take len 32 c.args.digits.now (omega arith)))
