use Rattle.std.proofs.Common.{[], Ok, nat_lt, sym, ap, ◌∙◌, append-nil}
use Rattle.jsonb_spec.specs.SortKey.{key_of}
use Rattle.jsonb_spec.specs.SortKey.Found.{count_of, members_len}
use Rattle.key_table.proofs.Writing.{same_count, no_count, error_count}
use Rattle.key_table.proofs.make.has_few_members.Goals as goal

pub returns-in_default : goal.returns-in_default
returns-in_default c = λ t r e ms is. absurd (error_count _ (members_len ms) (c.in_default.ensures.counted t r [] (e ∙ sym (append-nil (key_of t))) ∙ ap (λ u. Ok (count_of u)) is))

pub returns-in-Some : goal.returns-in-Some
returns-in-Some c = λ t r e ms is. ap (λ n. nat_lt n 4) (same_count c.in-Some.count (members_len ms) (ap Ok (sym c.in-Some.is) ∙ c.in-Ok.ensures.counted t r [] (e ∙ sym (append-nil (key_of t))) ∙ ap (λ u. Ok (count_of u)) is))

pub returns-in-None : goal.returns-in-None
returns-in-None c = λ t r e ms is. absurd (no_count (members_len ms) (ap Ok (sym c.in-None.is) ∙ c.in-Ok.ensures.counted t r [] (e ∙ sym (append-nil (key_of t))) ∙ ap (λ u. Ok (count_of u)) is))
