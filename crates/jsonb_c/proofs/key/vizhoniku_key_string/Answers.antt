use Rattle.std.proofs.Common.{[], ap, ◌∙◌}
use Rattle.jsonb_c.specs.KeyParts.{kind_number}
use Rattle.jsonb_c.proofs.KeyParts.{all_of_it, none_written, some_kind, string_written}
use Rattle.jsonb_c.proofs.key.vizhoniku_key_string.Goals as goal

pub returns-then-kind-eq-STRING-clause-written : goal.returns-then-kind-eq-STRING-clause-written
returns-then-kind-eq-STRING-clause-written c = λ t k.
    string_written t k.readable c.args.key.now c.kind_number-kind.result c.write_string.result c.write_string.new.size c.args.out.now c.write_string.new.out k.is_key
    (c.kind_number-kind.ensures ∙ ap kind_number (c.kind_of.ensures.kind t k.readable [] (all_of_it c.args.key.now t k))) c.if-kind-eq-STRING.true c.write_string.ensures.writes.written

pub returns-then-kind-eq-NO_KIND-clause-written : goal.returns-then-kind-eq-NO_KIND-clause-written
returns-then-kind-eq-NO_KIND-clause-written c = λ t k.
    absurd (some_kind t k.readable c.kind_number-kind.result (c.kind_number-kind.ensures ∙ ap kind_number (c.kind_of.ensures.kind t k.readable [] (all_of_it c.args.key.now t k))) c.if-kind-eq-NO_KIND.true)

pub returns-clause-written : goal.returns-clause-written
returns-clause-written c = λ t k.
    none_written t c.kind_number-kind.result 0 c.args.out.now c.args.out.now (c.kind_number-kind.ensures ∙ ap kind_number (c.kind_of.ensures.kind t k.readable [] (all_of_it c.args.key.now t k))) c.if-kind-eq-STRING.false
