use Rattle.std.proofs.Common.{◌++◌, sym, ap, ◌∙◌}
use Rattle.key_value.proofs.Texts.{none_some, some_same}
use Rattle.jsonb_spec.specs.SortKey.{key_of, text_key}
use Rattle.key_walk.proofs.walk.member_of.Goals as goal

pub returns-in_err-value-clause-next : goal.returns-in_err-value-clause-next
returns-in_err-value-clause-next c = λ name t r more e. absurd (none_some (key_of t ++ more) (c.in_err-value.ensures.found name (key_of t ++ more) e))

pub returns-in_err-rest-clause-next : goal.returns-in_err-rest-clause-next
returns-in_err-rest-clause-next c = λ name t r more e.
    let value = some_same c.in_ok-value.value.now (key_of t ++ more) (c.in_ok-value.ensures.found name (key_of t ++ more) e) in
    absurd (none_some more (c.in_err-rest.ensures.found t r more value))

pub returns-clause-next : goal.returns-clause-next
returns-clause-next c = λ name t r more e.
    let value = some_same c.in_ok-value.value.now (key_of t ++ more) (c.in_ok-value.ensures.found name (key_of t ++ more) e) in
    let rest = some_same c.in_ok-rest.rest.now more (c.in_ok-rest.ensures.found t r more value) in
    (c.front-name.ensures (text_key name) (e ∙ ap (λ m. text_key name ++ m) (sym value)), c.front-part.ensures (key_of t) (value ∙ ap (λ m. key_of t ++ m) (sym rest)), rest)
