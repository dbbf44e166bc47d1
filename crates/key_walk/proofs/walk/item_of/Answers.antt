use Rattle.std.proofs.Common.{◌++◌, sym, ap, ◌∙◌}
use Rattle.key_value.proofs.Texts.{none_some, some_same}
use Rattle.jsonb_spec.specs.SortKey.{key_of}
use Rattle.key_walk.proofs.walk.item_of.Goals as goal

pub returns-in_err-rest-clause-next : goal.returns-in_err-rest-clause-next
returns-in_err-rest-clause-next c = λ t r more e. absurd (none_some more (c.in_err-rest.ensures.found t r more e))

pub returns-clause-next : goal.returns-clause-next
returns-clause-next c = λ t r more e.
    let rest = some_same c.in_ok-rest.rest.now more (c.in_ok-rest.ensures.found t r more e) in
    (c.front.ensures (key_of t) (e ∙ ap (λ m. key_of t ++ m) (sym rest)), rest)
