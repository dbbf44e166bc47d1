use Rattle.std.proofs.Common.{map, sym, ◌∙◌}
use Rattle.jsonb_spec.specs.SortKey.{magnitude_key, invert_if}
use Rattle.jsonb_core.specs.View.{number_view}
use Rattle.jsonb_core.proofs.Appending.Appended.{appends_as}
use Rattle.jsonb_core.proofs.SortKeys.Numbers.{key_of_zero, key_of_some}
use Rattle.jsonb_core.proofs.number.Number.append_sort_key.Goals as goal

pub returns-then-magnitude-eq0-clause-appends : goal.returns-then-magnitude-eq0-clause-appends
returns-then-magnitude-eq0-clause-appends c =
    let e = sym (key_of_zero (number_view c.args.self.now) (sym c.sign_and_magnitude-negative.ensures.magnitude ∙ c.if-magnitude-eq0.true)) in
    appends_as _ _ _ _ _ e c.append_byte.ensures.appends

pub returns-clause-appends : goal.returns-clause-appends
returns-clause-appends c =
    let n = number_view c.args.self.now in
    let parts = c.sign_and_magnitude-negative in
    let e = (λ i. map (invert_if (parts.ensures.sign i)) (magnitude_key (c.scale-scale.ensures i) (parts.ensures.magnitude i)))
    ∙ sym (key_of_some n (λ z. c.if-magnitude-eq0.false (parts.ensures.magnitude ∙ z))) in
    appends_as _ _ _ _ _ e c.append_magnitude.ensures.appends
