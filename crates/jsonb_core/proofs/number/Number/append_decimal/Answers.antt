use Rattle.std.proofs.Common.{subst}
use Rattle.jsonb_spec.specs.Text.Appending.{AppendsAllOrNothing}
use Rattle.jsonb_core.specs.View.{number_view}
use Rattle.jsonb_core.proofs.Numbers.Rows.{text_is}
use Rattle.jsonb_core.proofs.number.Number.append_decimal.Goals as goal

pub returns-clause-appends : goal.returns-clause-appends
returns-clause-appends c =
    let parts = c.sign_and_magnitude-negative in
    subst (λ text. AppendsAllOrNothing c.append_short.result c.args.buf.now c.append_short.new.buf text) (text_is (number_view c.args.self.now) parts.result.0 c.scale-scale.result parts.result.1 parts.ensures.sign c.scale-scale.ensures parts.ensures.magnitude) c.append_short.ensures.appends
