use Rattle.jsonb_spec.specs.Grammar.{IsDocument}
use Rattle.jsonb_spec.specs.Mode.{standard, extended}
use Rattle.jsonb_spec.specs.Order.{Same}
use Rattle.jsonb_spec.specs.Tree.{Tree}
use Rattle.jsonb_value.specs.View.{view}
use Rattle.jsonb_core.proofs.Trees.StandardInExtended.{standard_is_extended}
use Rattle.text_parse.proofs.Steps.Outcomes.{value_has}
use Rattle.jsonb.proofs.parser.parse_value_standard_mode.Goals as goal

pub returns-clause-extended : goal.returns-clause-extended
returns-clause-extended c =
    value_has (λ v. IsDocument standard c.args.buf.now (view v)) (λ v. (u : Tree) × IsDocument extended c.args.buf.now u × Same u (view v)) c.parse_value_in.result (λ v d. standard_is_extended c.args.buf.now (view v) d) c.parse_value_in.ensures.parses.document
