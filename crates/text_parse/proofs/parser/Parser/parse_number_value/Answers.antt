use Rattle.std.proofs.Common.{Ok, ap, rules}
use Rattle.jsonb_core.specs.View.{number_view}
use Rattle.jsonb_spec.specs.Tree.{Num, number}
use Rattle.jsonb_spec.specs.Parsing.{Parse, ◌>>=◌}
use Rattle.text_parse.proofs.parser.Parser.parse_number_value.Goals as goal

pub returns-in-Ok : goal.returns-in-Ok
returns-in-Ok g c =
    record {
      parses = (number (number_view c.in-Ok.number), c.scalar.ensures, ap (λ (r : Parse Num). r >>= λ x. Ok (number x.0, x.1)) c.in-Ok.ensures.parses);
      memory = search rules;
      advances = search rules;
    }
