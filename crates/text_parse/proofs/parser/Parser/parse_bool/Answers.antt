use Rattle.std.proofs.Common.{List, ℕ, Result, Ok, ap, rules}
use Rattle.jsonb_spec.specs.Tree.{boolean}
use Rattle.jsonb_spec.specs.Parsing.{Fault, ◌>>=◌}
use Rattle.text_parse.proofs.parser.Parser.parse_bool.Goals as goal

pub returns-in-Ok : goal.returns-in-Ok
returns-in-Ok g c =
    record {
      parses = (boolean c.args.value, c.scalar.ensures, ap (λ (r : Result (List ℕ) Fault). r >>= λ rest. Ok (boolean c.args.value, rest)) c.in-Ok.ensures.parses);
      memory = search rules;
      advances = search rules;
    }
