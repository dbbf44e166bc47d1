use Rattle.std.proofs.Common.{arith, rules, sym}
use Rattle.std.proofs.lemmas.Grind.{common_steps}
use Rattle.text_parse.proofs.Containers.Frames.{next_found}
use Rattle.text_parse.proofs.parser.Parser.take_byte.Goals as goal

pub returns : goal.returns
returns c =
    let next = next_found c.args.byte c.args.self.now (sym c.if-not-next_is.ensures) in
    record {
      found = c.if-not-next_is.ensures;
      rest = next;
      behind = grind (arith, common_steps);
      onward = search rules;
      advances = search rules;
    }
