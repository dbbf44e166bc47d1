use Rattle.std.proofs.Common.{sym, subst}
use Rattle.text_scan.specs.Answer.{grammar_of}
use Rattle.text_parse.specs.Start.{IsStart}
use Rattle.text_parse.specs.declared.parser.start.Start.TheVariants as variants
use Rattle.text_parse.proofs.Scalars.Starts.{none_starts}
use Rattle.text_parse.proofs.parser.Parser.start.Goals as goal

pub returns-in-Some : goal.returns-in-Some
returns-in-Some c = subst (IsStart c.start_of.result (grammar_of c.args.self.now.grammar)) (sym c.in-Some.ensures.next) (c.start_of.ensures (grammar_of c.args.self.now.grammar) (sym c.args.self.now.agree) _)

pub returns-in-None : goal.returns-in-None
returns-in-None c = subst (IsStart variants.NoValue (grammar_of c.args.self.now.grammar)) (sym c.in-None.ensures.next) (none_starts (grammar_of c.args.self.now.grammar))
