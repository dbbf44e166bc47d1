use Rattle.std.proofs.Common.{rules, ◌≡◌, false, Ok, Err, sym, ap, subst, ◌∙◌}
use Rattle.text_parse.specs.Handler.{Misses}
use Rattle.jsonb.specs.AstView.{ast_view}
use Rattle.jsonb.specs.Source.{source_view}
use Rattle.text_scan.specs.Answer.{Fails, grammar_of}
use Rattle.jsonb_spec.specs.Parsing.Document.{source_of}
use Rattle.jsonb.proofs.Documents.Agreement.{gives_all, gives_as_specified, gives_source, gives_tree}
use Rattle.jsonb.proofs.parser.ast.JsonAst.parse_in.Goals as goal

source_given : (c : goal.In-Ok) → source_of (grammar_of c.args.grammar) c.args.buf.now ≡ Ok (source_view c.in-Ok.tree)
source_given c = let read = c.in-Ok.ensures.parses tt in read.2 ∙ ap (λ s. Ok s) (sym read.1.0)

fault_reported : (c : goal.In-Some) → Fails c.in-Some.error (source_of (grammar_of c.args.grammar) c.args.buf.now)
fault_reported c = subst (λ reported. Misses false reported (source_of (grammar_of c.args.grammar) c.args.buf.now)) c.in-Some.is (c.in-Err.ensures.parses tt)

pub returns-in-Ok-clause-source : goal.returns-in-Ok-clause-source
returns-in-Ok-clause-source c = gives_source (grammar_of c.args.grammar) c.args.buf.now (Ok c.in-Ok.tree) (source_given c)

pub returns-in-Ok-clause-parses : goal.returns-in-Ok-clause-parses
returns-in-Ok-clause-parses c = gives_all (grammar_of c.args.grammar) ast_view c.args.buf.now (Ok c.in-Ok.tree) (gives_tree (grammar_of c.args.grammar) c.args.buf.now (Ok c.in-Ok.tree) (source_given c)) (search rules)

pub returns-in-Ok-clause-follows : goal.returns-in-Ok-clause-follows
returns-in-Ok-clause-follows c = gives_as_specified (grammar_of c.args.grammar) ast_view c.args.buf.now (Ok c.in-Ok.tree) (gives_tree (grammar_of c.args.grammar) c.args.buf.now (Ok c.in-Ok.tree) (source_given c))

pub returns-in-Some-clause-parses : goal.returns-in-Some-clause-parses
returns-in-Some-clause-parses c = gives_all (grammar_of c.args.grammar) ast_view c.args.buf.now (Err c.in-Some.error) (gives_tree (grammar_of c.args.grammar) c.args.buf.now (Err c.in-Some.error) (fault_reported c)) (search rules)

pub returns-in-Some-clause-follows : goal.returns-in-Some-clause-follows
returns-in-Some-clause-follows c = gives_as_specified (grammar_of c.args.grammar) ast_view c.args.buf.now (Err c.in-Some.error) (gives_tree (grammar_of c.args.grammar) c.args.buf.now (Err c.in-Some.error) (fault_reported c))
