use Rattle.std.proofs.Common.{sym, subst, ◌∙◌}
use Rattle.std.specs.Prelude.{IfErr}
use Rattle.jsonb_spec.specs.Parsing.String.{body_of}
use Rattle.text_scan.specs.StrictString.{RejectsContents}
use Rattle.text_scan.specs.Answer.{grammar_of}
use Rattle.text_parse.proofs.Grammars.{contents_beyond, contents_json, json_is, on_ok}
use Rattle.text_parse.proofs.parser.Parser.check_grammar.Goals as goal

pub returns-clause-passed : goal.returns-clause-passed
returns-clause-passed c = contents_beyond c.args.self.now c.args.body.now (sym c.is_json.ensures ∙ c.if-is_json.false)

pub returns-then-is_json-clause-passed : goal.returns-then-is_json-clause-passed
returns-then-is_json-clause-passed c =
    let p = c.args.self.now in
    on_ok c.check_strict.result (contents_json p c.args.body.now (sym c.is_json.ensures ∙ c.if-is_json.true)) c.check_strict.ensures.passed

pub returns-then-is_json-clause-rejected : goal.returns-then-is_json-clause-rejected
returns-then-is_json-clause-rejected c =
    let p = c.args.self.now in
    let grammar = json_is (grammar_of p.grammar) (sym c.is_json.ensures ∙ c.if-is_json.true) in
    subst (λ m. IfErr c.check_strict.result (λ e. RejectsContents c.args.idx e (body_of m c.args.body.now))) (sym grammar) c.check_strict.ensures.rejected
