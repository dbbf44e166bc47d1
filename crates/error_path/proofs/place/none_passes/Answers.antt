use Rattle.std.proofs.Common.{◌≡◌, Err, subst, sym, ◌∙◌}
use Rattle.jsonb_core.specs.declared.error.Error.{Error}
use Rattle.jsonb_core.specs.Error.CodeView.{code_of}
use Rattle.text_scan.specs.Answer.{Fails, grammar_of}
use Rattle.jsonb_spec.specs.Parsing.Document.{document_of}
use Rattle.error_path.proofs.Passing.{none_if}
use Rattle.error_path.proofs.Wrong.{passes_before, passes_elsewhere, passes_in_document}
use Rattle.error_path.proofs.place.none_passes.Goals as goal

pub returns-in-Ok : goal.returns-in-Ok
returns-in-Ok c =
    let mode = grammar_of c.args.grammar in
    let document = c.in-Ok.ensures.document in
    none_if mode c.args.closers.now c.args.rest.now c.requires.no_piece (sym c.leaves_out.ensures ∙ c.if-leaves_out.false) (passes_in_document mode c.args.closers.now c.args.rest.now document.0 document.1.exact)

pub returns-then-not-is_trailing : goal.returns-then-not-is_trailing
returns-then-not-is_trailing c =
    let mode = grammar_of c.args.grammar in
    let code = code_of c.in-Err-Syntax.code in
    let fault = subst (λ (e : Error). Fails e (document_of mode c.args.rest.now)) c.in-Err-Syntax.field-0-is c.in-Err-Syntax.ensures.follows.exact in
    none_if mode c.args.closers.now c.args.rest.now c.requires.no_piece (sym c.leaves_out.ensures ∙ c.if-leaves_out.false)
    (passes_elsewhere mode c.args.closers.now c.args.rest.now code c.in-Err-Syntax.position fault (sym c.is_trailing.ensures ∙ c.if-not-is_trailing.true))

pub returns-in-Err-Syntax : goal.returns-in-Err-Syntax
returns-in-Err-Syntax c =
    let mode = grammar_of c.args.grammar in
    let code = code_of c.in-Err-Syntax.code in
    let fault = subst (λ (e : Error). Fails e (document_of mode c.args.rest.now)) c.in-Err-Syntax.field-0-is c.in-Err-Syntax.ensures.follows.exact in
    none_if mode c.args.closers.now c.args.rest.now c.requires.no_piece (sym c.leaves_out.ensures ∙ c.if-leaves_out.false)
    (passes_before mode c.args.closers.now c.args.rest.now code c.in-Err-Syntax.position c.ends_at.result fault c.ends_at.ensures c.if-ends_at.false)
