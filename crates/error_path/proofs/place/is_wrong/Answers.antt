use Rattle.std.proofs.Common.{List, Option, ◌≡◌, ap, subst, sym, ◌∙◌}
use Rattle.text_scan.specs.Answer.{grammar_of}
use Rattle.jsonb_spec.specs.Path.ErrorPath.{IsWrong}
use Rattle.error_path.proofs.Wrong.{lacking}
use Rattle.error_path.proofs.place.is_wrong.Goals as goal

pub returns-then-is_lacking : goal.returns-then-is_lacking
returns-then-is_lacking c =
    let mode = grammar_of c.args.grammar in
    let closers = c.args.place.now.closers.items in
    subst (λ o. IsWrong mode closers o c.args.rest.now) (sym c.in-Some.is) (lacking mode closers c.args.rest.now c.in-Some.byte (sym c.is_lacking.ensures ∙ c.if-is_lacking.true))
