use Rattle.std.proofs.Common.{◌≡◌, arith, subst, sym, ◌∙◌, List}
use Rattle.text_scan.specs.Answer.{grammar_of}
use Rattle.jsonb_spec.specs.Path.ErrorPath.{IsWrong, NonePasses}
use Rattle.jsonb_spec.specs.Path.ErrorPath.IsWrong.{none_passes}
use Rattle.text_parse.proofs.Steps.Failures.{stops_if}
use Rattle.error_path.proofs.Wrong.{deep}
use Rattle.error_path.proofs.place.is_wrong_part.Goals as goal

pub returns-then-opens_container : goal.returns-then-opens_container
returns-then-opens_container c =
    deep (grammar_of c.args.grammar) c.args.place.now.closers.items c.args.rest.now (omega (arith, c.len.ensures, c.if-len-eq-MAX_DEPTH.true)) (sym c.opens_container.ensures ∙ c.if-opens_container.true)

pub returns-then-branch : goal.returns-then-branch
returns-then-branch c =
    let mode = grammar_of c.args.grammar in
    let none = stops_if _ _ _ c.if-not-branch.false c.in_ok-none_passes.ensures in
    let has = stops_if _ _ _ c.if-branch.true c.in_ok-has_its_end.ensures in
    none_passes (subst (λ (closers : List _). NonePasses mode closers c.args.rest.now) c.deref.ensures.value none) has
