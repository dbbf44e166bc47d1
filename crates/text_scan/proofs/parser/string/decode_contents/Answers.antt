use Rattle.std.proofs.Common.{length, ℕ, List, Ok, sym, ap, subst, ◌∙◌, refl}
use Rattle.std.proofs.lemmas.Result.{err_from_is_err_and}
use Rattle.jsonb_spec.specs.Tree.{plain}
use Rattle.text_scan.specs.Answer.{mode_of}
use Rattle.jsonb_spec.specs.Parsing.Decoding.{ReportsBackslash}
use Rattle.text_scan.proofs.Steps.Modes.{code_goes_beyond}
use Rattle.text_scan.proofs.Strings.Bodies.{body-raw, body-raw_fault, body-decoded, reads_rejected}
use Rattle.text_scan.proofs.parser.string.decode_contents.Goals as goal

pub returns-in_err-text-clause-parses : goal.returns-in_err-text-clause-parses
returns-in_err-text-clause-parses c =
    let p = err_from_is_err_and c.from_residual.result c.from_residual.ensures.1 in
    rw (p.1, p.2) (reads_rejected (mode_of c.args.mode) c.args.body.now _ _ _ c.in_err-text.ensures.err)

pub returns-then-escaped-clause-parses : goal.returns-then-escaped-clause-parses
returns-then-escaped-clause-parses c =
    let mode = mode_of c.args.mode in
    let body = c.args.body.now in
    body-decoded mode body _ (subst (ReportsBackslash body (length body)) c.if-escaped.true c.requires.escaped) c.in_ok-text.ensures.ok

pub returns-in-Ok-clause-parses : goal.returns-in-Ok-clause-parses
returns-in-Ok-clause-parses c =
    let mode = mode_of c.args.mode in
    let body = c.args.body.now in
    let text = c.in-Ok.ensures.cases in
    body-raw mode body (code_goes_beyond c.args.mode) (subst (ReportsBackslash body (length body)) c.if-escaped.false c.requires.escaped) text.1 ∙ ap (λ (t : List ℕ). Ok (plain, t)) (sym text.0)

pub returns-in-Err-clause-parses : goal.returns-in-Err-clause-parses
returns-in-Err-clause-parses c =
    let mode = mode_of c.args.mode in
    let body = c.args.body.now in
    (length body, body-raw_fault mode body (code_goes_beyond c.args.mode) (subst (ReportsBackslash body (length body)) c.if-escaped.false c.requires.escaped) c.in-Err.ensures.cases.0, refl)
