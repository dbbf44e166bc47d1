use Rattle.std.proofs.Common.{◌≡◌, ◌<◌, ◌∷◌, List, ℕ, length, drop, get_or, ◌+◌, ap, sym, subst, ◌∙◌, arith, length-drop}
use Rattle.std.proofs.lemmas.List.{take_rest, nil_from_length, get_or-drop}
use Rattle.std.proofs.lemmas.Result.{err_from_is_err_and}
use Rattle.text_scan.specs.Answer.{mode_of}
use Rattle.jsonb_spec.specs.Parsing.Decoding.{IsDecodedUpTo}
use Rattle.text_scan.proofs.Steps.Modes.{code_goes_beyond}
use Rattle.text_scan.proofs.Strings.Checks.{up_to_run, up_to_then}
use Rattle.text_scan.proofs.Strings.Decoding.{first_byte, stops_after}
use Rattle.text_scan.proofs.util.decoder.check.check.Goals as goal

-- what is before the escape is passed, and the escape is there
pub returns-in_default-clause-ok : goal.returns-in_default-clause-ok
returns-in_default-clause-ok c =
    let mode = mode_of c.args.mode in
    let rest : List ℕ = c.escapes.rest.now in
    let count : ℕ = c.next_backslash.result in
    let found = c.next_backslash.ensures in
    let none : length (drop count rest) ≡ 0 = omega (arith, c.in_default.ensures.cases, ap length (take_rest rest count)) in
    subst (IsDecodedUpTo mode c.args.bytes.now) (nil_from_length (drop count rest) none) (up_to_run mode c.args.bytes.now rest count (code_goes_beyond c.args.mode) found.within found.before c.escapes.invariant)

pub returns-in_err-rest-clause-err : goal.returns-in_err-rest-clause-err
returns-in_err-rest-clause-err c =
    let p = err_from_is_err_and c.from_residual.result c.from_residual.ensures.1 in
    let mode = mode_of c.args.mode in
    let rest : List ℕ = c.escapes.rest.now in
    let count : ℕ = c.next_backslash.result in
    let found = c.next_backslash.ensures in
    let so_far = up_to_run mode c.args.bytes.now rest count (code_goes_beyond c.args.mode) found.within found.before c.escapes.invariant in
    let cut : drop count rest ≡ c.in-Some.field-0-0.now ∷ c.in-Some.after.now = sym (take_rest rest count) ∙ c.in-Some.ensures.cases.0 in
    let here : count < length rest = omega (arith, ap length cut, length-drop count rest) in
    let backslash : drop count rest ≡ 92 ∷ c.in-Some.after.now = first_byte (drop count rest) c.in-Some.after.now 92 c.in-Some.field-0-0.now cut (get_or-drop count rest 0 0 ∙ ap (λ (n : ℕ). get_or rest n 0) (let e : count + 0 ≡ count = omega arith in e) ∙ found.here here) in
    rw (p.1, p.2) (stops_after mode c.args.bytes.now (drop count rest) so_far.text _ _ so_far.decodes (rw backslash c.in_err-rest.ensures.err))

pub escapes-preserved : goal.escapes-preserved
escapes-preserved c =
    let mode = mode_of c.args.mode in
    let rest : List ℕ = c.escapes.rest.now in
    let count : ℕ = c.next_backslash.result in
    let found = c.next_backslash.ensures in
    let so_far = up_to_run mode c.args.bytes.now rest count (code_goes_beyond c.args.mode) found.within found.before c.escapes.invariant in
    let cut : drop count rest ≡ c.in-Some.field-0-0.now ∷ c.in-Some.after.now = sym (take_rest rest count) ∙ c.in-Some.ensures.cases.0 in
    let here : count < length rest = omega (arith, ap length cut, length-drop count rest) in
    let backslash : drop count rest ≡ 92 ∷ c.in-Some.after.now = first_byte (drop count rest) c.in-Some.after.now 92 c.in-Some.field-0-0.now cut (get_or-drop count rest 0 0 ∙ ap (λ (n : ℕ). get_or rest n 0) (let e : count + 0 ≡ count = omega arith in e) ∙ found.here here) in
    up_to_then mode c.args.bytes.now (drop count rest) c.in_ok-rest.rest.now so_far (subst (λ (u : List ℕ). IsDecodedUpTo mode u c.in_ok-rest.rest.now) (sym backslash) c.in_ok-rest.ensures.ok)
