use Rattle.std.proofs.Common.{◌≡◌, ◌∷◌, ◌<◌, length, take, sym, ap, ◌∙◌, subst, arith}
use Rattle.std.proofs.lemmas.Result.{err_from_is_err_and}
use Rattle.text_scan.specs.Answer.{mode_of}
use Rattle.jsonb_spec.specs.Parsing.Decoding.{Adds}
use Rattle.text_scan.proofs.Steps.Modes.{code_goes_beyond}
use Rattle.text_scan.proofs.Strings.Checks.{front_stays}
use Rattle.text_scan.proofs.Strings.Decoding.{adds_run, adds_then, first_byte, stops_after}
use Rattle.text_scan.proofs.util.decoder.decode.Goals as goal

pub returns-in_err-done-clause-err : goal.returns-in_err-done-clause-err
returns-in_err-done-clause-err c =
    let alone = c.decode_alone-done.result in
    let before = adds_then (mode_of c.args.mode) c.args.bytes.now c.items.done.rest.now alone.rest.now (take c.args.len c.args.text.now) (take c.items.done.len c.items.text) (take alone.len c.decode_alone-done.new.text) c.items.invariant.0 (c.decode_alone-done.ensures.adds (mode_of c.args.mode) (code_goes_beyond c.args.mode)) in
    let p = err_from_is_err_and c.from_residual.result c.from_residual.ensures.1 in
    let copied = c.copy_run-done.ensures.copies in
    let rest = c.copy_run-done.result.rest.now in
    let here = c.in-Some.ensures.cases in
    let mode = mode_of c.args.mode in
    let so_far = adds_run mode c.args.bytes.now alone.rest.now copied.run rest (take c.args.len c.args.text.now) (take alone.len c.decode_alone-done.new.text) (take c.copy_run-done.result.len c.copy_run-done.new.text) (code_goes_beyond c.args.mode) before copied.split copied.clear copied.appended in
    let some : 0 < length rest = omega (arith, here.1) in
    let backslash : rest ≡ 92 ∷ c.in-Some.rest.now = first_byte rest c.in-Some.rest.now 92 c.in-Some.field-0-0.now here.0 (copied.begins some) in
    rw (p.1, p.2) (stops_after mode c.args.bytes.now rest so_far.text _ _ so_far.decodes (rw backslash c.in_err-done.ensures.err))

pub items-preserved-in-Some : goal.items-preserved-in-Some
items-preserved-in-Some c =
    let alone = c.decode_alone-done.result in
    let before = adds_then (mode_of c.args.mode) c.args.bytes.now c.items.done.rest.now alone.rest.now (take c.args.len c.args.text.now) (take c.items.done.len c.items.text) (take alone.len c.decode_alone-done.new.text) c.items.invariant.0 (c.decode_alone-done.ensures.adds (mode_of c.args.mode) (code_goes_beyond c.args.mode)) in
    let copied = c.copy_run-done.ensures.copies in
    let rest = c.copy_run-done.result.rest.now in
    let copy = take c.copy_run-done.result.len c.copy_run-done.new.text in
    let here = c.in-Some.ensures.cases in
    let done = c.in_ok-done in
    let added = take done.done.len c.escape.new.text in
    let some : 0 < length rest = omega (arith, here.1) in
    let backslash : rest ≡ 92 ∷ c.in-Some.rest.now = first_byte rest c.in-Some.rest.now 92 c.in-Some.field-0-0.now here.0 (copied.begins some) in
    let mode = mode_of c.args.mode in
    let so_far = adds_run mode c.args.bytes.now alone.rest.now copied.run rest (take c.args.len c.args.text.now) (take alone.len c.decode_alone-done.new.text) copy (code_goes_beyond c.args.mode) before copied.split copied.clear copied.appended in (
      adds_then mode c.args.bytes.now rest done.done.rest.now (take c.args.len c.args.text.now) copy added so_far (subst (λ bytes. Adds mode bytes done.done.rest.now copy added) (sym backslash) done.ensures.ok),
      omega (arith, c.items.invariant.1, done.ensures.space, c.escape.ensures.size, c.copy_run-done.ensures.len, c.copy_run-done.ensures.size, here.1, c.decode_alone-done.ensures.space, c.decode_alone-done.ensures.size),
      omega (arith, c.items.invariant.2, c.escape.ensures.size, c.copy_run-done.ensures.size, c.decode_alone-done.ensures.size),
    )

pub items-preserved : goal.items-preserved
items-preserved c =
    let alone = c.decode_alone-done.result in
    let before = adds_then (mode_of c.args.mode) c.args.bytes.now c.items.done.rest.now alone.rest.now (take c.args.len c.args.text.now) (take c.items.done.len c.items.text) (take alone.len c.decode_alone-done.new.text) c.items.invariant.0 (c.decode_alone-done.ensures.adds (mode_of c.args.mode) (code_goes_beyond c.args.mode)) in
    let copied = c.copy_run-done.ensures.copies in (
      adds_run (mode_of c.args.mode) c.args.bytes.now alone.rest.now copied.run c.copy_run-done.result.rest.now (take c.args.len c.args.text.now) (take alone.len c.decode_alone-done.new.text) (take c.copy_run-done.result.len c.copy_run-done.new.text) (code_goes_beyond c.args.mode) before copied.split copied.clear copied.appended,
      omega (arith, c.items.invariant.1, c.copy_run-done.ensures.len, c.copy_run-done.ensures.size, c.decode_alone-done.ensures.space, c.decode_alone-done.ensures.size),
      omega (arith, c.items.invariant.2, c.copy_run-done.ensures.size, c.decode_alone-done.ensures.size),
    )

pub returns-in_err-done-clause-retained : goal.returns-in_err-done-clause-retained
returns-in_err-done-clause-retained c =
    let alone = c.decode_alone-done.result in
    let before = adds_then (mode_of c.args.mode) c.args.bytes.now c.items.done.rest.now alone.rest.now (take c.args.len c.args.text.now) (take c.items.done.len c.items.text) (take alone.len c.decode_alone-done.new.text) c.items.invariant.0 (c.decode_alone-done.ensures.adds (mode_of c.args.mode) (code_goes_beyond c.args.mode)) in
    let copied = c.copy_run-done.ensures.copies in
    let text = c.args.text.now in
    let copy = c.copy_run-done.new.text in
    let done = c.copy_run-done.result in
    let so_far = adds_run (mode_of c.args.mode) c.args.bytes.now alone.rest.now copied.run done.rest.now (take c.args.len text) (take alone.len c.decode_alone-done.new.text) (take done.len copy) (code_goes_beyond c.args.mode) before copied.split copied.clear copied.appended in
    ap (take c.args.len) c.in_err-done.ensures.same
    ∙ front_stays c.args.len done.len text copy so_far.text (omega (arith, c.requires)) (omega (arith, c.items.invariant.1, c.copy_run-done.ensures.len, c.copy_run-done.ensures.size, c.decode_alone-done.ensures.space, c.decode_alone-done.ensures.size)) so_far.appended

pub returns-clause-retained : goal.returns-clause-retained
returns-clause-retained c =
    front_stays c.args.len c.items.done.len c.args.text.now c.items.text c.items.invariant.0.text (omega (arith, c.requires)) (omega (arith, c.items.invariant.1)) c.items.invariant.0.appended
