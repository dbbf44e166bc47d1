use Rattle.std.proofs.Common.{◌≡◌, ◌+◌, ◌<◌, length, get_or, ⊎_elim, ap, ◌∙◌, arith}
use Rattle.std.proofs.lemmas.List.{take_rest}
use Rattle.jsonb_spec.specs.Grammar.StringStep.{escape_step}
use Rattle.text_scan.proofs.Strings.NearMarks.{knows_later, knows_none}
use Rattle.text_scan.proofs.Strings.Bodies.{search_start, search_escape, search_to, found_end, no_end, reports_run}
use Rattle.text_scan.proofs.parser.string.find_end.Goals as goal

pub items-init : goal.items-init
items-init c = (search_start c.args.quote c.args.bytes.now, λ k low. absurd (omega (arith, low)), omega arith, knows_none c.args.quote 0 c.args.bytes.now)

pub returns-then-stop-bytes : goal.returns-then-stop-bytes
returns-then-stop-bytes c =
    let bytes = c.args.bytes.now in
    let stop = c.first_mark-stop in
    let passed = search_to c.args.quote bytes c.items.at stop.result.0 stop.ensures.bounds.0 stop.ensures.bounds.1 stop.ensures.before c.items.invariant.0 in
    (no_end c.args.quote bytes stop.result.0 (omega arith) passed, omega arith)

pub returns-then-bytes-stop : goal.returns-then-bytes-stop
returns-then-bytes-stop c =
    let bytes = c.args.bytes.now in
    let stop = c.first_mark-stop in
    let passed = search_to c.args.quote bytes c.items.at stop.result.0 stop.ensures.bounds.0 stop.ensures.bounds.1 stop.ensures.before c.items.invariant.0 in (
      found_end c.args.quote bytes stop.result.0 (omega arith) c.if-bytes-stop.true passed,
      reports_run bytes c.items.at stop.result.0 c.items.escaped stop.ensures.bounds.0 (λ k low high. (stop.ensures.before k low high).1) c.items.invariant.1,
    )

pub items-preserved : goal.items-preserved
items-preserved c =
    let bytes = c.args.bytes.now in
    let stop = c.first_mark-stop in
    let within : stop.result.0 < length bytes = omega arith in
    let backslash : get_or bytes stop.result.0 0 ≡ 92 = ⊎_elim (λ quote. absurd (c.if-bytes-stop.false quote)) (λ is. is) (stop.ensures.here within) in
    let passed = search_to c.args.quote bytes c.items.at stop.result.0 stop.ensures.bounds.0 stop.ensures.bounds.1 stop.ensures.before c.items.invariant.0 in
    let step = c.step_after_backslash-step.ensures.value ∙ ap escape_step (take_rest bytes (stop.result.0 + 1)) in (
      search_escape c.args.quote bytes stop.result.0 _ within c.if-bytes-stop.false backslash passed (omega (arith, step)),
      (stop.result.0, omega arith, backslash),
      omega arith,
      knows_later c.args.quote stop.result.0 (1 + c.step_after_backslash-step.result) _ stop.result.1 _ bytes c.shifted_down-marks.ensures (omega arith) stop.ensures.known,
    )

pub returns : goal.returns
returns c = (no_end c.args.quote c.args.bytes.now c.items.at c.items-test.false c.items.invariant.0, c.items.invariant.2)
