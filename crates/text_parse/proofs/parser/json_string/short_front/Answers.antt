use Rattle.std.proofs.Common.{◌+◌, sym, arith, false, true≢false}
use Rattle.std.proofs.lemmas.List.{take_rest}
use Rattle.text_parse.proofs.Scalars.JsonStrings.{front_escape, front_run, front_start}
use Rattle.text_parse.proofs.parser.json_string.short_front.Goals as goal

pub runs-init : goal.runs-init
runs-init c = front_start c.args.bytes.now

pub runs-preserved-then-run-eq16 : goal.runs-preserved-then-run-eq16
runs-preserved-then-run-eq16 c =
    let bytes = c.args.bytes.now in
    front_run bytes c.runs.end c.run_of_sixteen-run.result c.runs.is_same c.runs.invariant (omega (arith, c.run_of_sixteen-run.ensures.within)) (rw (take_rest bytes c.runs.end) at c.run_of_sixteen-run.ensures.plain)

pub returns-then-bytes-end-ne92 : goal.returns-then-bytes-end-ne92
returns-then-bytes-end-ne92 c =
    let bytes = c.args.bytes.now in
    front_run bytes c.runs.end c.run_of_sixteen-run.result c.runs.is_same c.runs.invariant (omega (arith, c.run_of_sixteen-run.ensures.within)) (rw (take_rest bytes c.runs.end) at c.run_of_sixteen-run.ensures.plain)

pub runs-preserved-then-is_verbatim_letter : goal.runs-preserved-then-is_verbatim_letter
runs-preserved-then-is_verbatim_letter c =
    let bytes = c.args.bytes.now in
    let end = c.runs.end + c.run_of_sixteen-run.result in
    let is = c.if-is_verbatim_letter.ensures in
    front_escape bytes end is.0 c.runs.is_same c.runs.is_same
    (front_run bytes c.runs.end c.run_of_sixteen-run.result c.runs.is_same c.runs.invariant (omega (arith, c.run_of_sixteen-run.ensures.within)) (rw (take_rest bytes c.runs.end) at c.run_of_sixteen-run.ensures.plain))
    (omega (arith, c.run_of_sixteen-run.ensures.within)) c.if-bytes-end-ne92.false is.1 (λ same. (same, is.2))

pub returns-in_default : goal.returns-in_default
returns-in_default c =
    let bytes = c.args.bytes.now in
    front_run bytes c.runs.end c.run_of_sixteen-run.result c.runs.is_same c.runs.invariant (omega (arith, c.run_of_sixteen-run.ensures.within)) (rw (take_rest bytes c.runs.end) at c.run_of_sixteen-run.ensures.plain)

pub runs-preserved : goal.runs-preserved
runs-preserved c =
    let bytes = c.args.bytes.now in
    let end = c.runs.end + c.run_of_sixteen-run.result in
    front_escape bytes end c.in-Some._short c.runs.is_same false
    (front_run bytes c.runs.end c.run_of_sixteen-run.result c.runs.is_same c.runs.invariant (omega (arith, c.run_of_sixteen-run.ensures.within)) (rw (take_rest bytes c.runs.end) at c.run_of_sixteen-run.ensures.plain))
    (omega (arith, c.run_of_sixteen-run.ensures.within)) c.if-bytes-end-ne92.false (sym c.in-Some.ensures)
    (λ same. absurd (true≢false (sym same)))
