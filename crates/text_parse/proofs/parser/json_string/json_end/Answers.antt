use Rattle.std.proofs.Common.{◌+◌, false, sym, arith, true≢false}
use Rattle.std.proofs.lemmas.List.{take_rest}
use Rattle.text_parse.proofs.Scalars.JsonStrings.{front_escape, front_run, front_units}
use Rattle.text_parse.proofs.parser.json_string.json_end.Goals as goal

pub parts-init : goal.parts-init
parts-init c = c.requires

pub returns-then-bytes-end-eq34 : goal.returns-then-bytes-end-eq34
returns-then-bytes-end-eq34 c =
    let bytes = c.args.bytes.now in
    record {
      front = front_run bytes c.parts.end c.plain_len-end.result c.parts.is_same c.parts.invariant (omega (arith, c.plain_len-end.ensures.within)) (rw (take_rest bytes c.parts.end) at c.plain_len-end.ensures.plain);
      within = omega (arith, c.if-end-bytes.false);
      quote = c.if-bytes-end-eq34.true;
    }

pub parts-preserved-then-is_verbatim_letter : goal.parts-preserved-then-is_verbatim_letter
parts-preserved-then-is_verbatim_letter c =
    let bytes = c.args.bytes.now in
    let end = c.parts.end + c.plain_len-end.result in
    let is = c.if-is_verbatim_letter.ensures in
    front_escape bytes end is.0 c.parts.is_same c.parts.is_same
    (front_run bytes c.parts.end c.plain_len-end.result c.parts.is_same c.parts.invariant (omega (arith, c.plain_len-end.ensures.within)) (rw (take_rest bytes c.parts.end) at c.plain_len-end.ensures.plain))
    (omega (arith, c.if-end-bytes-2.false)) c.if-bytes-end-ne92.false is.1 (λ same. (same, is.2))

pub parts-preserved-in-Some : goal.parts-preserved-in-Some
parts-preserved-in-Some c =
    let bytes = c.args.bytes.now in
    let end = c.parts.end + c.plain_len-end.result in
    front_escape bytes end c.in-Some._byte c.parts.is_same false
    (front_run bytes c.parts.end c.plain_len-end.result c.parts.is_same c.parts.invariant (omega (arith, c.plain_len-end.ensures.within)) (rw (take_rest bytes c.parts.end) at c.plain_len-end.ensures.plain))
    (omega (arith, c.if-end-bytes-2.false)) c.if-bytes-end-ne92.false (sym c.in-Some.ensures) (λ same. absurd (true≢false (sym same)))

pub parts-preserved : goal.parts-preserved
parts-preserved c =
    let bytes = c.args.bytes.now in
    let end = c.parts.end + c.plain_len-end.result in
    let before = front_run bytes c.parts.end c.plain_len-end.result c.parts.is_same c.parts.invariant (omega (arith, c.plain_len-end.ensures.within)) (rw (take_rest bytes c.parts.end) at c.plain_len-end.ensures.plain) in
    front_units bytes end c.units_len-units.result c.parts.is_same before (omega (arith, c.units_len-units.ensures.within)) (rw (take_rest bytes end) at c.units_len-units.ensures.units)
