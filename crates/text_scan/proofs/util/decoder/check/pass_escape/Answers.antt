use Rattle.std.proofs.Common.{◌∷◌, sym, subst}
use Rattle.std.proofs.lemmas.List.{nil_from_length}
use Rattle.jsonb_spec.specs.Parsing.Decoding.{IsDecodedUpTo}
use Rattle.text_scan.specs.Answer.{mode_of}
use Rattle.text_scan.proofs.Strings.Decoding.{decoded_escape, stops_cut, stops_unknown}
use Rattle.text_scan.proofs.util.decoder.check.pass_escape.Goals as goal

pub returns-in_default-clause-err : goal.returns-in_default-clause-err
returns-in_default-clause-err c = stops_cut (mode_of c.args.mode) c.args.bytes.now (nil_from_length c.args.bytes.now c.in_default.ensures.cases)

pub returns-in_default-escaped_byte-clause-err : goal.returns-in_default-escaped_byte-clause-err
returns-in_default-escaped_byte-clause-err c =
    stops_unknown (mode_of c.args.mode) c.in-Some.letter.now c.args.bytes.now c.in-Some.rest.now c.in-Some.ensures.cases.0 c.if-letter-eq117.false (sym c.in_default-escaped_byte.ensures)

pub returns-clause-ok : goal.returns-clause-ok
returns-clause-ok c =
    let mode = mode_of c.args.mode in
    subst (λ bytes. IsDecodedUpTo mode (92 ∷ bytes) c.in-Some.rest.now) (sym c.in-Some.ensures.cases.0)
    (record { text = _; decodes = decoded_escape mode c.in-Some.letter.now _ c.in-Some.rest.now (sym c.in-Some-escaped_byte.ensures) })
