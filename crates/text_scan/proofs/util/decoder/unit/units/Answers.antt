use Rattle.std.proofs.Common.{subst}
use Rattle.std.proofs.lemmas.Result.{err_from_is_err_and}
use Rattle.jsonb_spec.specs.Parsing.Decoding.{ParsesUnit}
use Rattle.text_scan.proofs.Strings.Decoding.{decoded_alone, decoded_together, stops_first, stops_next}
use Rattle.text_scan.proofs.util.decoder.unit.units.Goals as goal

pub returns-in_err-first-clause-err : goal.returns-in_err-first-clause-err
returns-in_err-first-clause-err c =
    let p = err_from_is_err_and c.from_residual.result c.from_residual.ensures.1 in
    rw (p.1, p.2) (λ mode beyond. stops_first mode c.args.bytes.now _ _ (c.in_err-first.ensures.err mode beyond))

pub returns-in_err-next-clause-err : goal.returns-in_err-next-clause-err
returns-in_err-next-clause-err c =
    let p = err_from_is_err_and c.from_residual-in_err-next.result c.from_residual-in_err-next.ensures.1 in
    let first = c.in_ok-first.first in
    let parses = subst (λ rest. ParsesUnit c.args.bytes.now first.digits.now rest first.value) c.in-Some.ensures.some.1 c.in_ok-first.ensures.ok in
    rw (p.1, p.2) (λ mode beyond. stops_next mode c.args.bytes.now first.digits.now c.in-Some.after.now first.value _ _ beyond parses (c.in_err-next.ensures.err mode beyond))

pub returns-in_default-clause-ok : goal.returns-in_default-clause-ok
returns-in_default-clause-ok c = λ mode beyond.
    let first = c.in_ok-first.first in record {
      text = _;
      appended = c.push_alone-len.ensures.written;
      decodes = decoded_alone mode c.args.bytes.now first.digits.now first.rest.now first.value beyond c.in_ok-first.ensures.ok c.in_default.ensures.none;
    }

pub returns-clause-ok : goal.returns-clause-ok
returns-clause-ok c = λ mode beyond.
    let first = c.in_ok-first.first in
    let next = c.in_ok-next.next in
    let after = c.in-Some in
    let parses = subst (λ rest. ParsesUnit c.args.bytes.now first.digits.now rest first.value) after.ensures.some.1 c.in_ok-first.ensures.ok in record {
      text = _;
      appended = c.push_together-len.ensures.written;
      decodes = decoded_together mode c.args.bytes.now first.digits.now after.after.now next.digits.now next.rest.now first.value next.value beyond parses after.ensures.some.0 c.in_ok-next.ensures.ok;
    }
