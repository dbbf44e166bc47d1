use Rattle.std.proofs.Common.{[], List, ℕ, length, ap, inl, subst, arith}
use Rattle.jsonb_core.specs.Error.CodeView.{code_of}
use Rattle.text_scan.specs.Answer.{mode_of}
use Rattle.jsonb_spec.specs.Parsing.Decoding.{IsDecodedUpTo, StopsAtEscape}
use Rattle.text_scan.proofs.Strings.Checks.{body_checked}
use Rattle.text_scan.proofs.Strings.Items.{body_faulty}
use Rattle.text_scan.proofs.util.decoder.check.check_contents.Goals as goal

pub returns-in-Ok : goal.returns-in-Ok
returns-in-Ok c =
    let mode = mode_of c.args.mode in
    body_checked mode c.args.body.now c.requires.escaped c.utf8.body (subst (λ (u : List ℕ). IsDecodedUpTo mode u []) c.as_bytes-bytes.ensures.value c.in-Ok.ensures.ok)

pub returns-in-Err : goal.returns-in-Err
returns-in-Err c =
    let mode = mode_of c.args.mode in
    let fault = c.in-Err.fault in
    let stop = subst (λ (u : List ℕ). StopsAtEscape mode u (code_of fault.code) fault.left) c.as_bytes-bytes.ensures.value c.in-Err.ensures.err in
    (stop.read, body_faulty mode c.args.body.now (code_of fault.code) stop.read (inl stop.cut), omega (arith, stop.count, ap length c.as_bytes-bytes.ensures.value))
