use Rattle.std.proofs.Common.{◌++◌, List, ℕ, take, sym, ap, ◌∙◌}
use Rattle.text_scan.specs.Answer.{mode_of}
use Rattle.text_scan.proofs.Strings.Checks.{decoded_text-is}
use Rattle.text_scan.proofs.util.decoder.decode_behind.Goals as goal

pub returns-clause-some : goal.returns-clause-some
returns-clause-some c =
    let a = c.in-Ok.ensures.ok in
    a.appended ∙ ap (λ (t : List ℕ). take c.args.len c.args.text.now ++ t) (sym (decoded_text-is (mode_of c.args.mode) c.args.bytes.now a.text a.decodes))

pub returns-in_default-clause-none : goal.returns-in_default-clause-none
returns-in_default-clause-none c = λ contents. contents _ _ c.in_default.ensures.err
