use Rattle.std.proofs.Common.{◌≡◌, length, take, ap, ◌∙◌, arith}
use Rattle.std.proofs.Math.Seq.{take-append_seam}
use Rattle.std.proofs.lemmas.List.{length-append}
use Rattle.key_walk.proofs.walk.front.Goals as goal

pub returns-in_default : goal.returns-in_default
returns-in_default c = λ before e. absurd (omega (arith, c.in_default.ensures, ap length e, length-append before c.args.rest.now))

pub returns : goal.returns
returns c = λ before e.
    let same : c.in-Some.len ≡ length before = omega (arith, c.in-Some.ensures, ap length e, length-append before c.args.rest.now) in
    c.split_at.ensures.front ∙ ap (λ n. take n c.args.bytes.now) same ∙ ap (take (length before)) e ∙ take-append_seam before c.args.rest.now
