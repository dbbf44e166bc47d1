use Rattle.std.proofs.Common.{◌++◌, sym, ap, ◌∙◌}
use Rattle.jsonb_spec.specs.Document.Counts.{count_of}
use Rattle.key_text.proofs.Decimals.{none_spare}
use Rattle.key_document.proofs.DueZeros.{none_due}
use Rattle.key_document.proofs.due.ZerosDueZeros.append_next.Goals as goal

pub returns-then-left-self-clause-completes : goal.returns-then-left-self-clause-completes
returns-then-left-self-clause-completes c = λ n proper front long is passed counts left due.
    let x = none_due c.args.self.now passed (count_of n) counts due (λ at. c.if-left-self.true (left ∙ sym at)) in
    (is ∙ ap (λ t. front ++ t) (sym (none_spare n proper x.0)), x.1)
