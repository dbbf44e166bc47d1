use Rattle.std.proofs.Common.{◌++◌, sym, ap, ◌∙◌}
use Rattle.key_text.proofs.Counts.{none_next}
use Rattle.key_text.proofs.Decimals.{none_spare}
use Rattle.jsonb_spec.specs.Document.Counts.{count_of}
use Rattle.key_text.proofs.zeros.NoZerosZeros.append_next.Goals as goal

pub returns-clause-completes : goal.returns-clause-completes
returns-clause-completes c = λ n proper front long is passed counts left due.
    let none = none_next passed due.size (count_of n) counts due.all in
    (is ∙ ap (λ t. front ++ t) (sym (none_spare n proper none.0)), none.1)
