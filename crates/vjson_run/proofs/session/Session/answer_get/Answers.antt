use Rattle.vjson_text.specs.declared.fault.Fault.TheVariants.{NoMemory}
use Rattle.std.proofs.Common.{◌≡◌, rules, Err}
use Rattle.vjson_run.proofs.session.Session.answer_get.Goals as goal

pub returns-in_err-get-clause-memory : goal.returns-in_err-get-clause-memory
returns-in_err-get-clause-memory g c = λ is.
    let lack : c.get.result ≡ Err NoMemory = search rules in
    c.get.ensures.memory lack
