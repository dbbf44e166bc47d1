use Rattle.vjson_run.proofs.Troubled.{advances_error}
use Rattle.vjson_text.specs.declared.fault.Fault.TheVariants.{NoMemory}
use Rattle.std.proofs.Common.{◌≡◌, rules, Err}
use Rattle.vjson_run.proofs.Troubled.{advances_out_of_memory}
use Rattle.vjson_run.proofs.session.Session.take_whole.Goals as goal

pub returns-in-Err-At : goal.returns-in-Err-At
returns-in-Err-At g c = advances_error g.W.Write.contents c.args.self.now c.take.new.self c.reject.new.self c.args.text.now (c.in-Err-At.ensures.rejected (λ e. cc)) c.reject.ensures

pub returns-in-Err-NoMemory : goal.returns-in-Err-NoMemory
returns-in-Err-NoMemory g c =
    let lack : c.take.result ≡ Err NoMemory = search rules in
    advances_out_of_memory g.W.Write.contents c.args.self.now c.take.new.self c.no_memory.new.self c.args.text.now c.take.ensures.calm c.no_memory.ensures.trouble c.no_memory.ensures.options (c.take.ensures.memory lack)
