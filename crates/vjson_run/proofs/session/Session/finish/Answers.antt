use Rattle.vjson_run.specs.declared.session.Status.TheVariants.{Yes}
use Rattle.vjson_run.proofs.Finished.{finished}
use Rattle.vjson_run.proofs.session.Session.finish.Goals as goal

pub returns-in-Yes-clause-done : goal.returns-in-Yes-clause-done
returns-in-Yes-clause-done g c = λ start texts had calm. finished g.W.Write.contents c.args.self.now c.finish_sort.new.self c.finish_output.new.self Yes
    c.finish_sort.ensures.nothing c.finish_sort.ensures.sorted c.finish_output.ensures.status c.finish_output.ensures.written c.in-Yes.is (λ e. cc) start texts had
