use Rattle.std.proofs.lemmas.Result.{on_ok_weaker}
use Rattle.vjson_run.proofs.Lists.{on_ok_both}
use Rattle.vjson_run.proofs.Taken.{checked_taken, compared_taken, gets_taken, keyed_taken, laid_taken, sorted_taken, told_taken}
use Rattle.vjson_run.proofs.Troubled.{by_command}
use Rattle.vjson_run.specs.declared.options.Command.TheVariants.{Get, Sort, Equal, Diff}
use Rattle.vjson_run.proofs.session.Session.answer.Goals as goal

pub returns-in-Check-clause-ok : goal.returns-in-Check-clause-ok
returns-in-Check-clause-ok g c = on_ok_weaker c.answer_check.result (λ one. checked_taken g.W.Write.contents c.args.self.now c.answer_check.new.self c.args.text.now c.in-Check.is one c.answer_check.ensures.same) c.answer_check.ensures.ok

pub returns-in-Format-clause-ok : goal.returns-in-Format-clause-ok
returns-in-Format-clause-ok g c = on_ok_weaker c.answer_format.result (λ laid. laid_taken g.W.Write.contents c.args.self.now c.answer_format.new.self c.args.text.now c.in-Format.is laid c.answer_format.ensures.retained) c.answer_format.ensures.ok

pub returns-in-Get-clause-ok : goal.returns-in-Get-clause-ok
returns-in-Get-clause-ok g c = on_ok_weaker c.answer_get.result (λ gets. gets_taken g.W.Write.contents c.args.self.now c.answer_get.new.self c.args.text.now c.in-Get.is gets) c.answer_get.ensures.ok

pub returns-in-Keys-clause-ok : goal.returns-in-Keys-clause-ok
returns-in-Keys-clause-ok g c = on_ok_weaker c.answer_keys.result (λ keyed. keyed_taken g.W.Write.contents c.args.self.now c.answer_keys.new.self c.args.text.now c.in-Keys.is keyed c.answer_keys.ensures.retained) c.answer_keys.ensures.ok

pub returns-in-Sort-clause-ok : goal.returns-in-Sort-clause-ok
returns-in-Sort-clause-ok g c = on_ok_both c.take_sort.result (λ added checks. sorted_taken g.W.Write.contents c.args.self.now c.take_sort.new.self c.args.text.now c.in-Sort.is c.take_sort.ensures.options added checks) c.take_sort.ensures.ok c.take_sort.ensures.checked

pub returns-in-Equal-clause-ok : goal.returns-in-Equal-clause-ok
returns-in-Equal-clause-ok g c = on_ok_weaker c.take_equal.result (λ compares. compared_taken g.W.Write.contents c.args.self.now c.take_equal.new.self c.args.text.now c.in-Equal.is compares) c.take_equal.ensures.ok

pub returns-in-Get-clause-memory : goal.returns-in-Get-clause-memory
returns-in-Get-clause-memory g c = λ lack. by_command Get c.args.self.now.options.now.command c.args.self.now.options.now.grammar c.args.text.now c.in-Get.is (λ e. cc) (c.answer_get.ensures.memory lack)

pub returns-in-Sort-clause-memory : goal.returns-in-Sort-clause-memory
returns-in-Sort-clause-memory g c = λ lack. by_command Sort c.args.self.now.options.now.command c.args.self.now.options.now.grammar c.args.text.now c.in-Sort.is (λ e. cc) (c.take_sort.ensures.memory lack)

pub returns-in-Equal-clause-memory : goal.returns-in-Equal-clause-memory
returns-in-Equal-clause-memory g c = λ lack. by_command Equal c.args.self.now.options.now.command c.args.self.now.options.now.grammar c.args.text.now c.in-Equal.is (λ e. cc) (c.take_equal.ensures.memory lack)

pub returns-in-Diff-clause-ok : goal.returns-in-Diff-clause-ok
returns-in-Diff-clause-ok g c = on_ok_weaker c.answer_diff.result (λ tells. told_taken g.W.Write.contents c.args.self.now c.answer_diff.new.self c.args.text.now c.in-Diff.is tells) c.answer_diff.ensures.ok

pub returns-in-Diff-clause-memory : goal.returns-in-Diff-clause-memory
returns-in-Diff-clause-memory g c = λ lack. by_command Diff c.args.self.now.options.now.command c.args.self.now.options.now.grammar c.args.text.now c.in-Diff.is (λ e. cc) (c.answer_diff.ensures.memory lack)
