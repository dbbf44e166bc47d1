use Rattle.vjson_run.proofs.Parts.{keyed_line}
use Rattle.std.proofs.Common.{subst}
use Rattle.vjson_run.specs.Answers.{AppendsLine}
use Rattle.vjson_text.specs.declared.fault.Fault.TheVariants.{NoMemory}
use Rattle.std.proofs.Common.{◌≡◌, inr, rules, Err}
use Rattle.vjson_run.proofs.Troubled.{keyed_one}
use Rattle.vjson_run.proofs.answers.print_key.Goals as goal

pub returns-clause-ok : goal.returns-clause-ok
returns-clause-ok c = keyed_line c.args.options.now c.args.text.now c.make_key.new.buffers.key.items c.append_line.new.out.items c.deref-2.result.now c.deref-3.result.now c.args.out.now.items c.append_key_line-2.new.out.items
    c.in_ok-make_key.ensures.ok
    (subst (λ old. AppendsLine c.args.options.now c.args.text.now old c.append_line.new.out.items) c.new-line.ensures.items c.in_ok-append_line.ensures.ok)
    c.deref-2.ensures.value c.deref-3.ensures.value
    c.in_ok-append_key_line-2.ensures.ok

pub returns-in_err-make_key-clause-memory : goal.returns-in_err-make_key-clause-memory
returns-in_err-make_key-clause-memory c = λ is.
    let lack : c.make_key.result ≡ Err NoMemory = search rules in
    c.make_key.ensures.memory lack

pub returns-in_err-append_key_line-clause-memory : goal.returns-in_err-append_key_line-clause-memory
returns-in_err-append_key_line-clause-memory c = λ is. inr (keyed_one c.args.options.now c.args.text.now c.make_key.new.buffers.key.items c.in_ok-make_key.ensures.ok)

pub returns-in_err-append_line-clause-memory : goal.returns-in_err-append_line-clause-memory
returns-in_err-append_line-clause-memory c = λ is. inr (keyed_one c.args.options.now c.args.text.now c.make_key.new.buffers.key.items c.in_ok-make_key.ensures.ok)
