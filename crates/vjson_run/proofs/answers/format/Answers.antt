use Rattle.std.proofs.Common.{subst}
use Rattle.vjson_text.specs.Texts.{AppendsTextOf}
use Rattle.vjson_run.proofs.Parts.{prints_text}
use Rattle.vjson_text.specs.declared.fault.Fault.TheVariants.{NoMemory}
use Rattle.std.proofs.Common.{◌≡◌, rules, Err}
use Rattle.std.specs.Vec.{vec_capacity, vec_len}
use Rattle.vjson_text.specs.Memory.{laid_out}
use Rattle.vjson_run.proofs.Troubled.{space_taken}
use Rattle.vjson_run.proofs.answers.format.Goals as goal

pub returns-clause-ok : goal.returns-clause-ok
returns-clause-ok c = prints_text c.args.options.now c.args.text.now c.args.out.now.items c.append.new.out.items c.push.new.self.items c.if-options.false
    (subst (λ layout. AppendsTextOf c.args.options.now.grammar layout c.args.text.now c.args.out.now.items c.append.new.out.items) c.layout_of-layout.ensures c.in_ok-append.ensures.ok)
    c.in_ok-push.ensures.items

pub returns-in_err-append-clause-memory : goal.returns-in_err-append-clause-memory
returns-in_err-append-clause-memory c = λ is.
    let lack : c.append.result ≡ Err NoMemory = search rules in
    space_taken c.args.options.now.grammar (laid_out c.layout_of-layout.result) c.args.text.now (vec_capacity c.args.out.now) (vec_len c.args.out.now) (c.append.ensures.memory lack)
