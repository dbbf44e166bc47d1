use Rattle.std.proofs.Common.{◌≡◌, ◌⊎◌, Err, ap, sym, subst}
use Rattle.std.specs.Vec.{vec_capacity, vec_len}
use Rattle.jsonb_spec.specs.Parsing.Memory.{MayAllocate}
use Rattle.vjson_text.proofs.Memory.{text_lacks}
use Rattle.vjson_text.specs.Memory.{LacksSpace, laid_out}
use Rattle.vjson_text.specs.declared.fault.Fault.TheVariants.{NoMemory}
use Rattle.vjson_text.proofs.reader.append.Goals as goal

pub returns-in-Err-clause-memory : goal.returns-in-Err-clause-memory
returns-in-Err-clause-memory c = λ is.
    let lack : c.fault_of.result ≡ NoMemory = cc in
    subst (λ layout. MayAllocate c.args.text.now ⊎ LacksSpace c.args.grammar (laid_out layout) c.args.text.now (vec_capacity c.args.out.now) (vec_len c.args.out.now)) (sym c.in-Compact.is)
    (text_lacks c.args.grammar c.args.text.now (vec_capacity c.args.out.now) (vec_len c.args.out.now) (c.in-Err.ensures.appends.memory (ap (λ e. Err e) (c.fault_of.ensures.memory.0 lack))))
