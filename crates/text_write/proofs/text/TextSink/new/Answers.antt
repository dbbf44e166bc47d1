use Rattle.std.proofs.Common.{append-nil, arith, sym, ◌∙◌, ap, length}
use Rattle.std.proofs.lemmas.List.{take_all}
use Rattle.text_write.specs.TextSink.{text_layout}
use Rattle.text_write.proofs.text.TextSink.new.Goals as goal

pub invariant_of-result : goal.invariant_of-result
invariant_of-result c = record { based = omega (arith, ap (λ v. length v.items) c.new.ensures.out) }

pub returns-clause-holds : goal.returns-clause-holds
returns-clause-holds c = record { text_is = ap (λ t. t.now) c.new.ensures.text; bytes = c.new.ensures.bytes ∙ sym (append-nil _ ∙ take_all c.len-base.result c.new.result.out.items (omega (arith, ap (λ v. length v.items) c.new.ensures.out)) ∙ ap (λ v. v.items) c.new.ensures.out); members = c.new-2.ensures (text_layout c.len-base.result); fits = tt }
