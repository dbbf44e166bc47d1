use Rattle.std.proofs.Common.{append-nil, arith, sym, ◌∙◌, ap}
use Rattle.std.proofs.lemmas.List.{take_all}
use Rattle.text_write.specs.TextSink.{text_layout}
use Rattle.text_write.proofs.text.TextSink.restart.Goals as goal

pub returns-clause-holds : goal.returns-clause-holds
returns-clause-holds c = record {
  text_is = ap (λ t. t.now) c.restart.ensures.text;
  bytes = c.restart.ensures.bytes ∙ sym (append-nil _ ∙ take_all c.len-self.result c.restart.new.self.out.items (omega arith) ∙ ap (λ v. v.items) c.restart.ensures.out);
  members = c.restart-2.ensures (text_layout c.len-self.result);
  fits = tt;
}
