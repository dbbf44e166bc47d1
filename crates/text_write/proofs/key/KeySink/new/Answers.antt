use Rattle.std.proofs.Common.{append-nil, arith, sym, ◌∙◌}
use Rattle.std.proofs.lemmas.List.{take_all}
use Rattle.text_write.specs.KeySink.{key_layout}
use Rattle.text_write.proofs.key.KeySink.new.Goals as goal

pub returns-clause-holds : goal.returns-clause-holds
returns-clause-holds c = record {
  bytes = sym (append-nil _ ∙ take_all c.len-base.result c.args.out.items (omega arith));
  members = c.new.ensures (key_layout c.len-base.result);
  fits = tt;
}
