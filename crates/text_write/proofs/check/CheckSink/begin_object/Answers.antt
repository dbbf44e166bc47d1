use Rattle.std.proofs.Common.{◌≡◌, ◌∷◌, [], length, false, subst, sym, arith}
use Rattle.jsonb_spec.specs.Source.Open.{members_so_far}
use Rattle.text_write.specs.CheckSink.{CheckHolds}
use Rattle.text_write.specs.KeySink.Held.{members}
use Rattle.text_write.proofs.Checks.{object_begun}
use Rattle.text_write.proofs.check.CheckSink.begin_object.Goals as goal

pub returns : goal.returns
returns c = record {
  holds = λ text held cs key offset sink.
      let r = c.args.self.now in
      let count : c.len.result ≡ length r.members.entries.items = omega arith in
      subst (λ n. CheckHolds text r false (members n ∷ held) (members_so_far [] key offset ∷ cs)) (sym count) (object_begun key offset sink);
}
