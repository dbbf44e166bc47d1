use Rattle.std.proofs.Common.{◌≡◌, ◌∷◌, [], length, false, subst, sym, arith}
use Rattle.jsonb_spec.specs.Source.Open.{members_so_far}
use Rattle.text_write.specs.KeySink.{KeyHolds, members}
use Rattle.text_write.proofs.Keys.KeyMembers.{object_begun}
use Rattle.text_write.proofs.key.KeySinkSink.begin_object.Goals as goal

pub returns-clause-holds : goal.returns-clause-holds
returns-clause-holds c = λ text held cs key offset sink.
    let count : c.len.result ≡ length c.append.new.self.members.entries.items = omega arith in
    subst (λ n. KeyHolds text c.append.new.self false (members n ∷ held) (members_so_far [] key offset ∷ cs)) (sym count) (object_begun key offset sink c.in_ok-append.ensures.bytes)
