use Rattle.std.proofs.Common.{◌∷◌, true, map, subst}
use Rattle.jsonb.specs.Held.{key_held}
use Rattle.jsonb_core.specs.View.{mark_view}
use Rattle.jsonb_spec.specs.Source.Open.{members_so_far}
use Rattle.text_write.specs.CheckSink.{CheckHolds}
use Rattle.text_write.specs.KeySink.Held.{members}
use Rattle.text_parse.proofs.Steps.Failures.{ok_if}
use Rattle.jsonb.proofs.parser.handler.check.CheckedPartHandler.key.Goals as goal

pub returns-in-Plain-clause-begun : goal.returns-in-Plain-clause-begun
returns-in-Plain-clause-begun g c = rw (c.in-Plain.is) (ok_if c.cut_key.result (λ key h text at front other other_offset fs cs held. h text (map key_held fs) front other other_offset cs held at.0) c.cut_key.ensures.holds)

pub returns-in-Borrowed-clause-begun : goal.returns-in-Borrowed-clause-begun
returns-in-Borrowed-clause-begun g c = rw (c.in-Borrowed.is) (ok_if c.cut_key-in-Borrowed.result (λ key h text at front other other_offset fs cs held. h text (map key_held fs) front other other_offset cs held at) c.cut_key-in-Borrowed.ensures.holds)

pub returns-in-Decoded-clause-begun : goal.returns-in-Decoded-clause-begun
returns-in-Decoded-clause-begun g c = rw (c.in-Decoded.is) (ok_if c.key.result (λ key h text at front other other_offset fs cs held.
    subst (λ bytes. CheckHolds text c.key.new.self true (members c.args.object.now.members ∷ map key_held fs) (members_so_far front (mark_view c.in-Decoded.text, bytes) c.args.after ∷ cs)) c.as_str.ensures.value
    (h text (map key_held fs) front other other_offset cs (mark_view c.in-Decoded.text) held)) c.key.ensures.holds)
