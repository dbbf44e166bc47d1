use Rattle.std.proofs.Common.{◌-◌, ◌<◌, ◌≤◌, arith, ap, length, refl, rules, slice_range, subst, sym, ◌∙◌}
use Rattle.jsonb_spec.specs.Tree.{plain}
use Rattle.text_write.proofs.Keys.KeyMembers.{begins, begins_wrote, key_holds, text_verbatim}
use Rattle.text_members.proofs.OpenMembers.{begun_there, key_there}
use Rattle.text_members.proofs.Outcomes.{on_ok}
use Rattle.text_write.proofs.key.KeySinkSink.cut_key.Goals as goal

pub returns-then-from-eq0-clause-holds : goal.returns-then-from-eq0-clause-holds
returns-then-from-eq0-clause-holds c = on_ok c.key.result c.key.ensures.holds (λ holds text held fs k offset cs sink encoded plainly. holds text held fs k offset cs plain sink)

pub preserve_text-requires-clause-inside : goal.preserve_text-requires-clause-inside
preserve_text-requires-clause-inside c =
    let ends : c.args.after ≤ length c.args.self.now.members.text.now = c.if-not-has_range.ensures.1 in
    subst (λ t. c.args.after - 1 ≤ length t) (sym (c.in_ok-begin_within.ensures (omega arith) (omega arith)).has.text) (omega (arith, ends))

pub returns-then-is_plain-clause-holds : goal.returns-then-is_plain-clause-holds
returns-then-is_plain-clause-holds c =
    on_ok c.preserve_text.result c.preserve_text.ensures.bytes (λ wrote text held fs k offset cs sink encoded plainly.
    let key = c.args.key.now in
    let some : 0 < c.args.from = search rules in
    let inside : c.args.after ≤ length text = subst (λ t. c.args.after ≤ length t) sink.members.text_is c.if-not-has_range.ensures.1 in
    let begun = begun_there key c.args.from c.args.after c.len-start.result sink.members.text_is some c.if-not-has_range.ensures.0 inside (encoded some) c.in_ok-begin_within.ensures in
    let same = ap (λ t. slice_range t c.args.from (c.args.after - 1)) (begun.has.text ∙ sink.members.text_is) ∙ key_there text key c.args.from c.args.after some c.if-not-has_range.ensures.0 inside (encoded some) in
    key_holds plain key c.args.after c.len-start.result sink (omega arith) (begins_wrote (begins refl refl begun) (text_verbatim same (plainly c.if-is_plain.true) wrote)) c.utf8.key)

pub returns-clause-holds : goal.returns-clause-holds
returns-clause-holds c =
    on_ok c.append_text.result c.append_text.ensures.bytes (λ wrote text held fs k offset cs sink encoded plainly.
    let key = c.args.key.now in
    let some : 0 < c.args.from = search rules in
    let inside : c.args.after ≤ length text = subst (λ t. c.args.after ≤ length t) sink.members.text_is c.if-not-has_range.ensures.1 in
    let begun = begun_there key c.args.from c.args.after c.len-start.result sink.members.text_is some c.if-not-has_range.ensures.0 inside (encoded some) c.in_ok-begin_within.ensures in
    key_holds plain key c.args.after c.len-start.result sink (omega arith) (begins_wrote (begins refl refl begun) wrote) c.utf8.key)
