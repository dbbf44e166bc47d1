use Rattle.std.proofs.Common.{◌<◌, ◌≤◌, length, rules, subst}
use Rattle.jsonb_spec.specs.Tree.{plain}
use Rattle.text_write.proofs.Checks.{key_begun}
use Rattle.text_members.proofs.OpenMembers.{begun_there}
use Rattle.text_members.proofs.Outcomes.{on_ok}
use Rattle.text_write.proofs.check.CheckSink.cut_key.Goals as goal

pub returns-then-from-eq0 : goal.returns-then-from-eq0
returns-then-from-eq0 c = record {
  holds = on_ok c.key.result c.key.ensures.holds (λ holds text held fs k offset cs sink encoded. holds text held fs k offset cs plain sink);
}

pub returns : goal.returns
returns c = record {
  holds =
      on_ok c.begin_within.result c.begin_within.ensures (λ begins text held fs k offset cs sink encoded.
      let some : 0 < c.args.from = search rules in
      let inside : c.args.after ≤ length text = subst (λ t. c.args.after ≤ length t) sink.members.text_is c.if-not-has_range.ensures.1 in
      key_begun plain c.args.key.now c.args.after sink (begun_there c.args.key.now c.args.from c.args.after 0 sink.members.text_is some c.if-not-has_range.ensures.0 inside (encoded some) begins) c.utf8.key);
}
