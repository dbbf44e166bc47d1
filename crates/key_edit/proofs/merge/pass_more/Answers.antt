use Rattle.key_edit.proofs.Merged.{all_left, first_of, passed_first}
use Rattle.std.proofs.Common.{ap, ◌∙◌}
use Rattle.jsonb_spec.specs.SortKey.{members_key}
use Rattle.key_edit.proofs.merge.pass_more.Goals as goal

pub returns-then-not-may_come_first-clause-passed : goal.returns-then-not-may_come_first-clause-passed
returns-then-not-may_come_first-clause-passed c = λ ms ns h i e f. all_left ms ns c.args.members.now h e

pub returns-clause-passed : goal.returns-clause-passed
returns-clause-passed c = λ ms ns h i e f.
    let n = first_of ns (c.if-is_end.ensures.end ns i f) in
    let p = c.in_ok-passed.ensures.passed ms h n.0 _ e (f ∙ ap members_key n.3) in
    passed_first ms ns c.in_ok-passed.passed i n.0 n.1 n.2 n.3 p.0
