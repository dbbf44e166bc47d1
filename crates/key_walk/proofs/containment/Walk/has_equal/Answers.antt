use Rattle.std.proofs.Common.{◌++◌, ap, ◌∙◌, sym}
use Rattle.key_value.proofs.Texts.{some_same}
use Rattle.jsonb_spec.specs.Containment.{holds}
use Rattle.key_walk.proofs.Walked.{reported_no, reported_yes, moved_on, stripped, not_stripped}
use Rattle.jsonb_spec.specs.SortKey.{key_of}
use Rattle.key_walk.proofs.containment.Walk.has_equal.Goals as goal

pub returns-in_default-strip_prefix-clause-held : goal.returns-in_default-strip_prefix-clause-held
returns-in_default-strip_prefix-clause-held c = λ depth levels t u p q s more behind w.
    let theirs = some_same c.in-Some.theirs.now behind (c.in-Some.ensures.found levels u q s behind w.1.is) in
    let wanted = c.front.ensures (key_of u) (w.1.is ∙ ap (λ b. key_of u ++ b) (sym theirs)) in
    reported_no (holds t u) (not_stripped t u depth levels p q s c.args.self.now.ours.now c.front.result.now more w.0.is wanted c.in_default-strip_prefix.ensures.cases)

pub returns-clause-held : goal.returns-clause-held
returns-clause-held c = λ depth levels t u p q s more behind w.
    let theirs = some_same c.in-Some.theirs.now behind (c.in-Some.ensures.found levels u q s behind w.1.is) in
    let wanted = c.front.ensures (key_of u) (w.1.is ∙ ap (λ b. key_of u ++ b) (sym theirs)) in
    let x = stripped t u depth levels p q s c.args.self.now.ours.now c.front.result.now c.in-Some-strip_prefix.ours.now more w.0.is wanted c.in-Some-strip_prefix.ensures.cases.0 c.in-Some-strip_prefix.ensures.cases.1 in
    reported_yes (holds t u) x.held (
      moved_on c.args.self.now.key.now c.args.self.now.ours.now (key_of t) c.in-Some-strip_prefix.ours.now more w.0 x.behind,
      moved_on c.args.self.now.other.now c.args.self.now.theirs.now (key_of u) c.in-Some.theirs.now behind w.1 theirs,
    )
