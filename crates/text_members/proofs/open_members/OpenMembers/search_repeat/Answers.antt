use Rattle.std.proofs.Common.{None, refl, ap, subst, sym, ◌∙◌}
use Rattle.text_members.specs.Members.{AreKeyed, ReportsRepeat}
use Rattle.text_members.specs.OpenMembers.{FindsRepeat}
use Rattle.text_members.proofs.DifferentKeys.{none_repeats}
use Rattle.text_members.proofs.OpenMembers.{found}
use Rattle.text_members.proofs.open_members.OpenMembers.search_repeat.Goals as goal

pub returns-clause-repeat : goal.returns-clause-repeat
returns-clause-repeat c = λ commas bytes start fs own.
    let keys = c.new-keys.result in
    let index = c.in_ok-found.found in
    subst (FindsRepeat _ fs) (sym c.repeat_from.ensures)
    (found c.args.self.now _ c.args.first keys.decoded.now keys.members.now index (ap (λ d. d.now) c.new-keys.ensures.decoded ∙ c.deref.ensures.value) (ap (λ m. m.now) c.new-keys.ensures.members ∙ c.members_from-members.ensures)
    (record { text = refl; entries = refl; decoded = refl })
    (subst (λ t. AreKeyed t keys.decoded.now keys.members.now → ReportsRepeat t keys.decoded.now keys.members.now index) (ap (λ t. t.now) c.new-keys.ensures.text) c.in_ok-found.ensures) commas bytes start fs own)

pub returns-then-few_differ-clause-repeat : goal.returns-then-few_differ-clause-repeat
returns-then-few_differ-clause-repeat c =
    let old = c.args.self.now in
    let ms = c.members_from-members.result.now in
    found old old c.args.first old.decoded.items ms None refl c.members_from-members.ensures (record { text = refl; entries = refl; decoded = refl })
    (none_repeats old.text.now old.decoded.items ms (c.if-few_differ.ensures refl))
