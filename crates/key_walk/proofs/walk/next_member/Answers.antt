use Rattle.std.proofs.Common.{◌≡◌, ◌++◌, List, ℕ, true, ◌∙◌, append_assoc}
use Rattle.key_value.proofs.Texts.{none_some}
use Rattle.jsonb_spec.specs.SortKey.{key_of, members_key, text_key}
use Rattle.key_walk.proofs.Opens.{no_end}
use Rattle.key_walk.proofs.walk.next_member.Goals as goal

split : (name value others more : List ℕ) → (name ++ (value ++ others)) ++ more ≡ name ++ (value ++ (others ++ more))
split name value others more = simp append_assoc

pub returns-in-Some-clause-next : goal.returns-in-Some-clause-next
returns-in-Some-clause-next c = λ name t r ms more e.
    absurd (no_end true name t 512 r c.args.members.now _ (members_key ms ++ more) c.in-Some.ensures.some (e ∙ split (text_key name) (key_of t) (members_key ms) more))

pub returns-in-None-clause-over : goal.returns-in-None-clause-over
returns-in-None-clause-over c = λ more e. absurd (none_some more (c.in-None.ensures.found more e))

pub returns-in-None-clause-next : goal.returns-in-None-clause-next
returns-in-None-clause-next c = λ name t r ms more e. c.member_of.ensures.next name t r (members_key ms ++ more) (e ∙ split (text_key name) (key_of t) (members_key ms) more)
