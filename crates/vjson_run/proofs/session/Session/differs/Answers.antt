use Rattle.std.proofs.Common.{◌≡◌, ℕ, Bool, true, false, not, List, Option, Some, Vec, Global, MatchOption, nat_eq, refl, sym, subst, ◌∙◌}
use Rattle.std.specs.Bool.{⊤}
use Rattle.std.specs.Cmp.Lexicographic.{pointwise, other_text, same_text}
use Rattle.vjson_run.specs.Runs.{Differs}
use Rattle.vjson_run.proofs.session.Session.differs.Goals as goal

reported : (last : Option (Vec ℕ Global)) (before : Vec ℕ Global) (shown key : List ℕ) (same : Bool) → last ≡ Some before → shown ≡ before.items → same ≡ pointwise nat_eq shown key → Differs last key (not same)
reported last before shown key true is items e = subst (λ l. MatchOption l ⊤ (λ k. k.items ≡ key)) (sym is) (sym items ∙ same_text shown key e)
reported last before shown key false is items e = (before, is, λ equal. other_text shown key e (items ∙ equal))

pub returns-in-Some : goal.returns-in-Some
returns-in-Some g c = subst (Differs c.args.self.now.last c.args.key.now) (sym c.ne.ensures) (reported c.args.self.now.last c.in-Some.last c.as_slice.result.now c.args.key.now (pointwise nat_eq c.as_slice.result.now c.args.key.now) c.in-Some.is c.as_slice.ensures.value refl)
