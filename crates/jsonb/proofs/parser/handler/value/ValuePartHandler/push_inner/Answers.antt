use Rattle.std.proofs.Common.{◌≡◌, [], ◌∷◌, ◌++◌, ap, sym, subst, ◌∙◌}
use Rattle.jsonb_value.specs.View.{view}
use Rattle.jsonb_spec.specs.Source.{tree_of_source}
use Rattle.jsonb.specs.FrameContents.{AreSeen}
use Rattle.jsonb.proofs.Containers.Built.{seen-snoc}
use Rattle.jsonb.proofs.parser.handler.value.ValuePartHandler.push_inner.Goals as goal

pub returns-clause-put : goal.returns-clause-put
returns-clause-put g c = λ text s ss fs cs held. (
  subst (λ vs. AreSeen (λ v s. view v ≡ tree_of_source s) vs (ss ++ s ∷ [])) (sym (c.in_default.ensures.items ∙ ap (λ vs. vs ++ c.args.value.value ∷ []) c.grow.ensures)) (seen-snoc (λ v s. view v ≡ tree_of_source s) c.args.items.now.items ss c.args.value.value s held.1.0 held.0),
  held.1.1,
)
