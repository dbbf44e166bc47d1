use Rattle.std.proofs.Common.{◌≡◌, [], ◌∷◌, ◌++◌, ap, sym, subst, ◌∙◌}
use Rattle.jsonb.specs.Source.{source_view}
use Rattle.jsonb.specs.FrameContents.{AreSeen}
use Rattle.jsonb.proofs.Containers.Built.{on_ok, seen-snoc}
use Rattle.jsonb.proofs.parser.handler.ast.JsonAstHandler.push_inner.Goals as goal

pub returns-clause-put : goal.returns-clause-put
returns-clause-put c = on_ok c.push_scalar.result
    (λ put text s ss fs cs held. (
      subst (λ vs. AreSeen (λ v s. source_view v ≡ s) vs (ss ++ s ∷ [])) (sym (put ∙ ap (λ vs. vs ++ c.args.value ∷ []) c.grow.ensures)) (seen-snoc (λ v s. source_view v ≡ s) c.args.items.now.items ss c.args.value s held.1.0 held.0),
      held.1.1,
    ))
    c.push_scalar.ensures
