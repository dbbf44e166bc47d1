use Rattle.std.proofs.Common.{◌≡◌, [], ◌∷◌, ◌++◌, sym, subst}
use Rattle.jsonb_value.specs.View.{view}
use Rattle.jsonb_spec.specs.Source.{tree_of_source}
use Rattle.jsonb.specs.FrameContents.{AreSeen}
use Rattle.jsonb.proofs.Given.{all_made}
use Rattle.jsonb.proofs.Containers.Built.{on_ok, seen-snoc}
use Rattle.jsonb.proofs.parser.handler.value.ValuePartHandler.push.Goals as goal

pub returns-clause-put : goal.returns-clause-put
returns-clause-put g c = on_ok c.push_scalar.result
    (λ put text s ss fs cs held is. (
      subst (λ vs. AreSeen (λ v s. view v ≡ tree_of_source s) vs (ss ++ s ∷ [])) (sym put) (seen-snoc (λ v s. view v ≡ tree_of_source s) c.args.items.now.items ss c.args.value.value s held.0 (all_made is).0),
      held.1,
    ))
    c.push_scalar.ensures
