use Rattle.std.proofs.Common.{◌<◌, ◌^◌, pos, IsTrue, subst, sym}
use Rattle.jsonb_spec.specs.Accessors.{IsWholeNumber}
use Rattle.jsonb_value.specs.View.{view}
use Rattle.jsonb_value.proofs.Values.Accessors.{some_exactly}
use Rattle.jsonb_value.proofs.value.Value.is_u64.Goals as goal

pub returns : goal.returns
returns c =
    let exactly = some_exactly c.as_u64.result (λ n. IsWholeNumber (view c.args.self.now) (pos n) × (n < 2 ^ 64)) c.as_u64.ensures in (
      λ h. let found = exactly.0 (subst IsTrue c.is_some.ensures h) in (found.0, found.1.0, found.1.1),
      λ found. subst IsTrue (sym c.is_some.ensures) (exactly.1 (found.0, (found.1, found.2))),
    )
