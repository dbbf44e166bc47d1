use Rattle.std.proofs.Common.{◌≡◌, ◌∷◌, get_or, length, ap, sym, ◌∙◌, arith}
use Rattle.std.proofs.lemmas.Str.{lead_after_ascii}
use Rattle.key_edit.proofs.step.step_of.Goals as goal

pub split_at-requires : goal.split_at-requires
split_at-requires c =
    let name = c.args.name.now in
    let is : name ≡ c.in_ok-first.first.now ∷ c.in_ok-first.field-0-1.now = sym c.as_bytes.ensures.value ∙ c.in_ok-first.ensures.cases.0 in
    let first : get_or name 0 0 ≡ c.in_ok-first.first.now = ap (λ bytes. get_or bytes 0 0) is in
    (omega (arith, ap length is), λ l h. lead_after_ascii name 0 c.utf8.name (omega (arith, first, c.if-first-eq45.true)) l h)
