use Rattle.std.proofs.Common.{◌≡◌, ◌∙◌, ap, false, length, map, rules, subst, sym, true}
use Rattle.jsonb_spec.specs.SortKey.{invert_if}
use Rattle.text_write.proofs.IntegerKeys.{not_turned, sixteen_turned}
use Rattle.text_write.proofs.integer_key.turned.Goals as goal

pub returns-then-not-negative : goal.returns-then-not-negative
returns-then-not-negative c =
    let row = c.args.row in
    let no : c.args.negative ≡ false = search rules in
    subst (λ b. row ≡ map (invert_if b) row) (sym no) (not_turned row)

pub returns : goal.returns
returns c =
    let row = c.args.row in
    let yes : c.args.negative ≡ true = search rules in
    let long : length row ≡ 16 = search rules in
    sixteen_turned row long ∙ ap (λ b. map (invert_if b) row) (sym yes)
