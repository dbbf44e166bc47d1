use Rattle.std.proofs.Common.{◌≡◌, ◌≤◌, length, leb, sym, ◌∙◌, arith}
use Rattle.std.proofs.lemmas.Grind.{common_steps}
use Rattle.jsonb.proofs.Rows.{items_ended, members_ended}
use Rattle.jsonb.proofs.parser.ast.equality.+same.Goals as goal

pub same_items-returns : goal.same_items-returns
same_items-returns t c =
    let xs = c.args.left.now.items in
    let ys = c.args.right.now.items in
    let ended : length xs ≤ c.items.i = grind (arith, common_steps) in
    let within : c.items.i ≤ length xs = grind (arith, common_steps) in
    let first : c.len-2.result ≡ length xs = grind (arith, common_steps) in
    let second : c.len-3.result ≡ length ys = grind (arith, common_steps) in
    (λ i. leb (second i) (first i)) ∙ items_ended xs ys c.items.i ended within ∙ sym c.items.invariant

pub same_members-returns : goal.same_members-returns
same_members-returns t c =
    let xs = c.args.left.now.items in
    let ys = c.args.right.now.items in
    let ended : length xs ≤ c.members.i = grind (arith, common_steps) in
    let within : c.members.i ≤ length xs = grind (arith, common_steps) in
    let first : c.len-2.result ≡ length xs = grind (arith, common_steps) in
    let second : c.len-3.result ≡ length ys = grind (arith, common_steps) in
    (λ i. leb (second i) (first i)) ∙ members_ended xs ys c.members.i ended within ∙ sym c.members.invariant
