use Rattle.std.proofs.Common.{◌≡◌, ◌++◌, Err, take, length, sym, ap, ◌∙◌, arith, append-nil}
use Rattle.std.proofs.Math.Seq.{take-append_seam}
use Rattle.key_table.specs.Entries.{WritesTable}
use Rattle.key_table.proofs.Having.{enough_there, few_there, of_members, table_none, table_there}
use Rattle.key_table.proofs.make.append_table.Goals as goal

pub returns-then-has_few_members-clause-appends : goal.returns-then-has_few_members-clause-appends
returns-then-has_few_members-clause-appends c = λ t r e.
    let o = c.in-Some.ensures.members t r e in
    let none = few_there t c.in-Some.members.now o c.has_few_members.result (c.has_few_members.ensures t r e o.ms o.is) c.if-has_few_members.true in
    let mid = c.in-Err.ensures.retained.retained in
    let old = c.args.out.now.items in
    let start : c.len-start.result ≡ length old = omega (arith, c.len-start.ensures, c.args.out.now.ok.0) in
    let extended = mid.extended ∙ ap (λ l. l ++ mid.more) c.try_reserve-reserved.ensures.items in
    (sym none, c.truncate-in-Err.ensures.items ∙ (λ i. take (start i) (extended i)) ∙ take-append_seam old mid.more ∙ sym (append-nil old) ∙ ap (λ l. old ++ l) (sym (table_none t none)))

pub returns-else-has_few_members-clause-appends : goal.returns-else-has_few_members-clause-appends
returns-else-has_few_members-clause-appends c = λ t r e.
    let o = c.in-Some.ensures.members t r e in
    let enough = enough_there t c.in-Some.members.now o c.has_few_members.result (c.has_few_members.ensures t r e o.ms o.is) c.if-has_few_members.false in
    let lacks = of_members t c.in-Some.members.now o (λ ms. WritesTable ms (Err c.in-Err.error) c.try_reserve-reserved.new.self c.write_table.new.out) r c.in-Err.ensures.written in
    (lacks.0, omega (arith, lacks.1, ap length (table_there t c.in-Some.members.now o enough), c.try_reserve-reserved.ensures.capacity, ap length c.try_reserve-reserved.ensures.items))
