use Rattle.std.proofs.Common.{◌≡◌, ◌++◌, ◌∷◌, [], ◌+◌, ◌*◌, ◌∙◌, length, arith}
use Rattle.jsonb_spec.specs.Table.{table_mark}
use Rattle.key_table.proofs.Having.{table_parts}
use Rattle.key_table.proofs.Splitting.{count_there, end_at, front_there, table_behind, whole_size}
use Rattle.key_table.proofs.split.split_marked.Goals as goal

pub returns-in-Some-checked_sub-clause-table : goal.returns-in-Some-checked_sub-clause-table
returns-in-Some-checked_sub-clause-table c = λ front t has e.
    let p = table_parts t has in
    let bytes = c.args.bytes.now in
    let two = c.two_at.ensures.two (front ++ p.entries) (table_mark ∷ []) p.count p.small (end_at bytes front t p e c.in-Some.end (omega (arith, c.in-Some.ensures))) (count_there bytes front t p e) in
    let start : c.in-Some-checked_sub.start + (2 * p.count + 3) ≡ length bytes = omega (arith, c.in-Some-checked_sub.ensures, c.in-Some.ensures, two) in
    (c.split_at-in-Some-checked_sub.ensures.front ∙ front_there bytes front t p e c.in-Some-checked_sub.start start, c.split_at-in-Some-checked_sub.ensures.back ∙ table_behind bytes front t p e c.in-Some-checked_sub.start start)

pub returns-in-None-clause-table : goal.returns-in-None-clause-table
returns-in-None-clause-table c = λ front t has e.
    let p = table_parts t has in
    let bytes = c.args.bytes.now in
    let two = c.two_at.ensures.two (front ++ p.entries) (table_mark ∷ []) p.count p.small (end_at bytes front t p e c.in-Some.end (omega (arith, c.in-Some.ensures))) (count_there bytes front t p e) in
    absurd (omega (arith, c.in-None.ensures, c.in-Some.ensures, two, whole_size bytes front t p e))
