use Rattle.std.proofs.Common.{◌≡◌, ◌<◌, ◌^◌, ◌++◌, Ok, Err, length, refl, sym, ap, ◌∙◌, arith, length-append}
use Rattle.jsonb_spec.specs.SortKey.{key_of}
use Rattle.key_edit.specs.Edit.{AppendsKey}
use Rattle.key_document.proofs.Changing.{are_spliced, as_tail, cuts, finished, no_key_appended, put_changes, reported}
use Rattle.key_text.proofs.Counts.{one_each}
use Rattle.key_document.proofs.edit.put_document.Goals as goal
use Rattle.jsonb_spec.specs.Document.Counts.{counts_at}

pub returns-in_err-put_part-clause-put : goal.returns-in_err-put_part-clause-put
returns-in_err-put_part-clause-put c = λ t r e z changed splices s u ru eu change puts set.
    let is_part : c.split_document.result.0.now ≡ key_of u = c.split_document.ensures.key u ru eu in
    let put = reported (changed change) (λ v. AppendsKey {X = Unit {0}} v (Err c.in_err-put_part.field-0.0) c.args.out.now c.put_part.new.out) (c.in_err-put_part.ensures.put changed s u ru is_part change set) in
    no_key_appended (changed change) put.tree c.from_residual.result c.in_err-put_part.field-0.0 c.args.out.now c.put_part.new.out put.is c.from_residual.ensures.1 put.holds.errors

pub returns-clause-put : goal.returns-clause-put
returns-clause-put c = λ t r e z changed splices s u ru eu change puts set.
    let key = c.args.key.now in
    let slot = c.args.slot.now in
    let is_part : c.split_document.result.0.now ≡ key_of u = c.split_document.ensures.key u ru eu in
    let put = reported (changed change) (λ v. AppendsKey {X = Unit {0}} v (Ok tt) c.args.out.now c.put_part.new.out) (c.in_ok-put_part.ensures.put changed s u ru is_part change set) in
    let x = put_changes t put.tree changed key slot splices s u change puts ru.proper put.is in
    let front : c.front-before.result.now ≡ s.0.front = c.front-before.ensures s.0.front s.0.inside in
    let done : c.put_part.new.out.items ≡ c.args.out.now.items ++ key_of put.tree = put.holds.ok in
    let long = length-append c.args.out.now.items (key_of put.tree) in
    let fit : length (key_of put.tree) < 2 ^ 63 = omega (arith, ap length done, long, c.put_part.new.out.ok.0, c.put_part.new.out.ok.1, c.put_part.new.out.small) in
    let part_len : length c.split_document.result.0.now ≡ length (counts_at u) = ap length is_part ∙ sym (one_each u ru.proper) in
    let name : c.saturating_sub-2.result ≡ x.name = omega (arith, c.saturating_sub-2.ensures, c.saturating_sub.ensures, c.len.ensures, c.len-start.ensures, c.saturating_add-others.ensures, c.saturating_add.ensures, x.long, ap length done, long, part_len, ap length front, c.args.out.now.ok.0, c.put_part.new.out.ok.0, fit) in
    let a = are_spliced x c.args.zeros.now c.split_document.result.1.now (length key) _ r.proper z (c.split_document.ensures.zeros u ru eu) (ap length e) (ap length front) name part_len refl (omega arith) fit in
    finished (changed change) put.tree c.splice_tail.result c.args.out.now c.put_part.new.out c.splice_tail.new.out _ put.is put.holds.fits done c.in_ok-put_part.ensures.preserves.capacity (as_tail x _ name) (c.splice_tail.ensures.spliced x.first x.entry (counts_at u) x.last a) c.splice_tail.ensures.answer

pub returns-clause-preserves : goal.returns-clause-preserves
returns-clause-preserves c = cuts c.len-start.result c.splice_tail.result c.args.out.now c.put_part.new.out c.splice_tail.new.out c.splice_tail.ensures.preserves c.len-start.ensures c.in_ok-put_part.ensures.retained c.in_ok-put_part.ensures.preserves.capacity
