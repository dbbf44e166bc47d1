use Rattle.std.proofs.Common.{◌+◌, ◌<◌, ◌^◌, ◌++◌, length, sym, ap, subst, ◌∙◌, arith, append_assoc, length-append}
use Rattle.std.specs.Prelude.{vec_len, vec_capacity}
use Rattle.jsonb_spec.specs.SortKey.{key_of}
use Rattle.jsonb_spec.specs.Edit.{merge}
use Rattle.key_edit.proofs.ProperChanges.{merged_proper}
use Rattle.key_document.specs.Changes.{IsLacking}
use Rattle.jsonb_spec.specs.Document.{behind_key, document_of, zeros_at}
use Rattle.key_document.proofs.Changing.{edit_lacking}
use Rattle.key_text.proofs.Counts.{one_each}
use Rattle.key_document.proofs.merge.append_merged.Goals as goal
use Rattle.jsonb_spec.specs.Document.Counts.{counts_at}

pub returns-in_err-append_merged-clause-merges : goal.returns-in_err-append_merged-clause-merges
returns-in_err-append_merged-clause-merges c = λ t r e u ru eu.
    edit_lacking (merge t u) c.from_residual.result c.in_err-append_merged.field-0.0 c.args.out.now c.append_merged.new.out c.from_residual.ensures.1
    (c.in_err-append_merged.ensures.merges t u r (c.split_document.ensures.key t r e) ru (c.split_document-2.ensures.key u ru eu)).errors

pub returns-in-Ok-clause-merges : goal.returns-in-Ok-clause-merges
returns-in-Ok-clause-merges c = λ t r e u ru eu.
    let v = merge t u in
    let mid = c.append_merged.new.out in
    let is_key = c.split_document.ensures.key t r e in
    let is_other = c.split_document-2.ensures.key u ru eu in
    let done = c.in_ok-append_merged.ensures.merges t u r is_key ru is_other in
    let small : length (counts_at v) < 2 ^ 63 = omega (arith, one_each v (merged_proper t u r.proper ru.proper), ap length done.ok, length-append c.args.out.now.items (key_of v), mid.ok.0, mid.ok.1, mid.small) in
    let tail = c.in-Ok.ensures.merged t u r ru is_key (c.split_document.ensures.zeros t r e) is_other (c.split_document-2.ensures.zeros u ru eu) small in
    record { ok = tail ∙ ap (λ m. m ++ behind_key (zeros_at v)) done.ok ∙ append_assoc c.args.out.now.items (key_of v) (behind_key (zeros_at v)); fits = done.fits; errors = tt }

pub returns-in-Err-clause-merges : goal.returns-in-Err-clause-merges
returns-in-Err-clause-merges c = λ t r e u ru eu.
    let v = merge t u in
    let mid = c.append_merged.new.out in
    let is_key = c.split_document.ensures.key t r e in
    let is_other = c.split_document-2.ensures.key u ru eu in
    let done = c.in_ok-append_merged.ensures.merges t u r is_key ru is_other in
    let small : length (counts_at v) < 2 ^ 63 = omega (arith, one_each v (merged_proper t u r.proper ru.proper), ap length done.ok, length-append c.args.out.now.items (key_of v), mid.ok.0, mid.ok.1, mid.small) in
    let tail = c.in-Err.ensures.merged t u r ru is_key (c.split_document.ensures.zeros t r e) is_other (c.split_document-2.ensures.zeros u ru eu) small in
    let short : vec_capacity c.args.out.now < vec_len c.args.out.now + length (document_of v) = omega (arith, tail.1, c.in_ok-append_merged.ensures.preserves.capacity, c.args.out.now.ok.0, mid.ok.0, ap length done.ok, length-append c.args.out.now.items (key_of v), length-append (key_of v) (behind_key (zeros_at v))) in
    record { ok = tt; fits = tt; errors = subst (λ error. IsLacking v c.args.out.now error) (sym tail.0) short }
