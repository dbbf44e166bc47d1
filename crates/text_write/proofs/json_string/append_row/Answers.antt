use Rattle.std.proofs.Common.{◌≡◌, ◌++◌, ◌∙◌, refl, ap, take, length, append-nil, arith}
use Rattle.text_write.proofs.JsonStrings.{row_taken}
use Rattle.text_write.proofs.json_string.append_row.Goals as goal

pub returns-in_default-clause-done : goal.returns-in_default-clause-done
returns-in_default-clause-done c =
    let old = c.args.out.now.items in
    let ext = c.extend_from_slice.new.self in
    let start = c.len-start.result in
    let is_len : start ≡ length old = omega (arith, c.len-start.ensures, c.args.out.now.ok.0) in
    let same = c.put_contents.ensures.front ∙ ap (take start) c.deref_mut.ensures.value in
    let size : ext.len ≡ length ext.items = omega (arith, c.deref_mut.ensures.len, ap length c.deref_mut.ensures.value) in
    let taken = row_taken old _ ext.items c.put_contents.new.row c.truncate.new.self.items start start ext.len c.in_ok-extend_from_slice.ensures.items is_len same (omega arith) size c.truncate.ensures.items in
    λ text short. taken.1 ∙ ap (λ xs. old ++ xs) (taken.2 refl) ∙ append-nil old

pub returns-clause-retained : goal.returns-clause-retained
returns-clause-retained c =
    let old = c.args.out.now.items in
    let ext = c.extend_from_slice.new.self in
    let start = c.len-start.result in
    let is_len : start ≡ length old = omega (arith, c.len-start.ensures, c.args.out.now.ok.0) in
    let same = c.put_contents.ensures.front ∙ ap (take start) c.deref_mut.ensures.value in
    let size : ext.len ≡ length ext.items = omega (arith, c.deref_mut.ensures.len, ap length c.deref_mut.ensures.value) in
    let taken = row_taken old _ ext.items c.put_contents.new.row c.truncate-2.new.self.items start c.in-Some.end ext.len c.in_ok-extend_from_slice.ensures.items is_len same c.in-Some.ensures.within.0 size c.truncate-2.ensures.items in
    record { more = taken.0; extended = taken.1 }
