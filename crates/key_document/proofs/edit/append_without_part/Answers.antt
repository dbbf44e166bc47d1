use Rattle.std.proofs.Common.{◌≡◌, ◌<◌, ◌^◌, ◌++◌, [], map, string_bytes, length, refl, sym, ap, subst, ◌∙◌, arith, length-append}
use Rattle.jsonb_spec.specs.Edit.{changed_at, without_part}
use Rattle.key_edit.specs.Spots.{FindsSlot}
use Rattle.key_edit.proofs.Putting.{appended}
use Rattle.jsonb_spec.specs.SortKey.{key_of}
use Rattle.key_document.proofs.Changing.{are_spliced, as_tail, cuts, finished, remove_changes, removed}
use Rattle.key_document.proofs.Splicing.{at_splice}
use Rattle.key_document.proofs.edit.append_without_part.Goals as goal

pub returns-clause-answers : goal.returns-clause-answers
returns-clause-answers c = λ t r e.
    let names = map string_bytes c.args.names.now in
    let key = c.split_document.result.0.now in
    let is_key : key ≡ key_of t = c.split_document.ensures.key t r e in
    let slot = c.in-Some.slot in
    let s = subst (FindsSlot (λ change. changed_at change names t) key) c.in-Some.is (c.in_ok-slot.ensures.slot t r is_key) in
    let gone = removed names t key slot s c.if-not-slot.false in
    let x = remove_changes t gone.tree (λ change. changed_at change names t) key slot (at_splice names t r.proper) s gone.is in
    let front : c.front-before.result.now ≡ s.0.front = c.front-before.ensures s.0.front s.0.inside in
    let whole : c.front-before.result.now ++ slot.behind.now ≡ key_of gone.tree = ap (λ f. f ++ slot.behind.now) front ∙ sym gone.holds.0 in
    let done = appended c.splice.result c.args.out.now c.splice.new.out (c.front-before.result.now ++ slot.behind.now) (sym c.is_err.ensures.value ∙ c.if-is_err.false) c.splice.ensures ∙ ap (λ b. c.args.out.now.items ++ b) whole in
    let fit : length (key_of gone.tree) < 2 ^ 63 = omega (arith, ap length done, length-append c.args.out.now.items (key_of gone.tree), c.splice.new.out.ok.0, c.splice.new.out.ok.1, c.splice.new.out.small) in
    let none : 0 ≡ x.name = omega (arith, x.long, ap length gone.holds.0, length-append s.0.front slot.behind.now) in
    let a = are_spliced x c.split_document.result.1.now [] (length key) _ r.proper (c.split_document.ensures.zeros t r e) refl (ap length is_key) (ap length front) none refl refl (omega arith) fit in
    finished (without_part names t) gone.tree c.splice_tail.result c.args.out.now c.splice.new.out c.splice_tail.new.out _ gone.is gone.holds.1 done c.splice.ensures.capacity (as_tail x 0 none) (c.splice_tail.ensures.spliced x.first x.entry [] x.last a) c.splice_tail.ensures.answer

pub returns-clause-preserves : goal.returns-clause-preserves
returns-clause-preserves c =
    let done = appended c.splice.result c.args.out.now c.splice.new.out (c.front-before.result.now ++ c.in-Some.slot.behind.now) (sym c.is_err.ensures.value ∙ c.if-is_err.false) c.splice.ensures in
    cuts c.len-start.result c.splice_tail.result c.args.out.now c.splice.new.out c.splice_tail.new.out c.splice_tail.ensures.preserves c.len-start.ensures (record { more = _; extended = done }) c.splice.ensures.capacity
