use Rattle.std.proofs.Common.{◌≡◌, ◌+◌, ◌≤◌, IfSome, MatchOption, ap, arith, subst, sym, ◌∙◌}
use Rattle.key_document.specs.Cursor.{IsLeftBehind}
use Rattle.jsonb_spec.specs.SortKey.{key_of}
use Rattle.jsonb_c.specs.KeyParts.{IsNextPart, OccursBefore}
use Rattle.jsonb_c.specs.declared.key.Cursor.{Cursor}
use Rattle.jsonb_c.specs.declared.key.Entry.{Entry}
use Rattle.jsonb_c.proofs.DocumentCursor.{next_there, none_left, only_memory, out_of_memory}
use Rattle.jsonb_c.proofs.document_cursor.append_next.Goals as goal

pub returns-in_err-entry-clause-errors : goal.returns-in_err-entry-clause-errors
returns-in_err-entry-clause-errors c = λ t d left b.
    let s = subst (λ k. OccursBefore k c.args.cursor.parts left) (sym (c.split_document.ensures.key t d.readable d.is_document)) b.parts in
    absurd (c.in_err-entry.ensures.next left s)

pub returns-in_default-clause-next : goal.returns-in_default-clause-next
returns-in_default-clause-next c = λ t d left b.
    let key = c.split_document.result.0.now in
    let s = subst (λ k. OccursBefore k c.args.cursor.parts left) (sym (c.split_document.ensures.key t d.readable d.is_document)) b.parts in
    let none = subst (λ answer. MatchOption answer ((entry : Entry) → (behind : Cursor) → IsNextPart key left 5 entry behind) (λ reported. IsNextPart key left 0 reported.0 reported.1)) c.in_default.is (c.in_ok-entry.ensures.next left s) in
    let entry : Entry = record { name_offset = 0; name_size = 0; offset = 0; size = 0 } in
    none_left key left entry c.args.cursor.parts (none entry c.args.cursor.parts)

pub returns-in_err-left-clause-errors : goal.returns-in_err-left-clause-errors
returns-in_err-left-clause-errors c = λ t d left b.
    let key = c.split_document.result.0.now in
    let is_key : key ≡ key_of t = c.split_document.ensures.key t d.readable d.is_document in
    let s = subst (λ k. OccursBefore k c.args.cursor.parts left) (sym is_key) b.parts in
    let entry = c.in-Some.entry in
    let parts = c.in-Some.parts in
    let near = subst (λ answer. MatchOption answer ((entry : Entry) → (behind : Cursor) → IsNextPart key left 5 entry behind) (λ reported. IsNextPart key left 0 reported.0 reported.1)) c.in-Some.is (c.in_ok-entry.ensures.next left s) in
    let n = subst (λ k. IsNextPart k left 0 entry parts) is_key near in
    let joined : entry.offset + entry.size ≡ parts.offset = subst (λ answer. IfSome answer (λ reported. reported.0.offset + reported.0.size ≡ reported.1.offset)) c.in-Some.is c.in_ok-entry.ensures.joined in
    let x = next_there t left c.args.cursor entry parts d.readable.proper b n joined in
    let z = subst (IsLeftBehind t) (sym c.left_of.ensures) b.zeros in
    let after : c.left_of.result.passed ≤ entry.offset = omega (arith, x.after, ap (λ l. l.passed) c.left_of.ensures) in
    let lacks = c.in_err-left.ensures.part t d.readable d.is_document z after x.part x.readable x.at x.size_is in
    out_of_memory c.from_residual-in_err-left.result c.in_err-left.field-0.0 c.from_residual-in_err-left.ensures.1 (only_memory x.part c.args.out.now c.in_err-left.field-0.0 x.readable.within lacks.errors)

pub returns-clause-next : goal.returns-clause-next
returns-clause-next c = λ t d left b.
    let key = c.split_document.result.0.now in
    let is_key : key ≡ key_of t = c.split_document.ensures.key t d.readable d.is_document in
    let s = subst (λ k. OccursBefore k c.args.cursor.parts left) (sym is_key) b.parts in
    let entry = c.in-Some.entry in
    let parts = c.in-Some.parts in
    let near = subst (λ answer. MatchOption answer ((entry : Entry) → (behind : Cursor) → IsNextPart key left 5 entry behind) (λ reported. IsNextPart key left 0 reported.0 reported.1)) c.in-Some.is (c.in_ok-entry.ensures.next left s) in
    let n = subst (λ k. IsNextPart k left 0 entry parts) is_key near in
    let joined : entry.offset + entry.size ≡ parts.offset = subst (λ answer. IfSome answer (λ reported. reported.0.offset + reported.0.size ≡ reported.1.offset)) c.in-Some.is c.in_ok-entry.ensures.joined in
    let x = next_there t left c.args.cursor entry parts d.readable.proper b n joined in
    let z = subst (IsLeftBehind t) (sym c.left_of.ensures) b.zeros in
    let after : c.left_of.result.passed ≤ entry.offset = omega (arith, x.after, ap (λ l. l.passed) c.left_of.ensures) in
    let part = c.in_ok-left.ensures.part t d.readable d.is_document z after x.part x.readable x.at x.size_is in
    let next = c.in_ok-left.ensures.left t d.readable d.is_document z after x.part x.readable x.at x.size_is in
    let held = c.cursor_at.ensures.left (sym joined ∙ sym next.0) in (
      x.part,
      x.readable,
      x.first,
      part.ok,
      subst (λ p. IsNextPart (key_of t) left 0 entry p) (sym c.cursor_at.ensures.parts) n,
      x.behind c.cursor_at.result c.cursor_at.ensures.parts (subst (IsLeftBehind t) (sym held) next.1),
    )
