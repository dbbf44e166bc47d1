use Rattle.std.proofs.Common.{◌≡◌, ◌≤◌, [], ◌∷◌, IfSome, Ok, ap, append-nil, arith, length, subst, sym, ◌∙◌}
use Rattle.key_walk.specs.Found.{Opens}
use Rattle.jsonb_spec.specs.SortKey.Open.{opening_byte}
use Rattle.key_document.specs.Cursor.{IsLeftBehind}
use Rattle.jsonb_spec.specs.SortKey.{key_of}
use Rattle.jsonb_c.specs.KeyParts.{IsBegun}
use Rattle.jsonb_c.proofs.DocumentCursor.{begun_before, no_parts}
use Rattle.jsonb_c.proofs.KeyParts.{begun}
use Rattle.jsonb_c.proofs.document_cursor.cursor_of.Goals as goal

pub returns-in_err-object : goal.returns-in_err-object
returns-in_err-object c = record {
  begun = λ t d. absurd (c.in_err-object.ensures.opens t d.readable [] (c.split_document.ensures.key t d.readable d.is_document ∙ sym (append-nil (key_of t))));
}

pub returns-in_default : goal.returns-in_default
returns-in_default c = record {
  begun = λ t d. no_parts t (subst (λ answer. Opens t [] (Ok answer)) c.in_default.is (c.in_ok-object.ensures.opens t d.readable [] (c.split_document.ensures.key t d.readable d.is_document ∙ sym (append-nil (key_of t)))));
}

pub returns : goal.returns
returns c = record {
  begun = λ t d.
      let key = c.split_document.result.0.now in
      let is_key : key ≡ key_of t = c.split_document.ensures.key t d.readable d.is_document in
      let l = subst (λ answer. Opens t [] (Ok answer)) c.in-Some.is (c.in_ok-object.ensures.opens t d.readable [] (is_key ∙ sym (append-nil (key_of t)))) in
      let first : key ≡ opening_byte c.in-Some.object ∷ c.in-Some.field-0-1.now = subst (λ answer. IfSome answer (λ parts. key ≡ opening_byte parts.0 ∷ parts.1.now)) c.in-Some.is c.in_ok-object.ensures.some in
      let one : 1 ≤ length (key_of t) = omega (arith, ap length first, ap length is_key) in
      let left = c.in_ok-left.ensures.left t d.readable d.is_document one in
      let b = begun key t c.in-Some.object c.in-Some.field-0-1.now c.kind_of_parts.result l first c.kind_of_parts.ensures in
      begun_before key t c.cursor_at.result is_key (subst (IsBegun key t 0) (sym c.cursor_at.ensures.parts) b) (ap (λ p. p.offset) c.cursor_at.ensures.parts)
      (subst (IsLeftBehind t) (sym (c.cursor_at.ensures.left (sym left.0))) left.1);
}
