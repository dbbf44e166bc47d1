use Rattle.std.proofs.Common.{◌≡◌, inl, inr, [], length, append-nil, ap, arith, refl, rules, sym, ◌∙◌}
use Rattle.std.proofs.lemmas.List.{get_or-set_same}
use Rattle.jsonb_spec.specs.SortKey.{key_of}
use Rattle.jsonb_spec.specs.Document.Walk.{kind_mark}
use Rattle.key_document.proofs.Walks.{begun_opened, begun_scalar, opened_or_scalar, some_key, whole_counts}
use Rattle.key_document.proofs.walk.begin_walk.Goals as goal
use Rattle.key_value.proofs.Texts.{none_some, some_same}
use Rattle.jsonb_spec.specs.SortKey.Open.{is_object}
use Rattle.key_walk.specs.Parts.{kind_of_tree}
use Rattle.key_walk.proofs.Occurrence.{has_kind}

pub returns-in_default-clause-met : goal.returns-in_default-clause-met
returns-in_default-clause-met c = λ t r e.
    let is_key : c.split_document.result.0.now ≡ key_of t = c.split_document.ensures.key t r e in
    absurd (has_kind t r (c.in_default.ensures.kind t r [] (is_key ∙ sym (append-nil (key_of t)))))

pub returns-in-Some-opens-clause-met : goal.returns-in-Some-opens-clause-met
returns-in-Some-opens-clause-met c = λ t r e.
    let is_key : c.split_document.result.0.now ≡ key_of t = c.split_document.ensures.key t r e in
    let kind = c.in-Some.ensures.kind t r [] (is_key ∙ sym (append-nil (key_of t))) in
    let z = c.in_ok-walk.ensures.left t r e (omega arith) in
    let marks = c.args.walk.now.objects in
    let long : length marks ≡ 512 = search rules in
    elim (opened_or_scalar t r) [
      | inl x ↦ (
          let o = x.0 in
          let same = x.1 in
          let object = some_same c.in-Some-opens.object _ (c.in-Some-opens.ensures.opens o (kind ∙ ap (λ u. kind_of_tree u) same)) in
          begun_opened t o same x.2 _ kind refl refl refl refl _ refl refl
          (get_or-set_same marks 0 c.mark_of.result 0 (omega (arith, long)) ∙ c.mark_of.ensures ∙ ap kind_mark object) z.1 z.0
          )
      | inr scalar ↦ absurd (none_some c.in-Some-opens.object (sym (c.in-Some-opens.ensures.scalar t scalar kind)))
    ]

pub returns-in_err-zeros-clause-met : goal.returns-in_err-zeros-clause-met
returns-in_err-zeros-clause-met c = λ t r e.
    let is_key : c.split_document.result.0.now ≡ key_of t = c.split_document.ensures.key t r e in
    let kind = c.in-Some.ensures.kind t r [] (is_key ∙ sym (append-nil (key_of t))) in
    let z = c.in_ok-walk.ensures.left t r e (omega arith) in
    absurd (c.in_err-zeros.ensures.zeros t r e z.1 (omega (arith, z.0)) (some_key t r) t kind [] (whole_counts t))

pub returns-clause-met : goal.returns-clause-met
returns-clause-met c = λ t r e.
    let is_key : c.split_document.result.0.now ≡ key_of t = c.split_document.ensures.key t r e in
    let kind = c.in-Some.ensures.kind t r [] (is_key ∙ sym (append-nil (key_of t))) in
    let z = c.in_ok-walk.ensures.left t r e (omega arith) in
    let x = c.in_ok-zeros.ensures.zeros t r e z.1 (omega (arith, z.0)) (some_key t r) t kind [] (whole_counts t) in
    elim (opened_or_scalar t r) [
      | inl o ↦ absurd (none_some (is_object o.0) (c.in_default-opens.ensures.opens o.0 (kind ∙ ap (λ u. kind_of_tree u) o.1)))
      | inr scalar ↦ begun_scalar t r scalar _ kind refl refl (ap length is_key) x.0 _ (ap length is_key) refl x.1 (omega (arith, x.2))
    ]
