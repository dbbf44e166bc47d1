use Rattle.std.proofs.Common.{◌+◌, ◌++◌, ◌∷◌, [], ap, sym, refl, subst, take, ◌∙◌, append_assoc}
use Rattle.std.proofs.lemmas.List.{take_rest}
use Rattle.jsonb_spec.specs.SortKey.{text_key}
use Rattle.jsonb_spec.specs.Text.JsonString.{IsJsonBody}
use Rattle.jsonb_spec.specs.SortKey.Joined.{source_key}
use Rattle.text_members.proofs.Outcomes.{both_ok, on_ok}
use Rattle.text_write.proofs.Keys.KeySinks.{wrote}
use Rattle.text_write.proofs.JsonStrings.{body_at}
use Rattle.text_write.proofs.key.KeySink.json_string.Goals as goal

pub returns-in_default-clause-bytes : goal.returns-in_default-clause-bytes
returns-in_default-clause-bytes c = λ s at. absurd (c.in_default.ensures.none s at)

pub returns-clause-bytes : goal.returns-clause-bytes
returns-clause-bytes c =
    on_ok c.append_body_key.result (both_ok _ _ c.append_body_key.result c.append_body_key.ensures.bytes c.append_body_key.ensures.spare) (λ w s at.
    let r = c.args.self.now in
    let text = r.members.text.now in
    let found = c.in-Some.ensures.some in
    let short = body_at text s c.args.from c.args.to c.in-Some.count found.0 found.1 at in
    let meant = w.0 at.meaning (subst (λ xs. IsJsonBody (take c.in-Some.count xs) at.meaning) (sym (take_rest text (c.args.from + 1))) short) in
    wrote refl (record { text = refl; entries = refl; decoded = w.1 })
    (meant ∙ ap (λ xs. xs ++ text_key at.meaning) (c.push_reserved.ensures.items ∙ ap (λ xs. xs ++ 208 ∷ []) c.in_ok-try_reserve.ensures.items) ∙ append_assoc r.out.items (208 ∷ []) (text_key at.meaning)
    ∙ ap (λ xs. r.out.items ++ xs) (sym (ap source_key at.is))))
