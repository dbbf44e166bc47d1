use Rattle.std.proofs.Common.{◌≡◌, ◌++◌, ◌∷◌, [], List, ℕ, ap, refl, subst, ◌∙◌, append_assoc}
use Rattle.jsonb_spec.specs.SortKey.{text_key}
use Rattle.text_scan.specs.Answer.{mode_of}
use Rattle.jsonb_spec.specs.Parsing.Decoding.{AreContents}
use Rattle.jsonb_spec.specs.Parsing.Contents.{decoded_text}
use Rattle.text_members.proofs.Outcomes.{both_ok, on_ok}
use Rattle.text_write.specs.Contents.{text_of_contents}
use Rattle.text_write.proofs.Keys.KeySinks.{wrote}
use Rattle.text_write.proofs.key.KeySink.contents.Goals as goal

pub returns-clause-bytes : goal.returns-clause-bytes
returns-clause-bytes c =
    on_ok c.append_contents_key.result (both_ok _ _ c.append_contents_key.result c.append_contents_key.ensures.bytes c.append_contents_key.ensures.spare) (λ w.
    let old : List ℕ = c.args.self.now.out.items in
    let contents = c.args.contents.now in
    let mode = mode_of contents.mode in
    let front : List ℕ = c.extend_from_slice.new.self.items in
    let out : List ℕ = c.append_contents_key.new.out.items in
    let meant = subst (λ (u : List ℕ). AreContents mode u → out ≡ front ++ text_key (decoded_text mode u)) c.as_bytes.ensures.value w.0 contents.checked in
    wrote refl (record { text = refl; entries = refl; decoded = w.1 })
    (meant ∙ ap (λ xs. xs ++ text_key (text_of_contents contents)) c.in_ok-extend_from_slice.ensures.items ∙ append_assoc old (208 ∷ []) (text_key (text_of_contents contents))))
