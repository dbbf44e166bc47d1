use Rattle.std.proofs.Common.{◌≡◌, ◌+◌, ◌++◌, ◌∷◌, [], List, ℕ, ap, sym, subst, take, drop, ◌∙◌}
use Rattle.std.specs.List.{flat_map}
use Rattle.std.proofs.lemmas.List.{append-nil, take_rest}
use Rattle.jsonb_spec.specs.Text.StringText.{byte_text}
use Rattle.jsonb_spec.specs.Text.JsonString.{IsJsonBody}
use Rattle.jsonb_spec.specs.Text.SourceText.{source_text}
use Rattle.text_write.specs.Written.{bytes_of}
use Rattle.text_members.proofs.Outcomes.{on_ok}
use Rattle.text_write.proofs.JsonStrings.{body_at, quoted_bytes}
use Rattle.text_write.proofs.written.Written.append_json_string.Goals as goal

pub returns-in_default-clause-bytes : goal.returns-in_default-clause-bytes
returns-in_default-clause-bytes c = λ s at. absurd (c.in_default.ensures.none s at)

pub returns-clause-bytes : goal.returns-clause-bytes
returns-clause-bytes c =
    on_ok c.put.result c.put.ensures.bytes (λ last s at.
    let w = c.args.self.now in
    let text = w.text.now in
    let found = c.in-Some.ensures.some in
    let flushed = c.in_ok-flush.ensures in
    let out : List ℕ = c.append_body.new.out.items in
    let short = body_at text s c.args.from c.args.to c.in-Some.count found.0 found.1 at in
    let same = ap (λ t. t.now) (flushed.text ∙ c.in_ok-put_at.ensures.text) in
    let body = take_rest c.flush.new.self.text.now (c.args.from + 1) ∙ ap (drop (c.args.from + 1)) same in
    let meant = c.in_ok-append_body.ensures.bytes at.meaning (subst (λ xs. IsJsonBody (take c.in-Some.count xs) at.meaning) (sym body) short) in
    let front : c.try_reserve.new.self.items ≡ bytes_of w ++ 34 ∷ [] = c.in_ok-try_reserve.ensures.items ∙ sym flushed.copied ∙ flushed.bytes ∙ c.in_ok-put_at.ensures.bytes in
    let there : bytes_of c.go_on.new.self ≡ out = c.go_on.ensures.bytes ∙ ap (λ (u : List ℕ). out ++ u) flushed.empty ∙ append-nil out in
    quoted_bytes (bytes_of w) c.try_reserve.new.self.items out (bytes_of c.put.new.self) (flat_map byte_text at.meaning) front meant (last ∙ ap (λ (u : List ℕ). u ++ 34 ∷ []) there)
    ∙ ap (λ xs. bytes_of w ++ xs) (sym (ap source_text at.is)))
