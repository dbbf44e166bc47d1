use Rattle.std.proofs.Common.{◌≡◌, ◌++◌, ◌∷◌, [], List, ℕ, sym, ap, subst, ◌∙◌}
use Rattle.std.proofs.lemmas.List.{append-nil}
use Rattle.std.specs.List.{flat_map}
use Rattle.jsonb_spec.specs.Text.StringText.{byte_text}
use Rattle.text_scan.specs.Answer.{mode_of}
use Rattle.jsonb_spec.specs.Parsing.Decoding.{AreContents}
use Rattle.jsonb_spec.specs.Parsing.Contents.{decoded_text}
use Rattle.text_write.specs.Contents.{text_of_contents}
use Rattle.text_write.specs.Written.{bytes_of}
use Rattle.text_write.proofs.JsonStrings.{quoted_bytes}
use Rattle.text_members.proofs.Outcomes.{on_ok}
use Rattle.text_write.proofs.written.Written.append_escaped.Goals as goal

pub returns-clause-bytes : goal.returns-clause-bytes
returns-clause-bytes c =
    on_ok c.put-2.result c.put-2.ensures.bytes (λ last.
    let flushed = c.in_ok-flush.ensures in
    let out : List ℕ = c.append_contents.new.out.items in
    let front : c.try_reserve.new.self.items ≡ bytes_of c.args.self.now ++ 34 ∷ [] = c.in_ok-try_reserve.ensures.items ∙ sym flushed.copied ∙ flushed.bytes ∙ c.in_ok-put.ensures.bytes in
    let contents = c.args.contents.now in
    let mode = mode_of contents.mode in
    let meant =
    subst (λ (u : List ℕ). AreContents mode u → out ≡ c.try_reserve.new.self.items ++ flat_map byte_text (decoded_text mode u)) c.as_bytes.ensures.value c.in_ok-append_contents.ensures.bytes contents.checked in
    let there : bytes_of c.go_on.new.self ≡ out = c.go_on.ensures.bytes ∙ ap (λ (u : List ℕ). out ++ u) flushed.empty ∙ append-nil out in
    quoted_bytes (bytes_of c.args.self.now) c.try_reserve.new.self.items out (bytes_of c.put-2.new.self) (flat_map byte_text (text_of_contents c.args.contents.now)) front meant
    (last ∙ ap (λ (u : List ℕ). u ++ 34 ∷ []) there))
