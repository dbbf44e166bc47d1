use Rattle.std.proofs.Common.{map, string_bytes, ap, subst, ◌∙◌, ◌++◌, List, ℕ}
use Rattle.jsonb_spec.specs.Path.{IsPath, encoded_keys}
use Rattle.text_scan.specs.Answer.{grammar_of}
use Rattle.text_parse.proofs.Steps.Failures.{stops_if}
use Rattle.jsonb_spec.specs.Path.ErrorPath.{IsErrorPath}
use Rattle.jsonb_path.proofs.Encoding.{texts_of}
use Rattle.error_path.proofs.path.error_path.Goals as goal

pub returns : goal.returns
returns c =
    let mode = grammar_of c.args.grammar in
    let keys = map string_bytes c.in_ok-place.place.keys.items in
    let wrong = stops_if _ _ _ c.if-not-branch.false c.in_ok-is_error_path.ensures in
    let is_path : IsPath c.append_path.new.path.items keys =
    record {
      texts = texts_of c.in_ok-place.place.keys.items;
      encoded = c.in_ok-append_path.ensures ∙ ap (λ bs. bs ++ encoded_keys (map string_bytes c.deref.result.now)) c.new-path.ensures.items ∙ ap (λ ks. encoded_keys (map string_bytes ks)) c.deref.ensures.value;
    } in
    record { path = (keys, is_path); leads = (keys, is_path, subst (λ (text : List ℕ). IsErrorPath mode text keys) c.text_upto-text.ensures wrong) }
