use Rattle.std.proofs.Common.{◌++◌, ap, ◌∙◌}
use Rattle.jsonb_spec.specs.Document.{document_of}
use Rattle.jsonb_c.proofs.DocumentKeys.{key_is_document, returned_so}
use Rattle.jsonb_c.proofs.Documents.{text_of_tree}
use Rattle.jsonb_spec.specs.Interface.Document.{IsDocumentOfText}
use Rattle.jsonb_spec.specs.Interface.{IsKeyOf}
use Rattle.jsonb_c.proofs.document.document_of_text.Goals as goal

-- no number has zeros at its end
pub returns-then-not-may_end_in_zeros-clause-document : goal.returns-then-not-may_end_in_zeros-clause-document
returns-then-not-may_end_in_zeros-clause-document c =
    returned_so (λ bytes. IsKeyOf c.args.mode c.args.text.now bytes.items) (λ bytes. IsDocumentOfText c.args.mode c.args.text.now bytes.items)
    (λ bytes key. key_is_document c.args.mode c.args.text.now bytes.items (c.may_end_in_zeros.ensures c.if-not-may_end_in_zeros.true) key) c.sort_key_of.result c.sort_key_of.ensures.key

pub returns-in-Ok-clause-document : goal.returns-in-Ok-clause-document
returns-in-Ok-clause-document c =
    let x = c.in_ok-serialized.ensures.text in
    let form = text_of_tree c.args.mode c.args.text.now c.in_ok-serialized.serialized.items x in
    record {
      tree = x.tree;
      read = x.read;
      is_document = (c.in-Ok.ensures.document x.tree form.0 (c.deref.ensures.value ∙ form.1)).ok ∙ ap (λ l. l ++ document_of x.tree) c.new-bytes.ensures.items;
    }
