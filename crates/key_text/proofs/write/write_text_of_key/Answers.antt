use Rattle.std.proofs.Common.{◌∙◌, sym}
use Rattle.std.proofs.lemmas.Result.{IfErr-weaker, IfOk-weaker, on_err_weaker}
use Rattle.jsonb_spec.specs.Grammar.{max_depth}
use Rattle.jsonb_spec.specs.SortKey.FewestDigits.{with_fewest_digits}
use Rattle.key_text.proofs.Documents.{document_appended}
use Rattle.key_text.proofs.Whole.{appended, key_retained, no_counts, readable_retained}
use Rattle.key_walk.proofs.InRange.{key_readable}
use Rattle.key_text.proofs.write.write_text_of_key.Goals as goal

-- that of the value with the fewest digits, which has this key and no zeros
pub returns-clause-ok : goal.returns-clause-ok
returns-clause-ok c =
    IfOk-weaker c.write_text_with.result _ _ (λ x ok t r e.
    appended t c.args.buf.now.items c.write_text_with.new.buf.items r (ok (with_fewest_digits t) (readable_retained t r) (e ∙ sym (key_retained t r.proper)) (no_counts t max_depth r.within))) c.write_text_with.ensures.ok

pub returns-clause-document : goal.returns-clause-document
returns-clause-document c =
    IfOk-weaker c.write_text_with.result _ _ (λ x ok k.
    let r = key_readable c.args.key.now k in
    document_appended c.args.key.now c.args.buf.now.items c.write_text_with.new.buf.items k (ok (with_fewest_digits k.value) (readable_retained k.value r) (k.is_key ∙ sym (key_retained k.value r.proper)) (no_counts k.value max_depth r.within))) c.write_text_with.ensures.ok

pub returns-clause-invalid : goal.returns-clause-invalid
returns-clause-invalid c =
    IfErr-weaker c.write_text_with.result _ _ (λ x invalid is t r e.
    invalid is (with_fewest_digits t) (readable_retained t r) (e ∙ sym (key_retained t r.proper)) (no_counts t max_depth r.within)) c.write_text_with.ensures.invalid

pub returns-clause-full : goal.returns-clause-full
returns-clause-full c =
    on_err_weaker c.write_text_with.result (λ full t r e.
    full (with_fewest_digits t) (readable_retained t r) (e ∙ sym (key_retained t r.proper)) (no_counts t max_depth r.within)) c.write_text_with.ensures.full
