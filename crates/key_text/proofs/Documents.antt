-- The text of a checked key is an extended document of a value with that key.
use Rattle.std.proofs.Common.{◌≡◌, ℕ, ◌^◌, ◌/◌, List, ◌++◌, unsigned_abs, sym, ◌∙◌, arith}
use Rattle.std.specs.Int.{is_negative}
use Rattle.jsonb_spec.specs.SortKey.Checked.{IsSortKey}
use Rattle.jsonb_spec.specs.Grammar.{max_depth}
use Rattle.jsonb_spec.specs.Mode.{extended}
use Rattle.jsonb_spec.specs.Proper.{IsProper}
use Rattle.jsonb_spec.specs.Text.Range.{HasFewDigits, IsWithin}
use Rattle.jsonb_spec.specs.Tree.{Num}
use Rattle.jsonb_core.proofs.Numbers.Nearest.{unsigned_abs-signed}
use Rattle.jsonb_core.proofs.SortKeys.Trees.{keys_same}
use Rattle.jsonb_core.proofs.Trees.RangeTexts.{text_in_range, range_reads_back, document_in_range}
use Rattle.jsonb_spec.specs.SortKey.FewestDigits.{spare_zeros, fewest_digits, with_fewest_digits, AppendsDocumentWithKey}
use Rattle.jsonb_spec.specs.SortKey.Text.{value_text}
use Rattle.key_text.proofs.Spares.{divided_less}
use Rattle.key_text.proofs.Whole.{key_retained, proper_retained, within_retained}

few_retained : (n : Num) → HasFewDigits n → HasFewDigits (fewest_digits n)
few_retained n few =
    let z = spare_zeros n.scale (unsigned_abs n.whole) in
    let q = unsigned_abs n.whole / 10 ^ z in
    (omega (arith, few.0), omega (arith, few.1, divided_less (unsigned_abs n.whole) (10 ^ z), unsigned_abs-signed (is_negative n.whole) q))

pub document_appended : (key old new : List ℕ) (k : IsSortKey key) → new ≡ old ++ value_text k.value → AppendsDocumentWithKey key old new
document_appended key old new k e =
    let t = with_fewest_digits k.value in
    let proper : IsProper t = proper_retained HasFewDigits k.value max_depth k.proper k.in_range in
    let within : IsWithin HasFewDigits t max_depth = within_retained HasFewDigits HasFewDigits few_retained k.value max_depth k.in_range in
    let back = range_reads_back extended t proper within (value_text k.value) (text_in_range HasFewDigits t within) in
    record {
      text = value_text k.value;
      appended = e;
      document = record {
        value = back.tree;
        document = back.document;
        is_key = (keys_same back.tree t (document_in_range extended (value_text k.value) back.tree back.document).1 proper).1 back.same ∙ key_retained k.value k.proper ∙ sym k.is_key;
      };
    }
