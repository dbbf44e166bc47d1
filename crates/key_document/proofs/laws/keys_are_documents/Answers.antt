use Rattle.key_document.proofs.FewestDigits.{fewest_document, item_fewest, member_fewest, merged_fewest, removed_fewest, same_depth, set_fewest}
use Rattle.key_document.proofs.laws.keys_are_documents.Goals as goal

pub returns : goal.returns
returns c = record {
  document = fewest_document;
  depth = same_depth;
  removed = λ names t. removed_fewest names t;
  set = λ names t part create. set_fewest names part create t;
  member = λ name t part. member_fewest name part t;
  item = λ t part. item_fewest part t;
  merged = merged_fewest;
}
