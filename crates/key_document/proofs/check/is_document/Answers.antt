use Rattle.std.proofs.Common.{◌∙◌, sym, true≢false}
use Rattle.key_document.proofs.Checked.{fits_there, found, key_is, readable, refused}
use Rattle.key_document.proofs.check.is_document.Goals as goal

pub returns-then-not-is_sort_key : goal.returns-then-not-is_sort_key
returns-then-not-is_sort_key c =
    refused (λ d. true≢false (sym (c.is_sort_key.ensures.1 (key_is c.args.document.now c.split_document.result.0.now c.split_document.result.1.now d c.split_document.ensures.key c.split_document.ensures.zeros)) ∙ c.if-not-is_sort_key.true))

pub returns : goal.returns
returns c =
    let key = c.split_document.result.0.now in
    let zeros = c.split_document.result.1.now in (
      λ yes. found c.args.document.now key zeros c.split_document.ensures.whole (c.is_sort_key.ensures.0 c.if-not-is_sort_key.false) (λ t r e. (c.zeros_fit.ensures t r e).0 yes),
      λ d.
          let r = readable c.args.document.now key zeros d c.split_document.ensures.key c.split_document.ensures.zeros in
          (c.zeros_fit.ensures d.value r (c.split_document.ensures.key d.value r d.is_document)).1 (fits_there c.args.document.now key zeros d c.split_document.ensures.key c.split_document.ensures.zeros),
    )
