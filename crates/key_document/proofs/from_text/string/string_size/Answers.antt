use Rattle.std.proofs.Common.{take, refl, ◌∷◌, ap, ◌∙◌, arith}
use Rattle.std.proofs.lemmas.List.{length-take-le}
use Rattle.key_document.specs.FromText.{is_name}
use Rattle.key_document.proofs.Items.{plain_long, plain_string, split_is}
use Rattle.key_document.proofs.from_text.string.string_size.Goals as goal

pub returns-then-last-eq34-clause-found : goal.returns-then-last-eq34-clause-found
returns-then-last-eq34-clause-found c = λ text more e. (
  omega (arith, c.frame_size.ensures.exact, length-take-le c.plain_len-size.result c.args.bytes.now c.plain_len-size.ensures.within, plain_long c.args.bytes.now (take c.plain_len-size.result c.args.bytes.now) c.split_at.result.1.now c.in-Some.behind.now text more (is_name c.in-Some.behind.now) refl (split_is c.plain_len-size.result c.args.bytes.now (take c.plain_len-size.result c.args.bytes.now) c.split_at.result.1.now refl c.split_at.ensures.back) c.plain_len-size.ensures.plain (c.in-Some.ensures.cases.0 ∙ ap (λ b. b ∷ c.in-Some.behind.now) c.if-last-eq34.true) e),
  (plain_string c.args.bytes.now (take c.plain_len-size.result c.args.bytes.now) c.split_at.result.1.now c.in-Some.behind.now text more (split_is c.plain_len-size.result c.args.bytes.now (take c.plain_len-size.result c.args.bytes.now) c.split_at.result.1.now refl c.split_at.ensures.back) c.plain_len-size.ensures.plain (c.in-Some.ensures.cases.0 ∙ ap (λ b. b ∷ c.in-Some.behind.now) c.if-last-eq34.true) e).0,
)
