-- A scalar that is in the text, as the sink for serialized text asks for it.
use Rattle.std.proofs.Common.{ℕ, true, false, List, subst}
use Rattle.std.specs.declared.borrow.CowStr.TheVariants.{Borrowed, Owned}
use Rattle.jsonb_spec.specs.Source.{Source}
use Rattle.jsonb_spec.specs.Text.Encoded as scan
use Rattle.text_write.specs.TextSink.{IsEncoded, SeesPart}
use Rattle.text_write.specs.declared.text.Part.{Part}
use Rattle.text_write.specs.declared.text.Part.TheVariants as part

pub encoded_part : (text : List ℕ) (from to : ℕ) (p : Part) (s : Source) → SeesPart p s → scan.IsEncodedAt text from to s → IsEncoded text from to p
encoded_part text from to part.Null s sees h = subst (λ u. scan.IsEncodedAt text from to u) sees h
encoded_part text from to (part.Bool true) s sees h = subst (λ u. scan.IsEncodedAt text from to u) sees h
encoded_part text from to (part.Bool false) s sees h = subst (λ u. scan.IsEncodedAt text from to u) sees h
encoded_part text from to (part.Number n) s sees h = subst (λ u. scan.IsEncodedAt text from to u) sees h
encoded_part text from to (part.Plain t) s sees h = λ some. (subst (λ u. scan.IsEncodedAt text from to u) sees.0 h some, sees.1)
encoded_part text from to (part.String (Borrowed t)) s sees h = subst (λ u. scan.IsEncodedAt text from to u) sees h
encoded_part text from to (part.String (Owned t)) s sees h = λ some. tt
encoded_part text from to (part.Contents c) s sees h = λ some. tt
encoded_part text from to part.Written s sees h = absurd sees
