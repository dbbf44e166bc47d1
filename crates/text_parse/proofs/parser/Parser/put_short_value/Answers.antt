use Rattle.std.proofs.Common.{◌≡◌, Bool, cond, ap, inl, subst, sym, ◌∙◌}
use Rattle.text_scan.specs.ShortInteger.{short_view}
use Rattle.jsonb_spec.specs.Source.{number_source}
use Rattle.jsonb_core.specs.View.{number_view}
use Rattle.jsonb_spec.specs.Tree.{number}
use Rattle.text_parse.proofs.Scalars.Built.{integer_holds, negative_of, positive_of, put_so, puts_on, scalar_still}
use Rattle.text_parse.proofs.Steps.Advancing.{stays_on}
use Rattle.text_parse.proofs.Grammars.{integers_alone}
use Rattle.text_scan.specs.Answer.{grammar_of}
use Rattle.text_parse.proofs.parser.Parser.put_short_value.Goals as goal
use Rattle.text_parse.proofs.parser.Parser.put_short_value.Goals.{then-not-matches+else-takes_decimals+in_default-short_integer, else-not-matches}

pub returns : goal.returns
returns g c =
    let p = c.if-not-matches.self in
    let stays : p ≡ c.args.self.now = elim c.if-not-matches.branch [
      | then-not-matches+else-takes_decimals+in_default-short_integer w ↦ w.self-is ∙ w.in_default-short_integer.ensures.finds.stays
      | else-not-matches w ↦ w.self-is
    ] in
    puts_on g.V.Handler (stays_on c.args.self.now p stays) (scalar_still c.args.self.now p stays) c.put_word.ensures

pub returns-then-read : goal.returns-then-read
returns-then-read g c =
    let h = g.V.Handler in
    let read = c.in-Some.read in
    let n = short_view read in
    let same : n ≡ number_view c.negative_number.result = ap (λ (b : Bool). cond b (negative_of read) (positive_of read)) c.if-read.true ∙ sym c.negative_number.ensures in
    let on = c.short_integer.ensures.finds.advances in
    put_so h on (number n) c.put.ensures
    (inl (subst (λ m. h.sees c.scalar.result (number_source m)) (sym same) c.scalar.ensures, integer_holds c.args.self.now c.short_integer.new.self n on c.in-Some.ensures.encoded)) c.in-Some.ensures.finds.parses

pub returns-in-Some : goal.returns-in-Some
returns-in-Some g c =
    let h = g.V.Handler in
    let read = c.in-Some.read in
    let n = short_view read in
    let same : n ≡ positive_of read = ap (λ (b : Bool). cond b (negative_of read) (positive_of read)) c.if-read.false in
    let on = c.short_integer.ensures.finds.advances in
    put_so h on (number n) c.put-in-Some.ensures
    (inl (subst (λ m. h.sees c.scalar-in-Some.result (number_source m)) (sym same) c.scalar-in-Some.ensures, integer_holds c.args.self.now c.short_integer.new.self n on c.in-Some.ensures.encoded)) c.in-Some.ensures.finds.parses

pub short_integer-requires : goal.short_integer-requires
short_integer-requires g c = record { standard = integers_alone (grammar_of c.args.self.now.grammar) (sym c.takes_decimals.ensures ∙ c.if-takes_decimals.false) }
