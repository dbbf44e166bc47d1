use Rattle.std.proofs.Common.{◌≡◌, ◌++◌, Ok, inl, subst}
use Rattle.jsonb_spec.specs.Tree.{boolean, null}
use Rattle.text_parse.specs.Literals.{literal_text, literal_tree}
use Rattle.text_parse.specs.Parser.{parse_at, rest_of}
use Rattle.text_parse.specs.declared.parser.scalar.Literal.TheVariants.{Bool}
use Rattle.jsonb_spec.specs.Parsing.Scalar.{scalar_at}
use Rattle.text_parse.proofs.Scalars.Built.{between, literal_encoded, put_so, puts_on, scalar_still}
use Rattle.text_parse.proofs.parser.Parser.put_word.Goals as goal

pub returns-in-None : goal.returns-in-None
returns-in-None g c = puts_on g.V.Handler c.short_literal.ensures.finds.advances (scalar_still c.args.self.now c.short_literal.new.self c.in-None.ensures.finds.stays) c.put_other_scalar.ensures

pub returns-in-Some-Null : goal.returns-in-Some-Null
returns-in-Some-Null g c =
    let p = c.args.self.now in
    let q = c.short_literal.new.self in
    let on = c.short_literal.ensures.finds.advances in
    put_so g.V.Handler on null c.put.ensures
    (inl (c.scalar-null.ensures, λ some. between p q _ on (subst (λ l. rest_of p ≡ literal_text l ++ rest_of q) c.in-Some-Null.field-0-is c.in-Some-Null.ensures.encoded)))
    (subst (λ l. parse_at scalar_at p ≡ Ok (literal_tree l, rest_of q)) c.in-Some-Null.field-0-is c.in-Some-Null.ensures.finds.parses)

pub returns-in-Some-Bool : goal.returns-in-Some-Bool
returns-in-Some-Bool g c =
    let p = c.args.self.now in
    let q = c.short_literal.new.self in
    let on = c.short_literal.ensures.finds.advances in
    put_so g.V.Handler on (boolean c.in-Some-Bool.value) c.put-in-Some-Bool.ensures
    (inl (c.scalar-boolean.ensures, λ some. literal_encoded (Bool c.in-Some-Bool.value) _ (between p q _ on (subst (λ l. rest_of p ≡ literal_text l ++ rest_of q) c.in-Some-Bool.field-0-is c.in-Some-Bool.ensures.encoded))))
    (subst (λ l. parse_at scalar_at p ≡ Ok (literal_tree l, rest_of q)) c.in-Some-Bool.field-0-is c.in-Some-Bool.ensures.finds.parses)
