use Rattle.jsonb_spec.specs.Tree.{Mark}
use Rattle.std.proofs.Common.{ℕ, List, ◌∷◌, Ok, ap, subst, sym, ◌∙◌, rules}
use Rattle.text_scan.specs.Answer.{grammar_of}
use Rattle.jsonb_spec.specs.Parsing.String.{string_at}
use Rattle.text_parse.specs.Handler.{AsKey, Begins, Builds}
use Rattle.text_parse.specs.Parser.{Advances, rest_of, size_of}
use Rattle.jsonb_spec.specs.Text.Encoded.{KeyHoldsAt}
use Rattle.text_parse.specs.Scalars.{IsKeyAt, text_view}
use Rattle.text_parse.proofs.Scalars.Built.{cut_key, cut_view, key_begun, key_retained, key_same, key_holds}
use Rattle.text_parse.proofs.Steps.Advancing.{goes_on}
use Rattle.text_parse.proofs.Steps.Outcomes.{key_quoted, same_size}
use Rattle.text_parse.proofs.parser.Parser.parse_member_key.Goals as goal

pub returns-in-Some : goal.returns-in-Some
returns-in-Some g c =
    record {
      parses =
          let p = c.args.self.now in
          let q = c.take_after_whitespace.new.self in
          let r = c.cut_string.new.self in
          let on = c.take_after_whitespace.ensures.advances in
          let all = goes_on p q r on c.cut_string.ensures.cuts.advances in
          let cut = c.in-Some in
          let k = text_view cut.cut in
          let holds : KeyHoldsAt p.buf.now k.1 q.offset r.offset = λ some. key_holds p q r k.1 some on c.cut_string.ensures.cuts.advances c.if-not-take_after_whitespace.ensures.behind cut.ensures.cuts.encoded in
          key_retained g.V.Handler.silent (Begins (g.V.Handler.holds p.buf.now) c.args.sink.now c.args.object.now c.key-key.new.sink c.key-key.new.object) c.key-key.result c.or_out_of_memory.result (size_of p) r c.or_out_of_memory.new.self k _ (sym (same_size p r all))
          (key_begun (λ bytes. IsKeyAt bytes cut.cut q.offset r.offset) (λ bytes key. Begins (g.V.Handler.holds bytes) c.args.sink.now c.args.object.now c.key-key.new.sink c.key-key.new.object key k r.offset) c.key-key.result c.key-key.ensures.begun p.buf.now (cut_key p.buf.now cut.cut q.offset r.offset cut.ensures.cut holds)) c.or_out_of_memory.ensures.same c.or_out_of_memory.ensures.memory
          (key_quoted p q on c.if-not-take_after_whitespace.ensures.rest ∙ cut.ensures.cuts.parses ∙ ap (λ x. Ok (x, rest_of r)) (cut_view cut.cut cut.ensures.cut));
      advances = search rules;
    }

pub returns : goal.returns
returns g c =
    record {
      parses =
          let p = c.args.self.now in
          let q = c.cut_string.new.self in
          let stays = sym c.in_default.ensures.cuts.stays in
          let on = subst (Advances p) stays c.take_after_whitespace.ensures.advances in
          let names : List ℕ → g.row.V-Key.Denot → Mark × List ℕ → ℕ → Type 0 = λ text. Begins (g.V.Handler.holds text) c.args.sink.now c.args.object.now c.escaped_key.new.sink c.escaped_key.new.object in
          key_same g.V.Handler.silent c.escaped_key.new.self.reported (names p.buf.now) c.escaped_key.result (size_of q) (size_of p) _ _ (rest_of c.escaped_key.new.self) (sym (same_size p q on)) (key_quoted p q on (c.if-not-take_after_whitespace.ensures.rest ∙ ap (λ s. 34 ∷ rest_of s) stays))
          (subst (λ b. Builds g.V.Handler.silent c.escaped_key.new.self.reported (AsKey (names b.now) (size_of q) (rest_of c.escaped_key.new.self)) c.escaped_key.result (string_at (size_of q) (grammar_of q.grammar) 34 (rest_of q)) (rest_of c.escaped_key.new.self)) on.buf c.escaped_key.ensures.parses);
      advances = search rules;
    }
