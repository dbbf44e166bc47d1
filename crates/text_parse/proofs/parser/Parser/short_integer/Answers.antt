use Rattle.std.proofs.Common.{◌≡◌, true, Ok, drop, ap, subst, ◌∙◌, drop-drop, rules}
use Rattle.std.specs.Prelude.{slice_index}
use Rattle.text_scan.specs.Answer.{grammar_of}
use Rattle.jsonb_spec.specs.Parsing.Number.{is_number_start, standard_number_at}
use Rattle.jsonb_spec.specs.Parsing.Scalar.{number_at}
use Rattle.text_scan.specs.ShortInteger.{short_view}
use Rattle.text_parse.specs.Parser.{rest_of, size_of}
use Rattle.text_scan.proofs.Numbers.Standard.{number_sound}
use Rattle.text_parse.proofs.Scalars.Built.{number_at_once}
use Rattle.text_parse.proofs.parser.Parser.short_integer.Goals as goal

pub returns-clause-finds : goal.returns-clause-finds
returns-clause-finds c =
    record {
      parses =
          let p = c.args.self.now in
          let read = c.in_ok-read.read in
          let n = short_view read in
          let same = c.rest.ensures in
          number_at_once (size_of p) (grammar_of p.grammar) (rest_of p) n _ (subst (λ bs. is_number_start (slice_index bs 0) ≡ true) same c.in_ok-read.ensures.first)
          (ap (λ m. number_at (size_of p) m (rest_of p)) c.requires.standard ∙ subst (λ bs. standard_number_at (size_of p) bs ≡ Ok (n, drop read.end bs)) same (c.in_ok-read.ensures.found (size_of p)) ∙ ap (λ r. Ok (n, r)) (drop-drop read.end p.offset p.buf.now));
      stays = search rules;
      advances = search rules;
    }

pub returns-clause-encoded : goal.returns-clause-encoded
returns-clause-encoded c =
    let p = c.args.self.now in
    let read = c.in_ok-read.read in
    let n = short_view read in
    let sound = number_sound (size_of p) (rest_of p) n _
    (subst (λ bs. standard_number_at (size_of p) bs ≡ Ok (n, drop read.end bs)) c.rest.ensures (c.in_ok-read.ensures.found (size_of p)) ∙ ap (λ r. Ok (n, r)) (drop-drop read.end p.offset p.buf.now)) in
    (sound.core, sound.joined, sound.number)
