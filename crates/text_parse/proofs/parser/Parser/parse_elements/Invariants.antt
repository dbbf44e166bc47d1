use Rattle.std.proofs.Common.{◌≡◌, ℕ, ◌-◌, false, List, ◌∷◌}
use Rattle.text_parse.specs.declared.parser.frame.Frame.{Frame}
use Rattle.text_parse.specs.declared.parser.frame.Frame.TheVariants as variants
use Rattle.text_scan.specs.Answer.{grammar_of}
use Rattle.text_parse.specs.Parser.{Advances, rest_of, size_of}
use Rattle.jsonb_spec.specs.Source.Open.{Open, elements_so_far}
use Rattle.jsonb_spec.specs.Source.{Source}
use Rattle.text_parse.specs.Stack.{elements_from, next_part_at}
use Rattle.text_parse.specs.Slots.{IsArray}
use Rattle.text_parse.proofs.parser.Parser.parse_elements.Given as goal

-- what is parsed of the elements is what is left to parse after those so far
abbrev pub invariant-elements : goal.invariant-elements
invariant-elements g l =
    let p = l.fn.self in
    let h = g.V.Handler in record {
      advances : Advances p l.self;
      base : h.base l.sink ≡ h.base l.fn.sink;
      parses : (depth : ℕ) (c : Open) (fs : List (Frame g.row.V-Items.Denot g.row.V-Members.Denot g.row.V-Key.Denot)) (cs : List Open) → IsArray c → h.holds p.buf.now l.fn.sink false (variants.Array l.fn.items ∷ fs) (c ∷ cs) → (ss : List Source) × h.holds p.buf.now l.sink false (variants.Array l.items ∷ fs) (elements_so_far ss ∷ cs) × (next_part_at (size_of p) (grammar_of p.grammar) depth c (rest_of p) ≡ elements_from (size_of p) (grammar_of p.grammar) depth ss (rest_of l.self));
    }

abbrev pub decreases-elements : goal.decreases-elements
decreases-elements g l = size_of l.self - l.self.offset
