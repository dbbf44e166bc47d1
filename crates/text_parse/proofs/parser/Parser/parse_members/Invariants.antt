use Rattle.std.proofs.Common.{◌≡◌, ℕ, ◌-◌, false, List, ◌∷◌}
use Rattle.text_parse.specs.Slots.{IsObject}
use Rattle.text_parse.specs.declared.parser.frame.Frame.{Frame}
use Rattle.text_parse.specs.declared.parser.frame.Frame.TheVariants as variants
use Rattle.jsonb_spec.specs.Tree.{Mark}
use Rattle.text_scan.specs.Answer.{grammar_of}
use Rattle.text_parse.specs.Parser.{Advances, rest_of, size_of}
use Rattle.jsonb_spec.specs.Source.Open.{Open, members_so_far}
use Rattle.jsonb_spec.specs.Source.{Found}
use Rattle.text_parse.specs.Stack.{next_part_at, object_members_from}
use Rattle.text_parse.proofs.parser.Parser.parse_members.Given as goal

-- what is parsed of the members is what is left to parse after those so far
abbrev pub invariant-members : goal.invariant-members
invariant-members g l =
    let p = l.fn.self in
    let h = g.V.Handler in record {
      advances : Advances p l.self;
      base : h.base l.sink ≡ h.base l.fn.sink;
      parses : (depth : ℕ) (c : Open) (fs : List (Frame g.row.V-Items.Denot g.row.V-Members.Denot g.row.V-Key.Denot)) (cs : List Open) → IsObject c → h.holds p.buf.now l.fn.sink false (variants.Object l.fn.object ∷ fs) (c ∷ cs) → (ms : List Found) × (k : Mark × List ℕ) × (offset : ℕ) × h.holds p.buf.now l.sink false (variants.Object l.object ∷ fs) (members_so_far ms k offset ∷ cs) × (next_part_at (size_of p) (grammar_of p.grammar) depth c (rest_of p) ≡ object_members_from (size_of p) (grammar_of p.grammar) depth ms (rest_of l.self));
    }

abbrev pub decreases-members : goal.decreases-members
decreases-members g l = size_of l.self - l.self.offset
