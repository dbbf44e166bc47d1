use Rattle.std.proofs.Common.{◌≡◌, ℕ, List, [], ◌∷◌, ◌++◌, false, refl, sym, ap, subst, ◌∙◌, rules}
use Rattle.std.proofs.lemmas.Result.{err_from_is_err_and}
use Rattle.text_parse.specs.Frames.{OpensContainer, resume_part, resume_value, scalar_or_null}
use Rattle.text_parse.specs.Slots.{IsArray}
use Rattle.text_parse.specs.declared.parser.frame.Frame.TheVariants as variants
use Rattle.jsonb_spec.specs.Code.Code.{expected_array_comma_or_end}
use Rattle.text_scan.specs.Answer.{grammar_of}
use Rattle.jsonb_spec.specs.Parsing.{◌>>=◌}
use Rattle.jsonb_spec.specs.Parsing.Whitespace.{skip_whitespace}
use Rattle.jsonb_spec.specs.Source.{Source, source_alone}
use Rattle.text_parse.specs.Parser.{parse_at, rest_of, size_of}
use Rattle.text_parse.specs.Stack.{elements_from, next_part_at, part_end}
use Rattle.text_parse.specs.declared.parser.frame.Frame.{Frame}
use Rattle.jsonb_spec.specs.Source.Open.{Open, elements_so_far, members_so_far}
use Rattle.text_parse.proofs.Containers.Frames.{after_element, element_stops, element_turn, same_end}
use Rattle.text_parse.proofs.Steps.Advancing.{goes_on, stays}
use Rattle.text_parse.proofs.Steps.Failures.{misses_same, misses_through, puts_if, stops_if, reports_always}
use Rattle.text_parse.proofs.parser.Parser.parse_elements.Goals as goal

pub returns-then-branch : goal.returns-then-branch
returns-then-branch g c =
    let n = c.in_ok-put_next.ensures in
    let s = n.start in
    let stop = stops_if _ _ _ c.if-branch.true n.element.puts in
    let p = c.args.self.now in
    let h = g.V.Handler in
    let text = p.buf.now in
    record {
      parses = λ depth o fs cs fits held.
          let i = c.elements.invariant in
          let so_far = i.parses depth o fs cs fits held in
          let here = elements_so_far so_far.0 in
          record {
            so_far = here;
            fits = tt;
            held = c.in-Ok.ensures.due text so_far.0 fs cs (subst (λ f. h.holds text c.put_next.new.sink false (f ∷ fs) (here ∷ cs)) (sym stop.same_frame) (subst (λ r. h.holds text r false (variants.Array c.elements.items ∷ fs) (here ∷ cs)) (sym stop.same_sink) so_far.1));
            parses = so_far.2 ∙ element_stops p c.elements.self s depth so_far.0 i.advances n.skips.advances n.skips.rest stop.is_there ∙ ap (λ q. resume_value (size_of p) (grammar_of p.grammar) depth false here (rest_of q)) (sym stop.stays);
          };
      onward = search rules;
      opens = subst (λ q. OpensContainer (rest_of q)) (sym stop.stays) stop.opens;
      advances = search rules;
    }

pub returns-in_err-put_next : goal.returns-in_err-put_next
returns-in_err-put_next g c =
    record {
      parses = λ depth o fs cs fits held.
          let p = c.args.self.now in
          let n = c.in_err-put_next.ensures in
          let s = n.start in
          let i = c.elements.invariant in
          let so_far = i.parses depth o fs cs fits held in
          let silent = g.V.Handler.silent in
          let t = c.put_next.new.self.reported in
          let residual = err_from_is_err_and c.from_residual.result c.from_residual.ensures.1 in
          rw (residual.1) (misses_same silent t (parse_at scalar_or_null s >>= after_element p depth so_far.0) (next_part_at (size_of p) (grammar_of p.grammar) depth o (rest_of p))
          (so_far.2 ∙ element_turn p c.elements.self s depth so_far.0 i.advances n.skips.advances n.skips.rest n.element.fails.0.0 n.element.fails.0.1)
          (misses_through silent t (parse_at scalar_or_null s) (after_element p depth so_far.0) n.element.fails.1));
      onward = search rules;
      opens = search rules;
      advances = search rules;
    }

pub returns-in_err-end_part : goal.returns-in_err-end_part
returns-in_err-end_part g c =
    record {
      parses = λ depth o fs cs fits held.
          let p = c.args.self.now in
          let l = c.elements.self in
          let n = c.in_ok-put_next.ensures in
          let s = n.start in
          let put = puts_if _ _ _ c.if-branch.false n.element.puts in
          let q = c.put_next.new.self in
          let i = c.elements.invariant in
          let so_far = i.parses depth o fs cs fits held in
          let silent = g.V.Handler.silent in
          let t = c.end_part.new.self.reported in
          let on = goes_on p l q i.advances c.put_next.ensures.advances.parser in
          let ends = part_end (size_of q) expected_array_comma_or_end 93 (skip_whitespace (grammar_of q.grammar) (rest_of q)) in
          let residual = err_from_is_err_and c.from_residual-in_err-end_part.result c.from_residual-in_err-end_part.ensures.1 in
          rw (residual.1) (misses_same silent t (ends >>= λ y. resume_part (size_of p) (grammar_of p.grammar) depth y.0 (elements_so_far (so_far.0 ++ source_alone put.tree ∷ [])) y.1) (next_part_at (size_of p) (grammar_of p.grammar) depth o (rest_of p))
          (so_far.2 ∙ element_turn p l s depth so_far.0 i.advances n.skips.advances n.skips.rest put.none_opens.0 put.none_opens.1
          ∙ ap (λ r. r >>= after_element p depth so_far.0) put.parses
          ∙ ap (λ r. r >>= λ y. resume_part (size_of p) (grammar_of p.grammar) depth y.0 (elements_so_far (so_far.0 ++ source_alone put.tree ∷ [])) y.1) (sym (same_end p q expected_array_comma_or_end 93 on)))
          (misses_through silent t ends (λ y. resume_part (size_of p) (grammar_of p.grammar) depth y.0 (elements_so_far (so_far.0 ++ source_alone put.tree ∷ [])) y.1) (reports_always silent t ends c.in_err-end_part.ensures.parses)));
      onward = search rules;
      opens = search rules;
      advances = search rules;
    }

pub returns-then-branch-2 : goal.returns-then-branch-2
returns-then-branch-2 g c =
    record {
      parses = λ depth o fs cs fits held.
          let p = c.args.self.now in
          let l = c.elements.self in
          let n = c.in_ok-put_next.ensures in
          let s = n.start in
          let put = puts_if _ _ _ c.if-branch.false n.element.puts in
          let q = c.put_next.new.self in
          let r = c.end_part.new.self in
          let i = c.elements.invariant in
          let so_far = i.parses depth o fs cs fits held in
          let ended = c.in_ok-end_part.ensures.parses in
          let more = elements_so_far (so_far.0 ++ source_alone put.tree ∷ []) in
          let h = g.V.Handler in
          let before = goes_on p l s i.advances n.skips.advances in
          let on = goes_on p l q i.advances c.put_next.ensures.advances.parser in
          record {
            so_far = more;
            fits = tt;
            held = subst (λ b. h.holds b.now c.elements.sink false (variants.Array c.elements.items ∷ fs) (elements_so_far so_far.0 ∷ cs) → h.holds b.now c.put_next.new.sink false (variants.Array c.put_next.new.items ∷ fs) (more ∷ cs)) before.buf (put.put (elements_so_far so_far.0) fs cs tt) so_far.1;
            parses =
                so_far.2 ∙ element_turn p l s depth so_far.0 i.advances n.skips.advances n.skips.rest put.none_opens.0 put.none_opens.1
                ∙ ap (λ x. x >>= after_element p depth so_far.0) put.parses
                ∙ ap (λ x. x >>= λ y. resume_part (size_of p) (grammar_of p.grammar) depth y.0 more y.1) (sym (same_end p q expected_array_comma_or_end 93 on) ∙ ended.2)
                ∙ ap (λ closed. resume_part (size_of p) (grammar_of p.grammar) depth closed more (rest_of r)) (sym ended.1 ∙ c.if-branch-2.true);
          };
      onward = search rules;
      opens = search rules;
      advances = search rules;
    }

pub elements-init : goal.elements-init
elements-init g c =
    let p = c.args.self.now in
    record { advances = stays p; base = refl; parses = begun }
  where
    begun : (depth : ℕ) (o : Open) (fs : List (Frame g.row.V-Items.Denot g.row.V-Members.Denot g.row.V-Key.Denot)) (cs : List Open) → IsArray o → g.V.Handler.holds c.args.self.now.buf.now c.args.sink.now false (variants.Array c.args.items.now ∷ fs) (o ∷ cs) → (ss : List Source) × g.V.Handler.holds c.args.self.now.buf.now c.args.sink.now false (variants.Array c.args.items.now ∷ fs) (elements_so_far ss ∷ cs) × (next_part_at (size_of c.args.self.now) (grammar_of c.args.self.now.grammar) depth o (rest_of c.args.self.now) ≡ elements_from (size_of c.args.self.now) (grammar_of c.args.self.now.grammar) depth ss (rest_of c.args.self.now))
    begun depth (elements_so_far ss) fs cs fits held = (ss, held, refl)
    begun depth (members_so_far ms k offset) fs cs fits held = absurd fits

pub elements-preserved : goal.elements-preserved
elements-preserved g c =
    let p = c.args.self.now in
    let l = c.elements.self in
    let n = c.in_ok-put_next.ensures in
    let s = n.start in
    let put = puts_if _ _ _ c.if-branch.false n.element.puts in
    let q = c.put_next.new.self in
    let r = c.end_part.new.self in
    let i = c.elements.invariant in
    let ended = c.in_ok-end_part.ensures.parses in
    let h = g.V.Handler in
    let before = goes_on p l s i.advances n.skips.advances in
    let on = goes_on p l q i.advances c.put_next.ensures.advances.parser in
    let onto = goes_on p q r on c.end_part.ensures.advances in
    record {
      advances = onto;
      base = c.put_next.ensures.advances.base ∙ i.base;
      parses = λ depth o fs cs fits held.
          let so_far = i.parses depth o fs cs fits held in
          let more = elements_so_far (so_far.0 ++ source_alone put.tree ∷ []) in (
            so_far.0 ++ source_alone put.tree ∷ [],
            subst (λ b. h.holds b.now c.elements.sink false (variants.Array c.elements.items ∷ fs) (elements_so_far so_far.0 ∷ cs) → h.holds b.now c.put_next.new.sink false (variants.Array c.put_next.new.items ∷ fs) (more ∷ cs)) before.buf (put.put (elements_so_far so_far.0) fs cs tt) so_far.1,
            so_far.2 ∙ element_turn p l s depth so_far.0 i.advances n.skips.advances n.skips.rest put.none_opens.0 put.none_opens.1
                ∙ ap (λ x. x >>= after_element p depth so_far.0) put.parses
                ∙ ap (λ x. x >>= λ y. resume_part (size_of p) (grammar_of p.grammar) depth y.0 more y.1) (sym (same_end p q expected_array_comma_or_end 93 on) ∙ ended.2)
                ∙ ap (λ closed. resume_part (size_of p) (grammar_of p.grammar) depth closed more (rest_of r)) (sym ended.1 ∙ c.if-branch-2.false),
          );
    }
