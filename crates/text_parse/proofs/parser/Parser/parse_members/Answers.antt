use Rattle.std.proofs.Common.{◌≡◌, ℕ, List, [], ◌∷◌, ◌++◌, true, false, refl, sym, ap, subst, ◌∙◌, rules}
use Rattle.std.proofs.lemmas.Result.{err_from_is_err_and}
use Rattle.text_parse.specs.Handler.{Begins}
use Rattle.text_parse.specs.Frames.{OpensContainer, resume_part, resume_value}
use Rattle.text_parse.specs.Slots.{IsObject}
use Rattle.text_parse.specs.declared.parser.frame.Frame.{Frame}
use Rattle.text_parse.specs.declared.parser.frame.Frame.TheVariants as variants
use Rattle.jsonb_spec.specs.Tree.{Mark}
use Rattle.jsonb_spec.specs.Tree.Mark.{plain}
use Rattle.jsonb_spec.specs.Code.Code.{expected_object_comma_or_end}
use Rattle.text_scan.specs.Answer.{grammar_of}
use Rattle.jsonb_spec.specs.Parsing.{◌>>=◌}
use Rattle.jsonb_spec.specs.Parsing.Whitespace.{skip_whitespace}
use Rattle.jsonb_spec.specs.Parsing.Scalar.{scalar_at}
use Rattle.jsonb_spec.specs.Source.{Found, found_member, source_alone}
use Rattle.text_parse.specs.Parser.{parse_at, rest_of, size_of}
use Rattle.text_parse.specs.Stack.{member_start, next_part_at, part_end, object_members_from}
use Rattle.jsonb_spec.specs.Source.Open.{Open, elements_so_far, members_so_far}
use Rattle.text_parse.proofs.Containers.Frames.{after_member, member_due, member_turn, same_end, waits}
use Rattle.text_parse.proofs.Steps.Advancing.{goes_on, stays}
use Rattle.text_parse.proofs.Steps.Failures.{misses_same, misses_through, puts_if, stops_if, reports_always}
use Rattle.text_parse.proofs.parser.Parser.parse_members.Goals as goal

pub returns-in_err-key : goal.returns-in_err-key
returns-in_err-key g c =
    record {
      parses = λ depth o fs cs fits held.
          let p = c.args.self.now in
          let l = c.members.self in
          let i = c.members.invariant in
          let so_far = i.parses depth o fs cs fits held in
          let silent = g.V.Handler.silent in
          let t = c.begin_member.new.self.reported in
          let residual = err_from_is_err_and c.from_residual.result c.from_residual.ensures.1 in
          rw (residual.1) (misses_same silent t (parse_at member_start l >>= waits p depth so_far.0) (next_part_at (size_of p) (grammar_of p.grammar) depth o (rest_of p))
          (so_far.4 ∙ member_due p l depth so_far.0 i.advances)
          (misses_through silent t (parse_at member_start l) (waits p depth so_far.0) c.in_err-key.ensures.parses));
      onward = search rules;
      opens = search rules;
      advances = search rules;
    }

pub returns-then-branch : goal.returns-then-branch
returns-then-branch g c =
    let stop = stops_if _ _ _ c.if-branch.true c.in_ok-put_member.ensures.puts.puts in
    record {
      parses = λ depth o fs cs fits held.
          let p = c.args.self.now in
          let h = g.V.Handler in
          let text = p.buf.now in
          let i = c.members.invariant in
          let so_far = i.parses depth o fs cs fits held in
          let key = c.in_ok-key.ensures.parses in
          let begun = subst (λ b. Begins (h.holds b.now) c.members.sink c.members.object c.begin_member.new.sink c.begin_member.new.object c.in_ok-key.key key.0.0 key.0.1) c.members.invariant.advances.buf key.1 in
          let here = members_so_far so_far.0 key.0.0 key.0.1 in
          record {
            so_far = here;
            fits = tt;
            held = subst (λ f. h.holds text c.put_member.new.sink true (f ∷ fs) (here ∷ cs)) (sym stop.same_frame) (subst (λ r. h.holds text r true (variants.Object (record { members = c.begin_member.new.object.members; key = c.in_ok-key.key }) ∷ fs) (here ∷ cs)) (sym stop.same_sink) (begun so_far.0 so_far.1 so_far.2 fs cs so_far.3));
            parses = so_far.4 ∙ member_due p c.members.self depth so_far.0 i.advances ∙ ap (λ x. x >>= waits p depth so_far.0) key.2 ∙ ap (λ q. resume_value (size_of p) (grammar_of p.grammar) depth false here (rest_of q)) (sym stop.stays);
          };
      onward = search rules;
      opens = subst (λ q. OpensContainer (rest_of q)) (sym stop.stays) stop.opens;
      advances = search rules;
    }

pub returns-in_err-put_member : goal.returns-in_err-put_member
returns-in_err-put_member g c =
    record {
      parses = λ depth o fs cs fits held.
          let p = c.args.self.now in
          let l = c.members.self in
          let s = c.begin_member.new.self in
          let n = c.in_err-put_member.ensures.puts in
          let i = c.members.invariant in
          let so_far = i.parses depth o fs cs fits held in
          let key = c.in_ok-key.ensures.parses in
          let silent = g.V.Handler.silent in
          let t = c.put_member.new.self.reported in
          let on = goes_on p l s i.advances c.begin_member.ensures.advances.parser in
          let residual = err_from_is_err_and c.from_residual-in_err-put_member.result c.from_residual-in_err-put_member.ensures.1 in
          rw (residual.1) (misses_same silent t (parse_at scalar_at s >>= after_member p depth so_far.0 key.0.0 key.0.1) (next_part_at (size_of p) (grammar_of p.grammar) depth o (rest_of p))
          (so_far.4 ∙ member_due p l depth so_far.0 i.advances ∙ ap (λ x. x >>= waits p depth so_far.0) key.2
          ∙ member_turn p s depth so_far.0 key.0.0 key.0.1 on n.fails.0.0 n.fails.0.1)
          (misses_through silent t (parse_at scalar_at s) (after_member p depth so_far.0 key.0.0 key.0.1) n.fails.1));
      onward = search rules;
      opens = search rules;
      advances = search rules;
    }

pub returns-in_err-end_part : goal.returns-in_err-end_part
returns-in_err-end_part g c =
    record {
      parses = λ depth o fs cs fits held.
          let p = c.args.self.now in
          let l = c.members.self in
          let s = c.begin_member.new.self in
          let q = c.put_member.new.self in
          let i = c.members.invariant in
          let so_far = i.parses depth o fs cs fits held in
          let key = c.in_ok-key.ensures.parses in
          let put = puts_if _ _ _ c.if-branch.false c.in_ok-put_member.ensures.puts.puts in
          let silent = g.V.Handler.silent in
          let t = c.end_part.new.self.reported in
          let on = goes_on p l s i.advances c.begin_member.ensures.advances.parser in
          let more = members_so_far (so_far.0 ++ found_member key.0.0 (source_alone put.tree) key.0.1 ∷ []) (plain, []) 0 in
          let ends = part_end (size_of q) expected_object_comma_or_end 125 (skip_whitespace (grammar_of q.grammar) (rest_of q)) in
          let residual = err_from_is_err_and c.from_residual-in_err-end_part.result c.from_residual-in_err-end_part.ensures.1 in
          rw (residual.1) (misses_same silent t (ends >>= λ y. resume_part (size_of p) (grammar_of p.grammar) depth y.0 more y.1) (next_part_at (size_of p) (grammar_of p.grammar) depth o (rest_of p))
          (so_far.4 ∙ member_due p l depth so_far.0 i.advances ∙ ap (λ x. x >>= waits p depth so_far.0) key.2
          ∙ member_turn p s depth so_far.0 key.0.0 key.0.1 on put.none_opens.0 put.none_opens.1
          ∙ ap (λ x. x >>= after_member p depth so_far.0 key.0.0 key.0.1) put.parses
          ∙ ap (λ x. x >>= λ y. resume_part (size_of p) (grammar_of p.grammar) depth y.0 more y.1) (sym (same_end p q expected_object_comma_or_end 125 (goes_on p s q on c.put_member.ensures.advances.parser))))
          (misses_through silent t ends (λ y. resume_part (size_of p) (grammar_of p.grammar) depth y.0 more y.1) (reports_always silent t ends c.in_err-end_part.ensures.parses)));
      onward = search rules;
      opens = search rules;
      advances = search rules;
    }

pub returns-then-branch-2 : goal.returns-then-branch-2
returns-then-branch-2 g c =
    record {
      parses = λ depth o fs cs fits held.
          let p = c.args.self.now in
          let l = c.members.self in
          let s = c.begin_member.new.self in
          let q = c.put_member.new.self in
          let r = c.end_part.new.self in
          let i = c.members.invariant in
          let so_far = i.parses depth o fs cs fits held in
          let key = c.in_ok-key.ensures.parses in
          let begun = subst (λ b. Begins (g.V.Handler.holds b.now) c.members.sink c.members.object c.begin_member.new.sink c.begin_member.new.object c.in_ok-key.key key.0.0 key.0.1) c.members.invariant.advances.buf key.1 in
          let put = puts_if _ _ _ c.if-branch.false c.in_ok-put_member.ensures.puts.puts in
          let ended = c.in_ok-end_part.ensures.parses in
          let on = goes_on p l s i.advances c.begin_member.ensures.advances.parser in
          let all = so_far.0 ++ found_member key.0.0 (source_alone put.tree) key.0.1 ∷ [] in
          let more = members_so_far all (plain, []) 0 in
          let h = g.V.Handler in
          let m = c.begin_member.new.object in
          let inserted = subst (λ b. h.holds b.now c.begin_member.new.sink true (variants.Object (record { members = m.members; key = c.in_ok-key.key }) ∷ fs) (members_so_far so_far.0 key.0.0 key.0.1 ∷ cs) → h.holds b.now c.put_member.new.sink false (variants.Object c.put_member.new.object ∷ fs) (more ∷ cs)) on.buf (put.put (members_so_far so_far.0 key.0.0 key.0.1) fs cs tt) (begun so_far.0 so_far.1 so_far.2 fs cs so_far.3) in
          record {
            so_far = more;
            fits = tt;
            held = inserted;
            parses =
                so_far.4 ∙ member_due p l depth so_far.0 i.advances ∙ ap (λ x. x >>= waits p depth so_far.0) key.2
                ∙ member_turn p s depth so_far.0 key.0.0 key.0.1 on put.none_opens.0 put.none_opens.1
                ∙ ap (λ x. x >>= after_member p depth so_far.0 key.0.0 key.0.1) put.parses
                ∙ ap (λ x. x >>= λ y. resume_part (size_of p) (grammar_of p.grammar) depth y.0 more y.1) (sym (same_end p q expected_object_comma_or_end 125 (goes_on p s q on c.put_member.ensures.advances.parser)) ∙ ended.2)
                ∙ ap (λ closed. resume_part (size_of p) (grammar_of p.grammar) depth closed more (rest_of r)) (sym ended.1 ∙ c.if-branch-2.true);
          };
      onward = search rules;
      opens = search rules;
      advances = search rules;
    }

pub members-init : goal.members-init
members-init g c =
    let p = c.args.self.now in
    record {
      advances = stays p;
      base = refl;
      parses = begun;
    }
  where
    begun : (depth : ℕ) (o : Open) (fs : List (Frame g.row.V-Items.Denot g.row.V-Members.Denot g.row.V-Key.Denot)) (cs : List Open) → IsObject o → g.V.Handler.holds c.args.self.now.buf.now c.args.sink.now false (variants.Object c.args.object.now ∷ fs) (o ∷ cs) → (ms : List Found) × (k : Mark × List ℕ) × (offset : ℕ) × g.V.Handler.holds c.args.self.now.buf.now c.args.sink.now false (variants.Object c.args.object.now ∷ fs) (members_so_far ms k offset ∷ cs) × (next_part_at (size_of c.args.self.now) (grammar_of c.args.self.now.grammar) depth o (rest_of c.args.self.now) ≡ object_members_from (size_of c.args.self.now) (grammar_of c.args.self.now.grammar) depth ms (rest_of c.args.self.now))
    begun depth (elements_so_far ss) fs cs fits held = absurd fits
    begun depth (members_so_far ms k offset) fs cs fits held = (ms, k, offset, held, refl)

pub members-preserved : goal.members-preserved
members-preserved g c =
    let p = c.args.self.now in
    let l = c.members.self in
    let s = c.begin_member.new.self in
    let q = c.put_member.new.self in
    let r = c.end_part.new.self in
    let i = c.members.invariant in
    let key = c.in_ok-key.ensures.parses in
    let begun = subst (λ b. Begins (g.V.Handler.holds b.now) c.members.sink c.members.object c.begin_member.new.sink c.begin_member.new.object c.in_ok-key.key key.0.0 key.0.1) c.members.invariant.advances.buf key.1 in
    let put = puts_if _ _ _ c.if-branch.false c.in_ok-put_member.ensures.puts.puts in
    let ended = c.in_ok-end_part.ensures.parses in
    let on = goes_on p l s i.advances c.begin_member.ensures.advances.parser in
    let onto = goes_on p q r (goes_on p s q on c.put_member.ensures.advances.parser) c.end_part.ensures.advances in
    record {
      advances = onto;
      base = c.put_member.ensures.advances.base ∙ c.begin_member.ensures.advances.base ∙ i.base;
      parses = λ depth o fs cs fits held.
          let so_far = i.parses depth o fs cs fits held in
          let all = so_far.0 ++ found_member key.0.0 (source_alone put.tree) key.0.1 ∷ [] in
          let more = members_so_far all (plain, []) 0 in
          let h = g.V.Handler in
          let m = c.begin_member.new.object in (
            all,
            (plain, []),
            0,
            subst (λ b. h.holds b.now c.begin_member.new.sink true (variants.Object (record { members = m.members; key = c.in_ok-key.key }) ∷ fs) (members_so_far so_far.0 key.0.0 key.0.1 ∷ cs) → h.holds b.now c.put_member.new.sink false (variants.Object c.put_member.new.object ∷ fs) (more ∷ cs)) on.buf (put.put (members_so_far so_far.0 key.0.0 key.0.1) fs cs tt) (begun so_far.0 so_far.1 so_far.2 fs cs so_far.3),
            so_far.4 ∙ member_due p l depth so_far.0 i.advances ∙ ap (λ x. x >>= waits p depth so_far.0) key.2
                ∙ member_turn p s depth so_far.0 key.0.0 key.0.1 on put.none_opens.0 put.none_opens.1
                ∙ ap (λ x. x >>= after_member p depth so_far.0 key.0.0 key.0.1) put.parses
                ∙ ap (λ x. x >>= λ y. resume_part (size_of p) (grammar_of p.grammar) depth y.0 more y.1) (sym (same_end p q expected_object_comma_or_end 125 (goes_on p s q on c.put_member.ensures.advances.parser)) ∙ ended.2)
                ∙ ap (λ closed. resume_part (size_of p) (grammar_of p.grammar) depth closed more (rest_of r)) (sym ended.1 ∙ c.if-branch-2.false),
          );
    }
