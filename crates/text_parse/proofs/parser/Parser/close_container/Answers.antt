use Rattle.std.proofs.Common.{◌≡◌, [], ◌∷◌, ◌++◌, ◌+◌, ◌-◌, ◌<◌, true, false, length, take, refl, ap, subst, ◌∙◌, arith, reverse, rules}
use Rattle.std.specs.Vec.{vec_len}
use Rattle.std.proofs.lemmas.Result.{err_from_is_err_and}
use Rattle.jsonb_spec.specs.Code.Code.{expected_array_comma_or_end, expected_object_comma_or_end}
use Rattle.text_scan.specs.Answer.{grammar_of}
use Rattle.text_parse.specs.Parser.{Advances, rest_of, size_of}
use Rattle.text_parse.specs.declared.parser.frame.Frame.TheVariants as variants
use Rattle.text_parse.proofs.Containers.Frames.{array-joins, end_misses, ended, innermost_first, joined, last-is, last-set, object-joins, put_new}
use Rattle.jsonb_spec.specs.Parsing.Whitespace.{skip_whitespace}
use Rattle.text_parse.specs.Handler.{Builds}
use Rattle.text_parse.specs.Stack.{part_end}
use Rattle.text_parse.proofs.Steps.Advancing.{goes_on}
use Rattle.text_parse.proofs.Steps.Failures.{builds_always}
use Rattle.text_parse.proofs.parser.Parser.close_container.Goals as goal

pub returns-in_err-finish : goal.returns-in_err-finish
returns-in_err-finish g c =
    record {
      parses = λ whole ahead.
          let p = c.args.self.now in
          let gs = c.pop.new.self.items in
          let inner = c.in-Some.inner in
          let holds = g.V.Handler.holds p.buf.now c.args.sink.now in
          let x = ended holds holds p c.args.stack.now.items gs inner whole c.in-Some.ensures.items c.requires.depth ahead in
          let residual = err_from_is_err_and c.from_residual.result c.from_residual.ensures.1 in
          rw (residual.1) (end_misses holds holds p gs inner whole g.V.Handler.silent c.finish.new.reported x (c.in_err-finish.ensures.ended p.buf.now x.inner (rest_of p) (reverse gs) x.others x.fits x.held));
      onward = search rules;
      depth = search rules;
      some = search rules;
      advances = search rules;
    }

pub returns-in-Ok : goal.returns-in-Ok
returns-in-Ok g c =
    record {
      parses = λ whole ahead.
          let p = c.args.self.now in
          let q = c.end_part.new.self in
          let gs = c.pop.new.self.items in
          let inner = c.in-Some.inner in
          let h = g.V.Handler in
          let text = p.buf.now in
          let before = h.holds text c.args.sink.now in
          let after = h.holds text c.push_inner.new.sink in
          let value = c.frame_value-value.result in
          let x = ended before after p c.args.stack.now.items gs inner whole c.in-Some.ensures.items c.requires.depth ahead in
          let done = c.in_ok-finish.ensures.ended text x.inner (rest_of p) (reverse gs) x.others x.fits x.held in
          let s = done.0 in
          let filled = c.frame_value-value.ensures text s (reverse gs) x.others done.1 in
          let n = vec_len c.pop.new.self - 1 in
          let some : 0 < vec_len c.pop.new.self = c.in-Some-last_mut.ensures.variant.0 refl in
          let last : n + 1 ≡ length gs = omega arith in
          let v = c.in-Array.items in
          let w = c.push_inner.new.items in
          let below = reverse (take n gs) in
          let e = last-is gs n c.in-Some-last_mut.outer.now last c.in-Some-last_mut.ensures.value ∙ ap (λ f. take n gs ++ f ∷ []) c.in-Array.is in
          let turned = ap reverse e ∙ innermost_first (take n gs) (variants.Array v) in
          let a = c.end_part.ensures.advances in
          let on : Advances p q = record { buf = a.buf; mode = a.mode; grammar = a.grammar; onward = a.onward } in
          joined before after p q gs _ (take n gs) (variants.Array v) (variants.Array w) inner whole s expected_array_comma_or_end 93 on e (last-set gs n (variants.Array w) last)
          h.silent q.reported c.end_part.result x done.2
          (λ o cs fits same. array-joins before after (λ fs ds. h.filled text c.finish.new.sink value s fs ds) (size_of p) (grammar_of p.grammar) v w s below cs (λ ss full. c.in-Ok.ensures.put text s ss below cs full) o fits
          (subst (λ ds. h.filled text c.finish.new.sink value s (variants.Array v ∷ below) ds) same (subst (λ fs. h.filled text c.finish.new.sink value s fs x.others) turned filled)))
          (builds_always h.silent q.reported (λ b d. b ≡ d) c.end_part.result _ (rest_of q) c.end_part.ensures.parses);
      onward = search rules;
      depth = search rules;
      some = search rules;
      advances = search rules;
    }

pub returns-in_ok-put_result-in-Object : goal.returns-in_ok-put_result-in-Object
returns-in_ok-put_result-in-Object g c =
    record {
      parses = λ whole ahead.
          let p = c.args.self.now in
          let q = c.end_part-in-Object.new.self in
          let gs = c.pop.new.self.items in
          let inner = c.in-Some.inner in
          let h = g.V.Handler in
          let text = p.buf.now in
          let before = h.holds text c.args.sink.now in
          let after = h.holds text c.insert_inner-inserted.new.sink in
          let value = c.frame_value-value.result in
          let x = ended before after p c.args.stack.now.items gs inner whole c.in-Some.ensures.items c.requires.depth ahead in
          let done = c.in_ok-finish.ensures.ended text x.inner (rest_of p) (reverse gs) x.others x.fits x.held in
          let s = done.0 in
          let filled = c.frame_value-value.ensures text s (reverse gs) x.others done.1 in
          let n = vec_len c.pop.new.self - 1 in
          let some : 0 < vec_len c.pop.new.self = c.in-Some-last_mut.ensures.variant.0 refl in
          let last : n + 1 ≡ length gs = omega arith in
          let v = c.in-Object.object in
          let w = c.insert_inner-inserted.new.object in
          let below = reverse (take n gs) in
          let e = last-is gs n c.in-Some-last_mut.outer.now last c.in-Some-last_mut.ensures.value ∙ ap (λ f. take n gs ++ f ∷ []) c.in-Object.is in
          let turned = ap reverse e ∙ innermost_first (take n gs) (variants.Object v) in
          let ok = c.in_ok-put_result-in-Object.ensures.ok in
          let a = goes_on _ _ q c.put_result.ensures.advances c.end_part-in-Object.ensures.advances in
          let on : Advances p q = record { buf = a.buf; mode = a.mode; grammar = a.grammar; onward = a.onward } in
          let put = put_new (h.silent ≡ true) c.insert_inner-inserted.result ok.0 c.insert_inner-inserted.ensures.put in
          joined before after p q gs _ (take n gs) (variants.Object v) (variants.Object w) inner whole s expected_object_comma_or_end 125 on e (last-set gs n (variants.Object w) last)
          h.silent q.reported c.end_part-in-Object.result x done.2
          (λ o cs fits same. object-joins before after (λ fs ds. h.filled text c.finish.new.sink value s fs ds) (size_of p) (grammar_of p.grammar) v w s below cs (λ front k offset full. put text s front k offset below cs full) o fits
          (subst (λ ds. h.filled text c.finish.new.sink value s (variants.Object v ∷ below) ds) same (subst (λ fs. h.filled text c.finish.new.sink value s fs x.others) turned filled)))
          (builds_always h.silent q.reported (λ b d. b ≡ d) c.end_part-in-Object.result _ (rest_of q)
          (subst (λ m. Builds false q.reported (λ b d. b ≡ d) c.end_part-in-Object.result (part_end (size_of m) expected_object_comma_or_end 125 (skip_whitespace (grammar_of m.grammar) (rest_of m))) (rest_of q)) ok.1 c.end_part-in-Object.ensures.parses));
      onward = search rules;
      depth = search rules;
      some = search rules;
      advances = search rules;
    }
