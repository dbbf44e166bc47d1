use Rattle.std.proofs.Common.{◌≡◌, ◌&&◌, ◌||◌, ◌++◌, [], ◌∷◌, List, ℕ, Ok, Some, refl, sym, ap, subst, ◌∙◌, append-nil}
use Rattle.jsonb_spec.specs.SortKey.{key_of}
use Rattle.jsonb_spec.specs.SortKey.Open.{Open, is_object, name_key, open_key, opening_byte}
use Rattle.jsonb_spec.specs.SortKey.Parts.{opened_tree}
use Rattle.key_walk.specs.Steps.{IsAmid, StepsOver}
use Rattle.jsonb_spec.specs.SortKey.Steps.{opens_key}
use Rattle.key_walk.proofs.Stepping.{all_passed, edge_passed, no_error, value_passed}
use Rattle.jsonb_spec.specs.Document.Counts.{counts_at, counts_open, opens_counts}
use Rattle.key_text.proofs.Appending.{preserves_on, retained}
use Rattle.jsonb_spec.specs.Edit.LeftOut.{without_nulls}
use Rattle.key_document.specs.Retaining.{IsBegun, Retains}
use Rattle.key_document.proofs.Retained.{all_lacks, all_written, next_ready, stays_next}
use Rattle.key_document.proofs.Stripped.{StripsLeft, StripsNext, bare_all, end_next, ended, null_first, opening_next, part_goes, scalar_next, strip_begun}
use Rattle.key_document.proofs.nulls.write_parts.Goals as goal

pub steps-init : goal.steps-init
steps-init c = record {
  left = λ o is h e d. record {
    opens = o ∷ [];
    amid = c.over-steps.ensures.begun o is h [] (e ∙ sym (append-nil (open_key o)));
    holds = subst (λ rest. StripsLeft c.args.begun.now.output (without_nulls c.args.in_arrays (opened_tree o)) c.args.in_arrays c.args.begun.now rest c.args.out.now.items c.args.out.now.items (o ∷ [])) (sym c.over-steps.ensures.rest)
        (strip_begun o c.args.in_arrays c.args.begun.now c.args.bytes.now c.args.out.now.items (subst (λ b. IsBegun (opening_byte b) c.args.begun.now c.args.bytes.now (counts_open o)) (sym is) d));
  };
  preserves = retained c.args.out.now;
}

pub returns-in_err-step-clause-written : goal.returns-in_err-step-clause-written
returns-in_err-step-clause-written c = λ o is h e d.
    absurd (no_error _ [] c.steps.steps c.next.new.self (c.steps.invariant.left o is h e d) c.in_err-step.field-0.0 c.in_err-step.ensures.steps)

pub returns-clause-written : goal.returns-clause-written
returns-clause-written c = λ o is h e d.
    let v = without_nulls c.args.in_arrays (opened_tree o) in
    let law = subst (λ r. (opens : List Open) (behind : List ℕ) → IsAmid opens behind c.steps.steps → StepsOver opens behind c.steps.steps (Ok r) c.next.new.self) c.in_default.is c.in_ok-step.ensures.steps in
    let done = all_passed _ [] c.steps.steps c.next.new.self (c.steps.invariant.left o is h e d) law in
    let over : c.steps.steps.rest.now ≡ [] = ended _ c.steps.steps c.next.new.self (c.steps.invariant.left o is h e d) (law _ [] (c.steps.invariant.left o is h e d).amid) in
    all_written c.args.begun.now.output v c.write_rest.result c.args.out.now c.steps.out c.write_rest.new.out c.steps.invariant.preserves.capacity
    (c.write_rest.ensures.written c.args.begun.now.output (key_of v) (counts_at v) [] [] c.args.out.now.items refl (subst (λ r. Retains c.args.begun.now.output (key_of v) (counts_at v) r [] [] [] c.steps.retaining c.args.out.now.items c.steps.out.items) over done))

pub steps-preserved : goal.steps-preserved
steps-preserved c = record {
  left = λ o is h e d.
      let v = without_nulls c.args.in_arrays (opened_tree o) in
      edge_passed (StripsLeft c.args.begun.now.output v c.args.in_arrays c.steps.retaining c.steps.steps.rest.now c.args.out.now.items c.steps.out.items) [] c.steps.steps c.next.new.self (c.steps.invariant.left o is h e d)
      (StripsLeft c.args.begun.now.output v c.args.in_arrays c.steps.retaining c.next.new.self.rest.now c.args.out.now.items c.steps.out.items)
      (subst (λ r. (opens : List Open) (behind : List ℕ) → IsAmid opens behind c.steps.steps → StepsOver opens behind c.steps.steps (Ok r) c.next.new.self) (c.in-Some.is ∙ ap Some c.in_default-step.is) c.in_ok-step.ensures.steps)
      (λ p under x t. stays_next _ _ _ _ _ _ _ _ _ _ _ _ _ _ (end_next c.args.in_arrays c.steps.steps.rest.now c.next.new.self.rest.now p under x.is_over x.passed) t)
      (λ p under x t. stays_next _ _ _ _ _ _ _ _ _ _ _ _ _ _ (opening_next c.args.in_arrays c.steps.steps.rest.now c.next.new.self.rest.now p x.name x.value x.others under x.is_part x.inside x.whole x.passed) t);
  preserves = c.steps.invariant.preserves;
}

pub returns-in_err-retaining-clause-written : goal.returns-in_err-retaining-clause-written
returns-in_err-retaining-clause-written c = λ o is h e d.
    let whole = without_nulls c.args.in_arrays (opened_tree o) in
    let v = value_passed (StripsLeft c.args.begun.now.output whole c.args.in_arrays c.steps.retaining c.steps.steps.rest.now c.args.out.now.items c.steps.out.items) [] c.steps.steps c.next.new.self (c.steps.invariant.left o is h e d) c.in-Scalar.scalar
    (subst (λ r. (opens : List Open) (behind : List ℕ) → IsAmid opens behind c.steps.steps → StepsOver opens behind c.steps.steps (Ok r) c.next.new.self) (c.in-Some.is ∙ ap Some c.in-Scalar.is) c.in_ok-step.ensures.steps) in
    let after = c.in-Scalar.scalar.after.now in
    let part = c.in-Scalar.scalar.part.now in
    let gone : c.is_left_out-goes.result ≡ part_goes c.args.in_arrays v.o v.x.value = c.is_left_out-goes.ensures ∙ (λ i. null_first v.x.left v.x.value v.x.readable v.x.is_scalar c.in-Scalar.scalar.first v.x.tail c.in-Scalar.scalar.value.now after v.x.begins v.x.occurs i && (v.x.member i || c.args.in_arrays)) in
    let here = v.x.named ∙ ap (λ l. name_key (is_object v.o) v.x.name ++ l) v.x.occurs in
    let s = subst (λ g. StripsNext c.args.in_arrays g part after (v.o ∷ v.under) (v.x.others ∷ v.under)) (sym gone) (scalar_next c.args.in_arrays part after v.o v.x.name v.x.value v.x.others v.under v.x.is_part v.x.is_scalar v.x.readable.proper here) in
    let t = subst (λ r. StripsLeft c.args.begun.now.output whole c.args.in_arrays c.steps.retaining r c.args.out.now.items c.steps.out.items (v.o ∷ v.under)) (sym v.x.from) v.holds in
    let y = c.in_err-retaining.ensures.passed c.args.begun.now.output (key_of whole) (counts_at whole) s.one s.one_counts (opens_counts (v.x.others ∷ v.under)) (opens_key (bare_all c.args.in_arrays (v.x.others ∷ v.under))) (opens_counts (bare_all c.args.in_arrays (v.x.others ∷ v.under))) c.args.out.now.items s.key_is s.each (next_ready _ _ _ _ _ _ _ _ _ _ _ _ _ _ _ s t) in
    all_lacks c.args.begun.now.output whole c.from_residual-in_err-retaining.result c.in_err-retaining.field-0.0 c.args.out.now c.steps.out c.pass_bytes.new.out c.from_residual-in_err-retaining.ensures.1 c.steps.invariant.preserves.capacity (y.1, y.2)

pub steps-preserved-in-Scalar : goal.steps-preserved-in-Scalar
steps-preserved-in-Scalar c = record {
  left = λ o is h e d.
      let whole = without_nulls c.args.in_arrays (opened_tree o) in
      let v = value_passed (StripsLeft c.args.begun.now.output whole c.args.in_arrays c.steps.retaining c.steps.steps.rest.now c.args.out.now.items c.steps.out.items) [] c.steps.steps c.next.new.self (c.steps.invariant.left o is h e d) c.in-Scalar.scalar
      (subst (λ r. (opens : List Open) (behind : List ℕ) → IsAmid opens behind c.steps.steps → StepsOver opens behind c.steps.steps (Ok r) c.next.new.self) (c.in-Some.is ∙ ap Some c.in-Scalar.is) c.in_ok-step.ensures.steps) in
      let after = c.in-Scalar.scalar.after.now in
      let part = c.in-Scalar.scalar.part.now in
      let gone : c.is_left_out-goes.result ≡ part_goes c.args.in_arrays v.o v.x.value = c.is_left_out-goes.ensures ∙ (λ i. null_first v.x.left v.x.value v.x.readable v.x.is_scalar c.in-Scalar.scalar.first v.x.tail c.in-Scalar.scalar.value.now after v.x.begins v.x.occurs i && (v.x.member i || c.args.in_arrays)) in
      let here = v.x.named ∙ ap (λ l. name_key (is_object v.o) v.x.name ++ l) v.x.occurs in
      let s = subst (λ g. StripsNext c.args.in_arrays g part after (v.o ∷ v.under) (v.x.others ∷ v.under)) (sym gone) (scalar_next c.args.in_arrays part after v.o v.x.name v.x.value v.x.others v.under v.x.is_part v.x.is_scalar v.x.readable.proper here) in
      let t = subst (λ r. StripsLeft c.args.begun.now.output whole c.args.in_arrays c.steps.retaining r c.args.out.now.items c.steps.out.items (v.o ∷ v.under)) (sym v.x.from) v.holds in
      let y = c.in_ok-retaining.ensures.passed c.args.begun.now.output (key_of whole) (counts_at whole) s.one s.one_counts (opens_counts (v.x.others ∷ v.under)) (opens_key (bare_all c.args.in_arrays (v.x.others ∷ v.under))) (opens_counts (bare_all c.args.in_arrays (v.x.others ∷ v.under))) c.args.out.now.items s.key_is s.each (next_ready _ _ _ _ _ _ _ _ _ _ _ _ _ _ _ s t) in
      record {
        opens = v.x.others ∷ v.under;
        amid = v.x.amid;
        holds = subst (λ r. StripsLeft c.args.begun.now.output whole c.args.in_arrays c.in_ok-retaining.retaining r c.args.out.now.items c.pass_bytes.new.out.items (v.x.others ∷ v.under)) (sym v.x.behind) y.0;
      };
  preserves = preserves_on c.args.out.now c.steps.out c.pass_bytes.new.out c.steps.invariant.preserves c.in_ok-retaining.ensures.preserves;
}
