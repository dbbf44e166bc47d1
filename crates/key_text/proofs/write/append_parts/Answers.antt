use Rattle.std.proofs.Common.{◌≡◌, ◌≢◌, inl, inr, ◌+◌, ◌-◌, ◌∷◌, ◌++◌, [], true, false, get_or, set, length, sym, ap, subst, ◌∙◌, arith, append_assoc, length-append}
use Rattle.std.proofs.lemmas.List.{length-set, get_or-set_same, take_rest}
use Rattle.key_value.proofs.FirstBytes.{no_key}
use Rattle.key_walk.proofs.Opens.{too_deep}
use Rattle.jsonb_spec.specs.SortKey.Steps.{opens_key}
use Rattle.key_walk.proofs.Scalars.{scalar_there}
use Rattle.jsonb_spec.specs.SortKey.{key_of, number_key}
use Rattle.jsonb_spec.specs.Text.{tree_text}
use Rattle.jsonb_spec.specs.Tree.{number}
use Rattle.jsonb_spec.specs.Document.Counts.{counts_at, opens_counts, AreZeros}
use Rattle.key_text.specs.Writes.{closing_text, opening_text}
use Rattle.key_text.proofs.Counts.{behind_first, due_as, due_behind_plain, number_left}
use Rattle.key_text.proofs.Appending.{out_of_memory, passed_on, preserves_on, retained_by}
use Rattle.key_text.proofs.NextParts.{end_next, value_next}
use Rattle.key_text.proofs.Walk.{WritesParts, text_begun, end_there, end_fits, end_written, part_there, name_fits, value_fits, scalar_written, each_there, opening_fits, part_begun, all_written}
use Rattle.key_text.proofs.Scalars.{number_there, opened_text, string_text, word_of}
use Rattle.key_text.proofs.write.append_parts.Goals.{then-first-lt-OBJECT-via-then-first-lt-OBJECT, then-first-lt-OBJECT-via-else-first-lt-OBJECT+then-first-gt-ARRAY}
use Rattle.key_text.proofs.write.append_parts.Goals as goal

pub parts-init : goal.parts-init
parts-init g c = record {
  writes = subst (λ s. WritesParts (g.Z.Zeros.due c.args.zeros.now) (g.Z.Zeros.due c.args.zeros.now) c.args.object c.args.bytes.now c.outermost-objects.result 1 c.args.bytes.now true s c.append_opening.new.buf.items) c.in_ok-append_opening.ensures.ok
      (text_begun (g.Z.Zeros.due c.args.zeros.now) c.outermost-objects.result c.args.object c.args.bytes.now c.append_opening.new.buf.items c.outermost-objects.ensures.first);
  preserves = retained_by c.args.buf.now c.append_opening.new.buf c.in_ok-append_opening.ensures;
  some = omega arith;
  deep = omega arith;
  size = c.outermost-objects.ensures.size;
  inside = sym c.outermost-objects.ensures.first;
}

pub returns-in_err-append_closing-in-End-clause-found : goal.returns-in_err-append_closing-in-End-clause-found
returns-in_err-append_closing-in-End-clause-found g c = λ o is h more e later each d.
    let start = c.args.buf.now.items ++ opening_text c.args.object ∷ [] in
    let b = end_next c.parts.inside c.parts.is_first c.parts.rest.now c.in_ok-next.next c.in-End.others c.parts.buf c.begin_next.new.buf c.in-End.is c.in_ok-next.ensures.begins in
    let x = end_there (g.Z.Zeros.due c.parts.zeros) later c.parts.objects c.parts.depth (c.parts.depth - 1) c.parts.rest.now more c.parts.inside c.parts.is_first o start c.parts.buf.items (omega (arith, c.parts.invariant.some)) c.parts.invariant.inside (c.parts.invariant.writes o is h more e later each d) c.in-End.others.now b.0 in
    let space = end_fits (g.Z.Zeros.due c.parts.zeros) later c.parts.objects (c.parts.depth - 1) c.parts.rest.now more c.parts.inside o start c.parts.buf.items x in
    out_of_memory (λ rest. rest.now) c.from_residual-in_err-append_closing-in-End.result c.args.buf.now c.append_closing.new.buf more _ c.from_residual-in_err-append_closing-in-End.ensures.1
    (omega (arith, space, ap length b.2, length-append c.args.buf.now.items (opening_text c.args.object ∷ []), c.parts.invariant.preserves.capacity, c.begin_next.ensures.preserves.capacity, c.in_err-append_closing-in-End.ensures.full))

pub returns-then-depth-eq0-clause-found : goal.returns-then-depth-eq0-clause-found
returns-then-depth-eq0-clause-found g c = λ o is h more e later each d.
    let start = c.args.buf.now.items ++ opening_text c.args.object ∷ [] in
    let b = end_next c.parts.inside c.parts.is_first c.parts.rest.now c.in_ok-next.next c.in-End.others c.parts.buf c.begin_next.new.buf c.in-End.is c.in_ok-next.ensures.begins in
    let x = end_there (g.Z.Zeros.due c.parts.zeros) later c.parts.objects c.parts.depth (c.parts.depth - 1) c.parts.rest.now more c.parts.inside c.parts.is_first o start c.parts.buf.items (omega (arith, c.parts.invariant.some)) c.parts.invariant.inside (c.parts.invariant.writes o is h more e later each d) c.in-End.others.now b.0 in
    let closed = c.in_ok-append_closing-in-End.ensures.ok ∙ ap (λ bytes. bytes ++ closing_text c.parts.inside ∷ []) b.2 in
    let y = end_written (g.Z.Zeros.due c.parts.zeros) later c.parts.objects (c.parts.depth - 1) c.parts.rest.now more c.parts.inside o start c.parts.buf.items x c.in-End.others.now c.append_closing.new.buf.items b.1 closed in
    let all = all_written (g.Z.Zeros.due c.parts.zeros) later c.parts.objects c.in-End.others.now more (c.parts.depth - 1) false o start c.append_closing.new.buf.items c.if-depth-eq0.true y in
    (all.0, all.1 ∙ append_assoc c.args.buf.now.items (opening_text c.args.object ∷ []) _)

pub parts-preserved-in-End : goal.parts-preserved-in-End
parts-preserved-in-End g c = record {
  writes = λ o is h more e later each d.
      let start = c.args.buf.now.items ++ opening_text c.args.object ∷ [] in
      let b = end_next c.parts.inside c.parts.is_first c.parts.rest.now c.in_ok-next.next c.in-End.others c.parts.buf c.begin_next.new.buf c.in-End.is c.in_ok-next.ensures.begins in
      let x = end_there (g.Z.Zeros.due c.parts.zeros) later c.parts.objects c.parts.depth (c.parts.depth - 1) c.parts.rest.now more c.parts.inside c.parts.is_first o start c.parts.buf.items (omega (arith, c.parts.invariant.some)) c.parts.invariant.inside (c.parts.invariant.writes o is h more e later each d) c.in-End.others.now b.0 in
      let closed = c.in_ok-append_closing-in-End.ensures.ok ∙ ap (λ bytes. bytes ++ closing_text c.parts.inside ∷ []) b.2 in
      let y = end_written (g.Z.Zeros.due c.parts.zeros) later c.parts.objects (c.parts.depth - 1) c.parts.rest.now more c.parts.inside o start c.parts.buf.items x c.in-End.others.now c.append_closing.new.buf.items b.1 closed in
      y;
  preserves = preserves_on c.args.buf.now c.parts.buf c.append_closing.new.buf c.parts.invariant.preserves (preserves_on c.parts.buf c.begin_next.new.buf c.append_closing.new.buf c.begin_next.ensures.preserves (retained_by c.begin_next.new.buf c.append_closing.new.buf c.in_ok-append_closing-in-End.ensures));
  some = omega (arith, c.if-depth-eq0.false);
  deep = omega (arith, c.parts.invariant.deep);
  size = c.parts.invariant.size;
  inside = c.kind_at-inside.ensures;
}

pub returns-in_err-next-clause-found : goal.returns-in_err-next-clause-found
returns-in_err-next-clause-found g c = λ o is h more e later each d.
    let start = c.args.buf.now.items ++ opening_text c.args.object ∷ [] in
    let b = c.in_err-next.ensures.begins in
    let n = part_there (g.Z.Zeros.due c.parts.zeros) later c.parts.objects c.parts.depth (c.parts.depth - 1) c.parts.rest.now more c.parts.inside c.parts.is_first o start c.parts.buf.items (omega (arith, c.parts.invariant.some)) c.parts.invariant.inside (c.parts.invariant.writes o is h more e later each d) b.0 in
    let space = name_fits (g.Z.Zeros.due c.parts.zeros) later c.parts.objects c.parts.depth c.parts.rest.now more c.parts.inside c.parts.is_first o start c.parts.buf.items n in
    let lacks = b.1 n.next.name _ n.next.occurs in
    passed_on (λ rest. rest.now) c.from_residual-in_err-next.result c.args.buf.now c.begin_next.new.buf more _ c.in_err-next.field-0.0 c.from_residual-in_err-next.ensures.1 lacks.0
    (omega (arith, space, length-append c.args.buf.now.items (opening_text c.args.object ∷ []), c.parts.invariant.preserves.capacity, lacks.1))

pub returns-in_default-clause-found : goal.returns-in_default-clause-found
returns-in_default-clause-found g c = λ o is h more e later each d.
    let start = c.args.buf.now.items ++ opening_text c.args.object ∷ [] in
    let b = value_next c.parts.inside c.parts.is_first c.parts.rest.now c.in_ok-next.next c.in-Value.value c.parts.buf c.begin_next.new.buf c.in-Value.is c.in_ok-next.ensures.begins in
    let n = part_there (g.Z.Zeros.due c.parts.zeros) later c.parts.objects c.parts.depth (c.parts.depth - 1) c.parts.rest.now more c.parts.inside c.parts.is_first o start c.parts.buf.items (omega (arith, c.parts.invariant.some)) c.parts.invariant.inside (c.parts.invariant.writes o is h more e later each d) b.0 in
    let due = b.1 n.next.name _ n.next.occurs in
    absurd (no_key n.next.left n.next.value n.next.readable c.in-Value.value.now _ due.0 c.in_default.ensures.cases)

pub returns-in_err-append_next-clause-found : goal.returns-in_err-append_next-clause-found
returns-in_err-append_next-clause-found g c = λ o is h more e later each d.
    let start = c.args.buf.now.items ++ opening_text c.args.object ∷ [] in
    let b = value_next c.parts.inside c.parts.is_first c.parts.rest.now c.in_ok-next.next c.in-Value.value c.parts.buf c.begin_next.new.buf c.in-Value.is c.in_ok-next.ensures.begins in
    let n = part_there (g.Z.Zeros.due c.parts.zeros) later c.parts.objects c.parts.depth (c.parts.depth - 1) c.parts.rest.now more c.parts.inside c.parts.is_first o start c.parts.buf.items (omega (arith, c.parts.invariant.some)) c.parts.invariant.inside (c.parts.invariant.writes o is h more e later each d) b.0 in
    let due = b.1 n.next.name _ n.next.occurs in
    let bounds = c.append_positive-digits.ensures.number c.if-digits-gt0.true in
    let scalar = scalar_there n.next.left n.next.value n.next.readable c.in-Some.first.now c.in-Some.others.now c.in-Value.value.now _ c.in-Some.ensures.cases.0 due.0 (λ z. omega (arith, bounds.1, z)) (λ z. omega (arith, bounds.1, z)) in
    let x = number_there n.next.left n.next.value n.next.readable scalar c.in-Some.first.now c.in-Some.others.now c.in-Value.value.now _ c.in-Some.ensures.cases.0 due.0 (λ z. omega (arith, bounds.1, z)) (λ z. omega (arith, bounds.1, z)) (λ z. omega (arith, bounds.0, z)) (λ z. omega (arith, bounds.0, z)) in
    let there : c.in-Value.value.now ≡ number_key x.0 ++ (opens_key (n.next.others ∷ n.next.under) ++ more) = due.0 ∙ ap (λ v. key_of v ++ (opens_key (n.next.others ∷ n.next.under) ++ more)) x.2 in
    let counts = opens_counts (n.next.others ∷ n.next.under) ++ later in
    let left = due_as (g.Z.Zeros.due c.parts.zeros) (counts_at n.next.value ++ counts) (counts_at (number x.0) ++ counts) (ap (λ v. counts_at v ++ counts) x.2) n.due in
    let f = c.append_positive-digits.ensures.found c.if-digits-gt0.true x.0 x.1 _ (sym c.in-Some.ensures.cases.0 ∙ there) in
    let lacks = c.in_err-append_next.ensures.completes x.0 x.1 c.begin_next.new.buf.items (omega (arith, c.len-start.ensures)) f.1 left.passed (behind_first x.0 counts) (omega (arith, number_left x.0 x.1 c.in-Value.value.now (opens_key (n.next.others ∷ n.next.under) ++ more) counts there (each_there (g.Z.Zeros.due c.parts.zeros) later c.parts.objects c.parts.depth c.parts.rest.now more c.parts.inside c.parts.is_first o start c.parts.buf.items n each), ap length c.in-Some.ensures.cases.0)) left.due in
    let space = value_fits (g.Z.Zeros.due c.parts.zeros) later c.parts.objects c.parts.depth c.parts.rest.now more c.parts.inside c.parts.is_first o start c.parts.buf.items n c.begin_next.new.buf.items due.1 in
    passed_on (λ rest. rest.now) c.from_residual-in_err-append_next.result c.args.buf.now c.append_next.new.buf more _ c.in_err-append_next.field-0.0 c.from_residual-in_err-append_next.ensures.1 lacks.0
    (omega (arith, space, ap (λ v. length (tree_text v)) x.2, length-append c.begin_next.new.buf.items (tree_text (number x.0)), length-append c.args.buf.now.items (opening_text c.args.object ∷ []), c.parts.invariant.preserves.capacity, c.begin_next.ensures.preserves.capacity, c.append_positive-digits.ensures.takes.preserves.capacity, lacks.1))

pub returns-in_err-append_next-clause-preserves : goal.returns-in_err-append_next-clause-preserves
returns-in_err-append_next-clause-preserves g c =
    preserves_on c.args.buf.now c.parts.buf c.append_next.new.buf c.parts.invariant.preserves (preserves_on c.parts.buf c.begin_next.new.buf c.append_next.new.buf c.begin_next.ensures.preserves (preserves_on c.begin_next.new.buf c.append_positive-digits.new.buf c.append_next.new.buf c.append_positive-digits.ensures.takes.preserves c.in_err-append_next.ensures.preserves))

pub parts-preserved-then-digits-gt0 : goal.parts-preserved-then-digits-gt0
parts-preserved-then-digits-gt0 g c =
    record {
      writes = λ o is h more e later each d.
          let start = c.args.buf.now.items ++ opening_text c.args.object ∷ [] in
          let b = value_next c.parts.inside c.parts.is_first c.parts.rest.now c.in_ok-next.next c.in-Value.value c.parts.buf c.begin_next.new.buf c.in-Value.is c.in_ok-next.ensures.begins in
          let n = part_there (g.Z.Zeros.due c.parts.zeros) later c.parts.objects c.parts.depth (c.parts.depth - 1) c.parts.rest.now more c.parts.inside c.parts.is_first o start c.parts.buf.items (omega (arith, c.parts.invariant.some)) c.parts.invariant.inside (c.parts.invariant.writes o is h more e later each d) b.0 in
          let due = b.1 n.next.name _ n.next.occurs in
          let bounds = c.append_positive-digits.ensures.number c.if-digits-gt0.true in
          let scalar = scalar_there n.next.left n.next.value n.next.readable c.in-Some.first.now c.in-Some.others.now c.in-Value.value.now _ c.in-Some.ensures.cases.0 due.0 (λ z. omega (arith, bounds.1, z)) (λ z. omega (arith, bounds.1, z)) in
          let x = number_there n.next.left n.next.value n.next.readable scalar c.in-Some.first.now c.in-Some.others.now c.in-Value.value.now _ c.in-Some.ensures.cases.0 due.0 (λ z. omega (arith, bounds.1, z)) (λ z. omega (arith, bounds.1, z)) (λ z. omega (arith, bounds.0, z)) (λ z. omega (arith, bounds.0, z)) in
          let there : c.in-Value.value.now ≡ number_key x.0 ++ (opens_key (n.next.others ∷ n.next.under) ++ more) = due.0 ∙ ap (λ v. key_of v ++ (opens_key (n.next.others ∷ n.next.under) ++ more)) x.2 in
          let counts = opens_counts (n.next.others ∷ n.next.under) ++ later in
          let left = due_as (g.Z.Zeros.due c.parts.zeros) (counts_at n.next.value ++ counts) (counts_at (number x.0) ++ counts) (ap (λ v. counts_at v ++ counts) x.2) n.due in
          let f = c.append_positive-digits.ensures.found c.if-digits-gt0.true x.0 x.1 _ (sym c.in-Some.ensures.cases.0 ∙ there) in
          let done = c.in_ok-append_next.ensures.completes x.0 x.1 c.begin_next.new.buf.items (omega (arith, c.len-start.ensures)) f.1 left.passed (behind_first x.0 counts) (omega (arith, number_left x.0 x.1 c.in-Value.value.now (opens_key (n.next.others ∷ n.next.under) ++ more) counts there (each_there (g.Z.Zeros.due c.parts.zeros) later c.parts.objects c.parts.depth c.parts.rest.now more c.parts.inside c.parts.is_first o start c.parts.buf.items n each), ap length c.in-Some.ensures.cases.0)) left.due in
          scalar_written (g.Z.Zeros.due c.parts.zeros) later c.parts.objects c.parts.depth c.parts.rest.now more c.parts.inside c.parts.is_first o start c.parts.buf.items n c.begin_next.new.buf.items due.1 (g.Z.Zeros.due c.append_next.new.self) (record { passed = length (number_key x.0) - 1; due = done.1 }) _ c.append_next.new.buf.items (take_rest c.in-Some.others.now c.append_positive-digits.result ∙ f.0) (done.0 ∙ ap (λ v. c.begin_next.new.buf.items ++ tree_text v) (sym x.2));
      preserves = preserves_on c.args.buf.now c.parts.buf c.append_next.new.buf c.parts.invariant.preserves (preserves_on c.parts.buf c.begin_next.new.buf c.append_next.new.buf c.begin_next.ensures.preserves (preserves_on c.begin_next.new.buf c.append_positive-digits.new.buf c.append_next.new.buf c.append_positive-digits.ensures.takes.preserves c.in_ok-append_next.ensures.preserves));
      some = c.parts.invariant.some;
      deep = c.parts.invariant.deep;
      size = c.parts.invariant.size;
      inside = c.parts.invariant.inside;
    }

pub parts-preserved-then-short-gt0 : goal.parts-preserved-then-short-gt0
parts-preserved-then-short-gt0 g c =
    record {
      writes = λ o is h more e later each d.
          let start = c.args.buf.now.items ++ opening_text c.args.object ∷ [] in
          let b = value_next c.parts.inside c.parts.is_first c.parts.rest.now c.in_ok-next.next c.in-Value.value c.parts.buf c.begin_next.new.buf c.in-Value.is c.in_ok-next.ensures.begins in
          let n = part_there (g.Z.Zeros.due c.parts.zeros) later c.parts.objects c.parts.depth (c.parts.depth - 1) c.parts.rest.now more c.parts.inside c.parts.is_first o start c.parts.buf.items (omega (arith, c.parts.invariant.some)) c.parts.invariant.inside (c.parts.invariant.writes o is h more e later each d) b.0 in
          let due = b.1 n.next.name _ n.next.occurs in
          let same = c.append_positive-digits.ensures.takes.none (omega (arith, c.if-digits-gt0.false)) in
          let x = string_text n.next.left n.next.value n.next.readable c.in-Some.first.now c.in-Some.others.now c.in-Value.value.now _ c.in-Some.ensures.cases.0 due.0 c.if-first.true in
          let f = c.append_short_string-short.ensures.found c.if-short-gt0.true x.0 _ x.1 in
          scalar_written (g.Z.Zeros.due c.parts.zeros) later c.parts.objects c.parts.depth c.parts.rest.now more c.parts.inside c.parts.is_first o start c.parts.buf.items n c.append_positive-digits.new.buf.items (same ∙ due.1) (g.Z.Zeros.due c.parts.zeros) (due_behind_plain (g.Z.Zeros.due c.parts.zeros) n.next.value _ x.3 n.due) _ c.append_short_string-short.new.buf.items (take_rest c.in-Some.others.now c.append_short_string-short.result ∙ f.0) (f.1 ∙ ap (λ t. c.append_positive-digits.new.buf.items ++ t) (sym x.2));
      preserves = preserves_on c.args.buf.now c.parts.buf c.append_short_string-short.new.buf c.parts.invariant.preserves (preserves_on c.parts.buf c.begin_next.new.buf c.append_short_string-short.new.buf c.begin_next.ensures.preserves (preserves_on c.begin_next.new.buf c.append_positive-digits.new.buf c.append_short_string-short.new.buf c.append_positive-digits.ensures.takes.preserves (c.append_short_string-short.ensures.takes.preserves)));
      some = c.parts.invariant.some;
      deep = c.parts.invariant.deep;
      size = c.parts.invariant.size;
      inside = c.parts.invariant.inside;
    }

pub returns-in_err-rest-clause-found : goal.returns-in_err-rest-clause-found
returns-in_err-rest-clause-found g c = λ o is h more e later each d.
    let start = c.args.buf.now.items ++ opening_text c.args.object ∷ [] in
    let b = value_next c.parts.inside c.parts.is_first c.parts.rest.now c.in_ok-next.next c.in-Value.value c.parts.buf c.begin_next.new.buf c.in-Value.is c.in_ok-next.ensures.begins in
    let n = part_there (g.Z.Zeros.due c.parts.zeros) later c.parts.objects c.parts.depth (c.parts.depth - 1) c.parts.rest.now more c.parts.inside c.parts.is_first o start c.parts.buf.items (omega (arith, c.parts.invariant.some)) c.parts.invariant.inside (c.parts.invariant.writes o is h more e later each d) b.0 in
    let due = b.1 n.next.name _ n.next.occurs in
    let same = c.append_positive-digits.ensures.takes.none (omega (arith, c.if-digits-gt0.false)) in
    let none_short = c.append_short_string-short.ensures.takes.none (omega (arith, c.if-short-gt0.false)) ∙ same in
    let x = string_text n.next.left n.next.value n.next.readable c.in-Some.first.now c.in-Some.others.now c.in-Value.value.now _ c.in-Some.ensures.cases.0 due.0 c.if-first.true in
    let lacks = c.in_err-rest.ensures.found x.0 _ x.1 in
    let space = value_fits (g.Z.Zeros.due c.parts.zeros) later c.parts.objects c.parts.depth c.parts.rest.now more c.parts.inside c.parts.is_first o start c.parts.buf.items n c.append_short_string-short.new.buf.items (none_short ∙ due.1) in
    passed_on (λ rest. rest.now) c.from_residual-in_err-rest.result c.args.buf.now c.append_long_string.new.buf more _ c.in_err-rest.field-0.0 c.from_residual-in_err-rest.ensures.1 lacks.0
    (omega (arith, space, ap length x.2, length-append c.args.buf.now.items (opening_text c.args.object ∷ []), c.parts.invariant.preserves.capacity, c.begin_next.ensures.preserves.capacity, c.append_positive-digits.ensures.takes.preserves.capacity, c.append_short_string-short.ensures.takes.preserves.capacity, lacks.1))

pub parts-preserved-then-first : goal.parts-preserved-then-first
parts-preserved-then-first g c =
    record {
      writes = λ o is h more e later each d.
          let start = c.args.buf.now.items ++ opening_text c.args.object ∷ [] in
          let b = value_next c.parts.inside c.parts.is_first c.parts.rest.now c.in_ok-next.next c.in-Value.value c.parts.buf c.begin_next.new.buf c.in-Value.is c.in_ok-next.ensures.begins in
          let n = part_there (g.Z.Zeros.due c.parts.zeros) later c.parts.objects c.parts.depth (c.parts.depth - 1) c.parts.rest.now more c.parts.inside c.parts.is_first o start c.parts.buf.items (omega (arith, c.parts.invariant.some)) c.parts.invariant.inside (c.parts.invariant.writes o is h more e later each d) b.0 in
          let due = b.1 n.next.name _ n.next.occurs in
          let same = c.append_positive-digits.ensures.takes.none (omega (arith, c.if-digits-gt0.false)) in
          let none_short = c.append_short_string-short.ensures.takes.none (omega (arith, c.if-short-gt0.false)) ∙ same in
          let x = string_text n.next.left n.next.value n.next.readable c.in-Some.first.now c.in-Some.others.now c.in-Value.value.now _ c.in-Some.ensures.cases.0 due.0 c.if-first.true in
          let y = c.in_ok-rest.ensures.found x.0 _ x.1 in
          scalar_written (g.Z.Zeros.due c.parts.zeros) later c.parts.objects c.parts.depth c.parts.rest.now more c.parts.inside c.parts.is_first o start c.parts.buf.items n c.append_short_string-short.new.buf.items (none_short ∙ due.1) (g.Z.Zeros.due c.parts.zeros) (due_behind_plain (g.Z.Zeros.due c.parts.zeros) n.next.value _ x.3 n.due) c.in_ok-rest.rest.now c.append_long_string.new.buf.items y.0 (y.1 ∙ ap (λ t. c.append_short_string-short.new.buf.items ++ t) (sym x.2));
      preserves = preserves_on c.args.buf.now c.parts.buf c.append_long_string.new.buf c.parts.invariant.preserves (preserves_on c.parts.buf c.begin_next.new.buf c.append_long_string.new.buf c.begin_next.ensures.preserves (preserves_on c.begin_next.new.buf c.append_positive-digits.new.buf c.append_long_string.new.buf c.append_positive-digits.ensures.takes.preserves (preserves_on c.append_positive-digits.new.buf c.append_short_string-short.new.buf c.append_long_string.new.buf c.append_short_string-short.ensures.takes.preserves (c.in_ok-rest.ensures.preserves))));
      some = c.parts.invariant.some;
      deep = c.parts.invariant.deep;
      size = c.parts.invariant.size;
      inside = c.parts.invariant.inside;
    }

pub parts-preserved-then-append_word : goal.parts-preserved-then-append_word
parts-preserved-then-append_word g c =
    record {
      writes = λ o is h more e later each d.
          let start = c.args.buf.now.items ++ opening_text c.args.object ∷ [] in
          let b = value_next c.parts.inside c.parts.is_first c.parts.rest.now c.in_ok-next.next c.in-Value.value c.parts.buf c.begin_next.new.buf c.in-Value.is c.in_ok-next.ensures.begins in
          let n = part_there (g.Z.Zeros.due c.parts.zeros) later c.parts.objects c.parts.depth (c.parts.depth - 1) c.parts.rest.now more c.parts.inside c.parts.is_first o start c.parts.buf.items (omega (arith, c.parts.invariant.some)) c.parts.invariant.inside (c.parts.invariant.writes o is h more e later each d) b.0 in
          let due = b.1 n.next.name _ n.next.occurs in
          let same = c.append_positive-digits.ensures.takes.none (omega (arith, c.if-digits-gt0.false)) in
          let away : (c.in-Some.first.now ≢ 209) × (c.in-Some.first.now ≢ 210) = elim c.then-first-lt-OBJECT.branch [
            | then-first-lt-OBJECT-via-then-first-lt-OBJECT w ↦ (λ z. omega (arith, z, w.if-first-lt-OBJECT.true), λ z. omega (arith, z, w.if-first-lt-OBJECT.true))
            | then-first-lt-OBJECT-via-else-first-lt-OBJECT+then-first-gt-ARRAY w ↦ (λ z. omega (arith, z, w.if-first-gt-ARRAY.true), λ z. omega (arith, z, w.if-first-gt-ARRAY.true))
          ] in
          let scalar = scalar_there n.next.left n.next.value n.next.readable c.in-Some.first.now c.in-Some.others.now c.in-Value.value.now _ c.in-Some.ensures.cases.0 due.0 away.0 away.1 in
          let word = word_of n.next.left n.next.value n.next.readable scalar c.in-Some.first.now c.in-Some.others.now c.in-Value.value.now _ c.in-Some.ensures.cases.0 due.0 in
          let x : (c.in-Some.others.now ≡ opens_key (n.next.others ∷ n.next.under) ++ more) × (c.append_word.new.buf.items ≡ c.append_positive-digits.new.buf.items ++ tree_text n.next.value) × AreZeros (counts_at n.next.value) = elim (c.append_word.ensures.appended c.if-append_word.true) [
            | inl a ↦ ((word.is_null a.0).0, a.1 ∙ ap (λ t. c.append_positive-digits.new.buf.items ++ t) (sym (word.is_null a.0).1), (word.is_null a.0).2)
            | inr b ↦ elim b [
              | inl a ↦ ((word.is_false a.0).0, a.1 ∙ ap (λ t. c.append_positive-digits.new.buf.items ++ t) (sym (word.is_false a.0).1), (word.is_false a.0).2)
              | inr a ↦ ((word.is_true a.0).0, a.1 ∙ ap (λ t. c.append_positive-digits.new.buf.items ++ t) (sym (word.is_true a.0).1), (word.is_true a.0).2)
            ]
          ] in
          scalar_written (g.Z.Zeros.due c.parts.zeros) later c.parts.objects c.parts.depth c.parts.rest.now more c.parts.inside c.parts.is_first o start c.parts.buf.items n c.append_positive-digits.new.buf.items (same ∙ due.1) (g.Z.Zeros.due c.parts.zeros) (due_behind_plain (g.Z.Zeros.due c.parts.zeros) n.next.value _ x.2 n.due) _ c.append_word.new.buf.items x.0 x.1;
      preserves = preserves_on c.args.buf.now c.parts.buf c.append_word.new.buf c.parts.invariant.preserves (preserves_on c.parts.buf c.begin_next.new.buf c.append_word.new.buf c.begin_next.ensures.preserves (preserves_on c.begin_next.new.buf c.append_positive-digits.new.buf c.append_word.new.buf c.append_positive-digits.ensures.takes.preserves (c.append_word.ensures.preserves)));
      some = c.parts.invariant.some;
      deep = c.parts.invariant.deep;
      size = c.parts.invariant.size;
      inside = c.parts.invariant.inside;
    }

pub returns-in_err-rest-2-clause-found : goal.returns-in_err-rest-2-clause-found
returns-in_err-rest-2-clause-found g c = λ o is h more e later each d.
    let start = c.args.buf.now.items ++ opening_text c.args.object ∷ [] in
    let b = value_next c.parts.inside c.parts.is_first c.parts.rest.now c.in_ok-next.next c.in-Value.value c.parts.buf c.begin_next.new.buf c.in-Value.is c.in_ok-next.ensures.begins in
    let n = part_there (g.Z.Zeros.due c.parts.zeros) later c.parts.objects c.parts.depth (c.parts.depth - 1) c.parts.rest.now more c.parts.inside c.parts.is_first o start c.parts.buf.items (omega (arith, c.parts.invariant.some)) c.parts.invariant.inside (c.parts.invariant.writes o is h more e later each d) b.0 in
    let due = b.1 n.next.name _ n.next.occurs in
    let same = c.append_positive-digits.ensures.takes.none (omega (arith, c.if-digits-gt0.false)) in
    let away : (c.in-Some.first.now ≢ 209) × (c.in-Some.first.now ≢ 210) = elim c.then-first-lt-OBJECT.branch [
      | then-first-lt-OBJECT-via-then-first-lt-OBJECT w ↦ (λ z. omega (arith, z, w.if-first-lt-OBJECT.true), λ z. omega (arith, z, w.if-first-lt-OBJECT.true))
      | then-first-lt-OBJECT-via-else-first-lt-OBJECT+then-first-gt-ARRAY w ↦ (λ z. omega (arith, z, w.if-first-gt-ARRAY.true), λ z. omega (arith, z, w.if-first-gt-ARRAY.true))
    ] in
    let scalar = scalar_there n.next.left n.next.value n.next.readable c.in-Some.first.now c.in-Some.others.now c.in-Value.value.now _ c.in-Some.ensures.cases.0 due.0 away.0 away.1 in
    let no_word = c.append_word.ensures.unchanged c.if-append_word.false ∙ same in
    let lacks = c.in_err-rest-2.ensures.found n.next.left n.next.value n.next.readable scalar _ (sym c.in-Some.ensures.cases.0 ∙ due.0) (opens_counts (n.next.others ∷ n.next.under) ++ later) (each_there (g.Z.Zeros.due c.parts.zeros) later c.parts.objects c.parts.depth c.parts.rest.now more c.parts.inside c.parts.is_first o start c.parts.buf.items n each) n.due in
    let space = value_fits (g.Z.Zeros.due c.parts.zeros) later c.parts.objects c.parts.depth c.parts.rest.now more c.parts.inside c.parts.is_first o start c.parts.buf.items n c.append_word.new.buf.items (no_word ∙ due.1) in
    passed_on (λ rest. rest.now) c.from_residual-in_err-rest-2.result c.args.buf.now c.append_scalar.new.buf more _ c.in_err-rest-2.field-0.0 c.from_residual-in_err-rest-2.ensures.1 lacks.0.0
    (omega (arith, space, length-append c.args.buf.now.items (opening_text c.args.object ∷ []), c.parts.invariant.preserves.capacity, c.begin_next.ensures.preserves.capacity, c.append_positive-digits.ensures.takes.preserves.capacity, c.append_word.ensures.preserves.capacity, lacks.0.1))

pub returns-in_err-rest-2-clause-preserves : goal.returns-in_err-rest-2-clause-preserves
returns-in_err-rest-2-clause-preserves g c =
    preserves_on c.args.buf.now c.parts.buf c.append_scalar.new.buf c.parts.invariant.preserves (preserves_on c.parts.buf c.begin_next.new.buf c.append_scalar.new.buf c.begin_next.ensures.preserves (preserves_on c.begin_next.new.buf c.append_positive-digits.new.buf c.append_scalar.new.buf c.append_positive-digits.ensures.takes.preserves (preserves_on c.append_positive-digits.new.buf c.append_word.new.buf c.append_scalar.new.buf c.append_word.ensures.preserves (c.in_err-rest-2.ensures.preserves))))

pub parts-preserved-then-first-lt-OBJECT : goal.parts-preserved-then-first-lt-OBJECT
parts-preserved-then-first-lt-OBJECT g c =
    record {
      writes = λ o is h more e later each d.
          let start = c.args.buf.now.items ++ opening_text c.args.object ∷ [] in
          let b = value_next c.parts.inside c.parts.is_first c.parts.rest.now c.in_ok-next.next c.in-Value.value c.parts.buf c.begin_next.new.buf c.in-Value.is c.in_ok-next.ensures.begins in
          let n = part_there (g.Z.Zeros.due c.parts.zeros) later c.parts.objects c.parts.depth (c.parts.depth - 1) c.parts.rest.now more c.parts.inside c.parts.is_first o start c.parts.buf.items (omega (arith, c.parts.invariant.some)) c.parts.invariant.inside (c.parts.invariant.writes o is h more e later each d) b.0 in
          let due = b.1 n.next.name _ n.next.occurs in
          let same = c.append_positive-digits.ensures.takes.none (omega (arith, c.if-digits-gt0.false)) in
          let away : (c.in-Some.first.now ≢ 209) × (c.in-Some.first.now ≢ 210) = elim c.then-first-lt-OBJECT.branch [
            | then-first-lt-OBJECT-via-then-first-lt-OBJECT w ↦ (λ z. omega (arith, z, w.if-first-lt-OBJECT.true), λ z. omega (arith, z, w.if-first-lt-OBJECT.true))
            | then-first-lt-OBJECT-via-else-first-lt-OBJECT+then-first-gt-ARRAY w ↦ (λ z. omega (arith, z, w.if-first-gt-ARRAY.true), λ z. omega (arith, z, w.if-first-gt-ARRAY.true))
          ] in
          let scalar = scalar_there n.next.left n.next.value n.next.readable c.in-Some.first.now c.in-Some.others.now c.in-Value.value.now _ c.in-Some.ensures.cases.0 due.0 away.0 away.1 in
          let no_word = c.append_word.ensures.unchanged c.if-append_word.false ∙ same in
          let y = c.in_ok-rest-2.ensures.found n.next.left n.next.value n.next.readable scalar _ (sym c.in-Some.ensures.cases.0 ∙ due.0) (opens_counts (n.next.others ∷ n.next.under) ++ later) (each_there (g.Z.Zeros.due c.parts.zeros) later c.parts.objects c.parts.depth c.parts.rest.now more c.parts.inside c.parts.is_first o start c.parts.buf.items n each) n.due in
          scalar_written (g.Z.Zeros.due c.parts.zeros) later c.parts.objects c.parts.depth c.parts.rest.now more c.parts.inside c.parts.is_first o start c.parts.buf.items n c.append_word.new.buf.items (no_word ∙ due.1) (g.Z.Zeros.due c.append_scalar.new.zeros) y.1 c.in_ok-rest-2.rest.now c.append_scalar.new.buf.items y.0.0 y.0.1;
      preserves = preserves_on c.args.buf.now c.parts.buf c.append_scalar.new.buf c.parts.invariant.preserves (preserves_on c.parts.buf c.begin_next.new.buf c.append_scalar.new.buf c.begin_next.ensures.preserves (preserves_on c.begin_next.new.buf c.append_positive-digits.new.buf c.append_scalar.new.buf c.append_positive-digits.ensures.takes.preserves (preserves_on c.append_positive-digits.new.buf c.append_word.new.buf c.append_scalar.new.buf c.append_word.ensures.preserves (c.in_ok-rest-2.ensures.preserves))));
      some = c.parts.invariant.some;
      deep = c.parts.invariant.deep;
      size = c.parts.invariant.size;
      inside = c.parts.invariant.inside;
    }

pub returns-then-depth-eq-MAX_DEPTH-clause-found : goal.returns-then-depth-eq-MAX_DEPTH-clause-found
returns-then-depth-eq-MAX_DEPTH-clause-found g c = λ o is h more e later each d.
    let start = c.args.buf.now.items ++ opening_text c.args.object ∷ [] in
    let b = value_next c.parts.inside c.parts.is_first c.parts.rest.now c.in_ok-next.next c.in-Value.value c.parts.buf c.begin_next.new.buf c.in-Value.is c.in_ok-next.ensures.begins in
    let n = part_there (g.Z.Zeros.due c.parts.zeros) later c.parts.objects c.parts.depth (c.parts.depth - 1) c.parts.rest.now more c.parts.inside c.parts.is_first o start c.parts.buf.items (omega (arith, c.parts.invariant.some)) c.parts.invariant.inside (c.parts.invariant.writes o is h more e later each d) b.0 in
    let due = b.1 n.next.name _ n.next.occurs in
    let x = opened_text n.next.left n.next.value n.next.readable c.in-Some.first.now c.in-Some.others.now c.in-Value.value.now _ c.in-Some.ensures.cases.0 due.0 c.in-Some-opening.inner c.in-Some-opening.ensures in
    absurd (too_deep c.parts.objects c.parts.depth c.parts.rest.now more c.parts.inside n.next x.inner x.deeper c.if-depth-eq-MAX_DEPTH.true)

pub returns-then-depth-eq-MAX_DEPTH-clause-preserves : goal.returns-then-depth-eq-MAX_DEPTH-clause-preserves
returns-then-depth-eq-MAX_DEPTH-clause-preserves g c =
    preserves_on c.args.buf.now c.parts.buf c.append_positive-digits.new.buf c.parts.invariant.preserves (preserves_on c.parts.buf c.begin_next.new.buf c.append_positive-digits.new.buf c.begin_next.ensures.preserves (c.append_positive-digits.ensures.takes.preserves))

pub returns-in_err-append_opening-2-clause-found : goal.returns-in_err-append_opening-2-clause-found
returns-in_err-append_opening-2-clause-found g c = λ o is h more e later each d.
    let start = c.args.buf.now.items ++ opening_text c.args.object ∷ [] in
    let b = value_next c.parts.inside c.parts.is_first c.parts.rest.now c.in_ok-next.next c.in-Value.value c.parts.buf c.begin_next.new.buf c.in-Value.is c.in_ok-next.ensures.begins in
    let n = part_there (g.Z.Zeros.due c.parts.zeros) later c.parts.objects c.parts.depth (c.parts.depth - 1) c.parts.rest.now more c.parts.inside c.parts.is_first o start c.parts.buf.items (omega (arith, c.parts.invariant.some)) c.parts.invariant.inside (c.parts.invariant.writes o is h more e later each d) b.0 in
    let due = b.1 n.next.name _ n.next.occurs in
    let same = c.append_positive-digits.ensures.takes.none (omega (arith, c.if-digits-gt0.false)) in
    let x = opened_text n.next.left n.next.value n.next.readable c.in-Some.first.now c.in-Some.others.now c.in-Value.value.now _ c.in-Some.ensures.cases.0 due.0 c.in-Some-opening.inner c.in-Some-opening.ensures in
    let space = opening_fits (g.Z.Zeros.due c.parts.zeros) later c.parts.objects c.parts.depth c.parts.rest.now more c.parts.inside c.parts.is_first o start c.parts.buf.items n c.append_positive-digits.new.buf.items (same ∙ due.1) x.open_there c.in-Some-opening.inner x.text x.counts in
    out_of_memory (λ rest. rest.now) c.from_residual-in_err-append_opening-2.result c.args.buf.now c.append_opening-in-parts.new.buf more _ c.from_residual-in_err-append_opening-2.ensures.1
    (omega (arith, space, length-append c.args.buf.now.items (opening_text c.args.object ∷ []), c.parts.invariant.preserves.capacity, c.begin_next.ensures.preserves.capacity, c.append_positive-digits.ensures.takes.preserves.capacity, c.in_err-append_opening-2.ensures.full))

pub returns-in_err-append_opening-2-clause-preserves : goal.returns-in_err-append_opening-2-clause-preserves
returns-in_err-append_opening-2-clause-preserves g c =
    preserves_on c.args.buf.now c.parts.buf c.append_opening-in-parts.new.buf c.parts.invariant.preserves (preserves_on c.parts.buf c.begin_next.new.buf c.append_opening-in-parts.new.buf c.begin_next.ensures.preserves (preserves_on c.begin_next.new.buf c.append_positive-digits.new.buf c.append_opening-in-parts.new.buf c.append_positive-digits.ensures.takes.preserves (retained_by c.append_positive-digits.new.buf c.append_opening-in-parts.new.buf c.in_err-append_opening-2.ensures)))

pub parts-preserved : goal.parts-preserved
parts-preserved g c =
    record {
      writes = λ o is h more e later each d.
          let start = c.args.buf.now.items ++ opening_text c.args.object ∷ [] in
          let b = value_next c.parts.inside c.parts.is_first c.parts.rest.now c.in_ok-next.next c.in-Value.value c.parts.buf c.begin_next.new.buf c.in-Value.is c.in_ok-next.ensures.begins in
          let n = part_there (g.Z.Zeros.due c.parts.zeros) later c.parts.objects c.parts.depth (c.parts.depth - 1) c.parts.rest.now more c.parts.inside c.parts.is_first o start c.parts.buf.items (omega (arith, c.parts.invariant.some)) c.parts.invariant.inside (c.parts.invariant.writes o is h more e later each d) b.0 in
          let due = b.1 n.next.name _ n.next.occurs in
          let same = c.append_positive-digits.ensures.takes.none (omega (arith, c.if-digits-gt0.false)) in
          let x = opened_text n.next.left n.next.value n.next.readable c.in-Some.first.now c.in-Some.others.now c.in-Value.value.now _ c.in-Some.ensures.cases.0 due.0 c.in-Some-opening.inner c.in-Some-opening.ensures in
          part_begun (g.Z.Zeros.due c.parts.zeros) later c.parts.objects c.parts.depth c.parts.rest.now more c.parts.inside c.parts.is_first o start c.parts.buf.items n c.append_positive-digits.new.buf.items (same ∙ due.1) x.open_there c.in-Some-opening.inner x.text x.counts x.inner x.deeper x.fits x.is
          (omega (arith, c.parts.invariant.deep, c.parts.invariant.size, c.if-depth-eq-MAX_DEPTH.false)) c.in-Some.others.now c.append_opening-in-parts.new.buf.items x.occurs c.in_ok-append_opening-2.ensures.ok;
      preserves = preserves_on c.args.buf.now c.parts.buf c.append_opening-in-parts.new.buf c.parts.invariant.preserves (preserves_on c.parts.buf c.begin_next.new.buf c.append_opening-in-parts.new.buf c.begin_next.ensures.preserves (preserves_on c.begin_next.new.buf c.append_positive-digits.new.buf c.append_opening-in-parts.new.buf c.append_positive-digits.ensures.takes.preserves (retained_by c.append_positive-digits.new.buf c.append_opening-in-parts.new.buf c.in_ok-append_opening-2.ensures)));
      some = omega arith;
      deep = omega (arith, c.parts.invariant.deep, c.if-depth-eq-MAX_DEPTH.false);
      size = simp length-set c.parts.invariant.size;
      inside = sym (ap (λ i. get_or (set c.parts.objects c.parts.depth c.in-Some-opening.inner) i false) {x = c.parts.depth + 1 - 1} (omega arith) ∙ get_or-set_same c.parts.objects c.parts.depth c.in-Some-opening.inner false (omega (arith, c.parts.invariant.deep, c.parts.invariant.size, c.if-depth-eq-MAX_DEPTH.false)));
    }
