use Rattle.std.proofs.Common.{◌∷◌, [], false, refl, sym, ap, subst, ◌∙◌, append-nil, arith}
use Rattle.key_value.proofs.FirstBytes.{no_key}
use Rattle.jsonb_spec.specs.SortKey.{key_of}
use Rattle.jsonb_spec.specs.SortKey.Open.{open_key}
use Rattle.key_walk.proofs.Scalars.{opened_at_top, scalar_there}
use Rattle.key_walk.proofs.Stepping.{opening_there}
use Rattle.jsonb_spec.specs.Edit.LeftOut.{without_nulls}
use Rattle.key_document.specs.Retaining.{AreAhead, WritesAll}
use Rattle.key_text.proofs.Counts.{one_each}
use Rattle.key_document.proofs.OpenCounts.{opened_bytes}
use Rattle.key_document.proofs.Retained.{all_written, retains_begun}
use Rattle.key_document.proofs.Stripped.{bare_scalar}
use Rattle.key_document.proofs.nulls.write_value.Goals as goal
use Rattle.jsonb_spec.specs.Document.Counts.{counts_at}

pub returns-in_default-clause-written : goal.returns-in_default-clause-written
returns-in_default-clause-written c = λ t r e a. absurd (no_key 512 t r c.args.key.now [] (e ∙ sym (append-nil (key_of t))) c.in_default.ensures.cases)

pub returns-in-Some-opening-clause-written : goal.returns-in-Some-opening-clause-written
returns-in-Some-opening-clause-written c = λ t r e a.
    let x = opening_there 512 t r c.in-Some.first.now c.in-Some.parts.now c.args.key.now [] c.in-Some.ensures.cases.0 (e ∙ sym (append-nil (key_of t))) c.in-Some-opening.object c.in-Some-opening.ensures in
    subst (λ u. WritesAll c.args.output (without_nulls c.args.in_arrays u) c.write_parts.result c.args.out.now c.write_parts.new.out) (sym x.whole)
    (c.write_parts.ensures.written x.inside x.is (opened_at_top x.inside x.inner x.deeper x.fits) (x.occurs ∙ append-nil (open_key x.inside)) (record {
      nothing = refl;
      pending_is = c.in-Some.ensures.cases.0 ∙ ap (λ f. f ∷ c.in-Some.parts.now) c.in-Some-opening.ensures;
      are_ahead = subst (AreAhead c.args.output) (ap counts_at x.whole ∙ opened_bytes x.inside) a;
    }))

pub returns-in-None-clause-written : goal.returns-in-None-clause-written
returns-in-None-clause-written c = λ t r e a.
    let scalar = scalar_there 512 t r c.in-Some.first.now c.in-Some.parts.now c.args.key.now [] c.in-Some.ensures.cases.0 (e ∙ sym (append-nil (key_of t))) c.in-None.ensures.0 c.in-None.ensures.1 in
    subst (λ u. WritesAll c.args.output u c.write_rest.result c.args.out.now c.write_rest.new.out) (sym (bare_scalar c.args.in_arrays t scalar))
    (all_written c.args.output t c.write_rest.result c.args.out.now c.args.out.now c.write_rest.new.out (omega arith)
    (c.write_rest.ensures.written c.args.output (key_of t) (counts_at t) (key_of t) (counts_at t) c.args.out.now.items (one_each t r.proper)
    (retains_begun c.args.output (key_of t) (counts_at t) c.args.out.now.items (record { output = c.args.output; pending = c.args.key; found = false }) (key_of t) (counts_at t) [] [] (key_of t) (counts_at t) refl refl e a refl refl)))
