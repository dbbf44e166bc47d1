use Rattle.std.proofs.Common.{◌≡◌, ℕ, List, ◌++◌, true, is_ok, Some, Result, Ok, Err, OnOk, sym, ap, ◌∙◌}
use Rattle.std.proofs.lemmas.List.{append_cancel_left}
use Rattle.jsonb_spec.specs.Proper.{IsProper}
use Rattle.jsonb_spec.specs.Text.{tree_text}
use Rattle.jsonb_value.specs.View.{view}
use Rattle.jsonb_spec.specs.Text.Range.{IsIntegral}
use Rattle.jsonb_core.proofs.Trees.RangeTexts.{text_in_range, range_reads_back, mode_range_text, text_of_integers}
use Rattle.jsonb_value.proofs.value.Value.write_text.Goals as goal
use Rattle.jsonb_value.proofs.value.Value.write_text.Goals.{Then-is_ok}

-- the bytes that were appended are the text
appended_text : (old text bytes new : List ℕ) → new ≡ old ++ text → new ≡ old ++ bytes → text ≡ bytes
appended_text old text bytes new e f = append_cancel_left old text bytes (sym e ∙ f)

done : {T E P : Type 0} (r : Result T E) → is_ok r ≡ true → OnOk r P → P
done (Ok x) e p = p
done (Err x) e p = cc

written : (c : Then-is_ok) → c.append.new.buf.items ≡ c.args.buf.now.items ++ tree_text (view c.args.self.now)
written c = done c.append.result (sym c.is_ok.ensures.value ∙ c.if-is_ok.true) c.append.ensures.appends.ok

proper_tree : (c : Then-is_ok) → IsProper (view c.args.self.now)
proper_tree c = done c.append.result (sym c.is_ok.ensures.value ∙ c.if-is_ok.true) c.append.ensures.proper

pub returns-then-is_ok-clause-reads_back : goal.returns-then-is_ok-clause-reads_back
returns-then-is_ok-clause-reads_back c = λ mode range bytes appended.
    let t = view c.args.self.now in
    let same = appended_text c.args.buf.now.items (tree_text t) bytes c.append.new.buf.items (written c) appended in
    range_reads_back mode t (proper_tree c) range bytes (mode_range_text mode t range ∙ ap Some same)

pub returns-then-is_ok-clause-one_text : goal.returns-then-is_ok-clause-one_text
returns-then-is_ok-clause-one_text c = λ range bytes appended u proper within.
    let t = view c.args.self.now in
    let same = appended_text c.args.buf.now.items (tree_text t) bytes c.append.new.buf.items (written c) appended in
    text_of_integers t u bytes (proper_tree c) proper range within (text_in_range IsIntegral t range ∙ ap Some same)
