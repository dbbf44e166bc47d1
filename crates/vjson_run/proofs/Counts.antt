-- How often each key is there is printed, one key after the other.
use Rattle.std.proofs.Common.{◌≡◌, ℕ, ◌+◌, ◌<◌, ◌≤◌, Bool, true, false, List, [], ◌∷◌, ◌++◌, Option, None, Some, drop, get_or, length, if◌then◌else◌, sym, ap, subst, ◌∙◌, arith, append_assoc, append-nil}
use Rattle.std.proofs.lemmas.List.{drop_all, drop_more}
use Rattle.std.specs.Io.KnownBytes.{Appends}
use Rattle.vjson_run.proofs.Taken.{appended_more}
use Rattle.vjson_run.specs.Lines.{count_line, counts_from, counts_of, same_key}
use Rattle.vjson_run.specs.Output.{PrintsPart, output}
use Rattle.vjson_run.specs.declared.lines.Line.{Line}
use Rattle.vjson_run.specs.declared.report.Output.{Output}

module _ {W : Type 0} (contents : W → Option (List ℕ)) where
  pub prints_then : (a b c : Output W) (part more : List ℕ) → PrintsPart contents a b part → PrintsPart contents b c more → PrintsPart contents a c (part ++ more)
  prints_then a b c part more h k = record {
    failed = λ fine. h.failed (k.failed fine);
    printed = λ fine. appended_more contents (output contents a) (output contents b) (output contents c) part more (h.printed (k.failed fine)) (k.printed fine);
  }

  -- what is printed, and what is left to be printed
  pub record CountsSo (old out : Output W) (count : ℕ) (line : Line) (lines : List Line) (left : List Line) (index : ℕ) : Type 0 where
    pub few : count ≤ index + 1
    pub printed : List ℕ
    pub prints : PrintsPart contents old out printed
    pub rest : (by_parts : Bool) → printed ++ counts_from count line left ≡ counts_of by_parts lines

  appends_none : (known : Option (List ℕ)) → Appends known known []
  appends_none None = tt
  appends_none (Some xs) = sym (append-nil xs)

  pub counts_first : (out : Output W) (line : Line) (lines others : List Line) → lines ≡ line ∷ others → CountsSo out out 1 line lines others 0
  counts_first out line lines others is = record {
    few = omega arith;
    printed = [];
    prints = record { failed = λ fine. fine; printed = λ fine. appends_none (output contents out) };
    rest = λ by_parts. ap (counts_of by_parts) (sym is);
  }

  by_key : (same : Bool) (count : ℕ) (line next : Line) (more : List Line) → same_key line next ≡ same
      → counts_from count line (next ∷ more) ≡ (if same then counts_from (count + 1) line more else count_line count line ++ counts_from 1 next more)
  by_key same count line next more is = ap (λ b. if b then counts_from (count + 1) line more else count_line count line ++ counts_from 1 next more) is

  pub counts_same : (old out : Output W) (count : ℕ) (line next : Line) (lines others : List Line) (index : ℕ) → index < length others → next ≡ get_or others index next → same_key line next ≡ true
      → CountsSo old out count line lines (drop index others) index → CountsSo old out (count + 1) line lines (drop (index + 1) others) (index + 1)
  counts_same old out count line next lines others index within at same h = record {
    few = omega (arith, h.few);
    printed = h.printed;
    prints = h.prints;
    rest = λ by_parts.
        ap (λ l. h.printed ++ l) (sym (by_key true count line next (drop (index + 1) others) same))
        ∙ ap (λ l. h.printed ++ counts_from count line l) (sym (drop_more others index next within ∙ ap (λ x. x ∷ drop (index + 1) others) (sym at))) ∙ h.rest by_parts;
  }

  pub counts_next : (old out new : Output W) (count : ℕ) (line next : Line) (lines others : List Line) (index : ℕ) → index < length others → next ≡ get_or others index next → same_key line next ≡ false
      → PrintsPart contents out new (count_line count line) → CountsSo old out count line lines (drop index others) index → CountsSo old new 1 next lines (drop (index + 1) others) (index + 1)
  counts_next old out new count line next lines others index within at other k h = record {
    few = omega arith;
    printed = h.printed ++ count_line count line;
    prints = prints_then old out new h.printed (count_line count line) h.prints k;
    rest = λ by_parts.
        append_assoc h.printed (count_line count line) (counts_from 1 next (drop (index + 1) others))
        ∙ ap (λ l. h.printed ++ l) (sym (by_key false count line next (drop (index + 1) others) other))
        ∙ ap (λ l. h.printed ++ counts_from count line l) (sym (drop_more others index next within ∙ ap (λ x. x ∷ drop (index + 1) others) (sym at))) ∙ h.rest by_parts;
  }

  pub counts_end : (old out new : Output W) (count : ℕ) (line : Line) (lines others : List Line) (index : ℕ) (by_parts : Bool) → length others ≤ index → PrintsPart contents out new (count_line count line)
      → CountsSo old out count line lines (drop index others) index → PrintsPart contents old new (counts_of by_parts lines)
  counts_end old out new count line lines others index by_parts all k h =
      subst (PrintsPart contents old new) (ap (λ l. h.printed ++ counts_from count line l) (sym (drop_all index others all)) ∙ h.rest by_parts)
      (prints_then old out new h.printed (count_line count line) h.prints k)
