-- The zeros that are due at a number, or aren't.
use Rattle.std.proofs.Common.{◌≡◌, ◌≢◌, Bool, true, ◌||◌, ◌==◌, if◌then◌else◌, refl, Result, Ok, Err, ap₂, ℕ, zero, suc, ◌^◌, ◌<◌, inl, inr, List, [], ◌∷◌, ◌++◌, length, replicate, drop, sym, ap, ◌∙◌, arith, append-nil, append_assoc, length-append, false}
use Rattle.std.specs.Prelude.{IsErrAnd, Vec, vec_capacity}
use Rattle.std.specs.declared.alloc.Global.{Global}
use Rattle.std.proofs.Math.Seq.{drop-append_seam}
use Rattle.std.specs.List.{list_any}
use Rattle.jsonb_spec.specs.Proper.{IsProperNumber}
use Rattle.jsonb_spec.specs.Text.NumberText.{number_text}
use Rattle.jsonb_spec.specs.Tree.{Num}
use Rattle.jsonb_core.proofs.Trees.Runs.{heads, tails}
use Rattle.key_document.specs.DueZeros.{AreDue}
use Rattle.key_document.specs.declared.due.ZerosDue.{ZerosDue}
use Rattle.key_value.specs.declared.error.KeyError.{KeyError}
use Rattle.key_value.specs.declared.error.KeyError.TheVariants.{OutOfMemory}
use Rattle.jsonb_spec.specs.Document.Counts.{count_of, ending_text}
use Rattle.key_text.specs.Counts.{Completes}
use Rattle.jsonb_spec.specs.SortKey.FewestDigits.{fewest_digits}
use Rattle.key_text.proofs.Counts.{none_next}
use Rattle.jsonb_spec.specs.Document.Scan.{ending_of, is_number_byte, zeros_with}
use Rattle.jsonb_spec.specs.Document.Zeros.{zeros_of}
use Rattle.key_text.proofs.Decimals.{pointed, some_spare}
use Rattle.key_zeros.proofs.Decimals.{ends_there, shortest_passed}

-- The first count above 0 is behind this one.
record LaterDue (count next : ℕ) (counts later : List ℕ) : Type 0 where
  none : count ≡ 0
  before : ℕ
  is : counts ≡ replicate before 0 ++ next ∷ later

later_due : (passed before count next : ℕ) (counts later : List ℕ) → replicate passed 0 ++ count ∷ counts ≡ replicate before 0 ++ next ∷ later → 0 < next → length counts ≢ length later → LaterDue count next counts later
later_due zero zero count next counts later e some other = absurd (other (ap length (tails count next counts later e)))
later_due zero (suc before) count next counts later e some other = record { none = heads count 0 counts (replicate before 0 ++ next ∷ later) e; before = before; is = tails count 0 counts (replicate before 0 ++ next ∷ later) e }
later_due (suc passed) zero count next counts later e some other = absurd (omega (arith, some, heads 0 next (replicate passed 0 ++ count ∷ counts) later e))
later_due (suc passed) (suc before) count next counts later e some other = later_due passed before count next counts later (tails 0 0 (replicate passed 0 ++ count ∷ counts) (replicate before 0 ++ next ∷ later) e) some other

-- it is this one
due_here : (passed before count next : ℕ) (counts later : List ℕ) → replicate passed 0 ++ count ∷ counts ≡ replicate before 0 ++ next ∷ later → 0 < next → length counts ≡ length later → (count ≡ next) × (counts ≡ later)
due_here zero zero count next counts later e some same = (heads count next counts later e, tails count next counts later e)
due_here zero (suc before) count next counts later e some same =
    absurd (omega (arith, same, ap length (tails count 0 counts (replicate before 0 ++ next ∷ later) e), length-append (replicate before 0) (next ∷ later)))
due_here (suc passed) zero count next counts later e some same = absurd (omega (arith, some, heads 0 next (replicate passed 0 ++ count ∷ counts) later e))
due_here (suc passed) (suc before) count next counts later e some same = due_here passed before count next counts later (tails 0 0 (replicate passed 0 ++ count ∷ counts) (replicate before 0 ++ next ∷ later) e) some same

module _ (due : ZerosDue) (passed count : ℕ) (counts : List ℕ) (d : AreDue due (replicate passed 0 ++ count ∷ counts)) where
  shorter : length counts < 2 ^ 63
  shorter = omega (arith, d.short, length-append (replicate passed 0) (count ∷ counts))

  pub none_due : due.at ≢ suc (length counts) → (count ≡ 0) × AreDue due counts
  none_due other = elim d.next [
    | inl none ↦
        let x = none_next passed none.1.size count counts none.1.all in
        (x.0, record { short = shorter; next = inl (none.0, x.1) })
    | inr y ↦
        let p = y.pending in
        let x = later_due passed y.before count due.count counts p.later p.is p.some (λ e. other (y.left ∙ ap suc (sym e))) in
        (x.none, record { short = shorter; next = inr (record { before = x.before; pending = record { later = p.later; is = x.is; some = p.some; zeros = p.zeros }; left = y.left }) })
  ]

  -- The zeros of this number are due.
  pub record DueNow : Type 0 where
    pub same : count ≡ due.count
    pub some : 0 < due.count
    pub entries : due.entries.now ≡ zeros_of 0 counts
    pub short : length counts < 2 ^ 63

  pub due_now : due.at ≡ suc (length counts) → DueNow
  due_now here = elim d.next [
    | inl none ↦ absurd (omega (arith, here, none.0))
    | inr y ↦
        let p = y.pending in
        let x = due_here passed y.before count due.count counts p.later p.is p.some (omega (arith, here, y.left)) in
        record { same = x.0; some = p.some; entries = p.zeros ∙ ap (zeros_of 0) (sym x.1); short = shorter }
  ]

-- ---- the text of a number

-- whether bytes that are all of a number have a point
has_point_there : (p : Bool) (run : ℕ) (bytes : List ℕ) (q : Bool) → ending_of p run bytes ≡ (q, (0, [])) → (p || list_any (λ byte. byte == 46) bytes) ≡ q
has_point_there true run [] q e = ap (λ r. r.0) e
has_point_there false run [] q e = ap (λ r. r.0) e
has_point_there p run (byte ∷ bytes) q e = by_byte (is_number_byte byte) (has_point_there (p || byte == 46) (zeros_with p run byte) bytes q) e
  where
    either : (p here rest : Bool) → (p || (here || rest)) ≡ ((p || here) || rest)
    either true here rest = refl
    either false here rest = refl

    by_byte : (goes_on : Bool) → (ending_of (p || byte == 46) (zeros_with p run byte) bytes ≡ (q, (0, [])) → ((p || byte == 46) || list_any (λ b. b == 46) bytes) ≡ q) → (if goes_on then ending_of (p || byte == 46) (zeros_with p run byte) bytes else (p, (run, byte ∷ bytes))) ≡ (q, (0, [])) → (p || list_any (λ b. b == 46) (byte ∷ bytes)) ≡ q
    by_byte true more e = either p (byte == 46) (list_any (λ b. b == 46) bytes) ∙ more e
    by_byte false more e = absurd (omega (arith, ap (λ r. length r.1.1) e))

module _ (n : Num) (proper : IsProperNumber n) (front buffer : List ℕ) (start : ℕ) (long : length front ≡ start) (is : buffer ≡ front ++ number_text (fewest_digits n)) where
  -- how it ends
  shortest_end : ending_of false 0 (drop start buffer) ≡ (pointed n proper, (0, []))
  shortest_end =
      ap (λ k. ending_of false 0 (drop k buffer)) (sym long)
      ∙ ap (λ b. ending_of false 0 (drop (length front) b)) is
      ∙ ap (ending_of false 0) (drop-append_seam front (number_text (fewest_digits n)) ∙ sym (append-nil (number_text (fewest_digits n))))
      ∙ shortest_passed n proper []
      ∙ ends_there (pointed n proper) 0 [] tt

  -- with its zeros behind it is the whole text
  pub whole_text : (has_point : Bool) (count : ℕ) (text : List ℕ) → text ≡ drop start buffer → has_point ≡ list_any (λ byte. byte == 46) text → count_of n ≡ count → 0 < count → front ++ number_text n ≡ buffer ++ ending_text has_point count
  whole_text has_point count text there point_is same some =
      let point : has_point ≡ pointed n proper = point_is ∙ has_point_there false 0 text (pointed n proper) (ap (ending_of false 0) there ∙ shortest_end) in
      ap (λ t. front ++ t) (some_spare n proper (omega (arith, same, some)))
      ∙ sym (ap (λ b. b ++ ending_text (pointed n proper) (count_of n)) is ∙ append_assoc front (number_text (fewest_digits n)) (ending_text (pointed n proper) (count_of n)))
      ∙ ap₂ (λ b k. buffer ++ ending_text b k) (sym point) same

-- ---- errors

pub fails : {X : Type 0} (Due : List ℕ → Type 0) (counts whole : List ℕ) (r : Result X KeyError) (old new : Vec ℕ Global) → IsErrAnd r (λ e. e ≡ OutOfMemory) → vec_capacity old < length whole → Completes Due counts whole r old new
fails Due counts whole (Ok x) old new h full = absurd h
fails Due counts whole (Err e) old new h full = (h, full)
