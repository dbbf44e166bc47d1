-- What is said of the lines of a text, by the reason of the one that is rejected.
use Rattle.std.proofs.Common.{◌≡◌, inl, inr, ℕ, suc, ◌≤◌, List, [], ◌∷◌, All, refl, subst, sym, arith}
use Rattle.jsonb_spec.specs.Mode.{Mode}
use Rattle.jsonb_core.specs.declared.error.Error.{Error}
use Rattle.jsonb_spec.specs.Parsing.Lines.{IsFirstOfLines, LacksCapacityForLines, lines_of}
use Rattle.jsonb.specs.Lines.{RejectsLine}
use Rattle.jsonb_c.specs.declared.Rejection.{Rejection}
use Rattle.jsonb_c.specs.declared.Failure.{Failure}
use Rattle.jsonb_c.specs.declared.Failure.TheVariants.{Text, OutOfMemory, UnknownMode}
use Rattle.jsonb_spec.specs.Interface.{IsAccepted, NumberChooses}
use Rattle.jsonb_c.specs.Interface.{IsReason, IsRejected, SaysError, status_of}
use Rattle.jsonb_c.specs.Lines.{IsLineRejected}
use Rattle.jsonb_c.proofs.Reasons.{denied, rejected_text, within}
use Rattle.jsonb_c.proofs.Texts.{document_accepted, parsed_accepted}
use Rattle.text_scan.specs.Answer.{IsTextError}

-- such a line is another kind of line too, and so are those before it
first_so : {Is Other IsBefore OtherBefore : List ℕ → Type 0} → ((line : List ℕ) → Is line → Other line) → ((line : List ℕ) → IsBefore line → OtherBefore line)
    → (lines : List (List ℕ)) (offset : ℕ) → IsFirstOfLines Is IsBefore lines offset → IsFirstOfLines Other OtherBefore lines offset
first_so is before [] offset none = absurd none
first_so is before (line ∷ lines) offset (inl (first, this)) = inl (first, is line this)
first_so is before (line ∷ lines) offset (inr (passed, behind, sized, later)) = inr (before line passed, behind, sized, first_so is before lines behind later)

-- the line that is rejected isn't accepted
not_all : (number : ℕ) (rejection : Rejection) (lines : List (List ℕ)) (offset : ℕ) → IsFirstOfLines (λ line. IsRejected number line 1 rejection) (IsAccepted number) lines offset
    → All (IsAccepted number) lines → ⊥
not_all number rejection [] offset none all = absurd none
not_all number rejection (line ∷ lines) offset (inl (first, rejected)) all = denied number line 1 rejection rejected (all 0 line (omega arith))
not_all number rejection (line ∷ lines) offset (inr (passed, behind, sized, later)) all = not_all number rejection lines behind later (λ k d below. all (suc k) d (omega (arith, below)))

-- the reason that the error of a line is
pub line_reason : {mode : Mode} (number : ℕ) (text : List ℕ) (offset : ℕ) (error : Error) (reason : Failure) → NumberChooses number mode → RejectsLine mode error (lines_of text) offset → SaysError 1 error reason
    → IsReason number (IsLineRejected number text offset) reason
line_reason {mode = mode} number text offset error (Text rejection) chosen rejects says = (
  within chosen,
  first_so (λ line r. rejected_text number mode line 1 error rejection chosen r.rejects.rejected r.follows.exact r.follows.explained says)
      (λ line p. record { tree = p.0; read = parsed_accepted number line p.0 chosen p.1 }) (lines_of text) offset rejects,
)
line_reason number text offset error OutOfMemory chosen rejects says = within chosen
line_reason number text offset error UnknownMode chosen rejects says = absurd says

-- where all lines are accepted, memory ran out
pub lines_wanting : (number : ℕ) (text : List ℕ) (offset : ℕ) (reason : Failure) → number ≤ 3 → IsReason number (IsLineRejected number text offset) reason → All (IsAccepted number) (lines_of text)
    → status_of reason ≡ 2
lines_wanting number text offset (Text rejection) known w all = absurd (not_all number rejection (lines_of text) offset w.1 all)
lines_wanting number text offset OutOfMemory known w all = refl
lines_wanting number text offset UnknownMode known w all = absurd (omega (arith, w, known))

-- of another offset, where that is said of a line that is rejected alone
pub reason_at : (number : ℕ) (text : List ℕ) (offset other : ℕ) (reason : Failure) → (status_of reason ≡ 1 → other ≡ offset) → IsReason number (IsLineRejected number text offset) reason
    → IsReason number (IsLineRejected number text other) reason
reason_at number text offset other (Text rejection) same w = (w.0, subst (λ start. IsLineRejected number text start rejection) (sym (same refl)) w.1)
reason_at number text offset other OutOfMemory same w = w
reason_at number text offset other UnknownMode same w = w

-- the error of a line is one of a text
pub line_error : (mode : Mode) (error : Error) (lines : List (List ℕ)) (offset : ℕ) → RejectsLine mode error lines offset → IsTextError error
line_error mode error [] offset none = absurd none
line_error mode error (line ∷ lines) offset (inl (first, rejected)) = rejected.rejects.errors
line_error mode error (line ∷ lines) offset (inr (passed, behind, sized, later)) = line_error mode error lines behind later

-- where the buffer lacks the space for lines, the first one is accepted
pub first_accepted : {mode : Mode} (number : ℕ) (lines : List (List ℕ)) (capacity len : ℕ) → NumberChooses number mode → LacksCapacityForLines mode lines capacity len
    → (line : List ℕ) × (others : List (List ℕ)) × (lines ≡ line ∷ others) × IsAccepted number line
first_accepted number [] capacity len chosen none = absurd none
first_accepted number (line ∷ lines) capacity len chosen (inl lacks) = (line, lines, refl, document_accepted number line lacks.tree chosen lacks.document)
first_accepted number (line ∷ lines) capacity len chosen (inr (tree, document, later)) = (line, lines, refl, document_accepted number line tree chosen document)
