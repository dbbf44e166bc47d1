-- How a text is wrong, from what is tested.
use Rattle.std.proofs.Common.{◌≡◌, ℕ, ◌+◌, ◌<◌, get_or, Bool, true, false, cond, ◌||◌, ◌&&◌, not, true≢false, ◌⊎◌, inl, inr, List, [], ◌∷◌, length, Option, Some, None, Result, Ok, Err, refl, sym, ap, subst, ◌∙◌, eqb, eqb-true}
use Rattle.jsonb_spec.specs.Code.{Code}
use Rattle.jsonb_spec.specs.Code.Code.{unexpected_trailing_characters}
use Rattle.jsonb_spec.specs.Grammar.{max_depth}
use Rattle.jsonb_spec.specs.Mode.{IsLenient, Mode, Strictness, lenient, strict, strictness}
use Rattle.jsonb_spec.specs.Tree.{Tree}
use Rattle.jsonb_core.specs.Error.CodeView.{code_of}
use Rattle.jsonb_core.specs.declared.error.ParseErrorCode.{ParseErrorCode}
use Rattle.jsonb_spec.specs.Parsing.{Fault, begins, on_byte}
use Rattle.jsonb_spec.specs.Parsing.Document.{document_of}
use Rattle.jsonb_spec.specs.Parsing.Whitespace.{opens_comment, piece_length}
use Rattle.jsonb_spec.specs.Path.ErrorPath.{IsWrong, NonePasses}
use Rattle.jsonb_spec.specs.Path.ErrorPath.IsWrong.{no_colon, open_comment, too_deep}
use Rattle.error_path.specs.Placed.{ends_before, is_trailing, lacks, leaves_out}
use Rattle.error_path.proofs.Passing.{IsBehindPart, none_if}

-- the byte that comes next
next : (byte : ℕ) (bytes : List ℕ) → begins byte bytes ≡ true → (rest : List ℕ) × (bytes ≡ byte ∷ rest)
next byte [] e = absurd (true≢false (sym e))
next byte (b ∷ rest) e = by_test (eqb b byte) refl e
  where
    by_test : (is : Bool) → eqb b byte ≡ is → cond is true false ≡ true → (others : List ℕ) × (b ∷ rest ≡ byte ∷ others)
    by_test true same f = (rest, ap (λ (x : ℕ). x ∷ rest) (eqb-true b byte same))
    by_test false same f = absurd (true≢false (sym f))

-- either of two tests
either : (a b : Bool) → (a || b) ≡ true → (a ≡ true) ⊎ (b ≡ true)
either true b e = inl refl
either false b e = inr e

both : (a b : Bool) → (a && b) ≡ true → (a ≡ true) × (b ≡ true)
both true b e = (refl, e)
both false b e = absurd (true≢false (sym e))

-- ---- as many are open as may be

pub deep : (mode : Mode) (closers bytes : List ℕ) → length closers ≡ max_depth → (begins 91 bytes || begins 123 bytes) ≡ true → IsWrong mode closers None bytes
deep mode closers bytes all e =
    elim (either (begins 91 bytes) (begins 123 bytes) e) [
      | inl is ↦ let n = next 91 bytes is in subst (IsWrong mode closers None) (sym n.1) (too_deep {byte = 91} {rest = n.0} all (inl refl))
      | inr is ↦ let n = next 123 bytes is in subst (IsWrong mode closers None) (sym n.1) (too_deep {byte = 123} {rest = n.0} all (inr refl))
    ]

-- ---- a byte that is lacking

comment_there : (mode : Mode) (closers bytes : List ℕ) (s : Strictness) → strictness mode ≡ s → opens_comment s bytes ≡ true → IsWrong mode closers (Some 44) bytes
comment_there mode closers bytes strict is e = absurd (true≢false (sym e))
comment_there mode closers [] lenient is e = absurd (true≢false (sym e))
comment_there mode closers (b ∷ rest) lenient is e = by_slash (eqb b 47) refl e
  where
    by_slash : (t : Bool) → eqb b 47 ≡ t → cond t (begins 42 rest || begins 47 rest) false ≡ true → IsWrong mode closers (Some 44) (b ∷ rest)
    by_slash false same f = absurd (true≢false (sym f))
    by_slash true same f =
        elim (either (begins 42 rest) (begins 47 rest) f) [
          | inl star ↦
              let n = next 42 rest star in
              subst (λ (x : ℕ). IsWrong mode closers (Some 44) (x ∷ rest)) (sym (eqb-true b 47 same)) (subst (λ (u : List ℕ). IsWrong mode closers (Some 44) (47 ∷ u)) (sym n.1) (open_comment {byte = 42} {rest = n.0} is (inl refl)))
          | inr slash ↦
              let n = next 47 rest slash in
              subst (λ (x : ℕ). IsWrong mode closers (Some 44) (x ∷ rest)) (sym (eqb-true b 47 same)) (subst (λ (u : List ℕ). IsWrong mode closers (Some 44) (47 ∷ u)) (sym n.1) (open_comment {byte = 47} {rest = n.0} is (inr refl)))
        ]

no_colon_next : (bytes : List ℕ) → not (begins 58 bytes) ≡ true → (rest : List ℕ) → bytes ≡ 58 ∷ rest → ⊥
no_colon_next bytes e rest whole = absurd (true≢false (sym e ∙ ap (λ (u : List ℕ). not (begins 58 u)) whole))

pub lacking : (mode : Mode) (closers bytes : List ℕ) (byte : ℕ) → lacks byte (strictness mode) bytes ≡ true → IsWrong mode closers (Some byte) bytes
lacking mode closers bytes byte e = by_colon (eqb byte 58) refl e
  where
    by_comma : eqb byte 44 ≡ true → opens_comment (strictness mode) bytes ≡ true → IsWrong mode closers (Some byte) bytes
    by_comma same opens = subst (λ (b : ℕ). IsWrong mode closers (Some b) bytes) (sym (eqb-true byte 44 same)) (comment_there mode closers bytes (strictness mode) refl opens)

    by_colon : (t : Bool) → eqb byte 58 ≡ t → cond t (not (begins 58 bytes)) (eqb byte 44 && opens_comment (strictness mode) bytes) ≡ true → IsWrong mode closers (Some byte) bytes
    by_colon true same f = subst (λ (b : ℕ). IsWrong mode closers (Some b) bytes) (sym (eqb-true byte 58 same)) (no_colon (no_colon_next bytes f))
    by_colon false same f = let p = both (eqb byte 44) (opens_comment (strictness mode) bytes) f in by_comma p.0 p.1

-- ---- what parsing the rest gives

fault_of : Fault → Result Tree Fault → Fault
fault_of f (Ok t) = f
fault_of f (Err g) = g

same_fault : (f g : Fault) → ◌≡◌ {A = Result Tree Fault} (Err f) (Err g) → f ≡ g
unfolding fault_of
same_fault f g e = ap (fault_of f) e

pub passes_in_document : (mode : Mode) (closers bytes : List ℕ) (t : Tree) → document_of mode bytes ≡ Ok t → IsBehindPart mode closers bytes → ⊥
passes_in_document mode closers bytes t read b = absurd (let never : ◌≡◌ {A = Result Tree Fault} (Ok t) (Err (record { code = unexpected_trailing_characters; offset = b.at + 1 })) = sym read ∙ b.faulty in cc)

pub passes_elsewhere : (mode : Mode) (closers bytes : List ℕ) (code : Code) (position : ℕ) → document_of mode bytes ≡ Err (record { code = code; offset = position }) → is_trailing code ≡ false → IsBehindPart mode closers bytes → ⊥
passes_elsewhere mode closers bytes code position read other b =
    let same = same_fault (record { code = code; offset = position }) (record { code = unexpected_trailing_characters; offset = b.at + 1 }) (sym read ∙ b.faulty) in
    true≢false (sym (ap (λ (f : Fault). is_trailing f.code) same) ∙ other)

pub passes_before : (mode : Mode) (closers bytes : List ℕ) (code : Code) (position : ℕ) (ends : Bool) → document_of mode bytes ≡ Err (record { code = code; offset = position })
    → ((at : ℕ) → position ≡ at + 1 → at < length bytes → ends ≡ ends_before (get_or bytes at 0) closers) → ends ≡ false → IsBehindPart mode closers bytes → ⊥
passes_before mode closers bytes code position ends read tested other b =
    let same = same_fault (record { code = code; offset = position }) (record { code = unexpected_trailing_characters; offset = b.at + 1 }) (sym read ∙ b.faulty) in
    true≢false (sym b.ends ∙ sym (tested b.at (ap (λ (f : Fault). f.offset) same) b.within) ∙ other)
