-- A parser that goes on in the same input.
use Rattle.std.proofs.Common.{◌≡◌, ℕ, ◌+◌, true, false, true≢false, eqb, inl, inr, List, [], ◌∷◌, length, drop, Result, Err, Contains, get_or, refl, sym, ap, subst, ◌∙◌, arith, length-drop}
use Rattle.jsonb_spec.specs.Code.Code.{expected_some_ident}
use Rattle.text_scan.specs.Answer.{Fails, NamesFault}
use Rattle.text_parse.specs.Parser.{Advances}
use Rattle.jsonb_spec.specs.Parsing.{Fault, reject}
use Rattle.jsonb_spec.specs.Parsing.Scalar.{begins_letter, begins_single_quote, fold_letter, letters_at, on_letter, on_single_quote}
use Rattle.jsonb_spec.specs.Mode.{Strictness, strict, lenient}
use Rattle.text_scan.proofs.Steps.Tests.{chosen}
use Rattle.text_scan.proofs.Containers.JoinedParts.{on_byte-none}
use Rattle.std.proofs.lemmas.List.{get_or-drop}
use Rattle.std.proofs.lemmas.Bool.{cond-true}
use Rattle.text_parse.specs.declared.parser.Parser.{Parser}
use Rattle.jsonb_core.specs.declared.error.Error.{Error}
use Rattle.jsonb_core.specs.declared.error.Error.TheVariants.{Syntax}

-- ---- faults

pub fails : {Y : Type 0} (e : Error) (f : Fault) (read : Result Y Fault) → NamesFault e f → read ≡ Err f → Fails e read
fails (Syntax code offset) f read is r = r ∙ ap (λ (g : Fault). Err g) is
fails other f read is r = absurd is

-- ---- going on

pub stays : (p : Parser) → Advances p p
stays p = record { buf = refl; mode = refl; grammar = refl; onward = omega arith }

pub stays_on : (p q : Parser) → q ≡ p → Advances p q
stays_on p q same = subst (λ r. Advances p r) (sym same) (stays p)

pub goes_on : (p q r : Parser) → Advances p q → Advances q r → Advances p r
goes_on p q r a b = record { buf = b.buf ∙ a.buf; mode = b.mode ∙ a.mode; grammar = b.grammar ∙ a.grammar; onward = omega (arith, a.onward, b.onward) }

-- ---- words

pub on_letter-true : {X : Type 0} (strictness : Strictness) (c : ℕ) (bytes : List ℕ) (found : List ℕ → X) (other : X) → begins_letter strictness c bytes ≡ true → on_letter strictness c bytes found other ≡ found (drop 1 bytes)
on_letter-true strictness c [] found other e = absurd (true≢false (sym e))
on_letter-true strictness c (b ∷ bytes) found other e =
    elim (chosen (eqb (fold_letter strictness b) c) true false true e) [
      | inl t ↦ cond-true (eqb (fold_letter strictness b) c) (found bytes) other t.0
      | inr f ↦ absurd (true≢false (sym f.1))
    ]

pub letters-step : (size : ℕ) (strictness : Strictness) (c : ℕ) (cs bytes : List ℕ) → begins_letter strictness c bytes ≡ true → letters_at size strictness (c ∷ cs) bytes ≡ letters_at size strictness cs (drop 1 bytes)
letters-step size strictness c cs bytes e = on_letter-true strictness c bytes (letters_at size strictness cs) (reject size expected_some_ident 1 bytes) e

-- ---- single quotes

pub single-true : {X : Type 0} (strictness : Strictness) (bytes : List ℕ) (found : List ℕ → X) (other : X) → begins_single_quote strictness bytes ≡ true → on_single_quote strictness bytes found other ≡ found (drop 1 bytes)
single-true strict bytes found other e = absurd (true≢false (sym e))
single-true lenient [] found other e = absurd (true≢false (sym e))
single-true lenient (b ∷ bytes) found other e =
    elim (chosen (eqb b 39) true false true e) [
      | inl t ↦ cond-true (eqb b 39) (found bytes) other t.0
      | inr f ↦ absurd (true≢false (sym f.1))
    ]

pub single-false : {X : Type 0} (strictness : Strictness) (bytes : List ℕ) (found : List ℕ → X) (other : X) → begins_single_quote strictness bytes ≡ false → on_single_quote strictness bytes found other ≡ other
single-false strict bytes found other e = refl
single-false lenient bytes found other e = on_byte-none 39 bytes found other e

-- ---- the byte that comes next is in the input

pub contains_next : (buf : List ℕ) (i b : ℕ) (rest : List ℕ) → drop i buf ≡ b ∷ rest → Contains buf b
contains_next buf i b rest e =
    let at : i + 0 ≡ i = omega arith in (
      i,
      omega (arith, ap length e, length-drop i buf),
      ap (λ (k : ℕ). get_or buf k b) (sym at) ∙ sym (get_or-drop i buf 0 b) ∙ ap (λ (xs : List ℕ). get_or xs 0 b) e,
    )
