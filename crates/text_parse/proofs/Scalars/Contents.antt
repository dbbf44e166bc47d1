-- A string by its contents.
use Rattle.std.proofs.Common.{◌≡◌, ◌+◌, ◌-◌, ◌<◌, ℕ, List, ◌∷◌, ◌++◌, length, take, drop, get_or, Contains, Option, Some, Ok, Err, false, sym, ap, ap₂, ◌∙◌, subst, arith, length-drop}
use Rattle.std.proofs.Math.Seq.{get_or-append_seam}
use Rattle.std.proofs.lemmas.List.{drop_more, get_or-take, length-take-le, take-append-drop}
use Rattle.std.specs.Str.{IsUtf8}
use Rattle.jsonb_core.specs.declared.error.Error.{Error}
use Rattle.jsonb_core.specs.declared.error.Error.TheVariants.{Syntax, OutOfMemory}
use Rattle.jsonb_spec.specs.Mode.{GoesBeyondJson}
use Rattle.jsonb_spec.specs.Text.StringText.{ArePlain}
use Rattle.jsonb_spec.specs.Tree.{Mark, string}
use Rattle.jsonb_spec.specs.Tree.Mark.{plain}
use Rattle.text_scan.specs.Answer.{Fails, grammar_of}
use Rattle.jsonb_spec.specs.Parsing.Decoding.{ReportsBackslash, SeesBackslash}
use Rattle.text_scan.specs.QuotedString.{DecodesContents}
use Rattle.jsonb_spec.specs.Parsing.Contents.{IsClear}
use Rattle.text_scan.specs.StrictString.{RejectsContents}
use Rattle.jsonb_spec.specs.Parsing.Scalar.{quoted_at}
use Rattle.jsonb_spec.specs.Parsing.String.{Body, body_of, quote_end, string_at}
use Rattle.jsonb_spec.specs.Source.{Source}
use Rattle.text_scan.proofs.Strings.Bodies.{body-raw, body_fails, contains_after, found_end, reports_taken, search_start, search_to, string-closed}
use Rattle.text_scan.proofs.Strings.Ends.{quote_split, quote_within}
use Rattle.text_scan.proofs.Strings.Plain.{body-plain}
use Rattle.text_parse.specs.declared.parser.Parser.{Parser}
use Rattle.text_parse.specs.Handler.{Misses, SeesContents}
use Rattle.text_parse.specs.Parser.{CutsTo, PassesContents, rest_of, size_of}
use Rattle.text_parse.proofs.Scalars.Built.{string_read}
use Rattle.text_parse.proofs.Steps.Failures.{misses_through}

-- ---- a string without escapes, whose bytes were cut out

module _ (p q : Parser) (quote len : ℕ) (body : List ℕ) (within : len < length (rest_of p)) (closed : get_or (rest_of p) len 0 ≡ quote) (cut : CutsTo len p q body) where
  -- the contents mean themselves
  cut_parsed : IsClear quote (rest_of p) 0 len → body_of (grammar_of p.grammar) (take len (rest_of p)) ≡ Ok (plain, take len (rest_of p)) → string_at (size_of p) (grammar_of p.grammar) quote (rest_of p) ≡ Ok ((plain, body), rest_of q)
  cut_parsed before read =
      let rest = rest_of p in
      let found : quote_end quote rest ≡ Ok len = found_end quote rest len within closed (search_to quote rest 0 len (omega arith) (omega (arith, within)) before (search_start quote rest)) in
      string-closed (size_of p) (grammar_of p.grammar) quote rest len (plain, take len rest) found read ∙ ap₂ (λ (s u : List ℕ). Ok ((plain, s), u)) (sym cut.is) (sym cut.rest)

  pub cut_clear : GoesBeyondJson (grammar_of p.grammar) → IsClear quote (rest_of p) 0 len → string_at (size_of p) (grammar_of p.grammar) quote (rest_of p) ≡ Ok ((plain, body), rest_of q)
  cut_clear beyond before =
      let rest = rest_of p in
      let clear : ReportsBackslash (take len rest) (length (take len rest)) false = reports_taken rest len false (omega (arith, within)) (λ k high. (before k (omega arith) high).1) in
      cut_parsed before (body-raw (grammar_of p.grammar) (take len rest) beyond clear (subst IsUtf8 cut.is cut.utf8))

  pub cut_plain : ArePlain (take len (rest_of p)) → IsClear quote (rest_of p) 0 len → string_at (size_of p) (grammar_of p.grammar) quote (rest_of p) ≡ Ok ((plain, body), rest_of q)
  cut_plain are before = cut_parsed before (body-plain (grammar_of p.grammar) (take len (rest_of p)) are (subst IsUtf8 cut.is cut.utf8))

  pub cut_encoded : rest_of p ≡ body ++ quote ∷ rest_of q
  cut_encoded =
      sym (take-append-drop len (rest_of p)) ∙ ap₂ (λ (u v : List ℕ). u ++ v) (sym cut.is)
      (drop_more (rest_of p) len 0 within ∙ ap₂ (λ (b : ℕ) (u : List ℕ). b ∷ u) closed (sym cut.rest))

-- ---- one with escapes

-- the closing quote is there
pub quote_there : (quote : ℕ) (bytes : List ℕ) (end : ℕ) → quote_end quote bytes ≡ Ok end → get_or bytes end 0 ≡ quote
quote_there quote bytes end found =
    let long : length (take end bytes) ≡ end = length-take-le end bytes (omega (arith, quote_within quote bytes end found)) in
    ap (λ (u : List ℕ). get_or u end 0) (quote_split quote bytes end found) ∙ ap (λ (n : ℕ). get_or (take end bytes ++ quote ∷ drop (end + 1) bytes) n 0) (sym long)
    ∙ get_or-append_seam (take end bytes) quote (drop (end + 1) bytes) 0

-- what is rejected for JSON is the fault of the contents
pub rejects_seen : {V : Type 0} (Sees : V → Source → Type 0) (idx : ℕ) (e : Error) (read : Body (Mark × List ℕ)) → RejectsContents idx e read → SeesContents Sees idx (Err e) read
rejects_seen Sees idx (Syntax code offset) read h = h
rejects_seen Sees idx other read h = absurd h

module _ (quote : ℕ) (p q : Parser) (body : List ℕ) (c : PassesContents quote p q body) where
  -- what is parsed of the contents is parsed of the string
  pub contents_read : (x : Mark × List ℕ) → body_of (grammar_of p.grammar) body ≡ Ok x → quoted_at (size_of p) (grammar_of p.grammar) quote (rest_of p) ≡ Ok (string x.0 x.1, rest_of q)
  contents_read x read =
      let mode = grammar_of p.grammar in
      string_read (size_of p) mode quote (rest_of p) x (rest_of q)
      (string-closed (size_of p) mode quote (rest_of p) (length body) x c.found (ap (body_of mode) (sym c.is) ∙ read) ∙ ap (λ (u : List ℕ). Ok (x, u)) (sym c.rest))

  rejected : {V : Type 0} (Sees : V → Source → Type 0) (offset : ℕ) (e : Error) (read : Body (Mark × List ℕ)) → SeesContents Sees offset (Err e) read → DecodesContents offset (Err e) read
  rejected Sees offset (Syntax code index) read h = h
  rejected Sees offset OutOfMemory read h = h
  rejected Sees offset other read h = h

  -- and their fault is its fault
  pub contents_fail : {V : Type 0} (Sees : V → Source → Type 0) (silent : _) (reported : Option Error) (e : Error) → reported ≡ Some e → SeesContents Sees (p.offset + 1) (Err e) (body_of (grammar_of p.grammar) body)
      → Misses silent reported (quoted_at (size_of p) (grammar_of p.grammar) quote (rest_of p))
  contents_fail Sees silent reported e is h =
      let mode = grammar_of p.grammar in
      let at : size_of p - length (rest_of p) ≡ p.offset = omega (arith, length-drop p.offset p.buf.now, p.inside) in
      let fails : Fails e (string_at (size_of p) mode quote (rest_of p)) =
      body_fails (size_of p) mode quote (rest_of p) (length body) p.offset e c.found at (subst (λ (u : List ℕ). DecodesContents (p.offset + 1) (Err e) (body_of mode u)) c.is (rejected Sees (p.offset + 1) e (body_of mode body) h)) in
      misses_through silent reported (string_at (size_of p) mode quote (rest_of p)) (λ s. Ok (string s.0.0 s.0.1, s.1)) (subst (λ (t : Option Error). Misses silent t (string_at (size_of p) mode quote (rest_of p))) (sym is) fails)

  -- a backslash is in the text
  pub contents_escaped : Contains p.buf.now 92
  contents_escaped =
      let sees = c.escaped in
      let low : sees.0 < length body = sees.1 in
      let there : SeesBackslash (rest_of p) (length body) = (sees.0, low, sym (get_or-take (length body) (rest_of p) sees.0 0 low) ∙ ap (λ (u : List ℕ). get_or u sees.0 0) (sym c.is) ∙ sees.2) in
      contains_after p.buf.now p.offset (length body) there (omega (arith, c.within))
