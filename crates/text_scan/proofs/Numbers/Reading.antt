-- Where a scan finds the end of a number text and its number, parsing gives what the grammar says.
use Rattle.std.proofs.Common.{◌≡◌, ◌⊎◌, ℕ, ◌+◌, ◌-◌, ◌<◌, ◌≤◌, List, [], ◌∷◌, ◌++◌, length, take, drop, refl, sym, subst, ap, ◌∙◌, ⊎_elim, arith, Option, Some, None, Ok, Err}
use Rattle.std.specs.Prelude.{slice_index, MatchOption}
use Rattle.std.proofs.lemmas.List.{take-append-drop, length-append, length-drop}
use Rattle.std.proofs.Math.Seq.{take-append_seam, drop-append_seam}
use Rattle.jsonb_spec.specs.Code.{Code, invalid_number_value, number_not_carried}
use Rattle.jsonb_spec.specs.Grammar.Scalar.{IsNumber, IsNumberText, IsUnrepresentable}
use Rattle.jsonb_spec.specs.Mode.{Mode, Strictness, strict, lenient, strictness}
use Rattle.jsonb_spec.specs.Tree.{Num}
use Rattle.jsonb_spec.specs.Parsing.{Fault, Parse}
use Rattle.jsonb_spec.specs.Parsing.Number.{ContinuesNumber, IsNumberBoundary}
use Rattle.jsonb_spec.specs.Parsing.ExtendedNumber.{Scanned, scanned_to, ContinuesNumberExtended, EndsExtended}
use Rattle.text_scan.proofs.Numbers.ExtendedTexts.{IsNumberCode}

-- ---- by strictness

-- a byte that goes on with a number
abbrev pub Continues : Strictness → ℕ → Type 0
Continues strict b = ContinuesNumber b
Continues lenient b = ContinuesNumberExtended b

-- the bytes don't go on with a number
abbrev pub EndsNumber : Strictness → List ℕ → Type 0
EndsNumber strict bytes = IsNumberBoundary bytes
EndsNumber lenient bytes = EndsExtended bytes

-- the codes of faults in a number text
abbrev pub IsFaultCode : Strictness → Code → Type 0
IsFaultCode strict code = code ≡ invalid_number_value
IsFaultCode lenient code = IsNumberCode code

-- ---- what a scan finds

-- of the number texts that the bytes begin with none is longer than len, and after each shorter one a byte goes on with
-- a number
abbrev pub IsLongestText : Strictness → List ℕ → ℕ → Type 0
IsLongestText s bytes len = (k : ℕ) → k ≤ length bytes → IsNumberText s (take k bytes) → (k ≡ len) ⊎ ((k < len) × Continues s (slice_index bytes k))

-- after each number text that the bytes begin with a byte goes on with a number
abbrev pub NoTextEnds : Strictness → List ℕ → Type 0
NoTextEnds s bytes = (k : ℕ) → k ≤ length bytes → IsNumberText s (take k bytes) → Continues s (slice_index bytes k)

-- the text up to end is of this kind, and the longest
pub record FoundText (s : Strictness) (bytes : List ℕ) (end : ℕ) (Kind : List ℕ → Type 0) : Type 0 where
  pub within : end ≤ length bytes
  pub text : Kind (take end bytes)
  pub longest : IsLongestText s bytes end

-- a number text that is none of these numbers
abbrev pub IsWithout : Strictness → (List ℕ → Num → Type 0) → List ℕ → Type 0
IsWithout s Number text = IsNumberText s text × ((n : Num) → ¬ (Number text n))

-- what a scan says of the bytes, where a text may be such a number
abbrev pub FindsNumber : Strictness → (List ℕ → Num → Type 0) → List ℕ → Scanned → Type 0
FindsNumber s Number bytes (Ok (Some n, end)) = FoundText s bytes end (λ text. Number text n)
FindsNumber s Number bytes (Ok (None, end)) = FoundText s bytes end (IsWithout s Number)
FindsNumber s Number bytes (Err f) = IsFaultCode s f.0 × NoTextEnds s bytes

-- a text with its number, or without one
pub found_at : (s : Strictness) (Number : List ℕ → Num → Type 0) (bytes : List ℕ) (end : ℕ) (o : Option Num) → end ≤ length bytes → IsNumberText s (take end bytes) → IsLongestText s bytes end → MatchOption o ((n : Num) → ¬ (Number (take end bytes) n)) (Number (take end bytes)) → FindsNumber s Number bytes (Ok (o, end))
found_at s Number bytes end (Some n) within text longest number = record { within = within; text = number; longest = longest }
found_at s Number bytes end None within text longest none = record { within = within; text = (text, none); longest = longest }

-- ---- what parsing finds

-- No beginning of the bytes that is longer than what comes before the rest is a number text.
abbrev pub NoLongerText : Strictness → List ℕ → List ℕ → Type 0
NoLongerText s bytes rest = (longer after : List ℕ) → bytes ≡ longer ++ after → length after < length rest → ¬ IsNumberText s longer

-- a number was parsed
pub record NumberRead (mode : Mode) (bytes : List ℕ) (n : Num) (rest : List ℕ) : Type 0 where
  pub core : List ℕ
  pub joined : bytes ≡ core ++ rest
  pub number : IsNumber mode core n
  pub longest : NoLongerText (strictness mode) bytes rest

-- a number text was met whose number is not representable
pub record UnrepresentableRead (mode : Mode) (size : ℕ) (bytes : List ℕ) (offset : ℕ) : Type 0 where
  pub text : List ℕ
  pub rest : List ℕ
  pub joined : bytes ≡ text ++ rest
  pub unrepresentable : IsUnrepresentable mode text
  pub offset_is : offset ≡ size - length rest
  pub longest : NoLongerText (strictness mode) bytes rest

-- no number text can end here
abbrev pub NoNumberEnds : Strictness → List ℕ → Type 0
NoNumberEnds s bytes = (core after : List ℕ) → bytes ≡ core ++ after → IsNumberText s core → ¬ EndsNumber s after

-- what a fault of parsing says
pub data FaultRead (mode : Mode) (size : ℕ) (bytes : List ℕ) (f : Fault) : Type 0 where
  not_representable : f.code ≡ number_not_carried → UnrepresentableRead mode size bytes f.offset → FaultRead mode size bytes f
  no_number : IsFaultCode (strictness mode) f.code → NoNumberEnds (strictness mode) bytes → FaultRead mode size bytes f

-- ---- from a scan to what is parsed

no_longer : (s : Strictness) (bytes : List ℕ) (end : ℕ) → end ≤ length bytes → IsLongestText s bytes end → NoLongerText s bytes (drop end bytes)
no_longer s bytes end within longest longer after joined short text =
    let total : length bytes ≡ length longer + length after = ap length joined ∙ length-append longer after in
    let front : take (length longer) bytes ≡ longer = ap (take (length longer)) joined ∙ take-append_seam longer after in
    ⊎_elim (λ same. omega (arith, same, total, short, length-drop end bytes))
    (λ before. omega (arith, before.0, total, short, length-drop end bytes))
    (longest (length longer) (omega (arith, total)) (subst (IsNumberText s) (sym front) text))

-- a byte after a number text that doesn't go on with it
stops_after : (s : Strictness) (core rest : List ℕ) → EndsNumber s rest → ¬ Continues s (slice_index (core ++ rest) (length core))
stops_after strict [] [] ends = ⊎_elim (λ digit. omega (arith, digit)) (⊎_elim (λ point. omega (arith, point)) (⊎_elim (λ small. omega (arith, small)) (λ great. omega (arith, great))))
stops_after lenient [] [] ends = ⊎_elim (λ digit. omega (arith, digit)) (⊎_elim (λ point. omega (arith, point)) (λ mark. omega (arith, mark)))
stops_after strict [] (b ∷ rest) ends = ends
stops_after lenient [] (b ∷ rest) ends = ends
stops_after s (c ∷ core) rest ends = stops_after s core rest ends

nothing_ends : (s : Strictness) (bytes : List ℕ) → NoTextEnds s bytes → NoNumberEnds s bytes
nothing_ends s bytes none core after joined text ends =
    let total : length bytes ≡ length core + length after = ap length joined ∙ length-append core after in
    let front : take (length core) bytes ≡ core = ap (take (length core)) joined ∙ take-append_seam core after in
    stops_after s core after ends (subst (λ xs. Continues s (slice_index xs (length core))) joined (none (length core) (omega (arith, total)) (subst (IsNumberText s) (sym front) text)))

-- what parsing answers
abbrev pub IsAnswer : Mode → ℕ → List ℕ → Parse Num → Type 0
IsAnswer mode size bytes (Ok (n, rest)) = NumberRead mode bytes n rest
IsAnswer mode size bytes (Err f) = FaultRead mode size bytes f

scanned_answer : (mode : Mode) (size : ℕ) (bytes : List ℕ) (r : Scanned) → FindsNumber (strictness mode) (IsNumber mode) bytes r → IsAnswer mode size bytes (scanned_to size bytes r)
scanned_answer mode size bytes (Ok (Some n, end)) t = record {
  core = take end bytes;
  joined = sym (take-append-drop end bytes);
  number = t.text;
  longest = no_longer (strictness mode) bytes end t.within t.longest;
}
scanned_answer mode size bytes (Ok (None, end)) t = not_representable refl (record {
  text = take end bytes;
  rest = drop end bytes;
  joined = sym (take-append-drop end bytes);
  unrepresentable = t.text;
  offset_is = refl;
  longest = no_longer (strictness mode) bytes end t.within t.longest;
})
scanned_answer mode size bytes (Err f) (code, none) = no_number code (nothing_ends (strictness mode) bytes none)

-- What is parsed of the bytes is what a scan finds.
pub record IsScanned (mode : Mode) (size : ℕ) (bytes : List ℕ) (parsed : Parse Num) : Type 0 where
  pub scan : Scanned
  pub finds : FindsNumber (strictness mode) (IsNumber mode) bytes scan
  pub is : parsed ≡ scanned_to size bytes scan

pub parsed_answer : (mode : Mode) (size : ℕ) (bytes : List ℕ) (parsed r : Parse Num) → IsScanned mode size bytes parsed → parsed ≡ r → IsAnswer mode size bytes r
parsed_answer mode size bytes parsed r s at = subst (IsAnswer mode size bytes) (sym s.is ∙ at) (scanned_answer mode size bytes s.scan s.finds)

-- A number text that nothing goes on with is parsed so.
module _ (mode : Mode) (is_text : (core : List ℕ) (n : Num) → IsNumber mode core n → IsNumberText (strictness mode) core) (unique : (core : List ℕ) (m n : Num) → IsNumber mode core m → IsNumber mode core n → m ≡ n) where
  pub scan_complete : (size : ℕ) (core rest : List ℕ) (n : Num) (r : Scanned) → FindsNumber (strictness mode) (IsNumber mode) (core ++ rest) r → IsNumber mode core n → EndsNumber (strictness mode) rest → scanned_to size (core ++ rest) r ≡ Ok (n, rest)
  scan_complete size core rest n r finds number ends = by_scan r finds
    where
      text : IsNumberText (strictness mode) (take (length core) (core ++ rest))
      text = subst (IsNumberText (strictness mode)) (sym (take-append_seam core rest)) (is_text core n number)

      within : length core ≤ length (core ++ rest)
      within = omega (arith, length-append core rest)

      ends_here : (end : ℕ) → IsLongestText (strictness mode) (core ++ rest) end → length core ≡ end
      ends_here end longest = ⊎_elim (λ e. e) (λ before. absurd (stops_after (strictness mode) core rest ends before.1)) (longest (length core) within text)

      front : (end : ℕ) → length core ≡ end → take end (core ++ rest) ≡ core
      front end same = ap (λ i. take i (core ++ rest)) (sym same) ∙ take-append_seam core rest

      by_scan : (o : Scanned) → FindsNumber (strictness mode) (IsNumber mode) (core ++ rest) o → scanned_to size (core ++ rest) o ≡ Ok (n, rest)
      by_scan (Ok (Some m, end)) t =
          let same = ends_here end t.longest in
          let back : drop end (core ++ rest) ≡ rest = ap (λ i. drop i (core ++ rest)) (sym same) ∙ drop-append_seam core rest in
          ap (λ xs. Ok (m, xs)) back ∙ ap (λ k. Ok (k, rest)) (unique core m n (subst (λ xs. IsNumber mode xs m) (front end same) t.text) number)
      by_scan (Ok (None, end)) t =
          let same = ends_here end t.longest in
          absurd (t.text.1 n (subst (λ xs. IsNumber mode xs n) (sym (front end same)) number))
      by_scan (Err f) (code, none) = absurd (stops_after (strictness mode) core rest ends (none (length core) within text))
