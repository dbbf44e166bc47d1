-- What begins with each byte.
use Rattle.std.proofs.Common.{◌≡◌, ◌≢◌, ◌+◌, ◌<◌, ◌≤◌, ◌||◌, ℕ, true, false, List, [], ◌∷◌, codes, eqb, inl, inr, refl, sym, ap, ap₂, subst, ◌∙◌, arith, ne_eqb, ◌⊎◌, if◌then◌else◌}
use Rattle.std.proofs.lemmas.Bool.Decides.{nat_tests}
use Rattle.std.proofs.lemmas.Bool.{cond-false, cond-true}
use Rattle.std.specs.Char.{to_ascii_lowercase}
use Rattle.jsonb_spec.specs.Code.Code.{expected_some_value}
use Rattle.jsonb_spec.specs.Mode.{Mode, Strictness, strict, lenient, strictness, IsLenient}
use Rattle.jsonb_spec.specs.Tree.{boolean}
use Rattle.jsonb_spec.specs.Parsing.{begins, reject}
use Rattle.jsonb_spec.specs.Parsing.Number.{is_number_start}
use Rattle.jsonb_spec.specs.Parsing.ExtendedNumber.{is_extended_start}
use Rattle.jsonb_spec.specs.Parsing.Scalar.{begins_letter, begins_number, begins_single_quote, null_or, number_value_at, other_scalar_at, quoted_at, scalar_at, word_at, words_at}
use Rattle.text_parse.specs.Start.{IsStart}
use Rattle.text_parse.specs.declared.parser.start.Start.TheVariants as variants
use Rattle.text_scan.proofs.Containers.JoinedParts.{on_byte-none}
use Rattle.text_parse.proofs.Scalars.FirstBytes.{letter-apart, scalar_as, scalar_is, single-apart, wider_start}
use Rattle.text_parse.proofs.Scalars.Encodings.{number_start_apart}
use Rattle.text_parse.proofs.Steps.Advancing.{single-false}
use Rattle.text_parse.proofs.Steps.Outcomes.{words_number}

-- ---- bytes that begin one scalar in each mode, or none

array : (size : ℕ) (mode : Mode) (s : Strictness) (rest : List ℕ) → scalar_as size mode s (91 ∷ rest) ≡ reject size expected_some_value 1 (91 ∷ rest)
array size mode strict rest = refl
array size mode lenient rest = refl

pub array_starts : (mode : Mode) (b : ℕ) (rest : List ℕ) → b ≡ 91 → IsStart variants.Array mode (b ∷ rest)
array_starts mode b rest is = subst (λ (c : ℕ). IsStart variants.Array mode (c ∷ rest)) (sym is) (record { scalar = λ size. scalar_is size mode (91 ∷ rest) ∙ array size mode (strictness mode) rest; next = refl })

object : (size : ℕ) (mode : Mode) (s : Strictness) (rest : List ℕ) → scalar_as size mode s (123 ∷ rest) ≡ reject size expected_some_value 1 (123 ∷ rest)
object size mode strict rest = refl
object size mode lenient rest = refl

pub object_starts : (mode : Mode) (b : ℕ) (rest : List ℕ) → b ≡ 123 → IsStart variants.Object mode (b ∷ rest)
object_starts mode b rest is = subst (λ (c : ℕ). IsStart variants.Object mode (c ∷ rest)) (sym is) (record { scalar = λ size. scalar_is size mode (123 ∷ rest) ∙ object size mode (strictness mode) rest; next = refl })

double : (size : ℕ) (mode : Mode) (rest : List ℕ) → scalar_at size mode (34 ∷ rest) ≡ quoted_at size mode 34 rest
unfolding scalar_at
double size mode rest = refl

pub double_quote_starts : (mode : Mode) (b : ℕ) (rest : List ℕ) → b ≡ 34 → IsStart variants.DoubleQuote mode (b ∷ rest)
double_quote_starts mode b rest is = subst (λ (c : ℕ). IsStart variants.DoubleQuote mode (c ∷ rest)) (sym is) (record { scalar = λ size. double size mode rest; next = refl })

-- ---- words

small_n : (size : ℕ) (mode : Mode) (s : Strictness) (rest : List ℕ) → scalar_as size mode s (110 ∷ rest) ≡ null_or size s (number_value_at size mode) (110 ∷ rest)
small_n size mode strict rest = refl
small_n size mode lenient rest = refl

pub null_starts : (mode : Mode) (b : ℕ) (rest : List ℕ) → b ≡ 110 → IsStart variants.Null mode (b ∷ rest)
null_starts mode b rest is = subst (λ (c : ℕ). IsStart variants.Null mode (c ∷ rest)) (sym is) (record { scalar = λ size. scalar_is size mode (110 ∷ rest) ∙ small_n size mode (strictness mode) rest; next = tt })

small_t : (size : ℕ) (mode : Mode) (s : Strictness) (rest : List ℕ) → scalar_as size mode s (116 ∷ rest) ≡ word_at size s (codes "true") (boolean true) (116 ∷ rest)
small_t size mode strict rest = refl
small_t size mode lenient rest = refl

pub true_starts : (mode : Mode) (b : ℕ) (rest : List ℕ) → b ≡ 116 → IsStart variants.True mode (b ∷ rest)
true_starts mode b rest is = subst (λ (c : ℕ). IsStart variants.True mode (c ∷ rest)) (sym is) (record { scalar = λ size. scalar_is size mode (116 ∷ rest) ∙ small_t size mode (strictness mode) rest; next = tt })

small_f : (size : ℕ) (mode : Mode) (s : Strictness) (rest : List ℕ) → scalar_as size mode s (102 ∷ rest) ≡ word_at size s (codes "false") (boolean false) (102 ∷ rest)
small_f size mode strict rest = refl
small_f size mode lenient rest = refl

pub false_starts : (mode : Mode) (b : ℕ) (rest : List ℕ) → b ≡ 102 → IsStart variants.False mode (b ∷ rest)
false_starts mode b rest is = subst (λ (c : ℕ). IsStart variants.False mode (c ∷ rest)) (sym is) (record { scalar = λ size. scalar_is size mode (102 ∷ rest) ∙ small_f size mode (strictness mode) rest; next = tt })

-- ---- what begins in a lenient mode alone

single : (size : ℕ) (mode : Mode) (s : Strictness) (rest : List ℕ) → s ≡ lenient → scalar_as size mode s (39 ∷ rest) ≡ quoted_at size mode 39 rest
single size mode strict rest m = cc
single size mode lenient rest m = refl

large_n : (size : ℕ) (mode : Mode) (s : Strictness) (rest : List ℕ) → s ≡ lenient → scalar_as size mode s (78 ∷ rest) ≡ null_or size s (number_value_at size mode) (78 ∷ rest)
large_n size mode strict rest m = cc
large_n size mode lenient rest m = refl

large_t : (size : ℕ) (mode : Mode) (s : Strictness) (rest : List ℕ) → s ≡ lenient → scalar_as size mode s (84 ∷ rest) ≡ word_at size s (codes "true") (boolean true) (84 ∷ rest)
large_t size mode strict rest m = cc
large_t size mode lenient rest m = refl

large_f : (size : ℕ) (mode : Mode) (s : Strictness) (rest : List ℕ) → s ≡ lenient → scalar_as size mode s (70 ∷ rest) ≡ word_at size s (codes "false") (boolean false) (70 ∷ rest)
large_f size mode strict rest m = cc
large_f size mode lenient rest m = refl

pub single_quote_starts : (mode : Mode) (b : ℕ) (rest : List ℕ) → IsLenient mode → b ≡ 39 → IsStart variants.SingleQuote mode (b ∷ rest)
single_quote_starts mode b rest m is = subst (λ (c : ℕ). IsStart variants.SingleQuote mode (c ∷ rest)) (sym is) (record { scalar = λ size. scalar_is size mode (39 ∷ rest) ∙ single size mode (strictness mode) rest m; next = refl })

pub large_null_starts : (mode : Mode) (b : ℕ) (rest : List ℕ) → IsLenient mode → b ≡ 78 → IsStart variants.Null mode (b ∷ rest)
large_null_starts mode b rest m is = subst (λ (c : ℕ). IsStart variants.Null mode (c ∷ rest)) (sym is) (record { scalar = λ size. scalar_is size mode (78 ∷ rest) ∙ large_n size mode (strictness mode) rest m; next = tt })

pub large_true_starts : (mode : Mode) (b : ℕ) (rest : List ℕ) → IsLenient mode → b ≡ 84 → IsStart variants.True mode (b ∷ rest)
large_true_starts mode b rest m is = subst (λ (c : ℕ). IsStart variants.True mode (c ∷ rest)) (sym is) (record { scalar = λ size. scalar_is size mode (84 ∷ rest) ∙ large_t size mode (strictness mode) rest m; next = tt })

pub large_false_starts : (mode : Mode) (b : ℕ) (rest : List ℕ) → IsLenient mode → b ≡ 70 → IsStart variants.False mode (b ∷ rest)
large_false_starts mode b rest m is = subst (λ (c : ℕ). IsStart variants.False mode (c ∷ rest)) (sym is) (record { scalar = λ size. scalar_is size mode (70 ∷ rest) ∙ large_f size mode (strictness mode) rest m; next = tt })

plus : (size : ℕ) (mode : Mode) (s : Strictness) (rest : List ℕ) → s ≡ lenient → scalar_as size mode s (43 ∷ rest) ≡ number_value_at size mode (43 ∷ rest)
plus size mode strict rest m = cc
plus size mode lenient rest m = refl

point : (size : ℕ) (mode : Mode) (s : Strictness) (rest : List ℕ) → s ≡ lenient → scalar_as size mode s (46 ∷ rest) ≡ number_value_at size mode (46 ∷ rest)
point size mode strict rest m = cc
point size mode lenient rest m = refl

large_i : (size : ℕ) (mode : Mode) (s : Strictness) (rest : List ℕ) → s ≡ lenient → scalar_as size mode s (73 ∷ rest) ≡ number_value_at size mode (73 ∷ rest)
large_i size mode strict rest m = cc
large_i size mode lenient rest m = refl

small_i : (size : ℕ) (mode : Mode) (s : Strictness) (rest : List ℕ) → s ≡ lenient → scalar_as size mode s (105 ∷ rest) ≡ number_value_at size mode (105 ∷ rest)
small_i size mode strict rest m = cc
small_i size mode lenient rest m = refl

pub extended_number_starts : (mode : Mode) (b : ℕ) (rest : List ℕ) → IsLenient mode → (b ≡ 43) ⊎ (b ≡ 46) ⊎ (b ≡ 73) ⊎ (b ≡ 105) → IsStart variants.Number mode (b ∷ rest)
extended_number_starts mode b rest m (inl is) = subst (λ (c : ℕ). IsStart variants.Number mode (c ∷ rest)) (sym is) (record { scalar = λ size. scalar_is size mode (43 ∷ rest) ∙ plus size mode (strictness mode) rest m; next = tt })
extended_number_starts mode b rest m (inr (inl is)) = subst (λ (c : ℕ). IsStart variants.Number mode (c ∷ rest)) (sym is) (record { scalar = λ size. scalar_is size mode (46 ∷ rest) ∙ point size mode (strictness mode) rest m; next = tt })
extended_number_starts mode b rest m (inr (inr (inl is))) = subst (λ (c : ℕ). IsStart variants.Number mode (c ∷ rest)) (sym is) (record { scalar = λ size. scalar_is size mode (73 ∷ rest) ∙ large_i size mode (strictness mode) rest m; next = tt })
extended_number_starts mode b rest m (inr (inr (inr is))) = subst (λ (c : ℕ). IsStart variants.Number mode (c ∷ rest)) (sym is) (record { scalar = λ size. scalar_is size mode (105 ∷ rest) ∙ small_i size mode (strictness mode) rest m; next = tt })

-- ---- numbers, and what begins no value

module _ (size : ℕ) (mode : Mode) (bytes : List ℕ) where
  -- no quote comes next
  unquoted : begins 34 bytes ≡ false → begins_single_quote (strictness mode) bytes ≡ false → scalar_at size mode bytes ≡ words_at size mode bytes
  unfolding scalar_at
  unquoted no_quote no_single =
      on_byte-none 34 bytes (quoted_at size mode 34) (other_scalar_at size mode bytes) no_quote ∙ single-false (strictness mode) bytes (quoted_at size mode 39) (words_at size mode bytes) no_single

  -- and no letter of a word
  pub number_scalar : begins 34 bytes ≡ false → begins_single_quote (strictness mode) bytes ≡ false → begins_letter (strictness mode) 110 bytes ≡ false → begins_letter (strictness mode) 116 bytes ≡ false → begins_letter (strictness mode) 102 bytes ≡ false → begins_number (strictness mode) bytes ≡ true → scalar_at size mode bytes ≡ number_value_at size mode bytes
  number_scalar no_quote no_single n t f begun =
      unquoted no_quote no_single ∙ words_number size mode bytes n t f ∙ cond-true (begins_number (strictness mode) bytes) (number_value_at size mode bytes) (reject size expected_some_value 1 bytes) begun

  pub no_scalar : begins 34 bytes ≡ false → begins_single_quote (strictness mode) bytes ≡ false → begins_letter (strictness mode) 110 bytes ≡ false → begins_letter (strictness mode) 116 bytes ≡ false → begins_letter (strictness mode) 102 bytes ≡ false → begins_number (strictness mode) bytes ≡ false → scalar_at size mode bytes ≡ reject size expected_some_value 1 bytes
  no_scalar no_quote no_single n t f none =
      unquoted no_quote no_single ∙ words_number size mode bytes n t f ∙ cond-false (begins_number (strictness mode) bytes) (number_value_at size mode bytes) (reject size expected_some_value 1 bytes) none

pub number_starts : (mode : Mode) (b : ℕ) (rest : List ℕ) → is_number_start b ≡ true → IsStart variants.Number mode (b ∷ rest)
number_starts mode b rest e =
    let a = number_start_apart b e in
    record {
      scalar = λ size. number_scalar size mode (b ∷ rest) (cond-false (eqb b 34) true false a.no_quote) (single-apart (strictness mode) b rest a) (letter-apart (strictness mode) 110 b rest (omega arith) a) (letter-apart (strictness mode) 116 b rest (omega arith) a) (letter-apart (strictness mode) 102 b rest (omega arith) a) (wider_start (strictness mode) (b ∷ rest) e);
      next = tt;
    }

-- A byte that begins no scalar in a strict mode.
pub record BeginsNone (b : ℕ) : Type 0 where
  pub no_quote : b ≢ 34
  pub no_n : b ≢ 110
  pub no_t : b ≢ 116
  pub no_f : b ≢ 102
  pub no_minus : b ≢ 45
  pub no_digit : (48 ≤ b) → 57 < b

no_number : (b : ℕ) → BeginsNone b → is_number_start b ≡ false
no_number b o = grind (arith, nat_tests, o.no_minus, o.no_digit)

differs : (b c : ℕ) → b ≢ c → (if eqb b c then true else false) ≡ false
differs b c h = cond-false (eqb b c) true false (ne_eqb b c h)

pub strict_none : (mode : Mode) (b : ℕ) (rest : List ℕ) → strictness mode ≡ strict → BeginsNone b → IsStart variants.NoValue mode (b ∷ rest)
strict_none mode b rest m o =
    record {
      scalar = λ size. no_scalar size mode (b ∷ rest) (differs b 34 o.no_quote) (ap (λ s. begins_single_quote s (b ∷ rest)) m) (letter 110 o.no_n) (letter 116 o.no_t) (letter 102 o.no_f) (ap (λ s. begins_number s (b ∷ rest)) m ∙ no_number b o);
      next = tt;
    }
  where
    letter : (c : ℕ) → b ≢ c → begins_letter (strictness mode) c (b ∷ rest) ≡ false
    letter c other = ap (λ s. begins_letter s c (b ∷ rest)) m ∙ differs b c other

-- A byte that begins no scalar in a lenient mode, unless it begins one in a strict mode too.
pub record BeginsNoMore (b : ℕ) : Type 0 where
  pub no_single : b ≢ 39
  pub no_large_n : b ≢ 78
  pub no_large_t : b ≢ 84
  pub no_large_f : b ≢ 70
  pub no_plus : b ≢ 43
  pub no_point : b ≢ 46
  pub no_i : b ≢ 105
  pub no_large_i : b ≢ 73

-- no letter in either case
folded_other : (b c : ℕ) → 97 ≤ c → b ≢ c → b + 32 ≢ c → eqb (to_ascii_lowercase b) c ≡ false
folded_other b c low small large = grind (arith, nat_tests, small, large)

no_extended : (b : ℕ) → BeginsNone b → BeginsNoMore b → is_extended_start b ≡ false
no_extended b o x = ap₂ (λ s t. s || t) (ap₂ (λ s t. s || t) (ap₂ (λ s t. s || t) (no_number b o) (ne_eqb b 43 x.no_plus)) (ne_eqb b 46 x.no_point)) (folded_other b 105 (omega arith) x.no_i (λ e. x.no_large_i (omega (arith, e))))

pub lenient_none : (mode : Mode) (b : ℕ) (rest : List ℕ) → IsLenient mode → BeginsNone b → BeginsNoMore b → IsStart variants.NoValue mode (b ∷ rest)
lenient_none mode b rest m o x =
    record {
      scalar = λ size. no_scalar size mode (b ∷ rest) (differs b 34 o.no_quote) (ap (λ s. begins_single_quote s (b ∷ rest)) m ∙ differs b 39 x.no_single) (letter 110 (omega arith) o.no_n (λ e. x.no_large_n (omega (arith, e)))) (letter 116 (omega arith) o.no_t (λ e. x.no_large_t (omega (arith, e)))) (letter 102 (omega arith) o.no_f (λ e. x.no_large_f (omega (arith, e)))) (ap (λ s. begins_number s (b ∷ rest)) m ∙ no_extended b o x);
      next = tt;
    }
  where
    letter : (c : ℕ) → 97 ≤ c → b ≢ c → b + 32 ≢ c → begins_letter (strictness mode) c (b ∷ rest) ≡ false
    letter c low small large = ap (λ s. begins_letter s c (b ∷ rest)) m ∙ cond-false (eqb (to_ascii_lowercase b) c) true false (folded_other b c low small large)

-- nothing is left
at_end : (size : ℕ) (mode : Mode) (s : Strictness) → scalar_as size mode s [] ≡ reject size expected_some_value 1 []
at_end size mode strict = refl
at_end size mode lenient = refl

pub none_starts : (mode : Mode) → IsStart variants.NoValue mode []
none_starts mode = record { scalar = λ size. scalar_is size mode [] ∙ at_end size mode (strictness mode); next = tt }
