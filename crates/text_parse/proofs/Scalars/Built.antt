-- A value that holds no others, built of what the steps in it give.
use Rattle.std.proofs.Common.{◌≡◌, ◌≢◌, ◌⊎◌, Contains, pos, neg_ℤ, ◌+◌, ◌-◌, ℕ, true, false, List, [], ◌∷◌, ◌++◌, codes, length, Option, Some, Result, Ok, Err, IfOk, IfErr, refl, ap, sym, subst, ◌∙◌, arith, length-drop, length-append, append_assoc, drop, ◌<◌, take, slice_range, ap₂, Bool, OnOk, IfOk, eqb, true≢false, inl, inr}
use Rattle.std.specs.Prelude.{slice_index}
use Rattle.std.proofs.Math.Seq.{take-append_seam}
use Rattle.std.proofs.lemmas.Bool.{cases_Bool, cond-false, eqb-true}
use Rattle.jsonb_core.specs.declared.error.Error.{Error}
use Rattle.jsonb_core.specs.declared.error.Error.TheVariants.{Syntax, OutOfMemory}
use Rattle.jsonb_spec.specs.Mode.{Mode, Strictness, strict, lenient, strictness, IsLenient}
use Rattle.text_scan.specs.declared.parser.number.ShortInteger.{ShortInteger}
use Rattle.jsonb_spec.specs.Tree.{Mark, Num, Tree, int64, uint64, null, boolean, number, string}
use Rattle.text_parse.specs.declared.parser.Parser.{Parser}
use Rattle.text_scan.specs.Answer.{Fails, grammar_of}
use Rattle.jsonb_spec.specs.Parsing.{Fault, Parse, begins, ◌>>=◌}
use Rattle.jsonb_spec.specs.Parsing.Number.{is_number_start}
use Rattle.jsonb_spec.specs.Parsing.Scalar.{begins_number, letters_at, null_at, null_or, number_at, number_value_at, or_else, other_scalar_at, quoted_at, scalar_at}
use Rattle.jsonb_spec.specs.Parsing.String.{string_at}
use Rattle.jsonb_spec.specs.Source.{Source, number_source, source_alone}
use Rattle.jsonb_spec.specs.Grammar.StandardNumber.{IsStandardNumber}
use Rattle.jsonb_spec.specs.Text.Encoded.{IsEncoded, IsEncodedAt, KeyHoldsAt}
use Rattle.jsonb_spec.specs.Source.{string_source}
use Rattle.jsonb_spec.specs.Tree.Mark.{plain}
use Rattle.text_common.specs.declared.verbatim.Verbatim.{Verbatim}
use Rattle.text_parse.specs.Scalars.{IsCut, IsKeyAt, SeesScalar, text_view}
use Rattle.text_parse.specs.declared.parser.text.Scalar.TheVariants as scalars
use Rattle.text_parse.specs.declared.parser.text.Text.{Text}
use Rattle.text_parse.specs.declared.parser.text.Text.TheVariants as texts
use Rattle.text_parse.specs.Literals.{literal_text, literal_tree}
use Rattle.text_parse.specs.declared.parser.scalar.Literal.{Literal}
use Rattle.text_parse.specs.declared.parser.scalar.Literal.TheVariants as literals
use Rattle.text_parse.specs.declared.parser.handler.Handler.{Ghosts}
use Rattle.text_parse.specs.Steps.{Puts, PutsIn}
use Rattle.text_parse.specs.Handler.{AsKey, Builds, IsUnreported}
use Rattle.text_parse.specs.Frames.{IsPut}
use Rattle.text_parse.specs.Slots.{Takes}
use Rattle.text_parse.specs.Parser.{Advances, AdvancesOver, IsBehind, parse_at, rest_of, size_of}
use Rattle.jsonb_spec.specs.Text.{in_quotes}
use Rattle.jsonb_spec.specs.Text.NumberText.{number_text}
use Rattle.std.proofs.lemmas.List.{drop_more}
use Rattle.jsonb_spec.specs.Text.VerbatimNumber.{IsBeforePoint}
use Rattle.jsonb_spec.specs.Text.VerbatimScalar.{IsIntegerAt}
use Rattle.text_common.specs.declared.verbatim.Verbatim.{Verbatim}
use Rattle.text_parse.proofs.Scalars.Encodings.{null_or_word}
use Rattle.text_parse.proofs.Scalars.FirstBytes.{number_here, scalar_as, scalar_is}
use Rattle.text_scan.proofs.Containers.JoinedParts.{on_byte-none}
use Rattle.text_scan.proofs.Numbers.Steps.{starts_here}
use Rattle.text_parse.proofs.Steps.Advancing.{goes_on}
use Rattle.text_parse.proofs.Steps.Failures.{memory_misses, unreported_misses}
use Rattle.text_parse.proofs.Steps.Outcomes.{same_size}

-- ---- strings

pub string_read : (size : ℕ) (mode : Mode) (quote : ℕ) (bytes : List ℕ) (x : Mark × List ℕ) (rest : List ℕ) → string_at size mode quote bytes ≡ Ok (x, rest) → quoted_at size mode quote bytes ≡ Ok (string x.0 x.1, rest)
string_read size mode quote bytes x rest read = ap (λ (r : Parse (Mark × List ℕ)). r >>= λ (s : (Mark × List ℕ) × List ℕ). Ok (string s.0.0 s.0.1, s.1)) read

-- ---- words

pub null_read : (size : ℕ) (mode : Mode) (bytes rest : List ℕ) → letters_at size (strictness mode) (codes "null") bytes ≡ Ok rest → null_at size mode bytes ≡ Ok (null, rest)
null_read size mode bytes rest read = null_or_word size (strictness mode) (number_value_at size mode) bytes (null, rest) (ap (λ (r : Result (List ℕ) Fault). r >>= λ rest. Ok (null, rest)) read)

null_or_missed : (size : ℕ) (strictness : Strictness) (at_number : List ℕ → Parse Tree) (bytes : List ℕ) (e : Error) → strictness ≡ lenient → e ≢ OutOfMemory → Fails e (letters_at size strictness (codes "null") bytes) → null_or size strictness at_number bytes ≡ at_number bytes
null_or_missed size strict at_number bytes e is other h = cc
null_or_missed size lenient at_number bytes (Syntax code offset) is other h = ap (λ (r : Result (List ℕ) Fault). or_else (r >>= λ rest. Ok (null, rest)) (at_number bytes)) h
null_or_missed size lenient at_number bytes OutOfMemory is other h = absurd (other refl)
null_or_missed size lenient at_number bytes e is other h = absurd h

-- no word begins here, in a lenient mode
pub null_missed : (size : ℕ) (mode : Mode) (bytes : List ℕ) (e : Error) → IsLenient mode → e ≢ OutOfMemory → Fails e (letters_at size (strictness mode) (codes "null") bytes) → null_at size mode bytes ≡ number_value_at size mode bytes
null_missed size mode bytes e is other h = null_or_missed size (strictness mode) (number_value_at size mode) bytes e is other h

-- ---- numbers

-- ---- what is parsed is put in

parses_so : {X F : Type 0} (silent : Bool) (Is IsIn : List ℕ → Source → Type 0) (text : List ℕ) (q r : Parser) (result : Result X F) (t : Tree) (read : Parse Tree)
    → OnOk result (Takes Is IsIn) → OnOk result (r ≡ q) → IfErr result (λ _. IsUnreported silent r.reported) → Is text (source_alone t) → read ≡ Ok (t, rest_of q) → IsPut silent r.reported (IsIn text) result read (rest_of r)
parses_so silent Is IsIn text q r (Ok x) t read put same reported there is = (t, is ∙ ap (λ o. Ok (t, rest_of o)) (sym same), put text (source_alone t) there)
parses_so silent Is IsIn text q r (Err f) t read put same reported there is = unreported_misses silent r.reported read reported

slot_alone : {X F : Type 0} (A B C : Type 0) (result : Result X F) → IfErr result (λ _. A → C) → IfErr result (λ _. A → B ⊎ C)
slot_alone A B C (Ok x) h = tt
slot_alone A B C (Err f) h = λ a. inr (h a)

onto : {R : Type 0} {base : R → List (List ℕ)} (p q r : Parser) (sink filled : R) → Advances p q → AdvancesOver base q r sink filled → AdvancesOver base p r sink filled
onto p q r sink filled on further = record { parser = goes_on p q r on further.parser; base = further.base }

module _ {V R I M K X F : Type 0} (h : Ghosts V R I M K) {result : Result X F} {p q r : Parser} {sink filled : R} {IsIn : List ℕ → Source → Type 0} {writes : Bool} (on : Advances p q) where
  -- what was parsed up to here
  pub put_so : {Is : List ℕ → Source → Type 0} {read : ℕ → Mode → List ℕ → Parse Tree} (t : Tree) → PutsIn h Is result q r sink filled IsIn writes → Is p.buf.now (source_alone t) → parse_at read p ≡ Ok (t, rest_of q) → Puts h read result p r sink filled IsIn writes
  put_so {Is} {read} t put there is =
      record {
        parses = parses_so h.silent Is IsIn p.buf.now q r result t (parse_at read p) put.put put.same put.reported there is;
        memory = slot_alone _ _ _ result put.memory;
        advances = onto p q r sink filled on put.advances;
      }

  -- what is parsed from here on
  pub puts_on : {read other : ℕ → Mode → List ℕ → Parse Tree} → parse_at other p ≡ parse_at read q → Puts h read result q r sink filled IsIn writes → Puts h other result p r sink filled IsIn writes
  puts_on {read} {other} same puts =
      record {
        parses = subst (λ b. IsPut h.silent r.reported (IsIn b.now) result (parse_at other p) (rest_of r)) on.buf (subst (λ x. IsPut h.silent r.reported (IsIn q.buf.now) result x (rest_of r)) (sym same) puts.parses);
        memory = subst (λ b. IfErr result (λ _. r.reported ≡ Some OutOfMemory → Contains b.now 92 ⊎ (writes ≡ true))) on.buf puts.memory;
        advances = onto p q r sink filled on puts.advances;
      }

-- ---- where a scalar is

-- the bytes between two offsets of a parser
pub between : (p q : Parser) (bytes : List ℕ) → Advances p q → rest_of p ≡ bytes ++ rest_of q → slice_range p.buf.now p.offset q.offset ≡ bytes
between p q bytes a e =
    let same = same_size p q a in
    let count : q.offset - p.offset ≡ length bytes = omega (arith, ap length e, length-append bytes (rest_of q), length-drop p.offset p.buf.now, length-drop q.offset q.buf.now, same, q.inside, p.inside) in
    ap₂ (λ n xs. take n xs) count e ∙ take-append_seam bytes (rest_of q)

-- where an integer is that is written as it is
pub verbatim_at : (p q : Parser) (core : List ℕ) (value integer : Num) → Advances p q → rest_of p ≡ core ++ rest_of q → IsStandardNumber core integer → value.scale ≡ integer.scale → value.whole ≡ integer.whole
    → core ≡ number_text value → IsIntegerAt p.buf.now p.offset q.offset (number_source value)
verbatim_at p q core value integer on joined digits scale whole text =
    let there = between p q core on joined in
    record {
      value = value;
      integer = integer;
      is = refl;
      inside = omega (arith, q.inside, same_size p q on);
      digits = subst (λ bytes. IsStandardNumber bytes integer) (sym there) digits;
      scale = scale;
      whole = whole;
      same = there ∙ text;
    }

-- the integer that is parsed, with a minus and without
abbrev pub negative_of : ShortInteger → Num
negative_of read = record { form = int64; scale = 0; whole = neg_ℤ (pos read.magnitude) }

abbrev pub positive_of : ShortInteger → Num
positive_of read = record { form = uint64; scale = 0; whole = pos read.magnitude }

-- an integer in the text
pub integer_holds : (p q : Parser) (n : Num) → Advances p q → (bytes : List ℕ) × (rest_of p ≡ bytes ++ rest_of q) × IsStandardNumber bytes n → IsEncodedAt p.buf.now p.offset q.offset (number_source n)
integer_holds p q n a h some = subst (λ bs. IsStandardNumber bs n) (sym (between p q h.0 a h.1)) h.2

-- nothing is said of where a scalar is
pub not_encoded : (text : List ℕ) (at : ℕ) (s : Source) → IsEncodedAt text at at s
not_encoded text at s h = absurd (omega arith)

-- ---- keys

-- a key without escapes, behind its opening quote
pub key_holds : (p q r : Parser) (body : List ℕ) → 0 < q.offset → Advances p q → Advances q r → IsBehind 34 q → rest_of q ≡ body ++ 34 ∷ rest_of r → slice_range p.buf.now (q.offset - 1) r.offset ≡ in_quotes body
key_holds p q r body some on a behind e =
    let before : Parser = record q { offset = q.offset - 1; inside = omega (arith, q.inside) } in
    let back : q.offset - 1 + 1 ≡ q.offset = omega (arith, some) in
    let more : rest_of before ≡ 34 ∷ rest_of q =
    drop_more q.buf.now (q.offset - 1) 0 (omega (arith, q.inside, some)) ∙ ap₂ (λ b r. b ∷ r) behind.1 (ap (λ n. drop n q.buf.now) back) in
    let on_before : Advances before r = record { buf = a.buf; mode = a.mode; grammar = a.grammar; onward = omega (arith, a.onward) } in
    ap (λ b. slice_range b.now (q.offset - 1) r.offset) (sym on.buf)
    ∙ between before r (34 ∷ body ++ 34 ∷ []) on_before (more ∙ ap (λ xs. 34 ∷ xs) (e ∙ sym (append_assoc body (34 ∷ []) (rest_of r))))

-- what is so of a key that is there
pub key_begun : {K A : Type 0} (Holds : List ℕ → Type 0) (Begun : List ℕ → K → Type 0) (made : Result K A) → IfOk made (λ key. (bytes : List ℕ) → Holds bytes → Begun bytes key) → (bytes : List ℕ) → Holds bytes → IfOk made (Begun bytes)
key_begun Holds Begun (Ok key) h bytes holds = h bytes holds
key_begun Holds Begun (Err e) h bytes holds = tt

-- a key that a handler made of what was parsed
pub key_retained : {K A F : Type 0} (silent : Bool) (Names : K → Mark × List ℕ → ℕ → Type 0) (made : Result K A) (result : Result K F) (size : ℕ) (p q : Parser) (k : Mark × List ℕ) (read : Parse (Mark × List ℕ)) → size ≡ size_of p → IfOk made (λ key. Names key k p.offset)
    → IfOk result (λ x. (made ≡ Ok x) × (q ≡ p)) → IfErr result (λ _. q.reported ≡ Some OutOfMemory) → read ≡ Ok (k, rest_of p) → Builds silent q.reported (AsKey Names size (rest_of q)) result read (rest_of q)
key_retained silent Names made (Ok key) size p q k read same named verbatim memory is =
    let offset : p.offset ≡ size - length (rest_of q) = omega (arith, length-drop p.offset p.buf.now, same, p.inside, ap (λ o. length (rest_of o)) verbatim.1) in
    (k, subst (λ i. Names key k i) offset (subst (λ m. IfOk m (λ x. Names x k p.offset)) verbatim.0 named), is ∙ ap (λ o. Ok (k, rest_of o)) (sym verbatim.1))
key_retained silent Names made (Err f) size p q k read same named verbatim memory is = memory_misses silent q.reported read memory

-- what is built in an input of one size is built in the same
pub key_same : {K F : Type 0} (silent : Bool) (reported : Option Error) (Names : K → Mark × List ℕ → ℕ → Type 0) (result : Result K F) (size other_size : ℕ) (read other : Parse (Mark × List ℕ)) (rest : List ℕ) → other_size ≡ size → other ≡ read
    → Builds silent reported (AsKey Names size rest) result read rest → Builds silent reported (AsKey Names other_size rest) result other rest
key_same silent reported Names result size other_size read other rest sizes same h =
    subst (λ n. Builds silent reported (AsKey Names n rest) result other rest) (sym sizes) (subst (λ q. Builds silent reported (AsKey Names size rest) result q rest) (sym same) h)

-- a string or a key that was cut out of the text

pub cut_view : (t : Text) → IsCut t → (plain, (text_view t).1) ≡ text_view t
cut_view (texts.Plain t) cut = refl
cut_view (texts.Borrowed t) cut = refl
cut_view (texts.Decoded t) cut = absurd cut

pub cut_seen : {V : Type 0} (Sees : V → Source → Type 0) (IsVerbatim : Verbatim → V → Type 0) (preserves : Bool) (v : V) (t : Text) → IsCut t → SeesScalar Sees IsVerbatim preserves v (scalars.String t) → Sees v (string_source plain (text_view t).1)
cut_seen Sees IsVerbatim preserves v (texts.Plain t) cut sees = sees cut
cut_seen Sees IsVerbatim preserves v (texts.Borrowed t) cut sees = sees
cut_seen Sees IsVerbatim preserves v (texts.Decoded t) cut sees = absurd cut

pub cut_key : (bytes : List ℕ) (t : Text) (from after : ℕ) → IsCut t → KeyHoldsAt bytes (text_view t).1 from after → IsKeyAt bytes t from after
cut_key bytes (texts.Plain t) from after cut holds = (holds, cut)
cut_key bytes (texts.Borrowed t) from after cut holds = holds
cut_key bytes (texts.Decoded t) from after cut holds = tt

-- ---- what is parsed at once

null_as : (size : ℕ) (mode : Mode) (s : Strictness) (rest : List ℕ) → scalar_as size mode s (110 ∷ 117 ∷ 108 ∷ 108 ∷ rest) ≡ Ok (null, rest)
null_as size mode strict rest = refl
null_as size mode lenient rest = refl

pub null_at_once : (size : ℕ) (mode : Mode) (rest : List ℕ) → scalar_at size mode (110 ∷ 117 ∷ 108 ∷ 108 ∷ rest) ≡ Ok (null, rest)
null_at_once size mode rest = scalar_is size mode (110 ∷ 117 ∷ 108 ∷ 108 ∷ rest) ∙ null_as size mode (strictness mode) rest

true_as : (size : ℕ) (mode : Mode) (s : Strictness) (rest : List ℕ) → scalar_as size mode s (116 ∷ 114 ∷ 117 ∷ 101 ∷ rest) ≡ Ok (boolean true, rest)
true_as size mode strict rest = refl
true_as size mode lenient rest = refl

pub true_at_once : (size : ℕ) (mode : Mode) (rest : List ℕ) → scalar_at size mode (116 ∷ 114 ∷ 117 ∷ 101 ∷ rest) ≡ Ok (boolean true, rest)
true_at_once size mode rest = scalar_is size mode (116 ∷ 114 ∷ 117 ∷ 101 ∷ rest) ∙ true_as size mode (strictness mode) rest

false_as : (size : ℕ) (mode : Mode) (s : Strictness) (rest : List ℕ) → scalar_as size mode s (102 ∷ 97 ∷ 108 ∷ 115 ∷ 101 ∷ rest) ≡ Ok (boolean false, rest)
false_as size mode strict rest = refl
false_as size mode lenient rest = refl

pub false_at_once : (size : ℕ) (mode : Mode) (rest : List ℕ) → scalar_at size mode (102 ∷ 97 ∷ 108 ∷ 115 ∷ 101 ∷ rest) ≡ Ok (boolean false, rest)
false_at_once size mode rest = scalar_is size mode (102 ∷ 97 ∷ 108 ∷ 115 ∷ 101 ∷ rest) ∙ false_as size mode (strictness mode) rest

-- the first byte is a digit or a minus
starts_number : (bytes : List ℕ) → is_number_start (slice_index bytes 0) ≡ true → (begins 34 bytes ≡ false) × (begins_number strict bytes ≡ true)
starts_number [] e = absurd (true≢false (sym e))
starts_number (b ∷ bytes) e = (no_quote, e)
  where
    no_quote : begins 34 (b ∷ bytes) ≡ false
    no_quote = elim (cases_Bool (eqb b 34)) [
      | inl same ↦ absurd (true≢false (sym e ∙ ap is_number_start (eqb-true b 34 same)))
      | inr other ↦ cond-false (eqb b 34) true false other
    ]

-- what is parsed where a number begins as integers do
pub number_scalar_at : (size : ℕ) (mode : Mode) (bytes : List ℕ) → is_number_start (slice_index bytes 0) ≡ true → scalar_at size mode bytes ≡ number_value_at size mode bytes
unfolding scalar_at
number_scalar_at size mode bytes first =
    let begun = starts_number bytes first in
    on_byte-none 34 bytes (quoted_at size mode 34) (other_scalar_at size mode bytes) begun.0 ∙ number_here size mode bytes begun.1

-- a number that begins as integers do
pub number_at_once : (size : ℕ) (mode : Mode) (bytes : List ℕ) (n : Num) (rest : List ℕ) → is_number_start (slice_index bytes 0) ≡ true → number_at size mode bytes ≡ Ok (n, rest) → scalar_at size mode bytes ≡ Ok (number n, rest)
number_at_once size mode bytes n rest first read =
    number_scalar_at size mode bytes first ∙ ap (λ (r : Parse Num). r >>= λ x. Ok (number x.0, x.1)) read

-- what the parser parses where it paused
pub scalar_still : (p q : Parser) → q ≡ p → scalar_at (size_of p) (grammar_of p.grammar) (rest_of p) ≡ scalar_at (size_of q) (grammar_of q.grammar) (rest_of q)
scalar_still p q same = sym (ap (λ o. scalar_at (size_of o) (grammar_of o.grammar) (rest_of o)) same)

-- a digit or a minus comes first
number_first : (bytes : List ℕ) → begins_number strict bytes ≡ true → is_number_start (slice_index bytes 0) ≡ true
number_first [] begins = absurd (true≢false (sym begins))
number_first (b ∷ bytes) begins = begins

-- what the parser parses, where a digit or a minus comes next
pub number_next : (p : Parser) → begins_number strict (rest_of p) ≡ true → scalar_at (size_of p) (grammar_of p.grammar) (rest_of p) ≡ number_value_at (size_of p) (grammar_of p.grammar) (rest_of p)
number_next p begins = number_scalar_at (size_of p) (grammar_of p.grammar) (rest_of p) (number_first (rest_of p) begins)

-- what it parses where it paused, where digits with a point behind them come next
pub number_before_point : (p q : Parser) (front : ℕ) → q ≡ p → IsBeforePoint (rest_of p) front → scalar_at (size_of p) (grammar_of p.grammar) (rest_of p) ≡ number_value_at (size_of q) (grammar_of q.grammar) (rest_of q)
number_before_point p q front same point =
    number_scalar_at (size_of p) (grammar_of p.grammar) (rest_of p) (starts_here (rest_of p) (subst (λ (n : ℕ). 0 < n) (sym point.digits) point.some))
    ∙ sym (ap (λ o. number_value_at (size_of o) (grammar_of o.grammar) (rest_of o)) same)

-- a literal as it is encoded
pub literal_encoded : (l : Literal) (bytes : List ℕ) → bytes ≡ literal_text l → IsEncoded bytes (source_alone (literal_tree l))
literal_encoded literals.Null bytes e = e
literal_encoded (literals.Bool true) bytes e = e
literal_encoded (literals.Bool false) bytes e = e
