-- Where a document's value begins and where its text ends, from the executable specification.
use Rattle.std.proofs.Common.{◌≡◌, ◌≢◌, ℕ, refl, Option, ◌+◌, ◌-◌, ◌<◌, ◌≤◌, Bool, true, false, cond, ◌⊎◌, inl, inr, get_or, ne_eqb, List, [], ◌∷◌, length, drop, Result, Ok, Err, sym, ap, ◌∙◌, arith, length-drop, drop-drop}
use Rattle.std.proofs.lemmas.List.{drop_more}
use Rattle.std.proofs.lemmas.Bool.{cond-false, cond-true}
use Rattle.text_parse.specs.declared.parser.Parser.{Parser}
use Rattle.jsonb_spec.specs.Code.Code.{invalid_eof, unexpected_trailing_characters}
use Rattle.jsonb_spec.specs.Grammar.{max_depth}
use Rattle.jsonb_core.specs.declared.error.Error.{Error}
use Rattle.jsonb_spec.specs.Mode.{Mode, Strictness, strict, lenient, strictness, IsLenient}
use Rattle.jsonb_spec.specs.Tree.{Tree}
use Rattle.text_scan.specs.Answer.{grammar_of}
use Rattle.text_parse.specs.Frames.{OpensContainer}
use Rattle.text_parse.specs.Handler.{Misses}
use Rattle.text_parse.specs.Parser.{Advances, Skips, parse_at, rest_of, size_of, source_at, source_here}
use Rattle.text_parse.specs.Steps.{NoneOpens}
use Rattle.jsonb_spec.specs.Source.{Source, null_source, source_alone}
use Rattle.jsonb_spec.specs.Parsing.{Fault, fault, ◌>>=◌}
use Rattle.jsonb_spec.specs.Parsing.Whitespace.{opens_comment, skip_closed_whitespace}
use Rattle.jsonb_spec.specs.Parsing.Document.{alone_at, at_end, comment_at, nothing_at, source_from, value_at, value_to_end}
use Rattle.jsonb_spec.specs.Parsing.Scalar.{scalar_at}
use Rattle.text_parse.proofs.Containers.Frames.{next_found}
use Rattle.text_parse.proofs.Containers.OpenOnLists.{value_plain}
use Rattle.text_parse.proofs.Steps.Cursors.{nothing_left}
use Rattle.text_parse.proofs.Steps.Failures.{misses_same, misses_through}
use Rattle.text_parse.proofs.Steps.Outcomes.{same_size}

-- the end of a document
abbrev pub ended : ℕ → Mode → Source × List ℕ → Result Source Fault
ended size mode x = at_end size mode x.0 (skip_closed_whitespace mode x.1)

-- the end of the text is that of the same input further on
pub ended_same : (q m : Parser) (t : Source) → Advances q m → ended (size_of q) (grammar_of q.grammar) (t, rest_of m) ≡ at_end (size_of m) (grammar_of m.grammar) t (skip_closed_whitespace (grammar_of m.grammar) (rest_of m))
ended_same q m t a =
    sym (ap (λ (n : ℕ). at_end n (grammar_of m.grammar) t (skip_closed_whitespace (grammar_of m.grammar) (rest_of m))) (same_size q m a) ∙ ap (λ (k : Mode). at_end (size_of q) k t (skip_closed_whitespace k (rest_of m))) (ap grammar_of a.grammar))

-- no comment begins with a bracket or a brace
no_comment : (s : Strictness) (rest : List ℕ) → (opens_comment s (91 ∷ rest) ≡ false) × (opens_comment s (123 ∷ rest) ≡ false)
no_comment strict rest = (refl, refl)
no_comment lenient rest = (refl, refl)

from_some : (size : ℕ) (mode : Mode) (r : List ℕ) → 0 < length r → opens_comment (strictness mode) r ≡ false → source_from size mode r ≡ value_to_end size mode r
from_some size mode [] h e = absurd (omega arith)
from_some size mode (b ∷ r) h e = cond-false (opens_comment (strictness mode) (b ∷ r)) (comment_at size null_source r) (value_to_end size mode (b ∷ r)) e

from_comment : (size : ℕ) (mode : Mode) (r : List ℕ) → 0 < length r → opens_comment (strictness mode) r ≡ true → source_from size mode r ≡ comment_at size null_source (drop 1 r)
from_comment size mode [] h e = absurd (omega arith)
from_comment size mode (b ∷ r) h e = cond-true (opens_comment (strictness mode) (b ∷ r)) (comment_at size null_source r) (value_to_end size mode (b ∷ r)) e

-- what is left after the whitespace, in the same input
pub document_same : (p q : Parser) → Skips skip_closed_whitespace p q → source_at p ≡ source_here q
document_same p q skips =
    ap (λ (r : List ℕ). source_from (size_of p) (grammar_of p.grammar) r) (sym skips.rest)
    ∙ ap (λ (n : ℕ). source_from n (grammar_of p.grammar) (rest_of q)) (sym (same_size p q skips.advances)) ∙ ap (λ (m : Mode). source_from (size_of q) m (rest_of q)) (sym (ap grammar_of skips.advances.grammar))

module _ (q : Parser) where
  some_left : q.offset < size_of q → 0 < length (rest_of q)
  some_left within = omega (arith, length-drop q.offset q.buf.now)

  -- a text with more than whitespace
  pub document_some : q.offset < size_of q → opens_comment (strictness (grammar_of q.grammar)) (rest_of q) ≡ false → source_here q ≡ (value_at (size_of q) (grammar_of q.grammar) max_depth (rest_of q) >>= ended (size_of q) (grammar_of q.grammar))
  document_some within closed = from_some (size_of q) (grammar_of q.grammar) (rest_of q) (some_left within) closed

  -- a text with no more than whitespace
  pub document_none : size_of q ≤ q.offset → IsLenient (grammar_of q.grammar) → source_here q ≡ Ok null_source
  document_none past is = ap (λ (r : List ℕ). source_from (size_of q) (grammar_of q.grammar) r) (nothing_left q.buf.now q.offset past) ∙ ap (nothing_at (size_of q)) is

  -- a text that ends in a comment
  pub document_comment : q.offset < size_of q → opens_comment (strictness (grammar_of q.grammar)) (rest_of q) ≡ true → source_here q ≡ comment_at (size_of q) null_source (drop 1 (rest_of q))
  document_comment within opens = from_comment (size_of q) (grammar_of q.grammar) (rest_of q) (some_left within) opens

  begun : {b : ℕ} {rest : List ℕ} → rest_of q ≡ b ∷ rest → opens_comment (strictness (grammar_of q.grammar)) (b ∷ rest) ≡ false → source_here q ≡ value_to_end (size_of q) (grammar_of q.grammar) (rest_of q)
  begun e closed = from_some (size_of q) (grammar_of q.grammar) (rest_of q) (omega (arith, ap length e)) (ap (opens_comment (strictness (grammar_of q.grammar))) e ∙ closed)

  -- a text whose value is an array or an object
  pub document_container : OpensContainer (rest_of q) → source_here q ≡ value_to_end (size_of q) (grammar_of q.grammar) (rest_of q)
  document_container (inl e) = begun (next_found 91 q e) (no_comment (strictness (grammar_of q.grammar)) (drop (q.offset + 1) q.buf.now)).0
  document_container (inr e) = begun (next_found 123 q e) (no_comment (strictness (grammar_of q.grammar)) (drop (q.offset + 1) q.buf.now)).1

  -- a text whose value holds no others
  module _ (within : q.offset < size_of q) (closed : opens_comment (strictness (grammar_of q.grammar)) (rest_of q) ≡ false) (other : NoneOpens q) where
    plain : value_at (size_of q) (grammar_of q.grammar) max_depth (rest_of q) ≡ alone_at (parse_at scalar_at q)
    plain = value_plain (size_of q) (grammar_of q.grammar) max_depth (rest_of q) other.0 other.1

    pub document_scalar : (m : Parser) (t : Tree) → Advances q m → parse_at scalar_at q ≡ Ok (t, rest_of m) → source_here q ≡ at_end (size_of m) (grammar_of m.grammar) (source_alone t) (skip_closed_whitespace (grammar_of m.grammar) (rest_of m))
    document_scalar m t on read = document_some within closed ∙ ap (λ r. r >>= ended (size_of q) (grammar_of q.grammar)) (plain ∙ ap alone_at read) ∙ ended_same q m (source_alone t) on

    pub scalar_missed : (silent : Bool) (t : Option Error) → Misses silent t (parse_at scalar_at q) → Misses silent t (source_here q)
    scalar_missed silent t missed =
        let value = value_at (size_of q) (grammar_of q.grammar) max_depth (rest_of q) in
        misses_same silent t (value >>= ended (size_of q) (grammar_of q.grammar)) (source_here q) (document_some within closed)
        (misses_through silent t value (ended (size_of q) (grammar_of q.grammar)) (misses_same silent t (alone_at (parse_at scalar_at q)) value plain (misses_through silent t (parse_at scalar_at q) (λ x. Ok (source_alone x.0, x.1)) missed)))

-- ---- after the value

-- what is left after the whitespace, in the same input
ending_same : (p q : Parser) (t : Source) → rest_of q ≡ skip_closed_whitespace (grammar_of p.grammar) (rest_of p) → Advances p q
    → at_end (size_of p) (grammar_of p.grammar) t (skip_closed_whitespace (grammar_of p.grammar) (rest_of p)) ≡ at_end (size_of q) (grammar_of q.grammar) t (rest_of q)
ending_same p q t e a =
    ap (λ (r : List ℕ). at_end (size_of p) (grammar_of p.grammar) t r) (sym e)
    ∙ ap (λ (n : ℕ). at_end n (grammar_of p.grammar) t (rest_of q)) (sym (same_size p q a)) ∙ ap (λ (m : Mode). at_end (size_of q) m t (rest_of q)) (sym (ap grammar_of a.grammar))

past_end : (size : ℕ) (mode : Mode) (t : Source) (r : List ℕ) (i : ℕ) → length r + i ≡ size → 0 < length r → opens_comment (strictness mode) r ≡ false → at_end size mode t r ≡ Err (record { code = unexpected_trailing_characters; offset = i + 1 })
past_end size mode t [] i e h closed = absurd (omega arith)
past_end size mode t (b ∷ r) i e h closed =
    cond-false (opens_comment (strictness mode) (b ∷ r)) (comment_at size t r) (fault unexpected_trailing_characters (size - length (b ∷ r) + 1)) closed
    ∙ ap (λ (k : ℕ). Err (record { code = unexpected_trailing_characters; offset = k })) (let same : size - length (b ∷ r) + 1 ≡ i + 1 = omega (arith, e) in same)

comment_end : (size : ℕ) (mode : Mode) (t : Source) (r : List ℕ) → 0 < length r → opens_comment (strictness mode) r ≡ true → at_end size mode t r ≡ comment_at size t (drop 1 r)
comment_end size mode t [] h opens = absurd (omega arith)
comment_end size mode t (b ∷ r) h opens = cond-true (opens_comment (strictness mode) (b ∷ r)) (comment_at size t r) (fault unexpected_trailing_characters (size - length (b ∷ r) + 1)) opens

pub ends_trailing : (p q : Parser) (t : Source) → rest_of q ≡ skip_closed_whitespace (grammar_of p.grammar) (rest_of p) → Advances p q → q.offset < size_of q → opens_comment (strictness (grammar_of q.grammar)) (rest_of q) ≡ false
    → at_end (size_of p) (grammar_of p.grammar) t (skip_closed_whitespace (grammar_of p.grammar) (rest_of p)) ≡ Err (record { code = unexpected_trailing_characters; offset = q.offset + 1 })
ends_trailing p q t e a within closed =
    ending_same p q t e a ∙ past_end (size_of q) (grammar_of q.grammar) t (rest_of q) q.offset (omega (arith, length-drop q.offset q.buf.now)) (omega (arith, length-drop q.offset q.buf.now)) closed

pub ends_comment : (p q : Parser) (t : Source) → rest_of q ≡ skip_closed_whitespace (grammar_of p.grammar) (rest_of p) → Advances p q → q.offset < size_of q → opens_comment (strictness (grammar_of q.grammar)) (rest_of q) ≡ true
    → at_end (size_of p) (grammar_of p.grammar) t (skip_closed_whitespace (grammar_of p.grammar) (rest_of p)) ≡ comment_at (size_of q) t (drop 1 (rest_of q))
ends_comment p q t e a within opens = ending_same p q t e a ∙ comment_end (size_of q) (grammar_of q.grammar) t (rest_of q) (omega (arith, length-drop q.offset q.buf.now)) opens

pub ends_well : (p q : Parser) (t : Source) → rest_of q ≡ skip_closed_whitespace (grammar_of p.grammar) (rest_of p) → Advances p q → size_of q ≤ q.offset
    → at_end (size_of p) (grammar_of p.grammar) t (skip_closed_whitespace (grammar_of p.grammar) (rest_of p)) ≡ Ok t
ends_well p q t e a past = ending_same p q t e a ∙ ap (at_end (size_of q) (grammar_of q.grammar) t) (nothing_left q.buf.now q.offset past)

-- ---- a comment at the end

after-next : (buf : List ℕ) (i : ℕ) → drop 1 (drop i buf) ≡ drop (i + 1) buf
after-next buf i = drop-drop 1 i buf

pub comment_closed : (buf : List ℕ) (i : ℕ) (t : Source) → i + 1 < length buf → get_or buf (i + 1) 0 ≡ 47 → comment_at (length buf) t (drop 1 (drop i buf)) ≡ Ok t
comment_closed buf i t within slash =
    ap (comment_at (length buf) t) (after-next buf i ∙ drop_more buf (i + 1) 0 within ∙ ap (λ (b : ℕ). b ∷ drop (i + 1 + 1) buf) slash)

pub comment_open : (buf : List ℕ) (i : ℕ) (t : Source) → (length buf ≤ i + 1) ⊎ ((i + 1 < length buf) × (get_or buf (i + 1) 0 ≢ 47)) → comment_at (length buf) t (drop 1 (drop i buf)) ≡ Err (record { code = invalid_eof; offset = length buf })
comment_open buf i t (inl past) = ap (comment_at (length buf) t) (after-next buf i ∙ nothing_left buf (i + 1) past)
comment_open buf i t (inr (within, other)) =
    ap (comment_at (length buf) t) (after-next buf i ∙ drop_more buf (i + 1) 0 within)
    ∙ ap (λ (b : Bool). cond (cond b true false) (Ok t) (fault invalid_eof (length buf))) (ne_eqb (get_or buf (i + 1) 0) 47 other)
