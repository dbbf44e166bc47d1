-- Where the rest of a text begins with a part that passes, parsing the rest gives the fault behind a value.
use Rattle.std.proofs.Common.{◌≡◌, ℕ, ◌+◌, ◌-◌, ◌<◌, Bool, true, false, ◌||◌, true≢false, ◌⊎◌, inl, inr, List, [], ◌∷◌, ◌++◌, length, get_or, Result, Ok, Err, refl, sym, ap, subst, ◌∙◌, append_assoc, length-append, eqb, eq-eqb, arith}
use Rattle.std.proofs.lemmas.Bool.{cond-false}
use Rattle.jsonb_spec.specs.Code.Code.{unexpected_trailing_characters}
use Rattle.jsonb_spec.specs.Grammar.{Derives, IsElement, IsPadded, max_depth}
use Rattle.jsonb_spec.specs.Grammar.IsElement.{empty_element, whole_element}
use Rattle.jsonb_spec.specs.Grammar.IsPadded.{padded}
use Rattle.jsonb_spec.specs.Grammar.Whitespace.{IsWhitespace, IsWhitespacePiece}
use Rattle.jsonb_spec.specs.Grammar.Whitespace.IsWhitespace.{more_whitespace, no_whitespace}
use Rattle.jsonb_spec.specs.Mode.{Mode, IsLenient, Strictness, strictness}
use Rattle.jsonb_spec.specs.Source.{Source, null_source, tree_of_source}
use Rattle.jsonb_spec.specs.Tree.{Tree}
use Rattle.jsonb_spec.specs.Parsing.{Fault, Parse, fault, ◌>>=◌}
use Rattle.jsonb_spec.specs.Parsing.Whitespace.{is_break, is_whitespace_start, opens_comment, piece_length, skip_closed_whitespace}
use Rattle.jsonb_spec.specs.Parsing.Document.{at_end, comment_at, document_of, source_from, source_of, value_to_end}
use Rattle.text_scan.proofs.Containers.JoinedParts.{ends-piece, ends-whitespace, ends_at, other}
use Rattle.text_scan.proofs.Text.Whitespace.{length-pass, opens-stop, pass-none, pass-piece, pass-stop, pass-whitespace}
use Rattle.text_parse.proofs.Scalars.Encodings.{Follows}
use Rattle.text_parse.proofs.Scalars.Encodings.Follows.{before}
use Rattle.text_parse.proofs.Containers.Values.{value_is_complete}
use Rattle.jsonb_spec.specs.Path.ErrorPath.{BeginsWithPart, IsPart, NonePasses}
use Rattle.jsonb_spec.specs.Path.ErrorPath.IsPart.{element, member_value}
use Rattle.error_path.specs.Placed.{ends_before, leaves_out}

-- ---- no whitespace

-- No whitespace begins here.
abbrev pub BeginsNoPiece : Mode → List ℕ → Type 0
BeginsNoPiece mode bytes = (piece others : List ℕ) → IsWhitespacePiece mode piece → bytes ≡ piece ++ others → ⊥

pub no_piece : (mode : Mode) (bytes : List ℕ) → piece_length mode bytes ≡ 0 → BeginsNoPiece mode bytes
no_piece mode bytes none piece others b whole =
    let one = ends-piece b [] in
    let skipped : bytes ≡ skip_closed_whitespace mode others =
    sym (pass-none mode bytes none) ∙ ap (λ (w : List ℕ). skip_closed_whitespace mode w) whole ∙ pass-piece b others in
    omega (arith, ap length skipped, length-pass mode others, ap length whole, length-append piece others, ap length one.whole, length-append piece [])

without_whitespace : {mode : Mode} {front : List ℕ} (b : IsWhitespace mode front) (bytes rest : List ℕ) → BeginsNoPiece mode bytes → bytes ≡ front ++ rest → bytes ≡ rest
without_whitespace no_whitespace bytes rest none whole = whole
without_whitespace (more_whitespace {piece = piece} {rest = more} b bs) bytes rest none whole = absurd (none piece (more ++ rest) b (whole ∙ append_assoc piece more rest))

-- ---- the fault behind a value

-- A value with whitespace round it, and then a byte that may follow it and is no whitespace.
source_trails : (mode : Mode) {part : List ℕ} {t : Tree} (p : IsPadded mode (Derives mode max_depth) part t) (b : ℕ) (rest : List ℕ) → is_break b ≡ true → is_whitespace_start b ≡ false
    → source_of mode (part ++ b ∷ rest) ≡ Err (record { code = unexpected_trailing_characters; offset = length part + 1 })
unfolding source_of
source_trails mode (padded {before = front} {core = core} {after = after} {a = t} w d v) b rest is_end is_none =
    let size : ℕ = length ((front ++ (core ++ after)) ++ b ∷ rest) in
    let complete = value_is_complete size mode max_depth in
    let st = complete.starts core t d in
    let r = complete.parses core t (after ++ b ∷ rest) d (λ n. before (ends-whitespace v (b ∷ rest) (ends_at b rest is_end))) in
    let piece : is_whitespace_start st.first ≡ false = (other st.first st.is_start).piece in
    let more : List ℕ = st.others ++ (after ++ b ∷ rest) in
    let opened : core ++ (after ++ b ∷ rest) ≡ st.first ∷ more = ap (λ (u : List ℕ). u ++ (after ++ b ∷ rest)) st.whole in
    let joined : (front ++ (core ++ after)) ++ b ∷ rest ≡ front ++ (core ++ (after ++ b ∷ rest)) =
    append_assoc front (core ++ after) (b ∷ rest) ∙ ap (λ (u : List ℕ). front ++ u) (append_assoc core after (b ∷ rest)) in
    let passed : skip_closed_whitespace mode ((front ++ (core ++ after)) ++ b ∷ rest) ≡ st.first ∷ more =
    ap (λ (u : List ℕ). skip_closed_whitespace mode u) joined ∙ pass-whitespace w (core ++ (after ++ b ∷ rest)) ∙ ap (λ (u : List ℕ). skip_closed_whitespace mode u) opened ∙ pass-stop mode st.first more piece in
    let end : skip_closed_whitespace mode (after ++ b ∷ rest) ≡ b ∷ rest = pass-whitespace v (b ∷ rest) ∙ pass-stop mode b rest is_none in
    let at : size - length (b ∷ rest) + 1 ≡ length (front ++ (core ++ after)) + 1 = omega (arith, length-append (front ++ (core ++ after)) (b ∷ rest)) in
    ap (source_from size mode) passed
    ∙ cond-false (opens_comment (strictness mode) (st.first ∷ more)) (comment_at size null_source more) (value_to_end size mode (st.first ∷ more)) (opens-stop (strictness mode) st.first more piece)
    ∙ ap (value_to_end size mode) (sym opened)
    ∙ ap (λ (q : Parse Source). q >>= λ (x : Source × List ℕ). at_end size mode x.0 (skip_closed_whitespace mode x.1)) r.2
    ∙ ap (at_end size mode r.0) end
    ∙ cond-false (opens_comment (strictness mode) (b ∷ rest)) (comment_at size r.0 rest) (fault unexpected_trailing_characters (size - length (b ∷ rest) + 1)) (opens-stop (strictness mode) b rest is_none)
    ∙ ap (λ (k : ℕ). Err (record { code = unexpected_trailing_characters; offset = k })) at

document_trails : (mode : Mode) {part : List ℕ} {t : Tree} (p : IsPadded mode (Derives mode max_depth) part t) (b : ℕ) (rest : List ℕ) → is_break b ≡ true → is_whitespace_start b ≡ false
    → document_of mode (part ++ b ∷ rest) ≡ Err (record { code = unexpected_trailing_characters; offset = length part + 1 })
unfolding document_of
document_trails mode p b rest is_end is_none = ap (λ (r : Result Source Fault). r >>= λ (s : Source). Ok (tree_of_source s)) (source_trails mode p b rest is_end is_none)

-- ---- a part that passes

-- Parsing gives the fault behind a value, at a byte before which a part ends.
pub record IsBehindPart (mode : Mode) (closers bytes : List ℕ) : Type 0 where
  pub at : ℕ
  pub within : at < length bytes
  pub faulty : document_of mode bytes ≡ Err (record { code = unexpected_trailing_characters; offset = at + 1 })
  pub ends : ends_before (get_or bytes at 0) closers ≡ true

or_true : (b : Bool) → (b || true) ≡ true
or_true true = refl
or_true false = refl

ends_there : (byte close : ℕ) (closers : List ℕ) → (byte ≡ 44) ⊎ (byte ≡ close) → ends_before byte (close ∷ closers) ≡ true
ends_there byte close closers (inl e) = subst (λ (b : ℕ). ends_before b (close ∷ closers) ≡ true) (sym e) refl
ends_there byte close closers (inr e) = ap (λ (b : Bool). eqb byte 44 || b) (eq-eqb byte close e) ∙ or_true (eqb byte 44)

-- a comma, or a closing byte
abbrev IsStop : ℕ → Type 0
IsStop byte = (is_break byte ≡ true) × (is_whitespace_start byte ≡ false)

stops : (byte close : ℕ) → IsStop close → (byte ≡ 44) ⊎ (byte ≡ close) → IsStop byte
stops byte close is (inl e) = subst IsStop (sym e) (refl, refl)
stops byte close is (inr e) = subst IsStop (sym e) is

behind : (part rest : List ℕ) (byte : ℕ) → get_or (part ++ byte ∷ rest) (length part) 0 ≡ byte
behind [] rest byte = refl
behind (b ∷ part) rest byte = behind part rest byte

value_passes : (mode : Mode) (close : ℕ) (closers bytes part rest : List ℕ) (byte : ℕ) {t : Tree} → IsStop close → IsPadded mode (Derives mode max_depth) part t → bytes ≡ part ++ byte ∷ rest → (byte ≡ 44) ⊎ (byte ≡ close) → IsBehindPart mode (close ∷ closers) bytes
value_passes mode close closers bytes part rest byte is p whole ends =
    let stop = stops byte close is ends in
    let there : get_or bytes (length part) 0 ≡ byte = ap (λ (u : List ℕ). get_or u (length part) 0) whole ∙ behind part rest byte in
    record {
      at = length part;
      within = omega (arith, ap length whole, length-append part (byte ∷ rest));
      faulty = ap (document_of mode) whole ∙ document_trails mode p byte rest stop.0 stop.1;
      ends = ap (λ (b : ℕ). ends_before b (close ∷ closers)) there ∙ ends_there byte close closers ends;
    }

left_out : (s : Strictness) (closers bytes rest : List ℕ) (byte : ℕ) → s ≡ Strictness.lenient → bytes ≡ byte ∷ rest → ends_before byte (93 ∷ closers) ≡ true → leaves_out s (93 ∷ closers) bytes ≡ true
left_out s closers bytes rest byte is whole ends = ap (λ (u : Strictness). leaves_out u (93 ∷ closers) bytes) is ∙ ap (leaves_out Strictness.lenient (93 ∷ closers)) whole ∙ ends

part_passes : (mode : Mode) (close : ℕ) (closers bytes part rest : List ℕ) (byte : ℕ) (p : IsPart mode close part) → BeginsNoPiece mode bytes → leaves_out (strictness mode) (close ∷ closers) bytes ≡ false → bytes ≡ part ++ byte ∷ rest
    → (byte ≡ 44) ⊎ (byte ≡ close) → IsBehindPart mode (close ∷ closers) bytes
part_passes mode close closers bytes part rest byte (element (whole_element p)) none left whole ends = value_passes mode 93 closers bytes part rest byte (refl, refl) p whole ends
part_passes mode close closers bytes part rest byte (element (empty_element is w)) none left whole ends =
    absurd (true≢false (sym (left_out (strictness mode) closers bytes rest byte is (without_whitespace w bytes (byte ∷ rest) none whole) (ends_there byte 93 closers ends)) ∙ left))
part_passes mode close closers bytes part rest byte (member_value p) none left whole ends = value_passes mode 125 closers bytes part rest byte (refl, refl) p whole ends

-- Where parsing gives no such fault, no part passes.
pub none_if : (mode : Mode) (closers bytes : List ℕ) → piece_length mode bytes ≡ 0 → leaves_out (strictness mode) closers bytes ≡ false → (IsBehindPart mode closers bytes → ⊥) → NonePasses mode closers bytes
none_if mode [] bytes none left not = tt
none_if mode (close ∷ closers) bytes none left not = λ b. not (part_passes mode close closers bytes b.part b.rest b.byte b.is_part (no_piece mode bytes none) left b.whole b.ends)
