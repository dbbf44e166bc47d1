-- A text is accepted exactly where it is a document, and it is a document of one tree.
use Rattle.std.proofs.Common.{◌≡◌, ℕ, zero, suc, ◌+◌, ◌-◌, arith, false, true, List, [], ◌∷◌, ◌++◌, length, Ok, Err, refl, sym, ap, subst, ◌∙◌, append-nil, append_assoc}
use Rattle.std.proofs.lemmas.Bool.{cond-false, cond-true}
use Rattle.jsonb_spec.specs.Grammar.Whitespace.{IsLastWhitespace, IsWhitespace}
use Rattle.jsonb_spec.specs.Grammar.Whitespace.IsLastWhitespace.{whitespace_to_end, line_to_end}
use Rattle.jsonb_spec.specs.Grammar.Whitespace.IsWhitespace.{more_whitespace, no_whitespace}
use Rattle.jsonb_spec.specs.Grammar.{Derives, IsDocument, IsElement, IsJoined, IsMember, IsPadded, IsValue, max_depth, IsNoDocument}
use Rattle.jsonb_spec.specs.Grammar.IsDocument.{whitespace_alone, value_alone}
use Rattle.jsonb_spec.specs.Grammar.IsElement.{empty_element, whole_element}
use Rattle.jsonb_spec.specs.Grammar.IsJoined.{more_parts, one_part}
use Rattle.jsonb_spec.specs.Grammar.IsMember.{key_and_value}
use Rattle.jsonb_spec.specs.Grammar.IsPadded.{padded}
use Rattle.jsonb_spec.specs.Grammar.IsValue.{empty_array, empty_object, full_array, full_object, scalar}
use Rattle.jsonb_spec.specs.Code.Code.{unexpected_trailing_characters}
use Rattle.jsonb_spec.specs.Mode.{Mode, IsLenient, strictness}
use Rattle.jsonb_spec.specs.Tree.{Member, Tree}
use Rattle.jsonb_spec.specs.Source.{Source, null_source, tree_of_source}
use Rattle.jsonb_spec.specs.Parsing.{Fault, Parse, fault, ◌>>=◌}
use Rattle.jsonb_spec.specs.Parsing.Whitespace.{is_whitespace_start, opens_comment, skip_closed_whitespace}
use Rattle.jsonb_spec.specs.Parsing.Document.{at_end, comment_at, document_of, nothing_at, source_from, source_of, value_at, value_to_end}
use Rattle.text_scan.proofs.Steps.Tests.{same_ok, same_read}
use Rattle.text_scan.proofs.Containers.JoinedParts.{Ends, ends-piece, ends_at, other}
use Rattle.text_parse.proofs.Scalars.Encodings.{Follows, IsNumberTree}
use Rattle.text_parse.proofs.Scalars.Encodings.Follows.{before, no_more}
use Rattle.text_scan.proofs.Text.Whitespace.{EndsPassed, all_passed, line_left, ends_passed, opens-stop, pass-whitespace, pass-stop}
use Rattle.text_parse.proofs.Containers.Values.{value_is_complete}

follows-whitespace : {mode : Mode} {after : List ℕ} (b : IsLastWhitespace mode after) → Follows after
follows-whitespace (whitespace_to_end no_whitespace) = no_more
follows-whitespace (whitespace_to_end (more_whitespace {rest = others} b bs)) = before (ends-piece b others)
follows-whitespace (line_to_end inside is no_whitespace one) = before (ends_at 47 (47 ∷ inside) refl)
follows-whitespace (line_to_end inside is (more_whitespace {piece = piece} {rest = others} b bs) one) = before (subst Ends (sym (append_assoc piece others (47 ∷ 47 ∷ inside))) (ends-piece b (others ++ 47 ∷ 47 ∷ inside)))

-- a line comment that ends a text
comment_line : (size : ℕ) (mode : Mode) (t : Source) (line : List ℕ) → opens_comment (strictness mode) (47 ∷ 47 ∷ line) ≡ true → at_end size mode t (47 ∷ 47 ∷ line) ≡ Ok t
comment_line size mode t line opens = cond-true (opens_comment (strictness mode) (47 ∷ 47 ∷ line)) (comment_at size t (47 ∷ line)) (fault unexpected_trailing_characters (size - length (47 ∷ 47 ∷ line) + 1)) opens

end_read : (size : ℕ) (mode : Mode) (t : Source) {after : List ℕ} (b : IsLastWhitespace mode after) → at_end size mode t (skip_closed_whitespace mode after) ≡ Ok t
end_read size mode t {after} b = by_end (ends_passed b)
  where
    by_end : EndsPassed mode after → at_end size mode t (skip_closed_whitespace mode after) ≡ Ok t
    by_end (all_passed e) = ap (at_end size mode t) e
    by_end (line_left line opens e) = ap (at_end size mode t) e ∙ comment_line size mode t line opens

-- a text with a value
value_document : (mode : Mode) (size : ℕ) {front after : List ℕ} (core : List ℕ) (t : Tree) → IsWhitespace mode front → Derives mode max_depth core t → IsLastWhitespace mode after
    → (s : Source) × (tree_of_source s ≡ t) × (source_from size mode (skip_closed_whitespace mode (front ++ (core ++ after))) ≡ Ok s)
value_document mode size {front} {after} core t b d c =
    let complete = value_is_complete size mode max_depth in
    let st = complete.starts core t d in
    let r = complete.parses core t after d (λ n. follows-whitespace c) in
    let piece : is_whitespace_start st.first ≡ false = (other st.first st.is_start).piece in
    let opened : core ++ after ≡ st.first ∷ (st.others ++ after) = ap (λ (u : List ℕ). u ++ after) st.whole in
    let passed : skip_closed_whitespace mode (front ++ (core ++ after)) ≡ st.first ∷ (st.others ++ after) =
    pass-whitespace b (core ++ after) ∙ ap (skip_closed_whitespace mode) opened ∙ pass-stop mode st.first (st.others ++ after) piece in (
      r.0,
      r.1,
      ap (source_from size mode) passed
          ∙ cond-false (opens_comment (strictness mode) (st.first ∷ (st.others ++ after))) (comment_at size null_source (st.others ++ after)) (value_to_end size mode (st.first ∷ (st.others ++ after))) (opens-stop (strictness mode) st.first (st.others ++ after) piece)
          ∙ ap (value_to_end size mode) (sym opened)
          ∙ ap (λ (q : Parse Source). q >>= λ (x : Source × List ℕ). at_end size mode x.0 (skip_closed_whitespace mode x.1)) r.2
          ∙ end_read size mode r.0 c,
    )

whitespace_document : (mode : Mode) (size : ℕ) {bytes : List ℕ} → IsLenient mode → IsLastWhitespace mode bytes → source_from size mode (skip_closed_whitespace mode bytes) ≡ Ok null_source
whitespace_document mode size {bytes} is b = by_end (ends_passed b)
  where
    by_end : EndsPassed mode bytes → source_from size mode (skip_closed_whitespace mode bytes) ≡ Ok null_source
    by_end (all_passed e) = ap (source_from size mode) e ∙ ap (nothing_at size) is
    by_end (line_left line opens e) =
        ap (source_from size mode) e ∙ cond-true (opens_comment (strictness mode) (47 ∷ 47 ∷ line)) (comment_at size null_source (47 ∷ line)) (value_to_end size mode (47 ∷ 47 ∷ line)) opens

source_complete : (mode : Mode) (bytes : List ℕ) (t : Tree) → IsDocument mode bytes t → (s : Source) × (tree_of_source s ≡ t) × (source_of mode bytes ≡ Ok s)
unfolding source_of
source_complete mode bytes t (value_alone {core = core} b d c) = value_document mode (length bytes) core t b d c
source_complete mode bytes t (whitespace_alone is b) = (null_source, refl, whitespace_document mode (length bytes) is b)

-- each document is parsed, as its tree
pub document_complete : (mode : Mode) (bytes : List ℕ) (t : Tree) → IsDocument mode bytes t → document_of mode bytes ≡ Ok t
unfolding document_of
document_complete mode bytes t d =
    let c = source_complete mode bytes t d in
    ap (λ r. r >>= λ s. Ok (tree_of_source s)) c.2 ∙ ap (λ u. Ok u) c.1

-- what is rejected is no document
pub rejected_is_none : (mode : Mode) (bytes : List ℕ) (f : Fault) → document_of mode bytes ≡ Err f → IsNoDocument mode bytes
rejected_is_none mode bytes f e t d = let read : document_of mode bytes ≡ Ok t = document_complete mode bytes t d in cc

-- a text is a document of at most one tree
pub document_unique : (mode : Mode) (bytes : List ℕ) (t u : Tree) → IsDocument mode bytes t → IsDocument mode bytes u → t ≡ u
document_unique mode bytes t u d e = same_ok t u (sym (document_complete mode bytes t d) ∙ document_complete mode bytes u e)

-- ---- where one encoding begins another

lift : (mode : Mode) (V W : List ℕ → Tree → Type 0) → ((bytes : List ℕ) (t : Tree) → V bytes t → W bytes t) → (bytes : List ℕ) (t : Tree) → IsValue mode V bytes t → IsValue mode W bytes t
lift mode V W more = wider
  where
    wider_padded : {bytes : List ℕ} {t : Tree} (p : IsPadded mode V bytes t) → IsPadded mode W bytes t
    wider_padded (padded {core = core} {a = a} b s c) = padded b (more core a s) c

    wider_element : {bytes : List ℕ} {t : Tree} (e : IsElement mode V bytes t) → IsElement mode W bytes t
    wider_element (whole_element p) = whole_element (wider_padded p)
    wider_element (empty_element is_lenient b) = empty_element is_lenient b

    wider_member : {bytes : List ℕ} {m : Member} (e : IsMember mode V bytes m) → IsMember mode W bytes m
    wider_member (key_and_value k p) = key_and_value k (wider_padded p)

    wider_elements : {bytes : List ℕ} {ts : List Tree} (j : IsJoined (IsElement mode V) bytes ts) → IsJoined (IsElement mode W) bytes ts
    wider_elements (one_part s) = one_part (wider_element s)
    wider_elements (more_parts s j) = more_parts (wider_element s) (wider_elements j)

    wider_members : {bytes : List ℕ} {ms : List Member} (j : IsJoined (IsMember mode V) bytes ms) → IsJoined (IsMember mode W) bytes ms
    wider_members (one_part s) = one_part (wider_member s)
    wider_members (more_parts s j) = more_parts (wider_member s) (wider_members j)

    wider : (bytes : List ℕ) (t : Tree) → IsValue mode V bytes t → IsValue mode W bytes t
    wider bytes t (scalar s) = scalar s
    wider bytes t (empty_array b) = empty_array b
    wider bytes t (full_array j n) = full_array (wider_elements j) n
    wider bytes t (empty_object b) = empty_object b
    wider bytes t (full_object j d) = full_object (wider_members j) d

-- what is encoded at one depth is encoded at a greater one
deeper : (mode : Mode) (depth : ℕ) (bytes : List ℕ) (t : Tree) → Derives mode depth bytes t → Derives mode (suc depth) bytes t
deeper mode zero bytes t d = scalar d
deeper mode (suc depth) bytes t d = lift mode (Derives mode depth) (Derives mode (suc depth)) (deeper mode depth) bytes t d

deeper_by : (mode : Mode) (more depth : ℕ) (bytes : List ℕ) (t : Tree) → Derives mode depth bytes t → Derives mode (more + depth) bytes t
deeper_by mode zero depth bytes t d = let same : depth ≡ zero + depth = omega arith in subst (λ (n : ℕ). Derives mode n bytes t) same d
deeper_by mode (suc more) depth bytes t d = let same : suc (more + depth) ≡ suc more + depth = omega arith in subst (λ (n : ℕ). Derives mode n bytes t) same (deeper mode (more + depth) bytes t (deeper_by mode more depth bytes t d))

-- No encoding of a value that is no number begins another, longer one, whatever the depths.
pub whole_if_no_number : (mode : Mode) (m n : ℕ) (bytes rest : List ℕ) (t u : Tree) → Derives mode m bytes t → Derives mode n (bytes ++ rest) u → (IsNumberTree t → ⊥) → (rest ≡ []) × (t ≡ u)
whole_if_no_number mode m n bytes rest t u d e no_number =
    let first = (value_is_complete 0 mode (n + m)).parses bytes t rest (deeper_by mode n m bytes t d) (λ k. absurd (no_number k)) in
    let swap : m + n ≡ n + m = omega arith in
    let lifted : Derives mode (n + m) (bytes ++ rest) u = subst (λ (k : ℕ). Derives mode k (bytes ++ rest) u) swap (deeper_by mode m n (bytes ++ rest) u e) in
    let second = (value_is_complete 0 mode (n + m)).parses (bytes ++ rest) u [] lifted (λ k. no_more) in
    let whole : value_at 0 mode (n + m) (bytes ++ rest) ≡ Ok (second.0, []) = ap (λ (s : List ℕ). value_at 0 mode (n + m) s) (sym (append-nil (bytes ++ rest))) ∙ second.2 in
    let same = same_read first.0 second.0 rest [] (sym first.2 ∙ whole) in
    (same.rest, sym first.1 ∙ ap tree_of_source same.value ∙ second.1)

-- Bytes are encoded by one tree at most, whatever the depths.
pub derived_unique : (mode : Mode) (m n : ℕ) (bytes : List ℕ) (t u : Tree) → Derives mode m bytes t → Derives mode n bytes u → t ≡ u
derived_unique mode m n bytes t u d e =
    let swap : m + n ≡ n + m = omega arith in
    let lifted : Derives mode (n + m) bytes u = subst (λ (k : ℕ). Derives mode k bytes u) swap (deeper_by mode m n bytes u e) in
    let first = (value_is_complete 0 mode (n + m)).parses bytes t [] (deeper_by mode n m bytes t d) (λ k. no_more) in
    let second = (value_is_complete 0 mode (n + m)).parses bytes u [] lifted (λ k. no_more) in
    sym first.1 ∙ ap tree_of_source (same_read first.0 second.0 [] [] (sym first.2 ∙ second.2)).value ∙ second.1
