-- What the fault of a whole text says of it.
use Rattle.std.proofs.Common.{◌≡◌, ℕ, zero, suc, ◌+◌, ◌-◌, ◌<◌, ◌≤◌, false, true≢false, ◌⊎◌, inl, inr, List, [], ◌∷◌, ◌++◌, length, Result, Ok, Err, refl, sym, ap, subst, ◌∙◌, append_assoc, length-append, arith}
use Rattle.std.proofs.lemmas.Bool.{cond-true}
use Rattle.jsonb_spec.specs.Grammar.Whitespace.{IsLastWhitespace, IsWhitespacePiece, IsWhitespace}
use Rattle.jsonb_spec.specs.Grammar.Whitespace.IsLastWhitespace.{whitespace_to_end, line_to_end}
use Rattle.jsonb_spec.specs.Grammar.Whitespace.IsWhitespace.{more_whitespace, no_whitespace}
use Rattle.jsonb_spec.specs.Code.{Code}
use Rattle.jsonb_spec.specs.Code.Code.{depth_limit_exceeded, expected_some_value, invalid_eof, number_not_carried, object_duplicate_key, unexpected_trailing_characters}
use Rattle.jsonb_spec.specs.Grammar.{Derives, IsDocument, IsValue, max_depth}
use Rattle.jsonb_spec.specs.Grammar.IsDocument.{whitespace_alone, value_alone}
use Rattle.jsonb_spec.specs.Grammar.IsValue.{empty_array, empty_object, full_array, full_object, scalar}
use Rattle.jsonb_spec.specs.Mode.{Mode, Strictness, strict, lenient, strictness}
use Rattle.jsonb_spec.specs.Grammar.Scalar.{IsScalar}
use Rattle.jsonb_spec.specs.Tree.{Tree}
use Rattle.jsonb_spec.specs.Source.{Source, null_source, source_alone, tree_of_source}
use Rattle.jsonb_spec.specs.Parsing.{Fault, Parse, begins, fault, on_byte, ◌>>=◌}
use Rattle.jsonb_spec.specs.Parsing.Whitespace.{opens_comment, skip_closed_whitespace, skip_whitespace}
use Rattle.jsonb_spec.specs.Parsing.Container.{array_at, object_at}
use Rattle.jsonb_spec.specs.Parsing.Document.{alone_at, at_end, comment_at, document_of, nothing_at, source_from, source_of, too_deep, value_at, value_to_end, value_with}
use Rattle.jsonb_spec.specs.Parsing.Scalar.{scalar_at}
use Rattle.jsonb_spec.specs.Errors.{IsFront, Applies, Trails}
use Rattle.text_scan.proofs.Steps.Tests.{bind_ok, chosen, same_read}
use Rattle.jsonb.proofs.Errors.Codes.{IsReported, bind_err, same_err, silent_fault}
use Rattle.text_scan.proofs.Containers.JoinedParts.{Ends, Starts, ends-piece, ends_at, on_byte-other, skip-starts, starts-append}
use Rattle.jsonb.proofs.Errors.Explained.{Wrong, stops_after_whitespace, value_explains}
use Rattle.jsonb.proofs.Errors.OfScalars.{scalar_longest}
use Rattle.text_parse.proofs.Scalars.Encodings.{Follows, IsNumberTree, scalar_starts}
use Rattle.text_parse.proofs.Scalars.Encodings.Follows.{before}
use Rattle.text_scan.proofs.Text.Whitespace.{last_within, length-pass, length-past, length-skip, pass-pass, passes, skip-piece, skip-whitespace, skip-nil, skip-passed, skip-skip, skips}
use Rattle.text_parse.proofs.Containers.Values.{value_is_complete, value_sound}

-- ---- where a value is due

-- where no whitespace is passed none begins
no_piece_at : {mode : Mode} (bytes : List ℕ) → skip_whitespace mode bytes ≡ bytes → (piece rest : List ℕ) → IsWhitespacePiece mode piece → bytes ≡ piece ++ rest → ⊥
no_piece_at {mode} bytes none piece rest b whole =
    let one = ends-piece b [] in
    let skipped : bytes ≡ skip_whitespace mode rest = sym none ∙ ap (λ (w : List ℕ). skip_whitespace mode w) whole ∙ skip-piece b rest in
    omega (arith, ap length skipped, length-skip mode rest, ap length whole, length-append piece rest, ap length one.whole, length-append piece [])

-- what is wrong where a parser stops, in the whole text
holds_at : (mode : Mode) (input front rest : List ℕ) (count left : ℕ) (code : Code) (offset : ℕ) → input ≡ front ++ rest → count + left ≡ max_depth → IsFront mode front count
    → Wrong mode left (length input) rest code offset → Applies mode input code offset
holds_at mode input front rest count left number_not_carried offset whole sum h w =
    let after_text : offset ≡ length front + length w.text = omega (arith, w.after_text, ap length whole, length-append front rest, ap length w.whole, length-append w.text w.others) in
    let within : count ≤ max_depth = omega (arith, sum) in
    record {
      front = front;
      text = w.text;
      others = w.others;
      whole = whole ∙ ap (λ (u : List ℕ). front ++ u) w.whole;
      count = count;
      within = within;
      is_front = h;
      is_unrepresentable = w.is_unrepresentable;
      longest = w.longest;
      after_text = after_text;
    }
holds_at mode input front rest count left (object_duplicate_key k) offset whole sum h w =
    let after_key : offset ≡ length front + 1 + w.length_upto = omega (arith, w.after_key, ap length whole, length-append front rest) in
    let within : count < max_depth = omega (arith, sum, w.some_left) in
    record {
      front = front;
      body = w.body;
      others = w.others;
      whole = whole ∙ ap (λ (u : List ℕ). front ++ u) w.whole;
      count = count;
      within = within;
      is_front = h;
      length_upto = w.length_upto;
      repeats = w.repeats;
      after_key = after_key;
    }
holds_at mode input front rest count left expected_some_value offset whole sum h w =
    let at_byte : offset ≡ length front + 1 = omega (arith, w.at_byte, ap length whole, length-append front rest, ap length w.whole) in
    let within : count ≤ max_depth = omega (arith, sum) in
    record {
      front = front;
      byte = w.byte;
      others = w.others;
      whole = whole ∙ ap (λ (u : List ℕ). front ++ u) w.whole;
      at_byte = at_byte;
      count = count;
      within = within;
      is_front = h;
      begins_none = w.begins_none;
      no_piece = no_piece_at (w.byte ∷ w.others) (ap (λ (u : List ℕ). skip_whitespace mode u) (sym w.whole) ∙ w.none_skipped ∙ w.whole);
    }
holds_at mode input front rest count left depth_limit_exceeded offset whole sum h w =
    let at_byte : offset ≡ length front + 1 = omega (arith, w.at_byte, ap length whole, length-append front rest, ap length w.whole) in
    let all : count ≡ max_depth = omega (arith, sum, w.none_left) in
    record {
      front = front;
      byte = w.byte;
      others = w.others;
      whole = whole ∙ ap (λ (u : List ℕ). front ++ u) w.whole;
      at_byte = at_byte;
      is_front = subst (λ (n : ℕ). IsFront mode front n) all h;
      opens = w.opens;
    }
holds_at mode input front rest count left other offset whole sum h w = absurd w

-- ---- after the value

scalar_route : (size : ℕ) (mode : Mode) (arrays objects : List ℕ → Parse Source) (core rest : List ℕ) (t : Tree) → IsScalar mode core t → value_with size mode arrays objects (core ++ rest) ≡ alone_at (scalar_at size mode (core ++ rest))
scalar_route size mode arrays objects core rest t s =
    let st = scalar_starts mode core t s in
    let opened : core ++ rest ≡ st.first ∷ (st.others ++ rest) = ap (λ (u : List ℕ). u ++ rest) st.whole in
    ap (λ (u : List ℕ). on_byte 91 u arrays (on_byte 123 u objects (alone_at (scalar_at size mode (core ++ rest))))) opened
    ∙ on_byte-other 91 st.first (st.others ++ rest) arrays (on_byte 123 (st.first ∷ (st.others ++ rest)) objects (alone_at (scalar_at size mode (core ++ rest)))) st.bracket
    ∙ on_byte-other 123 st.first (st.others ++ rest) objects (alone_at (scalar_at size mode (core ++ rest))) st.brace

scalar_within : (size : ℕ) (mode : Mode) (arrays objects : List ℕ → Parse Source) (core : List ℕ) (u : Tree) (rest : List ℕ) (t : Source) (after : List ℕ) → IsScalar mode core u → value_with size mode arrays objects (core ++ rest) ≡ Ok (t, after) → length after ≤ length rest
scalar_within size mode arrays objects core u rest t after s e =
    let b = bind_ok (scalar_at size mode (core ++ rest)) (λ (x : Tree × List ℕ). Ok (source_alone x.0, x.1)) (t, after) (sym (scalar_route size mode arrays objects core rest u s) ∙ e) in
    let same = same_read (source_alone b.0.0) t b.0.1 after b.2 in
    omega (arith, scalar_longest size mode core u rest b.0.0 b.0.1 s b.1, ap length same.rest)

-- No encoding of a value goes past what is parsed.
value_longest : (size : ℕ) (mode : Mode) (depth : ℕ) (core : List ℕ) (u : Tree) (rest : List ℕ) (t : Source) (after : List ℕ) → Derives mode depth core u
    → value_at size mode depth (core ++ rest) ≡ Ok (t, after) → length after ≤ length rest
unfolding value_at
value_longest size mode zero core u rest t after d e = scalar_within size mode (too_deep size) (too_deep size) core u rest t after d e
value_longest size mode (suc depth) core u rest t after d e = by_kind core u d e (value_is_complete size mode (suc depth)).parses
  where
    by_kind : (core : List ℕ) (u : Tree) → IsValue mode (Derives mode depth) core u → value_with size mode (array_at size mode (value_at size mode depth)) (object_at size mode (value_at size mode depth)) (core ++ rest) ≡ Ok (t, after)
        → ((bytes : List ℕ) (v : Tree) (others : List ℕ) → IsValue mode (Derives mode depth) bytes v → (IsNumberTree v → Follows others) → (s : Source) × (tree_of_source s ≡ v) × (value_at size mode (suc depth) (bytes ++ others) ≡ Ok (s, others))) → length after ≤ length rest
    by_kind core u (scalar s) e complete = scalar_within size mode (array_at size mode (value_at size mode depth)) (object_at size mode (value_at size mode depth)) core u rest t after s e
    by_kind core u (empty_array b) e complete = let c = complete core u rest (empty_array b) (λ n. absurd n) in let same = same_read c.0 t rest after (sym c.2 ∙ e) in omega (arith, ap length same.rest)
    by_kind core u (full_array j n) e complete = let c = complete core u rest (full_array j n) (λ n. absurd n) in let same = same_read c.0 t rest after (sym c.2 ∙ e) in omega (arith, ap length same.rest)
    by_kind core u (empty_object b) e complete = let c = complete core u rest (empty_object b) (λ n. absurd n) in let same = same_read c.0 t rest after (sym c.2 ∙ e) in omega (arith, ap length same.rest)
    by_kind core u (full_object j k) e complete = let c = complete core u rest (full_object j k) (λ n. absurd n) in let same = same_read c.0 t rest after (sym c.2 ∙ e) in omega (arith, ap length same.rest)

-- a document's value, or what follows it
follows_last : {mode : Mode} {last : List ℕ} (b : IsLastWhitespace mode last) (rest : List ℕ) → (last ≡ []) ⊎ Ends (last ++ rest)
follows_last (whitespace_to_end no_whitespace) rest = inl refl
follows_last (whitespace_to_end (more_whitespace {piece = piece} {rest = others} b bs)) rest = inr (subst Ends (sym (append_assoc piece others rest)) (ends-piece b (others ++ rest)))
follows_last (line_to_end inside is no_whitespace one) rest = inr (ends_at 47 (47 ∷ (inside ++ rest)) refl)
follows_last (line_to_end inside is (more_whitespace {piece = piece} {rest = others} b bs) one) rest =
    inr (subst Ends (sym (ap (λ (w : List ℕ). w ++ rest) (append_assoc piece others (47 ∷ 47 ∷ inside)) ∙ append_assoc piece (others ++ 47 ∷ 47 ∷ inside) rest)) (ends-piece b ((others ++ 47 ∷ 47 ∷ inside) ++ rest)))

-- Nor does one with whitespace after it go past the whitespace after what is parsed.
whitespace_within : (size : ℕ) (mode : Mode) (depth : ℕ) (core : List ℕ) (u : Tree) (rest : List ℕ) (t : Source) (after : List ℕ) {last : List ℕ} → IsLastWhitespace mode last → Derives mode depth core u
    → value_at size mode depth (core ++ (last ++ rest)) ≡ Ok (t, after) → opens_comment (strictness mode) (skip_closed_whitespace mode after) ≡ false → length (skip_closed_whitespace mode after) ≤ length rest
whitespace_within size mode depth core u rest t after {last} b d e closed =
    elim (follows_last b rest) [
      | inl none ↦
          let longest : length after ≤ length (last ++ rest) = value_longest size mode depth core u (last ++ rest) t after d e in
          omega (arith, length-pass mode after, longest, length-append last rest, ap length none)
      | inr ends ↦
          let c = (value_is_complete size mode depth).parses core u (last ++ rest) d (λ n. before ends) in
          let same = same_read c.0 t (last ++ rest) after (sym c.2 ∙ e) in
          elim (last_within b rest) [
            | inl within ↦ omega (arith, within, ap length (ap (λ (w : List ℕ). skip_closed_whitespace mode w) same.rest))
            | inr opens ↦ absurd (true≢false (sym opens ∙ ap (λ (w : List ℕ). opens_comment (strictness mode) (skip_closed_whitespace mode w)) same.rest ∙ closed))
          ]
    ]

-- a document's value without the whitespace before it
skip-front : (mode : Mode) {front : List ℕ} (core last rest : List ℕ) → IsWhitespace mode front → Starts core → skip_whitespace mode ((front ++ (core ++ last)) ++ rest) ≡ core ++ (last ++ rest)
skip-front mode {front} core last rest b s =
    ap (λ (w : List ℕ). skip_whitespace mode w) (append_assoc front (core ++ last) rest) ∙ skip-whitespace b ((core ++ last) ++ rest)
    ∙ ap (λ (w : List ℕ). skip_whitespace mode w) (append_assoc core last rest) ∙ skip-starts mode (core ++ (last ++ rest)) (starts-append core (last ++ rest) s)

value_within : (size : ℕ) (mode : Mode) (depth : ℕ) {front last : List ℕ} (core : List ℕ) (u : Tree) (rest : List ℕ) (t : Source) (after : List ℕ) → IsWhitespace mode front → Derives mode depth core u → IsLastWhitespace mode last
    → value_at size mode depth (skip_whitespace mode ((front ++ (core ++ last)) ++ rest)) ≡ Ok (t, after) → opens_comment (strictness mode) (skip_closed_whitespace mode after) ≡ false → length (skip_closed_whitespace mode after) ≤ length rest
value_within size mode depth {front} {last} core u rest t after b d c e closed =
    let skipped = skip-front mode core last rest b ((value_is_complete size mode depth).starts core u d) in
    whitespace_within size mode depth core u rest t after c d (subst (λ (w : List ℕ). value_at size mode depth w ≡ Ok (t, after)) skipped e) closed

-- a document with a value is more than whitespace
value_some : (mode : Mode) (depth : ℕ) {front : List ℕ} (core last : List ℕ) (u : Tree) (rest : List ℕ) → IsWhitespace mode front → Derives mode depth core u → length rest < length (skip_whitespace mode ((front ++ (core ++ last)) ++ rest))
value_some mode depth core last u rest b d =
    let st = (value_is_complete 0 mode depth).starts core u d in
    omega (arith, ap length (skip-front mode core last rest b st), length-append core (last ++ rest), length-append last rest, ap length st.whole)

-- whitespace at the end of a text, and more bytes, skip to no more than these
last_skipped : (mode : Mode) {last : List ℕ} (b : IsLastWhitespace mode last) (more : List ℕ) → length (skip_whitespace mode (last ++ more)) ≤ length more
last_skipped mode {last} b more =
    elim (last_within b more) [
      | inl within ↦ omega (arith, within, length-past (strictness mode) (skip_closed_whitespace mode (last ++ more)))
      | inr opens ↦ omega (arith, ap length (cond-true (opens_comment (strictness mode) (skip_closed_whitespace mode (last ++ more))) [] (skip_closed_whitespace mode (last ++ more)) opens))
    ]

document_within : (mode : Mode) (input first rest longer more : List ℕ) (t : Source) (u : Tree) (after : List ℕ) → input ≡ first ++ rest → length rest < length (skip_whitespace mode input) → skip_closed_whitespace mode after ≡ rest → opens_comment (strictness mode) rest ≡ false
    → value_at (length input) mode max_depth (skip_whitespace mode input) ≡ Ok (t, after) → input ≡ longer ++ more → length first < length longer → IsDocument mode longer u → ⊥
document_within mode input first rest longer more t u after whole some end closed e split long (value_alone {core = core} b d c) =
    let least : length (skip_closed_whitespace mode after) ≤ length more =
    value_within (length input) mode max_depth core u more t after b d c (subst (λ (w : List ℕ). value_at (length input) mode max_depth (skip_whitespace mode w) ≡ Ok (t, after)) split e) (ap (opens_comment (strictness mode)) end ∙ closed) in
    omega (arith, least, long, ap length end, ap length whole, ap length split, length-append first rest, length-append longer more)
document_within mode input first rest longer more t u after whole some end closed e split long (whitespace_alone is b) =
    omega (arith, some, long, ap length (ap (λ (w : List ℕ). skip_whitespace mode w) split), last_skipped mode b more, ap length whole, ap length split, length-append first rest, length-append longer more)

trails : (mode : Mode) (input : List ℕ) (t : Source) (after : List ℕ) (c : ℕ) (others : List ℕ) → value_at (length input) mode max_depth (skip_whitespace mode input) ≡ Ok (t, after) → 0 < length (skip_whitespace mode input) → skip_closed_whitespace mode after ≡ c ∷ others → opens_comment (strictness mode) (c ∷ others) ≡ false
    → Trails mode input (length input - length (c ∷ others) + 1)
trails mode input t after c others e left end closed =
    let front = skips mode input left in
    let back = passes mode after in
    let s = value_sound (length input) mode max_depth (skip_whitespace mode input) t after e in
    let first : List ℕ = front.whitespace ++ (s.core ++ back.whitespace) in
    let whole : input ≡ first ++ c ∷ others =
    front.whole ∙ ap (λ (w : List ℕ). front.whitespace ++ w) (s.whole ∙ ap (λ (w : List ℕ). s.core ++ w) (back.whole ∙ ap (λ (w : List ℕ). back.whitespace ++ w) end) ∙ sym (append_assoc s.core back.whitespace (c ∷ others)))
    ∙ sym (append_assoc front.whitespace (s.core ++ back.whitespace) (c ∷ others)) in
    let at_byte : length input - length (c ∷ others) + 1 ≡ length first + 1 = omega (arith, ap length whole, length-append first (c ∷ others)) in
    let more : length (c ∷ others) < length (skip_whitespace mode input) =
    subst (λ (w : List ℕ). length (c ∷ others) < length (skip_whitespace mode w)) (sym whole) (value_some mode max_depth s.core back.whitespace (tree_of_source t) (c ∷ others) front.is_whitespace s.encodes) in
    let stays : skip_whitespace mode (c ∷ others) ≡ c ∷ others = skip-passed mode (c ∷ others) c others (ap (skip_closed_whitespace mode) (sym end) ∙ pass-pass mode after ∙ end) closed in
    record {
      before = first;
      byte = c;
      others = others;
      whole = whole;
      at_byte = at_byte;
      tree = tree_of_source t;
      document = value_alone front.is_whitespace s.encodes (whitespace_to_end back.is_whitespace);
      not_piece = λ b. let some : 0 < length (skip_whitespace mode (first ++ [])) = value_some mode max_depth s.core back.whitespace (tree_of_source t) [] front.is_whitespace s.encodes in omega (arith, some, ap length (skip-whitespace b []), ap length (skip-nil mode));
      no_piece = no_piece_at (c ∷ others) stays;
      longest = λ longer rest u split long d. document_within mode input first (c ∷ others) longer rest t u after whole more end closed e split long d;
    }

-- ---- whole texts

-- a comment that never ends is not reported
comment_silent : (size : ℕ) (t : Source) (bytes : List ℕ) (f : Fault) → comment_at size t bytes ≡ Err f → IsReported f.code → ⊥
comment_silent size t bytes f e reported =
    elim (chosen (begins 47 bytes) (Ok t) (fault invalid_eof size) (Err f) e) [
      | inl h ↦ let never : ◌≡◌ {A = Result Source Fault} (Ok t) (Err f) = h.1 in cc
      | inr h ↦ silent_fault {B = Source} invalid_eof size f h.1 (λ n. n) reported
    ]

holds_after : (mode : Mode) (input : List ℕ) (t : Source) (after rest : List ℕ) (f : Fault) → value_at (length input) mode max_depth (skip_whitespace mode input) ≡ Ok (t, after) → 0 < length (skip_whitespace mode input) → skip_closed_whitespace mode after ≡ rest
    → at_end (length input) mode t rest ≡ Err f → IsReported f.code → Applies mode input f.code f.offset
holds_after mode input t after [] f e left end g reported = absurd cc
holds_after mode input t after (c ∷ others) f e left end g reported =
    elim (chosen (opens_comment (strictness mode) (c ∷ others)) (comment_at (length input) t others) (fault unexpected_trailing_characters (length input - length (c ∷ others) + 1)) (Err f) g) [
      | inl h ↦ absurd (comment_silent (length input) t others f h.1 reported)
      | inr h ↦
          let is : record { code = unexpected_trailing_characters; offset = length input - length (c ∷ others) + 1 } ≡ f = same_err {B = Source} (record { code = unexpected_trailing_characters; offset = length input - length (c ∷ others) + 1 }) f h.1 in
          subst (λ (d : Fault). Applies mode input d.code d.offset) is (trails mode input t after c others e left end h.0)
    ]

nothing_silent : (strictness : Strictness) (size : ℕ) (f : Fault) → nothing_at size strictness ≡ Err f → IsReported f.code → ⊥
nothing_silent strict size f e reported = silent_fault {B = Source} invalid_eof size f e (λ n. n) reported
nothing_silent lenient size f e reported = absurd (let never : ◌≡◌ {A = Result Source Fault} (Ok null_source) (Err f) = e in cc)

value_reported : (mode : Mode) (input : List ℕ) (b : ℕ) (rest : List ℕ) (f : Fault) → skip_whitespace mode input ≡ b ∷ rest → value_to_end (length input) mode (b ∷ rest) ≡ Err f → IsReported f.code → Applies mode input f.code f.offset
value_reported mode input b rest f skipped e reported =
    elim (bind_err (value_at (length input) mode max_depth (b ∷ rest)) (λ (x : Source × List ℕ). at_end (length input) mode x.0 (skip_closed_whitespace mode x.1)) f e) [
      | inl h ↦
          let within : length (skip_whitespace mode input) ≤ length input = length-skip mode input in
          let s = stops_after_whitespace mode max_depth (length input) input f
          (value_explains (length input) mode max_depth (skip_whitespace mode input) f within (skip-skip mode input) (ap (λ (w : List ℕ). value_at (length input) mode max_depth w) skipped ∙ h) reported) in
          holds_at mode input s.front s.rest s.count s.left f.code f.offset s.whole s.sum s.is_front s.wrong
      | inr h ↦
          let left : 0 < length (skip_whitespace mode input) = omega (arith, ap length skipped) in
          holds_after mode input h.0.0 h.0.1 (skip_closed_whitespace mode h.0.1) f (ap (λ (w : List ℕ). value_at (length input) mode max_depth w) skipped ∙ h.1) left refl h.2 reported
    ]

document_reported : (mode : Mode) (input rest : List ℕ) (f : Fault) → skip_closed_whitespace mode input ≡ rest → source_from (length input) mode rest ≡ Err f → IsReported f.code → Applies mode input f.code f.offset
document_reported mode input [] f passed e reported = absurd (nothing_silent (strictness mode) (length input) f e reported)
document_reported mode input (b ∷ rest) f passed e reported =
    elim (chosen (opens_comment (strictness mode) (b ∷ rest)) (comment_at (length input) null_source rest) (value_to_end (length input) mode (b ∷ rest)) (Err f) e) [
      | inl h ↦ absurd (comment_silent (length input) null_source rest f h.1 reported)
      | inr h ↦ value_reported mode input b rest f (skip-passed mode input b rest passed h.0) h.1 reported
    ]

-- of other codes nothing is said
silent_error : (mode : Mode) (input : List ℕ) (code : Code) (offset : ℕ) → (IsReported code → Applies mode input code offset) → Applies mode input code offset
silent_error mode input unexpected_trailing_characters offset h = h tt
silent_error mode input number_not_carried offset h = h tt
silent_error mode input (object_duplicate_key k) offset h = h tt
silent_error mode input expected_some_value offset h = h tt
silent_error mode input depth_limit_exceeded offset h = h tt
silent_error mode input other offset h = tt

-- the tree of the source has its fault
tree_fault : (r : Result Source Fault) (f : Fault) → (r >>= λ s. Ok (tree_of_source s)) ≡ Err f → r ≡ Err f
tree_fault (Ok s) f e = absurd (let never : ◌≡◌ {A = Result Tree Fault} (Ok (tree_of_source s)) (Err f) = e in cc)
tree_fault (Err d) f e = ap (λ (g : Fault). Err g) (same_err {B = Tree} d f e)

source_holds : (mode : Mode) (input : List ℕ) (f : Fault) → source_of mode input ≡ Err f → Applies mode input f.code f.offset
unfolding source_of
source_holds mode input f e = silent_error mode input f.code f.offset (λ reported. document_reported mode input (skip_closed_whitespace mode input) f refl e reported)

-- What the fault of a text says of it.
pub document_holds : (mode : Mode) (input : List ℕ) (f : Fault) → document_of mode input ≡ Err f → Applies mode input f.code f.offset
unfolding document_of
document_holds mode input f e = source_holds mode input f (tree_fault (source_of mode input) f e)
