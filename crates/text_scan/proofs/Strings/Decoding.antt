-- The decoder, step by step, decodes the contents.
use Rattle.std.proofs.Common.{map, suc, get_or, List, [], ◌∷◌, ◌≡◌, ◌≢◌, ℕ, ◌+◌, ◌≤◌, ◌++◌, length, Bool, true, false, Some, None, ◌⊎◌, ⊎_elim, inr, sym, ap, ◌∙◌, subst, arith, refl, length-append}
use Rattle.std.proofs.lemmas.List.{append_assoc, append-nil}
use Rattle.std.proofs.lemmas.Grind.{flat_map-append}
use Rattle.std.specs.Str.{IsUtf8}
use Rattle.std.specs.List.{flat_map, AllByRecursion}
use Rattle.jsonb_spec.specs.Mode.{Mode, strictness, GoesBeyondJson}
use Rattle.jsonb_spec.specs.Code.{Code}
use Rattle.jsonb_spec.specs.Code.{invalid_hex, invalid_escaped, invalid_string_value, unexpected_end_of_hex_escape}
use Rattle.jsonb_spec.specs.Grammar.StringBody.{Item, raw, escape, unit, after_u, encoding, IsItem, IsBody, Decodes, escaped_byte, alone, together, meaning}
use Rattle.jsonb_spec.specs.Grammar.StringFault.{IsFirstNonDigit, bad_digit, cut_escape, unknown_escape, bad_unit, IsFaultyBody}
use Rattle.jsonb_spec.specs.Parsing.Decoding.{SeesNoBackslash, SplitsUnit, ParsesUnit, DecodesUpTo, Adds, StopsInUnit, StopsAtEscape}
use Rattle.jsonb_core.proofs.Strings.Units.{length-alone, length-together, length-after_u}
use Rattle.jsonb_core.proofs.Strings.Meaning.{each-append, meaning-raw, meaning-escape, meaning-together, meaning-alone, meaning-last}
use Rattle.std.specs.Char.Utf16.{is_high_surrogate}
use Rattle.text_scan.proofs.Steps.Modes.{beyond-raw}

-- ---- steps

pub decoded_then : (mode : Mode) (a b c t u : List ℕ) → DecodesUpTo mode a b t → DecodesUpTo mode b c u → DecodesUpTo mode a c (t ++ u)
decoded_then mode a b c t u p q = record {
  items = p.items ++ q.items;
  each = each-append mode p.items q.items p.each q.each;
  encoded = p.encoded ∙ ap (λ rest. flat_map encoding p.items ++ rest) q.encoded ∙ sym (append_assoc (flat_map encoding p.items) (flat_map encoding q.items) c)
      ∙ ap (λ front. front ++ c) (sym (flat_map-append encoding p.items q.items));
  meant = λ tail h.
      ap meaning (append_assoc p.items q.items tail)
      ∙ p.meant (q.items ++ tail) (q.encoded ∙ ap (λ rest. flat_map encoding q.items ++ rest) h ∙ sym (flat_map-append encoding q.items tail))
      ∙ ap (λ rest. t ++ rest) (q.meant tail h) ∙ sym (append_assoc t u (meaning tail));
  short = omega (arith, p.short, q.short, length-append t u);
}

pub decoded_escape : (mode : Mode) (letter byte : ℕ) (rest : List ℕ) → escaped_byte (strictness mode) letter ≡ Some byte → DecodesUpTo mode (92 ∷ letter ∷ rest) rest (byte ∷ [])
decoded_escape mode letter byte rest is = record { items = escape letter byte ∷ []; each = (is, tt); encoded = refl; meant = λ tail h. meaning-escape letter byte tail; short = omega arith }

pub sees_rest : (byte : ℕ) (bytes : List ℕ) → SeesNoBackslash (byte ∷ bytes) (length (byte ∷ bytes)) → SeesNoBackslash bytes (length bytes)
sees_rest byte bytes none k low = none (suc k) (omega arith)

pub encoding-raw : (bytes : List ℕ) → flat_map encoding (map raw bytes) ≡ bytes
encoding-raw [] = refl
encoding-raw (byte ∷ bytes) = ap (λ rest. byte ∷ rest) (encoding-raw bytes)

pub items-raw : (mode : Mode) (bytes : List ℕ) → GoesBeyondJson mode → SeesNoBackslash bytes (length bytes) → AllByRecursion (IsItem mode) (map raw bytes)
items-raw mode [] beyond none = tt
items-raw mode (byte ∷ bytes) beyond none = ((none 0 (omega arith), beyond-raw mode byte beyond), items-raw mode bytes beyond (sees_rest byte bytes none))

meaning-raws_then : (bytes : List ℕ) (tail : List Item) → meaning (map raw bytes ++ tail) ≡ bytes ++ meaning tail
meaning-raws_then [] tail = refl
meaning-raws_then (byte ∷ bytes) tail = meaning-raw byte (map raw bytes ++ tail) ∙ ap (λ rest. byte ∷ rest) (meaning-raws_then bytes tail)

pub decoded_run : (mode : Mode) (run rest : List ℕ) → GoesBeyondJson mode → SeesNoBackslash run (length run) → DecodesUpTo mode (run ++ rest) rest run
decoded_run mode run rest beyond none = record {
  items = map raw run;
  each = items-raw mode run beyond none;
  encoded = ap (λ front. front ++ rest) (sym (encoding-raw run));
  meant = λ tail h. meaning-raws_then run tail;
  short = omega (arith, length-append run rest);
}

-- a unit's bytes, as those of a list of one item
encoded_unit : (braces : Bool) (bytes digits rest : List ℕ) → bytes ≡ after_u braces digits ++ rest → 92 ∷ 117 ∷ bytes ≡ flat_map encoding (unit braces digits ∷ []) ++ rest
encoded_unit braces bytes digits rest split = ap (λ more. 92 ∷ 117 ∷ more) (split ∙ ap (λ front. front ++ rest) (sym (append-nil (after_u braces digits))))

longer_unit : (braces : Bool) (bytes digits rest : List ℕ) → bytes ≡ after_u braces digits ++ rest → length digits ≡ 4 → 4 + length rest ≤ length bytes
longer_unit braces bytes digits rest split four = omega (arith, ap length split, length-append (after_u braces digits) rest, length-after_u braces digits four)

pub decoded_alone : (mode : Mode) (bytes digits rest : List ℕ) (value : ℕ) → GoesBeyondJson mode → ParsesUnit bytes digits rest value → (is_high_surrogate value ≡ false) ⊎ ((more : List ℕ) → rest ≢ 92 ∷ 117 ∷ more) → DecodesUpTo mode (92 ∷ 117 ∷ bytes) rest (alone digits)
decoded_alone mode bytes digits rest value beyond r ends =
    let s = r.splits in record {
      items = unit s.braces digits ∷ [];
      each = ((s.four, r.each, λ braces. beyond), tt);
      encoded = encoded_unit s.braces bytes digits rest s.split;
      meant = λ tail h. ⊎_elim
          (λ low. meaning-alone s.braces digits tail (ap is_high_surrogate (sym r.is) ∙ low))
          (λ none. meaning-last s.braces digits tail (λ more e. none more (h ∙ e)))
          ends;
      short = omega (arith, longer_unit s.braces bytes digits rest s.split s.four, length-alone digits s.four);
    }

pub decoded_together : (mode : Mode) (bytes first between next rest : List ℕ) (value other : ℕ) → GoesBeyondJson mode → ParsesUnit bytes first (92 ∷ 117 ∷ between) value → is_high_surrogate value ≡ true → ParsesUnit between next rest other → DecodesUpTo mode (92 ∷ 117 ∷ bytes) rest (together first next)
decoded_together mode bytes first between next rest value other beyond r high q =
    let s = r.splits in
    let t = q.splits in record {
      items = unit s.braces first ∷ unit t.braces next ∷ [];
      each = ((s.four, r.each, λ braces. beyond), ((t.four, q.each, λ braces. beyond), tt));
      encoded = ap (λ more. 92 ∷ 117 ∷ more)
          (s.split ∙ ap (λ more. after_u s.braces first ++ 92 ∷ 117 ∷ more) (t.split ∙ ap (λ front. front ++ rest) (sym (append-nil (after_u t.braces next))))
          ∙ sym (append_assoc (after_u s.braces first) (92 ∷ 117 ∷ (after_u t.braces next ++ [])) rest));
      meant = λ tail h. meaning-together s.braces t.braces first next tail (ap is_high_surrogate (sym r.is) ∙ high);
      short = omega (arith, longer_unit s.braces bytes first _ s.split s.four, longer_unit t.braces between next rest t.split t.four, length-together first next s.four t.four);
    }

pub adds_then : (mode : Mode) (a b c old middle new : List ℕ) → Adds mode a b old middle → Adds mode b c middle new → Adds mode a c old new
adds_then mode a b c old middle new p q = record {
  text = p.text ++ q.text;
  appended = q.appended ∙ ap (λ front. front ++ q.text) p.appended ∙ append_assoc old p.text q.text;
  decodes = decoded_then mode a b c p.text q.text p.decodes q.decodes;
}

-- the same over a run of raw bytes
pub adds_run : (mode : Mode) (a b run rest old middle new : List ℕ) → GoesBeyondJson mode → Adds mode a b old middle → b ≡ run ++ rest → SeesNoBackslash run (length run) → new ≡ middle ++ run → Adds mode a rest old new
adds_run mode a b run rest old middle new beyond p split none appended =
    adds_then mode a b rest old middle new p
    (record { text = run; appended = appended; decodes = subst (λ bytes. DecodesUpTo mode bytes rest run) (sym split) (decoded_run mode run rest beyond none) })

-- what the first byte is
pub first_byte : (bytes rest : List ℕ) (byte first : ℕ) → bytes ≡ first ∷ rest → get_or bytes 0 0 ≡ byte → bytes ≡ byte ∷ rest
first_byte bytes rest byte first split is = split ∙ ap (λ b. b ∷ rest) (sym (ap (λ xs. get_or xs 0 0) split) ∙ is)

-- ---- faults

pub stops_cut : (mode : Mode) (bytes : List ℕ) → bytes ≡ [] → StopsAtEscape mode (92 ∷ bytes) unexpected_end_of_hex_escape 0
stops_cut mode bytes none = record {
  read = 1;
  cut = record { items = []; each = tt; rest = 92 ∷ bytes; encoded = refl; steps = 1; bad = cut_escape (ap (λ more. 92 ∷ more) none) refl refl; count = refl };
  count = omega (arith, ap length none);
}

pub stops_unknown : (mode : Mode) (letter : ℕ) (bytes rest : List ℕ) → bytes ≡ letter ∷ rest → letter ≢ 117 → escaped_byte (strictness mode) letter ≡ None → StopsAtEscape mode (92 ∷ bytes) (invalid_escaped letter) (length rest)
stops_unknown mode letter bytes rest is other none = record {
  read = 2;
  cut = record { items = []; each = tt; rest = 92 ∷ bytes; encoded = refl; steps = 2; bad = unknown_escape letter rest (ap (λ more. 92 ∷ more) is) other none refl refl; count = refl };
  count = omega (arith, ap length is);
}

pub stops_first : (mode : Mode) (bytes : List ℕ) (code : Code) (left : ℕ) → StopsInUnit mode bytes code left → StopsAtEscape mode (92 ∷ 117 ∷ bytes) code left
stops_first mode bytes code left stop = record {
  read = 2 + stop.steps;
  cut = record { items = []; each = tt; rest = 92 ∷ 117 ∷ bytes; encoded = refl; steps = 2 + stop.steps; bad = bad_unit bytes stop.steps refl stop.bad refl; count = omega arith };
  count = omega (arith, stop.count);
}

pub stops_next : (mode : Mode) (bytes first between : List ℕ) (value : ℕ) (code : Code) (left : ℕ) → GoesBeyondJson mode → ParsesUnit bytes first (92 ∷ 117 ∷ between) value → StopsInUnit mode between code left → StopsAtEscape mode (92 ∷ 117 ∷ bytes) code left
stops_next mode bytes first between value code left beyond r stop =
    let s = r.splits in
    let items = unit s.braces first ∷ [] in
    let encoded = encoded_unit s.braces bytes first (92 ∷ 117 ∷ between) s.split in record {
      read = length (flat_map encoding items) + (2 + stop.steps);
      cut = record { items = items; each = ((s.four, r.each, λ braces. beyond), tt); rest = 92 ∷ 117 ∷ between; encoded = encoded; steps = 2 + stop.steps; bad = bad_unit between stop.steps refl stop.bad refl; count = refl };
      count = omega (arith, stop.count, ap length encoded, length-append (flat_map encoding items) (92 ∷ 117 ∷ between));
    }

pub stops_after : (mode : Mode) (a b t : List ℕ) (code : Code) (left : ℕ) → DecodesUpTo mode a b t → StopsAtEscape mode b code left → StopsAtEscape mode a code left
stops_after mode a b t code left p stop =
    let q = stop.cut in
    let encoded : a ≡ flat_map encoding (p.items ++ q.items) ++ q.rest =
    p.encoded ∙ ap (λ rest. flat_map encoding p.items ++ rest) q.encoded ∙ sym (append_assoc (flat_map encoding p.items) (flat_map encoding q.items) q.rest)
    ∙ ap (λ front. front ++ q.rest) (sym (flat_map-append encoding p.items q.items)) in record {
      read = length (flat_map encoding (p.items ++ q.items)) + q.steps;
      cut = record { items = p.items ++ q.items; each = each-append mode p.items q.items p.each q.each; rest = q.rest; encoded = encoded; steps = q.steps; bad = q.bad; count = refl };
      count = omega (arith, stop.count, q.count, ap length q.encoded, length-append (flat_map encoding q.items) q.rest, ap length encoded, length-append (flat_map encoding (p.items ++ q.items)) q.rest, ap length p.encoded, length-append (flat_map encoding p.items) b);
    }

pub stops_at_digit : (mode : Mode) (bytes digits rest : List ℕ) (byte : ℕ) → GoesBeyondJson mode → SplitsUnit bytes digits rest → IsFirstNonDigit digits byte → StopsInUnit mode bytes (invalid_hex byte) (length rest)
stops_at_digit mode bytes digits rest byte beyond s first = record {
  steps = length (after_u s.braces digits);
  bad = bad_digit s.braces digits rest byte (λ braces. beyond) s.split s.four (λ beyond. s.bare) first refl refl;
  count = omega (arith, ap length s.split, length-append (after_u s.braces digits) rest);
}

-- ---- the whole

pub meaning-all : (mode : Mode) (bytes text : List ℕ) (p : DecodesUpTo mode bytes [] text) → text ≡ meaning p.items
unfolding meaning
meaning-all mode bytes text p = sym (append-nil text) ∙ sym (p.meant [] refl) ∙ ap meaning (append-nil p.items)

whole : (mode : Mode) (bytes text : List ℕ) (p : DecodesUpTo mode bytes [] text) → IsBody mode bytes p.items
whole mode bytes text p = record { encoded = p.encoded ∙ append-nil (flat_map encoding p.items); each = p.each }

pub decodes_all : (mode : Mode) (bytes text : List ℕ) → DecodesUpTo mode bytes [] text → IsUtf8 text → Decodes mode bytes text
decodes_all mode bytes text p utf8 = record { items = p.items; body = whole mode bytes text p; meant = meaning-all mode bytes text p; utf8 = utf8 }

pub fault_no_text : (mode : Mode) (bytes text : List ℕ) → DecodesUpTo mode bytes [] text → ¬ (IsUtf8 text) → IsFaultyBody mode bytes invalid_string_value (length bytes)
fault_no_text mode bytes text p none = inr (record {
  items = p.items;
  body = whole mode bytes text p;
  not_utf8 = λ utf8. none (subst IsUtf8 (sym (meaning-all mode bytes text p)) utf8);
  invalid = refl;
  count = refl;
})
