-- A document of JSON is one of standard mode with the same value, or standard mode stops at a number that it doesn't
-- carry.
use Rattle.std.proofs.Common.{◌≡◌, ◌⊎◌, inl, inr, ⊎_elim, ℕ, zero, suc, ◌-◌, ◌≤◌, arith, true, false, List, [], ◌∷◌, ◌++◌, length, length-append, take, map, Ok, Err, Result, refl, sym, ap, ap₂, subst, ◌∙◌, append_assoc, eqb}
use Rattle.std.proofs.lemmas.Bool.{cases_lt, cond-false}
use Rattle.std.proofs.Math.Seq.{take-append_seam}
use Rattle.jsonb_spec.specs.Code.{number_not_carried, expected_array_comma_or_end, expected_object_comma_or_end, Code}
use Rattle.jsonb_spec.specs.Grammar.Whitespace.{IsWhitespace, no_whitespace, more_whitespace, IsLastWhitespace, whitespace_to_end, line_to_end}
use Rattle.jsonb_spec.specs.Grammar.{IsPadded, padded, IsJoined, one_part, more_parts, IsElement, whole_element, empty_element, IsMember, key_and_value, AreDistinct, IsValue, scalar, empty_array, full_array, empty_object, full_object, Derives, max_depth, IsDocument, value_alone, whitespace_alone}
use Rattle.jsonb_spec.specs.Grammar.ExactNumber.{IsJsonNumber}
use Rattle.jsonb_spec.specs.Grammar.Scalar.{IsLiteral, null_word, true_word, false_word, IsScalar, literal_value, string_value, number_value, IsKey}
use Rattle.jsonb_spec.specs.Grammar.StandardNumber.{IsStandardNumber}
use Rattle.jsonb_spec.specs.Grammar.StringBody.{Item, raw, escape, unit, IsItem}
use Rattle.jsonb_spec.specs.Mode.{standard, json, extended_json, strict, lenient}
use Rattle.jsonb_spec.specs.Order.{Same}
use Rattle.jsonb_spec.specs.Source.{Source, array_source, no_sources, array_source_of, object_source, no_source_members, Found, found_member, spot_of, first_repeat, source_alone, tree_of_source}
use Rattle.jsonb_spec.specs.Tree.{Mark, Num, Tree, number, array, object, no_members, trees_of, Member, put_all}
use Rattle.jsonb_spec.specs.Parsing.{Fault, Parse, ◌>>=◌, on_byte, begins, fault}
use Rattle.jsonb_spec.specs.Parsing.Container.{after_key, after_part, array_at, element_at, elements_at, found_at, joined_at, member_at, members_at, object_at, object_or_fault, padded_at, value_or_null}
use Rattle.jsonb_spec.specs.Parsing.Document.{alone_at, document_of, source_from, source_of, too_deep, value_at, value_to_end, value_with}
use Rattle.jsonb_spec.specs.Parsing.Number.{IsNumberBoundary, standard_number_at}
use Rattle.jsonb_spec.specs.Parsing.Scalar.{begins_number, key_at, number_value_at, other_scalar_at, quoted_at, scalar_at}
use Rattle.jsonb_spec.specs.Parsing.Whitespace.{skip_closed_whitespace, skip_whitespace}
use Rattle.text_scan.proofs.Containers.JoinedParts.{Ends, IsShown, Starts, ends-piece, ends-whitespace, ends_at, length-joined, joined-skip, on_byte-none, on_byte-other, other, padded_complete, skip-padded, skip-starts, starts-append}
use Rattle.text_scan.proofs.Numbers.Read.{number_complete_of, number_faults_of, number_sound_of}
use Rattle.text_scan.proofs.Numbers.Reading.{not_representable, no_number}
use Rattle.text_scan.proofs.Numbers.Standard.{standard_is_text}
use Rattle.text_scan.proofs.Text.Whitespace.{pass-whitespace, pass-stop, skip-skip, skip-stop, skip-whitespace}
use Rattle.text_parse.proofs.Containers.Values.{IsValueComplete, member_skip, value_is_complete}
use Rattle.text_parse.proofs.Scalars.Encodings.{Follows, no_more, before, break_ends, key_complete, number_opens}
use Rattle.text_parse.proofs.Scalars.FirstBytes.{number_here}
use Rattle.jsonb_core.proofs.Trees.StandardInExtended.{standard_is_extended}
use Rattle.jsonb.proofs.Documents.Encodings.{document_unique}
use Rattle.jsonb.proofs.Modes.ExtendedIsExtendedJson.{extended_is_extended_json}
use Rattle.jsonb.proofs.Modes.JsonIsExtendedJson.{json_is_extended_json}
use Rattle.jsonb.proofs.Modes.LeafByLeaf.{HasLeaves, value_starts, no_whitespace_elements, same_key, same_last, same_quoted, whitespace_of}

-- ---- the same value

pub json_same : (bytes : List ℕ) (t u : Tree) → IsDocument json bytes t → IsDocument standard bytes u → Same t u
json_same bytes t u exact integers =
    let wide = standard_is_extended bytes u integers in
    subst (λ v. Same v u) (document_unique extended_json bytes wide.0 t (extended_is_extended_json bytes wide.0 wide.1) (json_is_extended_json bytes t exact)) wide.2

-- ---- what JSON has, standard mode has, but for numbers

two_modes : {A : Type 0} → strict ≡ lenient → A
two_modes e = cc

same_item : (item : Item) → IsItem json item → IsItem standard item
same_item (raw byte) is = (is.0, tt)
same_item (escape letter byte) is = is
same_item (unit braces digits) is = (is.0, is.1, λ _. tt)

same_literal : (bytes : List ℕ) (t : Tree) → IsLiteral json bytes t → IsLiteral standard bytes t
same_literal bytes t (null_word w) = null_word w
same_literal bytes t (true_word w) = true_word w
same_literal bytes t (false_word w) = false_word w

leaves : HasLeaves json standard
leaves = record { lenient = λ is. is; beyond = λ never. tt; quote = λ byte is. is; item = same_item; literal = same_literal }

abbrev spaces : (bytes : List ℕ) → IsWhitespace json bytes → IsWhitespace standard bytes
spaces bytes b = whitespace_of json standard leaves bytes b

-- ---- where reading stops

-- a number is not carried
abbrev Stops : {A : Type 0} → Result A Fault → Type 0
Stops {A} r = (offset : ℕ) × (r ≡ fault number_not_carried offset)

stops_on : {A B : Type 0} (r : Result A Fault) (f : A → Result B Fault) → Stops r → Stops (r >>= f)
stops_on {A} r f s = (s.0, ap (λ (q : Result A Fault). q >>= f) s.1)

stops_as : {A : Type 0} (r q : Result A Fault) → r ≡ q → Stops q → Stops r
stops_as r q e s = (s.0, e ∙ s.1)

-- ---- numbers

same_front : (front core back rest : List ℕ) → front ++ back ≡ core ++ rest → length back ≡ length rest → front ≡ core
same_front front core back rest joined ends =
    let same : length front ≡ length core = omega (arith, ap length joined, length-append front back, length-append core rest, ends) in
    sym (take-append_seam front back) ∙ ap (take (length front)) joined ∙ ap (λ k. take k (core ++ rest)) same ∙ take-append_seam core rest

number_goes : (size : ℕ) (core rest : List ℕ) (n : Num) → IsJsonNumber core n → IsNumberBoundary rest → (r : Parse Num) → standard_number_at size (core ++ rest) ≡ r → ((m : Num) × IsStandardNumber core m) ⊎ Stops r
number_goes size core rest n is ends (Ok (m, after)) at =
    let s = number_sound_of size standard (core ++ rest) m after at in
    let j = number_sound_of size json (core ++ rest) n rest (number_complete_of size json core rest n is ends) in
    let same : length after ≡ length rest =
    ⊎_elim (λ less. absurd (j.longest s.core after s.joined less (standard_is_text s.core m s.number)))
    (λ most. ⊎_elim (λ less. absurd (s.longest core rest refl less is.0)) (λ least. omega (arith, most, least)) (cases_lt (length rest) (length after))) (cases_lt (length after) (length rest)) in
    inl (m, subst (λ c. IsStandardNumber c m) (same_front s.core core after rest (sym s.joined) same) s.number)
number_goes size core rest n is ends (Err f) at =
    elim (number_faults_of size standard (core ++ rest) f at) [
      | not_representable code read ↦ inr (f.offset, λ i. Err (record { code = code i; offset = f.offset }))
      | no_number code none ↦ absurd (none core rest refl is.0 ends)
    ]

boundary : (rest : List ℕ) → Follows rest → IsNumberBoundary rest
boundary rest no_more = tt
boundary rest (before h) = subst IsNumberBoundary (sym h.whole) (break_ends h.first h.is_end)

-- ---- values

-- each value of JSON is one of standard mode, or reading it stops
abbrev Goes : (Value Wide : List ℕ → Tree → Type 0) → (List ℕ → Parse Source) → Type 0
Goes Value Wide read = (core : List ℕ) (t : Tree) (rest : List ℕ) → Value core t → Follows rest → ((u : Tree) × Wide core u) ⊎ Stops (read (core ++ rest))

number_read : (size : ℕ) (arrays objects : List ℕ → Parse Source) (core : List ℕ) (n : Num) (rest : List ℕ) → IsJsonNumber core n → value_with size standard arrays objects (core ++ rest) ≡ alone_at (number_value_at size standard (core ++ rest))
unfolding scalar_at
number_read size arrays objects core n rest is =
    let st = number_opens json core n is in
    let bytes : List ℕ = core ++ rest in
    let opened : bytes ≡ st.first ∷ (st.others ++ rest) = ap (λ (u : List ℕ). u ++ rest) st.whole in
    let read : Parse Source = alone_at (scalar_at size standard bytes) in
    ap (λ (u : List ℕ). on_byte 91 u arrays (on_byte 123 u objects read)) opened
    ∙ on_byte-other 91 st.first (st.others ++ rest) arrays (on_byte 123 (st.first ∷ (st.others ++ rest)) objects read) st.apart.no_bracket
    ∙ on_byte-other 123 st.first (st.others ++ rest) objects read st.apart.no_brace
    ∙ ap alone_at
    (ap (λ (u : List ℕ). on_byte 34 u (quoted_at size standard 34) (other_scalar_at size standard bytes)) opened
    ∙ on_byte-other 34 st.first (st.others ++ rest) (quoted_at size standard 34) (other_scalar_at size standard bytes) st.apart.no_quote
    ∙ number_here size standard bytes (ap (begins_number strict) opened ∙ st.begun (st.others ++ rest)))

scalar_goes : (size : ℕ) (arrays objects : List ℕ → Parse Source) → Goes (IsScalar json) (IsScalar standard) (value_with size standard arrays objects)
scalar_goes size arrays objects core t rest (literal_value l) f = inl (t, literal_value (same_literal core t l))
scalar_goes size arrays objects core t rest (string_value {quote = quote} {text = text} {mark = mark} q s) f = inl (t, string_value q (same_quoted json standard leaves quote core text mark s))
scalar_goes size arrays objects core t rest (number_value {n = n} is) f =
    elim (number_goes size core rest n is (boundary rest f) (standard_number_at size (core ++ rest)) refl) [
      | inl m ↦ inl (number m.0, number_value m.1)
      | inr s ↦
          inr (stops_as (value_with size standard arrays objects (core ++ rest)) _ (number_read size arrays objects core n rest is)
          (stops_on (number_value_at size standard (core ++ rest)) (λ (x : Tree × List ℕ). Ok (source_alone x.0, x.1)) (stops_on (standard_number_at size (core ++ rest)) (λ (x : Num × List ℕ). Ok (number x.0, x.1)) s)))
    ]

-- ---- whitespace round a value

passed : (front core back rest : List ℕ) → IsWhitespace standard front → Starts core → skip_whitespace standard ((front ++ (core ++ back)) ++ rest) ≡ core ++ (back ++ rest)
passed front core back rest b st =
    ap (skip_whitespace standard) (append_assoc front (core ++ back) rest) ∙ skip-whitespace b ((core ++ back) ++ rest) ∙ ap (skip_whitespace standard) (append_assoc core back rest)
    ∙ skip-starts standard (core ++ (back ++ rest)) (starts-append core (back ++ rest) st)

begins_other : (front core back rest : List ℕ) (c : ℕ) → IsWhitespace standard front → (st : Starts core) → eqb st.first c ≡ false → begins c (skip_whitespace standard ((front ++ (core ++ back)) ++ rest)) ≡ false
begins_other front core back rest c b st apart = ap (begins c) (passed front core back rest b st ∙ ap (λ u. u ++ (back ++ rest)) st.whole) ∙ cond-false (eqb st.first c) true false apart

-- a byte that separates parts, or ends them
abbrev IsSeparator : ℕ → ℕ → Type 0
IsSeparator close c = (c ≡ 44) ⊎ (c ≡ close)

module _ (Value Wide : List ℕ → Tree → Type 0) (read : List ℕ → Parse Source) (goes : Goes Value Wide read) (starts : (bytes : List ℕ) (t : Tree) → Value bytes t → Starts bytes) (complete : IsValueComplete Wide read) where
  shown : IsShown tree_of_source Wide read
  shown = record { starts = complete.starts; parses = λ core t rest s e. complete.parses core t rest s (λ _. before e) }

  -- a value with whitespace round it, and what follows
  padded_goes : (bytes : List ℕ) (t : Tree) (rest : List ℕ) → IsPadded json Value bytes t → ((after : List ℕ) → IsWhitespace standard after → Follows (after ++ rest)) → ((u : Tree) × IsPadded standard Wide bytes u) ⊎ Stops (padded_at standard read (bytes ++ rest))
  padded_goes bytes t rest (padded {before = front} {core = core} {after = back} b v c) follows =
      elim (goes core t (back ++ rest) v (follows back (spaces back c))) [
        | inl u ↦ inl (u.0, padded (spaces front b) u.1 (spaces back c))
        | inr s ↦
            inr (stops_as (padded_at standard read ((front ++ (core ++ back)) ++ rest)) _ (ap (λ (w : List ℕ). read w >>= λ (x : Source × List ℕ). Ok (x.0, skip_whitespace standard x.1)) (passed front core back rest (spaces front b) (starts core t v)))
            (stops_on (read (core ++ (back ++ rest))) (λ (x : Source × List ℕ). Ok (x.0, skip_whitespace standard x.1)) s))
      ]

  follows_separator : (c : ℕ) (rest : List ℕ) → IsSeparator 93 c ⊎ IsSeparator 125 c → (after : List ℕ) → IsWhitespace standard after → Follows (after ++ c ∷ rest)
  follows_separator c rest is after b = before (ends-whitespace b (c ∷ rest) (by_byte is))
    where
      here : (d : ℕ) → c ≡ d → Ends (d ∷ rest) → Ends (c ∷ rest)
      here d e h = subst (λ k. Ends (k ∷ rest)) (sym e) h

      by_byte : IsSeparator 93 c ⊎ IsSeparator 125 c → Ends (c ∷ rest)
      by_byte (inl (inl e)) = here 44 e (ends_at 44 rest refl)
      by_byte (inl (inr e)) = here 93 e (ends_at 93 rest refl)
      by_byte (inr (inl e)) = here 44 e (ends_at 44 rest refl)
      by_byte (inr (inr e)) = here 125 e (ends_at 125 rest refl)

  -- ---- elements

  element_goes : (bytes : List ℕ) (t : Tree) (c : ℕ) (rest : List ℕ) → IsElement json Value bytes t → IsSeparator 93 c → ((u : Tree) × IsElement standard Wide bytes u × (tt {0} ≡ tt)) ⊎ Stops (element_at standard read (bytes ++ c ∷ rest))
  element_goes bytes t c rest (whole_element p) is =
      elim (padded_goes bytes t (c ∷ rest) p (follows_separator c rest (inl is))) [
        | inl u ↦ inl (u.0, whole_element u.1, refl)
        | inr s ↦ inr s
      ]
  element_goes bytes t c rest (empty_element l b) is = two_modes l

  element_read : (bytes : List ℕ) (u : Tree) (rest : List ℕ) → IsElement standard Wide bytes u → (s : Source) × (element_at standard read (bytes ++ 44 ∷ rest) ≡ Ok (s, 44 ∷ rest))
  element_read bytes u rest (whole_element p) = let r = padded_complete tree_of_source standard Wide read shown bytes u 44 rest p refl refl in (r.0, r.2)
  element_read bytes u rest (empty_element l b) = two_modes l

  -- ---- members

  -- a key is read, and then the value behind its colon
  key_read : (size : ℕ) (left right rest : List ℕ) (key : Mark × List ℕ) → IsPadded standard (IsKey standard) left key → (offset : ℕ) × (member_at size standard read ((left ++ 58 ∷ right) ++ rest) ≡ (padded_at standard read (right ++ rest) >>= found_at key offset))
  key_read size left right rest k p =
      let colon : List ℕ = 58 ∷ (right ++ rest) in
      let s = skip-padded standard (IsKey standard) (key_complete size standard).starts left k colon p in
      let offset : ℕ = size - length (s.after ++ colon) in
      let read_key : key_at size standard (s.core ++ (s.after ++ colon)) ≡ Ok (k, s.after ++ colon) =
      (key_complete size standard).parses s.core k (s.after ++ colon) s.encodes (ends-whitespace s.is_whitespace colon (ends_at 58 (right ++ rest) refl)) in
      let skipped : skip_whitespace standard (s.after ++ colon) ≡ colon = skip-whitespace s.is_whitespace colon ∙ skip-stop standard 58 (right ++ rest) refl in (
        offset,
        ap (λ (u : List ℕ). member_at size standard read u) (append_assoc left (58 ∷ right) rest)
            ∙ ap (λ (u : List ℕ). key_at size standard u >>= λ (x : (Mark × List ℕ) × List ℕ). after_key size standard read x.0 (size - length x.1) (skip_whitespace standard x.1)) s.skipped
            ∙ ap (λ (r : Parse (Mark × List ℕ)). r >>= λ (x : (Mark × List ℕ) × List ℕ). after_key size standard read x.0 (size - length x.1) (skip_whitespace standard x.1)) read_key
            ∙ ap (λ (u : List ℕ). after_key size standard read k offset u) skipped,
      )

  wide_key : (bytes : List ℕ) (key : Mark × List ℕ) → IsPadded json (IsKey json) bytes key → IsPadded standard (IsKey standard) bytes key
  wide_key bytes key (padded {before = front} {core = core} {after = back} b k c) = padded (spaces front b) (same_key json standard leaves core key k) (spaces back c)

  member_goes : (size : ℕ) (bytes : List ℕ) (m : Member) (c : ℕ) (rest : List ℕ) → IsMember json Value bytes m → IsSeparator 125 c → ((w : Member) × IsMember standard Wide bytes w × (w.0 ≡ m.0)) ⊎ Stops (member_at size standard read (bytes ++ c ∷ rest))
  member_goes size bytes m c rest (key_and_value {left = left} {right = right} {key = key} {t = t} k v) is =
      elim (padded_goes right t (c ∷ rest) v (follows_separator c rest (inr is))) [
        | inl u ↦ inl ((key.1, u.0), key_and_value (wide_key left key k) u.1, refl)
        | inr s ↦
            let r = key_read size left right (c ∷ rest) key (wide_key left key k) in
            inr (stops_as (member_at size standard read ((left ++ 58 ∷ right) ++ c ∷ rest)) _ r.1 (stops_on (padded_at standard read (right ++ c ∷ rest)) (found_at key r.0) s))
      ]

  member_read : (size : ℕ) (bytes : List ℕ) (w : Member) (rest : List ℕ) → IsMember standard Wide bytes w → (f : Found) × (member_at size standard read (bytes ++ 44 ∷ rest) ≡ Ok (f, 44 ∷ rest))
  member_read size bytes w rest (key_and_value {left = left} {right = right} {key = key} {t = u} k v) =
      let r = key_read size left right (44 ∷ rest) key k in
      let p = padded_complete tree_of_source standard Wide read shown right u 44 rest v refl refl in
      (found_member key p.0 r.0, r.1 ∙ ap (λ (q : Parse Source). q >>= found_at key r.0) p.2)

  -- ---- how arrays and objects that are not empty begin

  elements_begin : (body : List ℕ) (ts : List Tree) (rest : List ℕ) → IsJoined (IsElement json Value) body ts → begins 93 (skip_whitespace standard (body ++ rest)) ≡ false
  elements_begin body ts rest (one_part {a = t} (whole_element (padded {before = front} {core = core} {after = back} b v c))) =
      let st = starts core t v in begins_other front core back rest 93 (spaces front b) st (other st.first st.is_start).bracket
  elements_begin body ts rest (one_part (empty_element l b)) = two_modes l
  elements_begin body ts rest (more_parts {rest = more} {a = t} (whole_element (padded {before = front} {core = core} {after = back} b v c)) others) =
      let st = starts core t v in
      ap (λ (u : List ℕ). begins 93 (skip_whitespace standard u)) (append_assoc (front ++ (core ++ back)) (44 ∷ more) rest) ∙ begins_other front core back (44 ∷ (more ++ rest)) 93 (spaces front b) st (other st.first st.is_start).bracket
  elements_begin body ts rest (more_parts (empty_element l b) others) = two_modes l

  member_begins : (bytes : List ℕ) (m : Member) (rest : List ℕ) → IsMember json Value bytes m → begins 125 (skip_whitespace standard (bytes ++ rest)) ≡ false
  member_begins bytes m rest (key_and_value {left = left} {right = right} {key = key} k v) =
      ap (λ (u : List ℕ). begins 125 (skip_whitespace standard u)) (append_assoc left (58 ∷ right) rest) ∙ key_begins left (58 ∷ (right ++ rest)) k
    where
      key_begins : (front more : List ℕ) → IsPadded json (IsKey json) front key → begins 125 (skip_whitespace standard (front ++ more)) ≡ false
      key_begins front more (padded {before = before_key} {core = core} {after = back} b s c) =
          let st = (key_complete 0 json).starts core key s in begins_other before_key core back more 125 (spaces before_key b) st (other st.first st.is_start).brace

  members_begin : (body : List ℕ) (ms : List Member) (rest : List ℕ) → IsJoined (IsMember json Value) body ms → begins 125 (skip_whitespace standard (body ++ rest)) ≡ false
  members_begin body ms rest (one_part {a = m} s) = member_begins body m rest s
  members_begin body ms rest (more_parts {first = first} {rest = more} {a = m} s others) =
      ap (λ (u : List ℕ). begins 125 (skip_whitespace standard u)) (append_assoc first (44 ∷ more) rest) ∙ member_begins first m (44 ∷ (more ++ rest)) s

-- ---- parts joined by commas

module _ {A F L : Type 0} (label : A → L) (size : ℕ) (code : Code) (close : ℕ) (Part Wide : List ℕ → A → Type 0) (part : List ℕ → Parse F)
    (goes : (bytes : List ℕ) (a : A) (c : ℕ) (rest : List ℕ) → Part bytes a → IsSeparator close c → ((w : A) × Wide bytes w × (label w ≡ label a)) ⊎ Stops (part (bytes ++ c ∷ rest)))
    (reads : (bytes : List ℕ) (w : A) (rest : List ℕ) → Wide bytes w → (f : F) × (part (bytes ++ 44 ∷ rest) ≡ Ok (f, 44 ∷ rest))) where
  joined_goes : (body : List ℕ) (parts : List A) → IsJoined Part body parts → (n : ℕ) (rest : List ℕ) → length parts ≤ n
      → ((ws : List A) × IsJoined Wide body ws × (map label ws ≡ map label parts)) ⊎ Stops (joined_at size code close part n (body ++ close ∷ rest))
  unfolding joined_at
  joined_goes body parts (one_part s) zero rest h = absurd (omega (arith, h))
  joined_goes body parts (one_part {a = a} s) (suc n) rest h =
      elim (goes body a close rest s (inr refl)) [
        | inl w ↦ inl (w.0 ∷ [], one_part w.1, ap (λ l. l ∷ []) w.2)
        | inr f ↦ inr (stops_on (part (body ++ close ∷ rest)) (λ (x : F × List ℕ). after_part size code close part (joined_at size code close part n) x.0 x.1) f)
      ]
  joined_goes body parts (more_parts s j) zero rest h = absurd (omega (arith, h))
  joined_goes body parts (more_parts {first = first} {rest = more} {a = a} {others = others} s j) (suc n) rest h =
      let split : joined_at size code close part (suc n) ((first ++ 44 ∷ more) ++ close ∷ rest) ≡ joined_at size code close part (suc n) (first ++ 44 ∷ (more ++ close ∷ rest)) =
      ap (λ (t : List ℕ). joined_at size code close part (suc n) t) (append_assoc first (44 ∷ more) (close ∷ rest)) in
      elim (goes first a 44 (more ++ close ∷ rest) s (inl refl)) [
        | inl w ↦
            elim (joined_goes more others j n rest (omega (arith, h))) [
              | inl ws ↦ inl (w.0 ∷ ws.0, more_parts w.1 ws.1, ap₂ (λ l ls. l ∷ ls) w.2 ws.2)
              | inr g ↦
                  let f = reads first w.0 (more ++ close ∷ rest) w.1 in
                  inr (stops_as (joined_at size code close part (suc n) ((first ++ 44 ∷ more) ++ close ∷ rest)) _ (split ∙ ap (λ (r : Parse F). r >>= λ (x : F × List ℕ). after_part size code close part (joined_at size code close part n) x.0 x.1) f.1)
                  (stops_on (joined_at size code close part n (more ++ close ∷ rest)) (λ (x : List F × List ℕ). Ok (f.0 ∷ x.0, x.1)) g))
            ]
        | inr f ↦
            inr (stops_as (joined_at size code close part (suc n) ((first ++ 44 ∷ more) ++ close ∷ rest)) _ split
            (stops_on (part (first ++ 44 ∷ (more ++ close ∷ rest))) (λ (x : F × List ℕ). after_part size code close part (joined_at size code close part n) x.0 x.1) f))
      ]

-- ---- arrays and objects

module _ (size : ℕ) (Value Wide : List ℕ → Tree → Type 0) (read : List ℕ → Parse Source) (goes : Goes Value Wide read) (starts : (bytes : List ℕ) (t : Tree) → Value bytes t → Starts bytes) (complete : IsValueComplete Wide read) where
  array_goes : (body : List ℕ) (ts : List Tree) (rest : List ℕ) → IsJoined (IsElement json Value) body ts → ((us : List Tree) × IsJoined (IsElement standard Wide) body us) ⊎ Stops (array_at size standard read (body ++ 93 ∷ rest))
  array_goes body ts rest items =
      let bytes : List ℕ = body ++ 93 ∷ rest in
      let enough : length ts ≤ suc (length bytes) = omega (arith, length-joined items, length-append body (93 ∷ rest)) in
      elim (joined_goes (λ (u : Tree). tt {0}) size expected_array_comma_or_end 93 (IsElement json Value) (IsElement standard Wide) (element_at standard read) (element_goes Value Wide read goes starts complete) (element_read Value Wide read goes starts complete) body ts items (suc (length bytes)) rest enough) [
        | inl us ↦ inl (us.0, us.1)
        | inr s ↦
            inr (stops_as (array_at size standard read bytes) _
            (on_byte-none 93 (skip_whitespace standard bytes) (λ (r : List ℕ). Ok (array_source no_sources, r)) (elements_at size standard read bytes) (elements_begin Value Wide read goes starts complete body ts (93 ∷ rest) items)
            ∙ ap (λ (r : Parse (List Source)). r >>= λ (x : List Source × List ℕ). Ok (array_source_of x.0, x.1))
            (joined-skip size expected_array_comma_or_end 93 (λ _ _. Unit {0}) (element_at standard read) standard (λ u. ap (λ (w : List ℕ). value_or_null strict read w >>= λ (x : Source × List ℕ). Ok (x.0, skip_whitespace standard x.1)) (skip-skip standard u)) (suc (length bytes)) bytes))
            (stops_on (joined_at size expected_array_comma_or_end 93 (element_at standard read) (suc (length bytes)) bytes) (λ (x : List Source × List ℕ). Ok (array_source_of x.0, x.1)) s))
      ]

  object_goes : (body : List ℕ) (ms : List Member) (rest : List ℕ) → IsJoined (IsMember json Value) body ms
      → ((ws : List Member) × IsJoined (IsMember standard Wide) body ws × (map (λ (m : Member). m.0) ws ≡ map (λ (m : Member). m.0) ms)) ⊎ Stops (object_at size standard read (body ++ 125 ∷ rest))
  object_goes body ms rest members =
      let bytes : List ℕ = body ++ 125 ∷ rest in
      let enough : length ms ≤ suc (length bytes) = omega (arith, length-joined members, length-append body (125 ∷ rest)) in
      elim (joined_goes (λ (m : Member). m.0) size expected_object_comma_or_end 125 (IsMember json Value) (IsMember standard Wide) (member_at size standard read) (member_goes Value Wide read goes starts complete size) (member_read Value Wide read goes starts complete size) body ms members (suc (length bytes)) rest enough) [
        | inl ws ↦ inl ws
        | inr s ↦
            inr (stops_as (object_at size standard read bytes) _
            (on_byte-none 125 (skip_whitespace standard bytes) (λ (r : List ℕ). Ok (object_source no_source_members, r)) (members_at size standard read bytes) (members_begin Value Wide read goes starts complete body ms (125 ∷ rest) members)
            ∙ ap (λ (r : Parse (List Found)). r >>= λ (x : List Found × List ℕ). object_or_fault (first_repeat (map spot_of x.0)) x.0 x.1)
            (joined-skip size expected_object_comma_or_end 125 (λ _ _. Unit {0}) (member_at size standard read) standard (member_skip standard Wide read size) (suc (length bytes)) bytes))
            (stops_on (joined_at size expected_object_comma_or_end 125 (member_at size standard read) (suc (length bytes)) bytes) (λ (x : List Found × List ℕ). object_or_fault (first_repeat (map spot_of x.0)) x.0 x.1) s))
      ]

  value_goes : Goes (IsValue json Value) (IsValue standard Wide) (value_with size standard (array_at size standard read) (object_at size standard read))
  value_goes core t rest (scalar s) f = elim (scalar_goes size (array_at size standard read) (object_at size standard read) core t rest s f) [ inl u ↦ inl (u.0, scalar u.1) | inr s ↦ inr s ]
  value_goes core t rest (empty_array {whitespace = whitespace} b) f = inl (array (trees_of []), empty_array (spaces whitespace b))
  value_goes core t rest (full_array {body = body} {ts = ts} items some) f =
      elim (array_goes body ts rest items) [
        | inl us ↦ inl (array (trees_of us.0), full_array us.1 (no_whitespace_elements standard standard (λ is. is) (λ is. is) Wide complete.starts body us.0 us.1 (λ is. two_modes is)))
        | inr s ↦ inr (stops_as (array_at size standard read ((body ++ 93 ∷ []) ++ rest)) _ (ap (array_at size standard read) (append_assoc body (93 ∷ []) rest)) s)
      ]
  value_goes core t rest (empty_object {whitespace = whitespace} b) f = inl (object no_members, empty_object (spaces whitespace b))
  value_goes core t rest (full_object {body = body} {ms = ms} members distinct) f =
      elim (object_goes body ms rest members) [
        | inl ws ↦ inl (object (put_all ws.0 no_members), full_object ws.1 (subst AreDistinct (sym ws.2) distinct))
        | inr s ↦ inr (stops_as (object_at size standard read ((body ++ 125 ∷ []) ++ rest)) _ (ap (object_at size standard read) (append_assoc body (125 ∷ []) rest)) s)
      ]

derived_goes : (size depth : ℕ) → Goes (Derives json depth) (Derives standard depth) (value_at size standard depth)
unfolding value_at
derived_goes size zero = scalar_goes size (too_deep size) (too_deep size)
derived_goes size (suc depth) = value_goes size (Derives json depth) (Derives standard depth) (value_at size standard depth) (derived_goes size depth) (value_starts json depth) (value_is_complete size standard depth)

-- ---- documents

follows_last : (after : List ℕ) → IsLastWhitespace json after → Follows after
follows_last after (whitespace_to_end no_whitespace) = no_more
follows_last after (whitespace_to_end (more_whitespace {rest = rest} b bs)) = before (ends-piece b rest)
follows_last after (line_to_end inside is b one) = two_modes is

document_goes : (bytes : List ℕ) (t : Tree) → IsDocument json bytes t → ((u : Tree) × IsDocument standard bytes u) ⊎ Stops (document_of standard bytes)
unfolding document_of source_of
document_goes bytes t (value_alone {before = front} {core = core} {after = after} b d a) =
    let size : ℕ = length (front ++ (core ++ after)) in
    elim (derived_goes size max_depth core t after d (follows_last after a)) [
      | inl u ↦ inl (u.0, value_alone (spaces front b) u.1 (same_last json standard (λ is. is) (λ never. tt) after a))
      | inr s ↦
          let st = value_starts json max_depth core t d in
          let opened : core ++ after ≡ st.first ∷ (st.others ++ after) = ap (λ (u : List ℕ). u ++ after) st.whole in
          let left : skip_closed_whitespace standard (front ++ (core ++ after)) ≡ st.first ∷ (st.others ++ after) =
          pass-whitespace (spaces front b) (core ++ after) ∙ ap (skip_closed_whitespace standard) opened ∙ pass-stop standard st.first (st.others ++ after) (other st.first st.is_start).piece in
          let found : source_from size standard (skip_closed_whitespace standard (front ++ (core ++ after))) ≡ value_to_end size standard (core ++ after) = ap (source_from size standard) left ∙ ap (value_to_end size standard) (sym opened) in
          let stopped : Stops (value_to_end size standard (core ++ after)) = stops_on (value_at size standard max_depth (core ++ after)) _ s in
          inr (stops_on (source_from size standard (skip_closed_whitespace standard (front ++ (core ++ after)))) (λ (x : Source). Ok (tree_of_source x)) (stops_as _ (value_to_end size standard (core ++ after)) found stopped))
    ]
document_goes bytes t (whitespace_alone is b) = two_modes is

pub standard_of_json : (bytes : List ℕ) (t : Tree) → IsDocument json bytes t → ((u : Tree) × IsDocument standard bytes u × Same t u) ⊎ ((offset : ℕ) × (document_of standard bytes ≡ fault number_not_carried offset))
standard_of_json bytes t d =
    elim (document_goes bytes t d) [
      | inl u ↦ inl (u.0, u.1, json_same bytes t u.0 d u.1)
      | inr s ↦ inr s
    ]
