-- What a fault says of the bytes that were parsed, at any depth.
use Rattle.std.proofs.Common.{◌≡◌, ℕ, zero, suc, ◌+◌, ◌-◌, ◌<◌, ◌≤◌, false, ◌⊎◌, inl, inr, List, [], ◌∷◌, ◌++◌, length, map, Option, Some, None, Ok, Err, refl, sym, ap, subst, ◌∙◌, append_assoc, length-append, arith}
use Rattle.jsonb_spec.specs.Grammar.Whitespace.{IsWhitespace}
use Rattle.jsonb_spec.specs.Grammar.Whitespace.IsWhitespace.{more_whitespace, no_whitespace}
use Rattle.jsonb_spec.specs.Code.{Code}
use Rattle.jsonb_spec.specs.Code.Code.{depth_limit_exceeded, expected_array_comma_or_end, expected_colon, expected_object_comma_or_end, expected_some_value, invalid_eof, number_not_carried, object_duplicate_key}
use Rattle.jsonb_spec.specs.Grammar.{Derives, IsElement, IsMember, IsPadded, IsValue}
use Rattle.jsonb_spec.specs.Grammar.IsValue.{empty_array, empty_object, full_array, full_object, scalar}
use Rattle.jsonb_spec.specs.Mode.{Mode, strictness}
use Rattle.jsonb_spec.specs.Grammar.Scalar.{IsKey, IsScalar}
use Rattle.jsonb_spec.specs.Tree.{Mark, Member, Tree}
use Rattle.jsonb_spec.specs.Parsing.{Fault, Parse, begins, on_byte, reject, ◌>>=◌}
use Rattle.jsonb_spec.specs.Parsing.Whitespace.{skip_whitespace}
use Rattle.jsonb_spec.specs.Parsing.Container.{after_key, after_part, array_at, element_at, elements_at, found_at, is_left_out, joined_at, member_at, members_at, object_at, object_or_fault, padded_at, value_or_null}
use Rattle.jsonb_spec.specs.Source.{Found, Source, Spot, array_source, array_source_of, first_repeat, member_of, no_source_members, no_sources, null_source, object_source, object_source_of, source_alone, spot_of, tree_of_source}
use Rattle.jsonb_spec.specs.Parsing.Document.{alone_at, too_deep, value_at, value_with}
use Rattle.jsonb_spec.specs.Parsing.Scalar.{key_at, scalar_at}
use Rattle.jsonb_spec.specs.Errors.{ArePassed, IsFront, IsEncoding, Repeats}
use Rattle.jsonb_spec.specs.Errors.ArePassed.{no_parts, part_passed}
use Rattle.jsonb_spec.specs.Errors.IsFront.{front_of_whitespace, in_array, in_object}
use Rattle.text_scan.proofs.Steps.Tests.{chosen}
use Rattle.jsonb.proofs.Errors.Codes.{IsReported, bind_err, same_err, silent_fault, silent_rejected}
use Rattle.jsonb.proofs.Containers.KeyOffsets.{laid_repeats, members_laid}
use Rattle.text_scan.proofs.Containers.JoinedParts.{IsSound, IsSoundBefore, SeenBy, joined-skip, on_byte_cases, padded_sound}
use Rattle.jsonb.proofs.Errors.OfScalars.{NotRepresentable, WrongScalar, key_silent, scalar_rejected, scalar_some}
use Rattle.text_parse.proofs.Scalars.Encodings.{key_sound}
use Rattle.text_scan.proofs.Text.Whitespace.{length-skip, skip-skip, skips}
use Rattle.text_parse.proofs.Containers.Values.{Seen, element_sound, member_sound, value_sound}

-- ---- fronts

whitespace_append : {mode : Mode} {first : List ℕ} (b : IsWhitespace mode first) {second : List ℕ} (c : IsWhitespace mode second) → IsWhitespace mode (first ++ second)
whitespace_append no_whitespace c = c
whitespace_append {mode} (more_whitespace {piece = piece} {rest = rest} b bs) {second} c = subst (IsWhitespace mode) (sym (append_assoc piece rest second)) (more_whitespace b (whitespace_append bs c))

-- whitespace before a front belong to it
pub whitespace_front : {mode : Mode} {first : List ℕ} (b : IsWhitespace mode first) {rest : List ℕ} {count : ℕ} (h : IsFront mode rest count) → IsFront mode (first ++ rest) count
whitespace_front b (front_of_whitespace c) = front_of_whitespace (whitespace_append b c)
whitespace_front {mode} {first} b (in_array {before = before} {elements = elements} {rest = rest} {count = count} c p h) =
    subst (λ (u : List ℕ). IsFront mode u (suc count)) (append_assoc first before (91 ∷ (elements ++ rest))) (in_array (whitespace_append b c) p h)
whitespace_front {mode} {first} b (in_object {before = before} {members = members} {left = left} {rest = rest} {count = count} c p k h) =
    subst (λ (u : List ℕ). IsFront mode u (suc count)) (append_assoc first before (123 ∷ (members ++ (left ++ 58 ∷ rest)))) (in_object (whitespace_append b c) p k h)

-- ---- where a parser of values stops

-- A value is due at a byte that begins none, and no whitespace is there.
pub record BeginsNone (mode : Mode) (size : ℕ) (rest : List ℕ) (offset : ℕ) : Type 0 where
  pub byte : ℕ
  pub others : List ℕ
  pub whole : rest ≡ byte ∷ others
  pub at_byte : offset ≡ size - length rest + 1
  pub begins_none : (depth : ℕ) (more : List ℕ) (t : Tree) → Derives mode depth (byte ∷ more) t → ⊥
  pub none_skipped : skip_whitespace mode rest ≡ rest

-- An array or an object begins, and no more may be opened.
pub record Opens (left size : ℕ) (rest : List ℕ) (offset : ℕ) : Type 0 where
  pub byte : ℕ
  pub others : List ℕ
  pub whole : rest ≡ byte ∷ others
  pub at_byte : offset ≡ size - length others
  pub opens : (byte ≡ 91) ⊎ (byte ≡ 123)
  pub none_left : left ≡ 0

-- An object begins in which a key comes twice.
pub record RepeatsHere (mode : Mode) (left size : ℕ) (rest key : List ℕ) (offset : ℕ) : Type 0 where
  pub body : List ℕ
  pub others : List ℕ
  pub whole : rest ≡ 123 ∷ (body ++ 125 ∷ others)
  pub some_left : 1 ≤ left
  pub length_upto : ℕ
  pub repeats : Repeats mode body key length_upto
  pub after_key : offset ≡ size - length rest + 1 + length_upto

-- what is wrong with the bytes from a value on, where this many more arrays and objects may be open
abbrev pub Wrong : Mode → ℕ → ℕ → List ℕ → Code → ℕ → Type 0
Wrong mode left size rest expected_some_value offset = BeginsNone mode size rest offset
Wrong mode left size rest number_not_carried offset = NotRepresentable mode size rest offset
Wrong mode left size rest depth_limit_exceeded offset = Opens left size rest offset
Wrong mode left size rest (object_duplicate_key k) offset = RepeatsHere mode left size rest k offset
Wrong mode left size rest other offset = ⊥

-- The bytes are a front and a rest, and with the rest that is wrong which the fault names.
pub record IsRejectedAt (mode : Mode) (depth size : ℕ) (bytes : List ℕ) (f : Fault) : Type 0 where
  pub front : List ℕ
  pub rest : List ℕ
  pub whole : bytes ≡ front ++ rest
  pub count : ℕ
  pub left : ℕ
  pub sum : count + left ≡ depth
  pub is_front : IsFront mode front count
  pub some : 0 < length rest
  pub wrong : Wrong mode left size rest f.code f.offset

-- Each fault of the parser that is reported says what is wrong with the bytes, which are no more than the whole input
-- and begin with no whitespace.
abbrev pub Explains : Mode → ℕ → ℕ → (List ℕ → Parse Source) → Type 0
Explains mode depth size read = (bytes : List ℕ) (f : Fault) → length bytes ≤ size → skip_whitespace mode bytes ≡ bytes → read bytes ≡ Err f → IsReported f.code → IsRejectedAt mode depth size bytes f

-- what is wrong with the bytes at once
stops_here : (mode : Mode) (depth size : ℕ) (bytes : List ℕ) (f : Fault) → 0 < length bytes → Wrong mode depth size bytes f.code f.offset → IsRejectedAt mode depth size bytes f
stops_here mode depth size bytes f some w =
    let sum : 0 + depth ≡ depth = omega arith in
    record { front = []; rest = bytes; whole = refl; count = 0; left = depth; sum = sum; is_front = front_of_whitespace no_whitespace; some = some; wrong = w }

-- what is wrong after the whitespace
pub stops_after_whitespace : (mode : Mode) (depth size : ℕ) (bytes : List ℕ) (f : Fault) → IsRejectedAt mode depth size (skip_whitespace mode bytes) f → IsRejectedAt mode depth size bytes f
stops_after_whitespace mode depth size bytes f s =
    let p = skips mode bytes (omega (arith, s.some, ap length s.whole, length-append s.front s.rest)) in
    record {
      front = p.whitespace ++ s.front;
      rest = s.rest;
      whole = p.whole ∙ ap (λ (u : List ℕ). p.whitespace ++ u) s.whole ∙ sym (append_assoc p.whitespace s.front s.rest);
      count = s.count;
      left = s.left;
      sum = s.sum;
      is_front = whitespace_front p.is_whitespace s.is_front;
      some = s.some;
      wrong = s.wrong;
    }

rest_within : (size : ℕ) (bytes first rest : List ℕ) → length bytes ≤ size → bytes ≡ first ++ rest → length rest ≤ size
rest_within size bytes first rest h whole = omega (arith, h, ap length whole, length-append first rest)

-- what is wrong in an array, after the elements that are passed
stops_in_array : (mode : Mode) (depth size : ℕ) (bytes passed rest : List ℕ) {ts : List Tree} (f : Fault) → ArePassed (IsElement mode (IsEncoding mode)) passed ts → bytes ≡ passed ++ rest
    → IsRejectedAt mode depth size rest f → IsRejectedAt mode (suc depth) size (91 ∷ bytes) f
stops_in_array mode depth size bytes passed rest f are_passed whole s =
    let more : suc s.count + s.left ≡ suc depth = omega (arith, s.sum) in
    record {
      front = 91 ∷ (passed ++ s.front);
      rest = s.rest;
      whole = ap (λ (u : List ℕ). 91 ∷ u) (whole ∙ ap (λ (u : List ℕ). passed ++ u) s.whole ∙ sym (append_assoc passed s.front s.rest));
      count = suc s.count;
      left = s.left;
      sum = more;
      is_front = in_array no_whitespace are_passed s.is_front;
      some = s.some;
      wrong = s.wrong;
    }

-- what is wrong in an object, after the members that are passed, a key and a colon
stops_in_object : (mode : Mode) (depth size : ℕ) (bytes passed middle left rest : List ℕ) {key : Mark × List ℕ} {ms : List Member} (f : Fault) → ArePassed (IsMember mode (IsEncoding mode)) passed ms → bytes ≡ passed ++ middle
    → IsPadded mode (IsKey mode) left key → middle ≡ left ++ 58 ∷ rest → IsRejectedAt mode depth size rest f → IsRejectedAt mode (suc depth) size (123 ∷ bytes) f
stops_in_object mode depth size bytes passed middle left rest f are_passed whole is_key colon s =
    let more : suc s.count + s.left ≡ suc depth = omega (arith, s.sum) in
    let from_key : middle ≡ (left ++ 58 ∷ s.front) ++ s.rest = colon ∙ ap (λ (u : List ℕ). left ++ 58 ∷ u) s.whole ∙ sym (append_assoc left (58 ∷ s.front) s.rest) in
    record {
      front = 123 ∷ (passed ++ (left ++ 58 ∷ s.front));
      rest = s.rest;
      whole = ap (λ (u : List ℕ). 123 ∷ u) (whole ∙ ap (λ (u : List ℕ). passed ++ u) from_key ∙ sym (append_assoc passed (left ++ 58 ∷ s.front) s.rest));
      count = suc s.count;
      left = s.left;
      sum = more;
      is_front = in_object no_whitespace are_passed is_key s.is_front;
      some = s.some;
      wrong = s.wrong;
    }

-- what begins with no bracket and no brace is a scalar
scalar_alone : (mode : Mode) (Value : List ℕ → Tree → Type 0) (bytes : List ℕ) (t : Tree) → IsValue mode Value bytes t → begins 91 bytes ≡ false → begins 123 bytes ≡ false → IsScalar mode bytes t
scalar_alone mode Value bytes t (scalar s) p q = s
scalar_alone mode Value bytes t (empty_array b) p q = absurd cc
scalar_alone mode Value bytes t (full_array j n) p q = absurd cc
scalar_alone mode Value bytes t (empty_object b) p q = absurd cc
scalar_alone mode Value bytes t (full_object j d) p q = absurd cc

derived_alone : (mode : Mode) (depth : ℕ) (bytes : List ℕ) (t : Tree) → Derives mode depth bytes t → begins 91 bytes ≡ false → begins 123 bytes ≡ false → IsScalar mode bytes t
derived_alone mode zero bytes t d p q = d
derived_alone mode (suc depth) bytes t d p q = scalar_alone mode (Derives mode depth) bytes t d p q

-- what is wrong with a scalar is wrong with a value that is neither an array nor an object
wrong_scalar : (mode : Mode) (left size : ℕ) (bytes : List ℕ) (code : Code) (offset : ℕ) → skip_whitespace mode bytes ≡ bytes → begins 91 bytes ≡ false → begins 123 bytes ≡ false → WrongScalar mode size bytes code offset → Wrong mode left size bytes code offset
wrong_scalar mode left size bytes number_not_carried offset none p q w = w
wrong_scalar mode left size bytes expected_some_value offset none p q w =
    let bracket : begins 91 (w.byte ∷ w.others) ≡ false = subst (λ (u : List ℕ). begins 91 u ≡ false) w.whole p in
    let brace : begins 123 (w.byte ∷ w.others) ≡ false = subst (λ (u : List ℕ). begins 123 u ≡ false) w.whole q in
    record { byte = w.byte; others = w.others; whole = w.whole; at_byte = w.at_byte; begins_none = λ m more t d. w.begins_none more t (derived_alone mode m (w.byte ∷ more) t d bracket brace); none_skipped = none }
wrong_scalar mode left size bytes other offset none p q w = absurd w

no_value : (mode : Mode) (depth size : ℕ) (bytes : List ℕ) (f : Fault) → 0 < length bytes → skip_whitespace mode bytes ≡ bytes → begins 91 bytes ≡ false → begins 123 bytes ≡ false → WrongScalar mode size bytes f.code f.offset → IsRejectedAt mode depth size bytes f
no_value mode depth size bytes f some none p q w = stops_here mode depth size bytes f some (wrong_scalar mode depth size bytes f.code f.offset none p q w)

-- ---- parts joined by commas

-- Parts are passed, and the fault is that of the next part.
pub record StopsInPart {A : Type 0} (Encodes : List ℕ → A → Type 0) (part : List ℕ → Parse A) (bytes : List ℕ) (f : Fault) : Type 0 where
  pub passed : List ℕ
  pub rest : List ℕ
  pub parts : List A
  pub are_passed : ArePassed Encodes passed parts
  pub whole : bytes ≡ passed ++ rest
  pub fails : part rest ≡ Err f

module _ {A : Type 0} (size : ℕ) (code : Code) (close : ℕ) (Encodes : List ℕ → A → Type 0) (part : List ℕ → Parse A) where
  pub joined_rejected : IsSoundBefore Encodes part → (IsReported code → ⊥) → (n : ℕ) (bytes : List ℕ) (f : Fault) → joined_at size code close part n bytes ≡ Err f → IsReported f.code → StopsInPart Encodes part bytes f
  unfolding joined_at
  joined_rejected sound silent zero bytes f e reported = absurd (silent_fault {B = List A × List ℕ} invalid_eof size f e (λ m. m) reported)
  joined_rejected sound silent (suc n) bytes f e reported =
      elim (bind_err (part bytes) (λ (x : A × List ℕ). after_part size code close part (joined_at size code close part n) x.0 x.1) f e) [
        | inl h ↦ record { passed = []; rest = bytes; parts = []; are_passed = no_parts; whole = refl; fails = h }
        | inr h ↦
            let a : A = h.0.0 in
            let middle : List ℕ = h.0.1 in
            elim (on_byte_cases 44 middle (λ (t : List ℕ). joined_at size code close part n t >>= λ (x : List A × List ℕ). Ok (a ∷ x.0, x.1)) (on_byte close middle (λ (t : List ℕ). Ok (a ∷ [], t)) (reject size code 0 middle)) (Err f) h.2) [
              | inl t ↦ elim (bind_err (joined_at size code close part n t.0) (λ (x : List A × List ℕ). Ok (a ∷ x.0, x.1)) f t.2) [
                | inl g ↦
                    let s = sound bytes a middle h.1 (omega (arith, ap length t.1)) in
                    let r = joined_rejected sound silent n t.0 f g reported in
                    record {
                      passed = s.core ++ 44 ∷ r.passed;
                      rest = r.rest;
                      parts = a ∷ r.parts;
                      are_passed = part_passed s.encodes r.are_passed;
                      whole = s.whole ∙ ap (λ (u : List ℕ). s.core ++ u) (t.1 ∙ ap (λ (u : List ℕ). 44 ∷ u) r.whole) ∙ sym (append_assoc s.core (44 ∷ r.passed) r.rest);
                      fails = r.fails;
                    }
                | inr g ↦ absurd (let never : ◌≡◌ {A = Parse (List A)} (Ok (a ∷ g.0.0, g.0.1)) (Err f) = g.2 in cc)
              ]
              | inr t ↦ elim (on_byte_cases close middle (λ (u : List ℕ). Ok (a ∷ [], u)) (reject size code 0 middle) (Err f) t.1) [
                | inl g ↦ absurd (let never : ◌≡◌ {A = Parse (List A)} (Ok (a ∷ [], g.0)) (Err f) = g.2 in cc)
                | inr g ↦ absurd (silent_rejected {B = List A × List ℕ} size code 0 middle f g.1 silent reported)
              ]
            ]
      ]

-- a value that holds no others is parsed with the faults of its tree
alone_fault : (r : Parse Tree) (f : Fault) → alone_at r ≡ Err f → r ≡ Err f
alone_fault (Ok x) f e = absurd (let never : ◌≡◌ {A = Parse Source} (Ok (source_alone x.0, x.1)) (Err f) = e in cc)
alone_fault (Err d) f e = ap (λ (g : Fault). Err g) (same_err {B = Source × List ℕ} d f e)

-- parts that are passed, seen by view
passed_seen : {A F : Type 0} (view : F → A) (Encodes : List ℕ → A → Type 0) {bytes : List ℕ} {fs : List F} (p : ArePassed (SeenBy view Encodes) bytes fs) → ArePassed Encodes bytes (map view fs)
passed_seen view Encodes no_parts = no_parts
passed_seen view Encodes (part_passed s p) = part_passed s (passed_seen view Encodes p)

-- ---- one level

module _ (mode : Mode) (depth size : ℕ) (read : List ℕ → Parse Source) (sound : IsSound (Seen (IsEncoding mode)) read) (explains : Explains mode depth size read) where
  -- a value after whitespace
  value_rejected : (bytes : List ℕ) (f : Fault) → length bytes ≤ size → read (skip_whitespace mode bytes) ≡ Err f → IsReported f.code → IsRejectedAt mode depth size bytes f
  value_rejected bytes f h e reported = stops_after_whitespace mode depth size bytes f (explains (skip_whitespace mode bytes) f (omega (arith, h, length-skip mode bytes)) (skip-skip mode bytes) e reported)

  element_rejected : (bytes : List ℕ) (f : Fault) → length bytes ≤ size → element_at mode read bytes ≡ Err f → IsReported f.code → IsRejectedAt mode depth size bytes f
  element_rejected bytes f h e reported =
      elim (bind_err (value_or_null (strictness mode) read (skip_whitespace mode bytes)) (λ (x : Source × List ℕ). Ok (x.0, skip_whitespace mode x.1)) f e) [
        | inl g ↦ elim (chosen (is_left_out (strictness mode) (skip_whitespace mode bytes)) (Ok (null_source, skip_whitespace mode bytes)) (read (skip_whitespace mode bytes)) (Err f) g) [
          | inl k ↦ absurd (let never : ◌≡◌ {A = Parse Source} (Ok (null_source, skip_whitespace mode bytes)) (Err f) = k.1 in cc)
          | inr k ↦ value_rejected bytes f h k.1 reported
        ]
        | inr g ↦ absurd (let never : ◌≡◌ {A = Parse Source} (Ok (g.0.0, skip_whitespace mode g.0.1)) (Err f) = g.2 in cc)
      ]

  array_rejected : (bytes : List ℕ) (f : Fault) → length (91 ∷ bytes) ≤ size → array_at size mode read bytes ≡ Err f → IsReported f.code → IsRejectedAt mode (suc depth) size (91 ∷ bytes) f
  array_rejected bytes f h e reported =
      elim (on_byte_cases 93 (skip_whitespace mode bytes) (λ (r : List ℕ). Ok (array_source no_sources, r)) (elements_at size mode read bytes) (Err f) e) [
        | inl g ↦ absurd (let never : ◌≡◌ {A = Parse Source} (Ok (array_source no_sources, g.0)) (Err f) = g.2 in cc)
        | inr g ↦ elim (bind_err (joined_at size expected_array_comma_or_end 93 (element_at mode read) (suc (length bytes)) (skip_whitespace mode bytes)) (λ (x : List Source × List ℕ). Ok (array_source_of x.0, x.1)) f g.1) [
          | inl k ↦
              let again = sym (joined-skip size expected_array_comma_or_end 93 (Seen (IsElement mode (IsEncoding mode))) (element_at mode read) mode (λ u. ap (λ (w : List ℕ). value_or_null (strictness mode) read w >>= λ (x : Source × List ℕ). Ok (x.0, skip_whitespace mode x.1)) (skip-skip mode u)) (suc (length bytes)) bytes) ∙ k in
              let p = joined_rejected size expected_array_comma_or_end 93 (Seen (IsElement mode (IsEncoding mode))) (element_at mode read) (element_sound mode (IsEncoding mode) read sound) (λ n. n) (suc (length bytes)) bytes f again reported in
              let within : length p.rest ≤ size = rest_within size bytes p.passed p.rest (omega (arith, h)) p.whole in
              stops_in_array mode depth size bytes p.passed p.rest f (passed_seen tree_of_source (IsElement mode (IsEncoding mode)) p.are_passed) p.whole (element_rejected p.rest f within p.fails reported)
          | inr k ↦ absurd (let never : ◌≡◌ {A = Parse Source} (Ok (array_source_of k.0.0, k.0.1)) (Err f) = k.2 in cc)
        ]
      ]

  -- A key and its colon are passed, and the fault is that of the value after it.
  record StopsInMember (bytes : List ℕ) (f : Fault) : Type 0 where
    pub left : List ℕ
    pub key : Mark × List ℕ
    pub rest : List ℕ
    pub is_key : IsPadded mode (IsKey mode) left key
    pub whole : bytes ≡ left ++ 58 ∷ rest
    pub fails : read (skip_whitespace mode rest) ≡ Err f

  member_rejected : (bytes : List ℕ) (f : Fault) → member_at size mode read bytes ≡ Err f → IsReported f.code → StopsInMember bytes f
  member_rejected bytes f e reported =
      elim (bind_err (key_at size mode (skip_whitespace mode bytes)) (λ (x : (Mark × List ℕ) × List ℕ). after_key size mode read x.0 (size - length x.1) (skip_whitespace mode x.1)) f e) [
        | inl g ↦ absurd (key_silent size mode (skip_whitespace mode bytes) f g reported)
        | inr g ↦
            let k : Mark × List ℕ = g.0.0 in
            let offset : ℕ = size - length g.0.1 in
            let colon : List ℕ = skip_whitespace mode g.0.1 in
            let key_read : padded_at mode (key_at size mode) bytes ≡ Ok (k, colon) = ap (λ (r : Parse (Mark × List ℕ)). r >>= λ (x : (Mark × List ℕ) × List ℕ). Ok (x.0, skip_whitespace mode x.1)) g.1 in
            elim (on_byte_cases 58 colon (λ (r : List ℕ). padded_at mode read r >>= λ (x : Source × List ℕ). found_at k offset x) (reject size expected_colon 0 colon) (Err f) g.2) [
              | inl t ↦ elim (bind_err (padded_at mode read t.0) (λ (x : Source × List ℕ). found_at k offset x) f t.2) [
                | inl v ↦ elim (bind_err (read (skip_whitespace mode t.0)) (λ (x : Source × List ℕ). Ok (x.0, skip_whitespace mode x.1)) f v) [
                  | inl w ↦
                      let s = padded_sound mode (IsKey mode) (key_at size mode) (key_sound size mode) bytes k colon key_read (omega (arith, ap length t.1)) in
                      record { left = s.core; key = k; rest = t.0; is_key = s.encodes; whole = s.whole ∙ ap (λ (u : List ℕ). s.core ++ u) t.1; fails = w }
                  | inr w ↦ absurd (let never : ◌≡◌ {A = Parse Source} (Ok (w.0.0, skip_whitespace mode w.0.1)) (Err f) = w.2 in cc)
                ]
                | inr v ↦ absurd (let never : found_at k offset v.0 ≡ Err f = v.2 in cc)
              ]
              | inr t ↦ absurd (silent_rejected {B = Found × List ℕ} size expected_colon 0 colon f t.1 (λ n. n) reported)
            ]
      ]

  -- the members have a key that comes twice
  repeat_rejected : (o : Option Spot) (fs : List Found) (bytes rest : List ℕ) (f : Fault) → length (123 ∷ bytes) ≤ size → first_repeat (map spot_of fs) ≡ o
      → joined_at size expected_object_comma_or_end 125 (member_at size mode read) (suc (length bytes)) bytes ≡ Ok (fs, rest) → object_or_fault o fs rest ≡ Err f → IsRejectedAt mode (suc depth) size (123 ∷ bytes) f
  repeat_rejected None fs bytes rest f h found j e = absurd (let never : ◌≡◌ {A = Parse Source} (Ok (object_source_of fs, rest)) (Err f) = e in cc)
  repeat_rejected (Some s) fs bytes rest f h found j e =
      let is : record { code = object_duplicate_key s.key; offset = s.offset } ≡ f = same_err {B = Source × List ℕ} (record { code = object_duplicate_key s.key; offset = s.offset }) f e in
      let l = members_laid mode size read sound (suc (length bytes)) bytes fs rest j in
      let within : length (l.0 ++ 125 ∷ rest) ≤ size = omega (arith, h, ap length l.2) in
      let r = laid_repeats mode size l.1 s found within in
      let some : 1 ≤ suc depth = omega arith in
      let after_key : s.offset ≡ size - length (123 ∷ bytes) + 1 + r.0 = omega (arith, r.2, h, ap length l.2) in
      subst (λ (g : Fault). IsRejectedAt mode (suc depth) size (123 ∷ bytes) g) is
      (stops_here mode (suc depth) size (123 ∷ bytes) (record { code = object_duplicate_key s.key; offset = s.offset }) (omega arith)
      (record { body = l.0; others = rest; whole = ap (λ (u : List ℕ). 123 ∷ u) l.2; some_left = some; length_upto = r.0; repeats = r.1; after_key = after_key }))

  object_rejected : (bytes : List ℕ) (f : Fault) → length (123 ∷ bytes) ≤ size → object_at size mode read bytes ≡ Err f → IsReported f.code → IsRejectedAt mode (suc depth) size (123 ∷ bytes) f
  object_rejected bytes f h e reported =
      elim (on_byte_cases 125 (skip_whitespace mode bytes) (λ (r : List ℕ). Ok (object_source no_source_members, r)) (members_at size mode read bytes) (Err f) e) [
        | inl g ↦ absurd (let never : ◌≡◌ {A = Parse Source} (Ok (object_source no_source_members, g.0)) (Err f) = g.2 in cc)
        | inr g ↦ elim (bind_err (joined_at size expected_object_comma_or_end 125 (member_at size mode read) (suc (length bytes)) (skip_whitespace mode bytes)) (λ (x : List Found × List ℕ). object_or_fault (first_repeat (map spot_of x.0)) x.0 x.1) f g.1) [
          | inl k ↦
              let again = sym (joined-skip size expected_object_comma_or_end 125 IsFound (member_at size mode read) mode member_skip (suc (length bytes)) bytes) ∙ k in
              let p = joined_rejected size expected_object_comma_or_end 125 IsFound (member_at size mode read) (member_sound mode (IsEncoding mode) read size sound) (λ n. n) (suc (length bytes)) bytes f again reported in
              let m = member_rejected p.rest f p.fails reported in
              let from_key : length p.rest ≤ size = rest_within size bytes p.passed p.rest (omega (arith, h)) p.whole in
              let from_colon : length (58 ∷ m.rest) ≤ size = rest_within size p.rest m.left (58 ∷ m.rest) from_key m.whole in
              let within : length m.rest ≤ size = omega (arith, from_colon) in
              stops_in_object mode depth size bytes p.passed p.rest m.left m.rest f (passed_seen member_of (IsMember mode (IsEncoding mode)) p.are_passed) p.whole m.is_key m.whole (value_rejected m.rest f within m.fails reported)
          | inr k ↦
              let again = sym (joined-skip size expected_object_comma_or_end 125 IsFound (member_at size mode read) mode member_skip (suc (length bytes)) bytes) ∙ k.1 in
              repeat_rejected (first_repeat (map spot_of k.0.0)) k.0.0 bytes k.0.1 f h refl again k.2
        ]
      ]
    where
      IsFound : List ℕ → Found → Type 0
      IsFound u g = IsMember mode (IsEncoding mode) u (member_of g)

      member_skip : (u : List ℕ) → member_at size mode read (skip_whitespace mode u) ≡ member_at size mode read u
      member_skip u = ap (λ (w : List ℕ). key_at size mode w >>= λ (x : (Mark × List ℕ) × List ℕ). after_key size mode read x.0 (size - length x.1) (skip_whitespace mode x.1)) (skip-skip mode u)

  pub containers_rejected : Explains mode (suc depth) size (value_with size mode (array_at size mode read) (object_at size mode read))
  containers_rejected bytes f h none e reported =
      elim (on_byte_cases 91 bytes (array_at size mode read) (on_byte 123 bytes (object_at size mode read) (alone_at (scalar_at size mode bytes))) (Err f) e) [
        | inl g ↦ subst (λ (u : List ℕ). IsRejectedAt mode (suc depth) size u f) (sym g.1) (array_rejected g.0 f (subst (λ (u : List ℕ). length u ≤ size) g.1 h) g.2 reported)
        | inr g ↦ elim (on_byte_cases 123 bytes (object_at size mode read) (alone_at (scalar_at size mode bytes)) (Err f) g.1) [
          | inl k ↦ subst (λ (u : List ℕ). IsRejectedAt mode (suc depth) size u f) (sym k.1) (object_rejected k.0 f (subst (λ (u : List ℕ). length u ≤ size) k.1 h) k.2 reported)
          | inr k ↦ no_value mode (suc depth) size bytes f (scalar_some size mode bytes f (alone_fault (scalar_at size mode bytes) f k.1) reported) none g.0 k.0 (scalar_rejected size mode bytes f (alone_fault (scalar_at size mode bytes) f k.1) reported)
        ]
      ]

-- ---- values of any depth

too_deep_rejected : (mode : Mode) (size b : ℕ) (rest : List ℕ) (f : Fault) → (b ≡ 91) ⊎ (b ≡ 123) → too_deep size rest ≡ Err f → IsRejectedAt mode 0 size (b ∷ rest) f
too_deep_rejected mode size b rest f opens e =
    let is : record { code = depth_limit_exceeded; offset = size - length rest } ≡ f = same_err {B = Source × List ℕ} (record { code = depth_limit_exceeded; offset = size - length rest }) f e in
    subst (λ (g : Fault). IsRejectedAt mode 0 size (b ∷ rest) g) is
    (stops_here mode 0 size (b ∷ rest) (record { code = depth_limit_exceeded; offset = size - length rest }) (omega arith) (record { byte = b; others = rest; whole = refl; at_byte = refl; opens = opens; none_left = refl }))

none_left_rejected : (size : ℕ) (mode : Mode) → Explains mode 0 size (value_with size mode (too_deep size) (too_deep size))
none_left_rejected size mode bytes f h none e reported =
    elim (on_byte_cases 91 bytes (too_deep size) (on_byte 123 bytes (too_deep size) (alone_at (scalar_at size mode bytes))) (Err f) e) [
      | inl g ↦ subst (λ (u : List ℕ). IsRejectedAt mode 0 size u f) (sym g.1) (too_deep_rejected mode size 91 g.0 f (inl refl) g.2)
      | inr g ↦ elim (on_byte_cases 123 bytes (too_deep size) (alone_at (scalar_at size mode bytes)) (Err f) g.1) [
        | inl k ↦ subst (λ (u : List ℕ). IsRejectedAt mode 0 size u f) (sym k.1) (too_deep_rejected mode size 123 k.0 f (inr refl) k.2)
        | inr k ↦ no_value mode 0 size bytes f (scalar_some size mode bytes f (alone_fault (scalar_at size mode bytes) f k.1) reported) none g.0 k.0 (scalar_rejected size mode bytes f (alone_fault (scalar_at size mode bytes) f k.1) reported)
      ]
    ]

encoding_sound : (size : ℕ) (mode : Mode) (depth : ℕ) → IsSound (Seen (IsEncoding mode)) (value_at size mode depth)
encoding_sound size mode depth bytes t rest e = let s = value_sound size mode depth bytes t rest e in record { core = s.core; encodes = (depth, s.encodes); whole = s.whole }

-- what a fault that is reported says of a value of any depth
pub value_explains : (size : ℕ) (mode : Mode) (depth : ℕ) → Explains mode depth size (value_at size mode depth)
unfolding value_at
value_explains size mode zero = none_left_rejected size mode
value_explains size mode (suc depth) = containers_rejected mode depth size (value_at size mode depth) (encoding_sound size mode depth) (value_explains size mode depth)
