-- From parsing the values in arrays and objects to parsing these, at any depth.
use Rattle.std.proofs.Common.{◌≡◌, ℕ, zero, suc, ◌+◌, ◌-◌, ◌≤◌, Bool, true, false, true≢false, ◌||◌, ◌⊎◌, inl, inr, List, [], ◌∷◌, ◌++◌, length, map, Option, Some, None, Result, Ok, refl, sym, ap, subst, subst₂, ◌∙◌, append_assoc, length-append, arith, eqb, eqb-true}
use Rattle.std.proofs.lemmas.Bool.{cond-false, cond-true}
use Rattle.jsonb_spec.specs.Grammar.Whitespace.{IsLastWhitespace, IsWhitespace}
use Rattle.jsonb_spec.specs.Code.Code.{expected_array_comma_or_end, expected_colon, expected_object_comma_or_end, invalid_eof, unexpected_trailing_characters}
use Rattle.jsonb_spec.specs.Grammar.{AreDistinct, Derives, IsDocument, IsElement, IsJoined, IsMember, IsPadded, IsValue, max_depth}
use Rattle.jsonb_spec.specs.Grammar.IsDocument.{whitespace_alone, value_alone}
use Rattle.jsonb_spec.specs.Grammar.IsElement.{empty_element, whole_element}
use Rattle.jsonb_spec.specs.Grammar.IsJoined.{more_parts, one_part}
use Rattle.jsonb_spec.specs.Grammar.IsMember.{key_and_value}
use Rattle.jsonb_spec.specs.Grammar.IsValue.{empty_array, empty_object, full_array, full_object, scalar}
use Rattle.jsonb_spec.specs.Mode.{Mode, Strictness, strict, lenient, strictness, IsLenient}
use Rattle.jsonb_spec.specs.Grammar.Scalar.{IsKey, IsScalar}
use Rattle.jsonb_spec.specs.Tree.{Mark, Member, Tree, put_all, trees_of}
use Rattle.jsonb_spec.specs.Tree.Members.{no_members}
use Rattle.jsonb_spec.specs.Tree.Tree.{array, object}
use Rattle.jsonb_spec.specs.Parsing.{Fault, Parse, begins, fault, on_byte, reject, ◌>>=◌}
use Rattle.jsonb_spec.specs.Parsing.Whitespace.{is_whitespace_start, is_break, opens_comment, skip_closed_whitespace, skip_whitespace}
use Rattle.jsonb_spec.specs.Parsing.Container.{after_key, array_at, element_at, elements_at, found_at, is_left_out, joined_at, member_at, members_at, object_at, object_or_fault, padded_at, value_or_null}
use Rattle.jsonb_spec.specs.Source.{Found, Source, Spot, array_source, array_source_of, first_repeat, found_member, member_of, no_source_members, no_sources, null_source, object_source, object_source_of, source_alone, spot_of, tree_of_source}
use Rattle.text_parse.proofs.Containers.Sources.{alone_tree, array_tree, object_tree}
use Rattle.jsonb_spec.specs.Parsing.Document.{alone_at, at_end, comment_at, document_of, source_from, source_of, nothing_at, too_deep, value_at, value_to_end, value_with}
use Rattle.jsonb_spec.specs.Parsing.Scalar.{key_at, scalar_at}
use Rattle.text_scan.proofs.Steps.Tests.{SameRead, bind_ok, chosen, rejected_fails, same_ok, same_read}
use Rattle.text_scan.proofs.Containers.JoinedParts.{IsOther, IsPartComplete, IsShown, IsSound, IsSoundBefore, SeenBy, Encoded, Starts, ends-whitespace, ends_at, joined-skip, joined_complete, joined_seen, joined_sound, length-joined, on_byte-none, on_byte-other, on_byte_cases, other, padded_complete, padded_seen, padded_sound, skip-padded}
use Rattle.text_common.proofs.Repeats.{distinct, no_repeat}
use Rattle.text_parse.proofs.Scalars.Encodings.{Follows, IsNumberTree, key_complete, key_sound, scalar_complete, scalar_sound, scalar_starts}
use Rattle.text_parse.proofs.Scalars.Encodings.Follows.{before}
use Rattle.text_scan.proofs.Text.Comments.{begins_found}
use Rattle.text_scan.proofs.Text.Whitespace.{Passes, ends_all, ends_line, passes, skip-whitespace, skip-skip, skip-stop, skips}
use Rattle.jsonb_core.proofs.Trees.MembersInOrder.{HaveDistinctKeys}

-- The bytes are an encoding of the source's tree.
abbrev pub Seen : (List ℕ → Tree → Type 0) → List ℕ → Source → Type 0
Seen Value = SeenBy tree_of_source Value

-- Each value is parsed, at the end of the text or where a byte follows that may follow.
pub record IsValueComplete (Value : List ℕ → Tree → Type 0) (read : List ℕ → Parse Source) : Type 0 where
  pub starts : (core : List ℕ) (t : Tree) → Value core t → Starts core
  pub parses : (core : List ℕ) (t : Tree) (rest : List ℕ) → Value core t → (IsNumberTree t → Follows rest) → (s : Source) × (tree_of_source s ≡ t) × (read (core ++ rest) ≡ Ok (s, rest))

-- ---- scalars

scalar_reads : (size : ℕ) (mode : Mode) (arrays objects : List ℕ → Parse Source) (core : List ℕ) (t : Tree) (rest : List ℕ) → IsScalar mode core t → (IsNumberTree t → Follows rest)
    → (s : Source) × (tree_of_source s ≡ t) × (value_with size mode arrays objects (core ++ rest) ≡ Ok (s, rest))
scalar_reads size mode arrays objects core t rest s f =
    let st = scalar_starts mode core t s in
    let opened : core ++ rest ≡ st.first ∷ (st.others ++ rest) = ap (λ (u : List ℕ). u ++ rest) st.whole in (
      source_alone t,
      alone_tree s,
      ap (λ (u : List ℕ). on_byte 91 u arrays (on_byte 123 u objects (alone_at (scalar_at size mode (core ++ rest))))) opened
          ∙ on_byte-other 91 st.first (st.others ++ rest) arrays (on_byte 123 (st.first ∷ (st.others ++ rest)) objects (alone_at (scalar_at size mode (core ++ rest)))) st.bracket
          ∙ on_byte-other 123 st.first (st.others ++ rest) objects (alone_at (scalar_at size mode (core ++ rest))) st.brace
          ∙ ap alone_at (scalar_complete size mode core t rest s f),
    )

pub alone_sound : (size : ℕ) (mode : Mode) → IsSound (Seen (IsScalar mode)) (λ bytes. alone_at (scalar_at size mode bytes))
alone_sound size mode bytes s rest e =
    let b = bind_ok (scalar_at size mode bytes) (λ (x : Tree × List ℕ). Ok (source_alone x.0, x.1)) (s, rest) e in
    let same = same_read (source_alone b.0.0) s b.0.1 rest b.2 in
    let r = scalar_sound size mode bytes b.0.0 b.0.1 b.1 in
    record {
      core = r.core;
      encodes = subst (λ (u : Tree). IsScalar mode r.core u) (sym (alone_tree r.encodes) ∙ ap tree_of_source same.value) r.encodes;
      whole = r.whole ∙ ap (λ (u : List ℕ). r.core ++ u) same.rest;
    }

-- ---- elements

left_out-none : (strictness : Strictness) (b : ℕ) (rest : List ℕ) → IsOther b → is_left_out strictness (b ∷ rest) ≡ false
left_out-none strict b rest o = refl
left_out-none lenient b rest o = if-false-or (eqb b 44) (eqb b 93) o.comma o.bracket
  where
    if-false-or : (x y : Bool) → x ≡ false → y ≡ false → (x || y) ≡ false
    if-false-or true y p q = p
    if-false-or false y p q = q

-- the bytes from the opening to the closing byte
close_up : (open_byte close : ℕ) (bytes body rest : List ℕ) → bytes ≡ body ++ close ∷ rest → open_byte ∷ bytes ≡ (open_byte ∷ (body ++ close ∷ [])) ++ rest
close_up open_byte close bytes body rest e = ap (λ (u : List ℕ). open_byte ∷ u) (e ∙ sym (append_assoc body (close ∷ []) rest))

pub same_keys : (fs : List Found) → map (λ s. s.key) (map spot_of fs) ≡ map (λ m. m.0) (map member_of fs)
same_keys [] = refl
same_keys (f ∷ fs) = ap (λ (ks : List (List ℕ)). f.key ∷ ks) (same_keys fs)

-- an object that was parsed has no repeat
pub object_of : (o : Option Spot) (fs : List Found) (r : List ℕ) (t : Source) (rest : List ℕ) → object_or_fault o fs r ≡ Ok (t, rest) → (o ≡ None) × SameRead (object_source_of fs) t r rest
object_of None fs r t rest e = (refl, same_read (object_source_of fs) t r rest e)
object_of (Some s) fs r t rest e = absurd cc

pub is_lenient_if : (strictness : Strictness) (bytes : List ℕ) → is_left_out strictness bytes ≡ true → strictness ≡ lenient
is_lenient_if strict bytes e = absurd cc
is_lenient_if lenient bytes e = refl

module _ (mode : Mode) (Value : List ℕ → Tree → Type 0) (read : List ℕ → Parse Source) where
  value_or_null-parses : (bytes : List ℕ) → Starts bytes → value_or_null (strictness mode) read bytes ≡ read bytes
  value_or_null-parses bytes s =
      cond-false (is_left_out (strictness mode) bytes) (Ok (null_source, bytes)) (read bytes)
      (ap (λ (u : List ℕ). is_left_out (strictness mode) u) s.whole ∙ left_out-none (strictness mode) s.first s.others (other s.first s.is_start))

  value_complete : IsValueComplete Value read → IsShown tree_of_source Value read
  value_complete c = record { starts = c.starts; parses = λ core t rest s e. c.parses core t rest s (λ n. before e) }

  value_or_null_complete : IsValueComplete Value read → IsShown tree_of_source Value (value_or_null (strictness mode) read)
  value_or_null_complete c =
      record {
        starts = c.starts;
        parses = λ core t rest s e.
            let st = c.starts core t s in
            let r = c.parses core t rest s (λ n. before e) in (
              r.0,
              r.1,
              value_or_null-parses (core ++ rest) (record { first = st.first; others = st.others ++ rest; whole = ap (λ (u : List ℕ). u ++ rest) st.whole; is_start = st.is_start }) ∙ r.2,
            );
      }

  element_reads : IsValueComplete Value read → (bytes : List ℕ) (t : Tree) (c : ℕ) (rest : List ℕ) → IsElement mode Value bytes t
      → (eqb c 44 || eqb c 93) ≡ true → is_break c ≡ true → is_whitespace_start c ≡ false → (s : Source) × (tree_of_source s ≡ t) × (element_at mode read (bytes ++ c ∷ rest) ≡ Ok (s, c ∷ rest))
  element_reads complete bytes t c rest (whole_element p) ends is_end is_none = padded_complete tree_of_source mode Value (value_or_null (strictness mode) read) (value_or_null_complete complete) bytes t c rest p is_end is_none
  element_reads complete bytes t c rest (empty_element is_lenient b) ends is_end is_none =
      let k : skip_whitespace mode (c ∷ rest) ≡ c ∷ rest = skip-stop mode c rest is_none in
      let left_out : is_left_out (strictness mode) (c ∷ rest) ≡ true = ap (λ (s : Strictness). is_left_out s (c ∷ rest)) is_lenient ∙ ends in (
        null_source,
        refl,
        ap (λ (u : List ℕ). value_or_null (strictness mode) read u >>= λ (x : Source × List ℕ). Ok (x.0, skip_whitespace mode x.1)) (skip-whitespace b (c ∷ rest) ∙ k)
            ∙ ap (λ (r : Parse Source). r >>= λ (x : Source × List ℕ). Ok (x.0, skip_whitespace mode x.1)) (cond-true (is_left_out (strictness mode) (c ∷ rest)) (Ok (null_source, c ∷ rest)) (read (c ∷ rest)) left_out)
            ∙ ap (λ (u : List ℕ). Ok (null_source, u)) k,
      )

  elements_complete : IsValueComplete Value read → IsPartComplete tree_of_source 93 (IsElement mode Value) (element_at mode read)
  elements_complete complete =
      record {
        comma = λ bytes t rest s. element_reads complete bytes t 44 rest s refl refl refl;
        last = λ bytes t rest s. element_reads complete bytes t 93 rest s refl refl refl;
        apart = refl;
      }

  pub element_sound : IsSound (Seen Value) read → IsSoundBefore (Seen (IsElement mode Value)) (element_at mode read)
  element_sound sound bytes t rest e left =
      let b = bind_ok (value_or_null (strictness mode) read (skip_whitespace mode bytes)) (λ (x : Source × List ℕ). Ok (x.0, skip_whitespace mode x.1)) (t, rest) e in
      elim (chosen (is_left_out (strictness mode) (skip_whitespace mode bytes)) (Ok (null_source, skip_whitespace mode bytes)) (read (skip_whitespace mode bytes)) (Ok b.0) b.1) [
        | inl h ↦
            let same = same_read null_source b.0.0 (skip_whitespace mode bytes) b.0.1 h.1 in
            let out = same_read b.0.0 t (skip_whitespace mode b.0.1) rest b.2 in
            let rest-is : skip_whitespace mode bytes ≡ rest = sym (skip-skip mode bytes) ∙ ap (λ (u : List ℕ). skip_whitespace mode u) same.rest ∙ out.rest in
            let front = skips mode bytes (omega (arith, left, ap length rest-is)) in
            record {
              core = front.whitespace;
              encodes = subst (λ (v : Source). Seen (IsElement mode Value) front.whitespace v) (same.value ∙ out.value) (empty_element (is_lenient_if (strictness mode) (skip_whitespace mode bytes) h.0) front.is_whitespace);
              whole = front.whole ∙ ap (λ (u : List ℕ). front.whitespace ++ u) rest-is;
            }
        | inr h ↦
            let again : padded_at mode read bytes ≡ Ok (t, rest) = ap (λ (r : Parse Source). r >>= λ (x : Source × List ℕ). Ok (x.0, skip_whitespace mode x.1)) h.1 ∙ b.2 in
            let s = padded_sound mode (Seen Value) read sound bytes t rest again left in
            record { core = s.core; encodes = whole_element (padded_seen tree_of_source Value s.encodes); whole = s.whole }
      ]

  -- ---- members

  member_reads : (size : ℕ) → IsValueComplete Value read → (bytes : List ℕ) (m : Member) (c : ℕ) (rest : List ℕ) → IsMember mode Value bytes m
      → is_break c ≡ true → is_whitespace_start c ≡ false → (f : Found) × (member_of f ≡ m) × (member_at size mode read (bytes ++ c ∷ rest) ≡ Ok (f, c ∷ rest))
  member_reads size complete bytes m c rest (key_and_value {left = left} {right = right} {key = k} {t = t} kp vp) is_end is_none =
      let colon : List ℕ = 58 ∷ (right ++ c ∷ rest) in
      let s = skip-padded mode (IsKey mode) (key_complete size mode).starts left k colon kp in
      let offset : ℕ = size - length (s.after ++ colon) in
      let key_read : key_at size mode (s.core ++ (s.after ++ colon)) ≡ Ok (k, s.after ++ colon) =
      (key_complete size mode).parses s.core k (s.after ++ colon) s.encodes (ends-whitespace s.is_whitespace colon (ends_at 58 (right ++ c ∷ rest) refl)) in
      let skipped : skip_whitespace mode (s.after ++ colon) ≡ colon = skip-whitespace s.is_whitespace colon ∙ skip-stop mode 58 (right ++ c ∷ rest) refl in
      let v = padded_complete tree_of_source mode Value read (value_complete complete) right t c rest vp is_end is_none in (
        found_member k v.0 offset,
        ap (λ (u : Tree). (k.1, u)) v.1,
        ap (λ (u : List ℕ). member_at size mode read u) (append_assoc left (58 ∷ right) (c ∷ rest))
            ∙ ap (λ (u : List ℕ). key_at size mode u >>= λ (x : (Mark × List ℕ) × List ℕ). after_key size mode read x.0 (size - length x.1) (skip_whitespace mode x.1)) s.skipped
            ∙ ap (λ (r : Parse (Mark × List ℕ)). r >>= λ (x : (Mark × List ℕ) × List ℕ). after_key size mode read x.0 (size - length x.1) (skip_whitespace mode x.1)) key_read
            ∙ ap (λ (u : List ℕ). after_key size mode read k offset u) skipped
            ∙ ap (λ (r : Parse Source). r >>= λ (x : Source × List ℕ). found_at k offset x) v.2,
      )

  members_complete : (size : ℕ) → IsValueComplete Value read → IsPartComplete member_of 125 (IsMember mode Value) (member_at size mode read)
  members_complete size complete =
      record {
        comma = λ bytes m rest s. member_reads size complete bytes m 44 rest s refl refl;
        last = λ bytes m rest s. member_reads size complete bytes m 125 rest s refl refl;
        apart = refl;
      }

  abbrev pub IsFound : List ℕ → Found → Type 0
  IsFound = SeenBy member_of (IsMember mode Value)

  pub member_sound : (size : ℕ) → IsSound (Seen Value) read → IsSoundBefore IsFound (member_at size mode read)
  member_sound size sound bytes f rest e left_over =
      let b = bind_ok (key_at size mode (skip_whitespace mode bytes)) (λ (x : (Mark × List ℕ) × List ℕ). after_key size mode read x.0 (size - length x.1) (skip_whitespace mode x.1)) (f, rest) e in
      let k : Mark × List ℕ = b.0.0 in
      let offset : ℕ = size - length b.0.1 in
      let colon : List ℕ = skip_whitespace mode b.0.1 in
      let key_read : padded_at mode (key_at size mode) bytes ≡ Ok (k, colon) = ap (λ (r : Parse (Mark × List ℕ)). r >>= λ (x : (Mark × List ℕ) × List ℕ). Ok (x.0, skip_whitespace mode x.1)) b.1 in
      elim (on_byte_cases 58 colon (λ (r : List ℕ). padded_at mode read r >>= λ (x : Source × List ℕ). found_at k offset x) (reject size expected_colon 0 colon) (Ok (f, rest)) b.2) [
        | inl t ↦
            let v = bind_ok (padded_at mode read t.0) (λ (x : Source × List ℕ). found_at k offset x) (f, rest) t.2 in
            let left = padded_sound mode (IsKey mode) (key_at size mode) (key_sound size mode) bytes k colon key_read (omega (arith, ap length t.1)) in
            let same = same_read (found_member k v.0.0 offset) f v.0.1 rest v.2 in
            let right = padded_sound mode (Seen Value) read sound t.0 v.0.0 v.0.1 v.1 (omega (arith, left_over, ap length same.rest)) in
            record {
              core = left.core ++ 58 ∷ right.core;
              encodes = subst (λ (g : Found). IsFound (left.core ++ 58 ∷ right.core) g) same.value (key_and_value left.encodes (padded_seen tree_of_source Value right.encodes));
              whole =
                  left.whole ∙ ap (λ (u : List ℕ). left.core ++ u) (t.1 ∙ ap (λ (u : List ℕ). 58 ∷ u) (right.whole ∙ ap (λ (u : List ℕ). right.core ++ u) same.rest))
                  ∙ sym (append_assoc left.core (58 ∷ right.core) rest);
            }
        | inr g ↦ absurd (rejected_fails size expected_colon 0 colon (f, rest) g.1)
      ]

  -- ---- how arrays and objects that are not empty begin

  begins-padded : {A : Type 0} (Encodes : List ℕ → A → Type 0) → ((core : List ℕ) (a : A) → Encodes core a → Starts core) → (bytes : List ℕ) (a : A) (rest : List ℕ) (c : ℕ) → IsPadded mode Encodes bytes a
      → ((b : ℕ) → IsOther b → eqb b c ≡ false) → begins c (skip_whitespace mode (bytes ++ rest)) ≡ false
  begins-padded Encodes starts bytes a rest c p apart =
      let s = skip-padded mode Encodes starts bytes a rest p in
      let st = starts s.core a s.encodes in
      ap (λ (u : List ℕ). begins c u) (s.skipped ∙ ap (λ (u : List ℕ). u ++ (s.after ++ rest)) st.whole)
      ∙ cond-false (eqb st.first c) true false (apart st.first (other st.first st.is_start))

  element_begins : IsValueComplete Value read → (bytes : List ℕ) (t : Tree) (rest : List ℕ) → IsElement mode Value bytes t → (begins 93 (skip_whitespace mode (bytes ++ rest)) ≡ false) ⊎ IsWhitespace mode bytes
  element_begins complete bytes t rest (whole_element p) = inl (begins-padded Value complete.starts bytes t rest 93 p (λ b o. o.bracket))
  element_begins complete bytes t rest (empty_element is_extended b) = inr b

  elements_begin : IsValueComplete Value read → {body : List ℕ} {ts : List Tree} (j : IsJoined (IsElement mode Value) body ts) (rest : List ℕ) → (IsWhitespace mode body → ⊥) → begins 93 (skip_whitespace mode (body ++ 93 ∷ rest)) ≡ false
  elements_begin complete (one_part {bytes = bytes} {a = t} s) rest not_piece =
      elim (element_begins complete bytes t (93 ∷ rest) s) [ inl h ↦ h | inr b ↦ absurd (not_piece b) ]
  elements_begin complete (more_parts {first = first} {rest = others} {a = t} s j) rest not_piece =
      ap (λ (u : List ℕ). begins 93 (skip_whitespace mode u)) (append_assoc first (44 ∷ others) (93 ∷ rest))
      ∙ elim (element_begins complete first t (44 ∷ (others ++ 93 ∷ rest)) s) [
        | inl h ↦ h
        | inr b ↦ ap (λ (u : List ℕ). begins 93 u) (skip-whitespace b (44 ∷ (others ++ 93 ∷ rest)) ∙ skip-stop mode 44 (others ++ 93 ∷ rest) refl)
      ]

  member_begins : (bytes : List ℕ) (m : Member) (rest : List ℕ) → IsMember mode Value bytes m → begins 125 (skip_whitespace mode (bytes ++ rest)) ≡ false
  member_begins bytes m rest (key_and_value {left = left} {right = right} {key = k} kp vp) =
      ap (λ (u : List ℕ). begins 125 (skip_whitespace mode u)) (append_assoc left (58 ∷ right) rest)
      ∙ begins-padded (IsKey mode) (key_complete 0 mode).starts left k (58 ∷ (right ++ rest)) 125 kp (λ b o. o.brace)

  members_begin : {body : List ℕ} {ms : List Member} (j : IsJoined (IsMember mode Value) body ms) (rest : List ℕ) → begins 125 (skip_whitespace mode (body ++ rest)) ≡ false
  members_begin (one_part {bytes = bytes} {a = m} s) rest = member_begins bytes m rest s
  members_begin (more_parts {first = first} {rest = others} {a = m} s j) rest =
      ap (λ (u : List ℕ). begins 125 (skip_whitespace mode u)) (append_assoc first (44 ∷ others) rest) ∙ member_begins first m (44 ∷ (others ++ rest)) s

  -- ---- arrays

  array_sound : (size : ℕ) → IsSound (Seen Value) read → (bytes : List ℕ) (t : Source) (rest : List ℕ) → array_at size mode read bytes ≡ Ok (t, rest) → Encoded (Seen (IsValue mode Value)) (91 ∷ bytes) t rest
  array_sound size sound bytes t rest e =
      elim (on_byte_cases 93 (skip_whitespace mode bytes) (λ (r : List ℕ). Ok (array_source no_sources, r)) (elements_at size mode read bytes) (Ok (t, rest)) e) [
        | inl h ↦
            let front = skips mode bytes (omega (arith, ap length h.1)) in
            let same = same_read (array_source no_sources) t h.0 rest h.2 in
            record {
              core = 91 ∷ (front.whitespace ++ 93 ∷ []);
              encodes = subst (λ (v : Source). Seen (IsValue mode Value) (91 ∷ (front.whitespace ++ 93 ∷ [])) v) same.value (empty_array front.is_whitespace);
              whole = close_up 91 93 bytes front.whitespace rest (front.whole ∙ ap (λ (u : List ℕ). front.whitespace ++ u) (h.1 ∙ ap (λ (u : List ℕ). 93 ∷ u) same.rest));
            }
        | inr h ↦
            let b = bind_ok (joined_at size expected_array_comma_or_end 93 (element_at mode read) (suc (length bytes)) (skip_whitespace mode bytes)) (λ (x : List Source × List ℕ). Ok (array_source_of x.0, x.1)) (t, rest) h.1 in
            let again = sym (joined-skip size expected_array_comma_or_end 93 (Seen (IsElement mode Value)) (element_at mode read) mode (λ u. ap (λ (w : List ℕ). value_or_null (strictness mode) read w >>= λ (x : Source × List ℕ). Ok (x.0, skip_whitespace mode x.1)) (skip-skip mode u)) (suc (length bytes)) bytes) ∙ b.1 in
            let j = joined_sound size expected_array_comma_or_end 93 (Seen (IsElement mode Value)) (element_at mode read) (element_sound sound) (suc (length bytes)) bytes b.0.0 b.0.1 again in
            let same = same_read (array_source_of b.0.0) t b.0.1 rest b.2 in
            let whole : bytes ≡ j.0 ++ 93 ∷ rest = j.2 ∙ ap (λ (u : List ℕ). j.0 ++ 93 ∷ u) same.rest in
            let not_piece : IsWhitespace mode j.0 → ⊥ = λ k.
            let found : begins 93 (skip_whitespace mode bytes) ≡ true = ap (λ (u : List ℕ). begins 93 (skip_whitespace mode u)) whole ∙ ap (λ (u : List ℕ). begins 93 u) (skip-whitespace k (93 ∷ rest) ∙ skip-stop mode 93 rest refl) in
            true≢false (sym found ∙ h.0) in
            record {
              core = 91 ∷ (j.0 ++ 93 ∷ []);
              encodes = subst (λ (v : Source). Seen (IsValue mode Value) (91 ∷ (j.0 ++ 93 ∷ [])) v) same.value (subst (λ (v : Tree). IsValue mode Value (91 ∷ (j.0 ++ 93 ∷ [])) v) (sym (array_tree b.0.0)) (full_array (joined_seen tree_of_source (IsElement mode Value) j.1) not_piece));
              whole = close_up 91 93 bytes j.0 rest whole;
            }
      ]

  array_complete : (size : ℕ) → IsValueComplete Value read → (body : List ℕ) (ts : List Tree) (rest : List ℕ) → IsJoined (IsElement mode Value) body ts → (IsWhitespace mode body → ⊥)
      → (s : Source) × (tree_of_source s ≡ array (trees_of ts)) × (array_at size mode read (body ++ 93 ∷ rest) ≡ Ok (s, rest))
  array_complete size complete body ts rest j not_piece =
      let bytes : List ℕ = body ++ 93 ∷ rest in
      let enough : length ts ≤ suc (length bytes) = omega (arith, length-joined j, length-append body (93 ∷ rest)) in
      let c = joined_complete tree_of_source size expected_array_comma_or_end 93 (IsElement mode Value) (element_at mode read) (elements_complete complete) j (suc (length bytes)) rest enough in (
        array_source_of c.0,
        array_tree c.0 ∙ ap (λ (us : List Tree). array (trees_of us)) c.1,
        on_byte-none 93 (skip_whitespace mode bytes) (λ (r : List ℕ). Ok (array_source no_sources, r)) (elements_at size mode read bytes) (elements_begin complete j rest not_piece)
            ∙ ap (λ (r : Parse (List Source)). r >>= λ (x : List Source × List ℕ). Ok (array_source_of x.0, x.1))
            (joined-skip size expected_array_comma_or_end 93 (Seen (IsElement mode Value)) (element_at mode read) mode (λ u. ap (λ (w : List ℕ). value_or_null (strictness mode) read w >>= λ (x : Source × List ℕ). Ok (x.0, skip_whitespace mode x.1)) (skip-skip mode u)) (suc (length bytes)) bytes ∙ c.2),
      )

  empty_array_complete : (size : ℕ) {before : List ℕ} (b : IsWhitespace mode before) (rest : List ℕ) → array_at size mode read (before ++ 93 ∷ rest) ≡ Ok (array_source no_sources, rest)
  empty_array_complete size {before} b rest =
      ap (λ (u : List ℕ). on_byte 93 u (λ (r : List ℕ). Ok (array_source no_sources, r)) (elements_at size mode read (before ++ 93 ∷ rest))) (skip-whitespace b (93 ∷ rest) ∙ skip-stop mode 93 rest refl)

  -- ---- objects

  pub member_skip : (size : ℕ) (u : List ℕ) → member_at size mode read (skip_whitespace mode u) ≡ member_at size mode read u
  member_skip size u = ap (λ (w : List ℕ). key_at size mode w >>= λ (x : (Mark × List ℕ) × List ℕ). after_key size mode read x.0 (size - length x.1) (skip_whitespace mode x.1)) (skip-skip mode u)

  object_sound : (size : ℕ) → IsSound (Seen Value) read → (bytes : List ℕ) (t : Source) (rest : List ℕ) → object_at size mode read bytes ≡ Ok (t, rest) → Encoded (Seen (IsValue mode Value)) (123 ∷ bytes) t rest
  object_sound size sound bytes t rest e =
      elim (on_byte_cases 125 (skip_whitespace mode bytes) (λ (r : List ℕ). Ok (object_source no_source_members, r)) (members_at size mode read bytes) (Ok (t, rest)) e) [
        | inl h ↦
            let front = skips mode bytes (omega (arith, ap length h.1)) in
            let same = same_read (object_source no_source_members) t h.0 rest h.2 in
            record {
              core = 123 ∷ (front.whitespace ++ 125 ∷ []);
              encodes = subst (λ (v : Source). Seen (IsValue mode Value) (123 ∷ (front.whitespace ++ 125 ∷ [])) v) same.value (empty_object front.is_whitespace);
              whole = close_up 123 125 bytes front.whitespace rest (front.whole ∙ ap (λ (u : List ℕ). front.whitespace ++ u) (h.1 ∙ ap (λ (u : List ℕ). 125 ∷ u) same.rest));
            }
        | inr h ↦
            let b = bind_ok (joined_at size expected_object_comma_or_end 125 (member_at size mode read) (suc (length bytes)) (skip_whitespace mode bytes)) (λ (x : List Found × List ℕ). object_or_fault (first_repeat (map spot_of x.0)) x.0 x.1) (t, rest) h.1 in
            let again = sym (joined-skip size expected_object_comma_or_end 125 IsFound (member_at size mode read) mode (member_skip size) (suc (length bytes)) bytes) ∙ b.1 in
            let j = joined_sound size expected_object_comma_or_end 125 IsFound (member_at size mode read) (member_sound size sound) (suc (length bytes)) bytes b.0.0 b.0.1 again in
            let o = object_of (first_repeat (map spot_of b.0.0)) b.0.0 b.0.1 t rest b.2 in
            let whole : bytes ≡ j.0 ++ 125 ∷ rest = j.2 ∙ ap (λ (u : List ℕ). j.0 ++ 125 ∷ u) o.1.rest in
            let keys : HaveDistinctKeys (map member_of b.0.0) = subst AreDistinct (same_keys b.0.0) (distinct (map spot_of b.0.0) o.0) in
            record {
              core = 123 ∷ (j.0 ++ 125 ∷ []);
              encodes = subst (λ (v : Source). Seen (IsValue mode Value) (123 ∷ (j.0 ++ 125 ∷ [])) v) o.1.value (subst (λ (v : Tree). IsValue mode Value (123 ∷ (j.0 ++ 125 ∷ [])) v) (sym (object_tree b.0.0 keys)) (full_object (joined_seen member_of (IsMember mode Value) j.1) keys));
              whole = close_up 123 125 bytes j.0 rest whole;
            }
      ]

  object_complete : (size : ℕ) → IsValueComplete Value read → (body : List ℕ) (ms : List Member) (rest : List ℕ) → IsJoined (IsMember mode Value) body ms → HaveDistinctKeys ms
      → (s : Source) × (tree_of_source s ≡ object (put_all ms no_members)) × (object_at size mode read (body ++ 125 ∷ rest) ≡ Ok (s, rest))
  object_complete size complete body ms rest j keys =
      let bytes : List ℕ = body ++ 125 ∷ rest in
      let enough : length ms ≤ suc (length bytes) = omega (arith, length-joined j, length-append body (125 ∷ rest)) in
      let c = joined_complete member_of size expected_object_comma_or_end 125 (IsMember mode Value) (member_at size mode read) (members_complete size complete) j (suc (length bytes)) rest enough in
      let found_distinct : HaveDistinctKeys (map member_of c.0) = subst HaveDistinctKeys (sym c.1) keys in
      let spots_distinct : AreDistinct (map (λ s. s.key) (map spot_of c.0)) = subst AreDistinct (sym (same_keys c.0)) found_distinct in (
        object_source_of c.0,
        object_tree c.0 found_distinct ∙ ap (λ (ns : List Member). object (put_all ns no_members)) c.1,
        on_byte-none 125 (skip_whitespace mode bytes) (λ (r : List ℕ). Ok (object_source no_source_members, r)) (members_at size mode read bytes) (members_begin j (125 ∷ rest))
            ∙ ap (λ (r : Parse (List Found)). r >>= λ (x : List Found × List ℕ). object_or_fault (first_repeat (map spot_of x.0)) x.0 x.1)
            (joined-skip size expected_object_comma_or_end 125 IsFound (member_at size mode read) mode (member_skip size) (suc (length bytes)) bytes ∙ c.2)
            ∙ ap (λ (o : Option Spot). object_or_fault o c.0 rest) (no_repeat (map spot_of c.0) spots_distinct),
      )

  empty_object_complete : (size : ℕ) {before : List ℕ} (b : IsWhitespace mode before) (rest : List ℕ) → object_at size mode read (before ++ 125 ∷ rest) ≡ Ok (object_source no_source_members, rest)
  empty_object_complete size {before} b rest =
      ap (λ (u : List ℕ). on_byte 125 u (λ (r : List ℕ). Ok (object_source no_source_members, r)) (members_at size mode read (before ++ 125 ∷ rest))) (skip-whitespace b (125 ∷ rest) ∙ skip-stop mode 125 rest refl)

  -- ---- values

  pub containers_sound : (size : ℕ) → IsSound (Seen Value) read → IsSound (Seen (IsValue mode Value)) (value_with size mode (array_at size mode read) (object_at size mode read))
  containers_sound size sound bytes t rest e =
      elim (on_byte_cases 91 bytes (array_at size mode read) (on_byte 123 bytes (object_at size mode read) (alone_at (scalar_at size mode bytes))) (Ok (t, rest)) e) [
        | inl h ↦ subst (λ (u : List ℕ). Encoded (Seen (IsValue mode Value)) u t rest) (sym h.1) (array_sound size sound h.0 t rest h.2)
        | inr h ↦ elim (on_byte_cases 123 bytes (object_at size mode read) (alone_at (scalar_at size mode bytes)) (Ok (t, rest)) h.1) [
          | inl k ↦ subst (λ (u : List ℕ). Encoded (Seen (IsValue mode Value)) u t rest) (sym k.1) (object_sound size sound k.0 t rest k.2)
          | inr k ↦ let s = alone_sound size mode bytes t rest k.1 in record { core = s.core; encodes = scalar s.encodes; whole = s.whole }
        ]
      ]

  value_starts : (core : List ℕ) (t : Tree) → IsValue mode Value core t → Starts core
  value_starts core t (scalar s) = let st = scalar_starts mode core t s in record { first = st.first; others = st.others; whole = st.whole; is_start = st.is_start }
  value_starts core t (empty_array {whitespace = bs} b) = record { first = 91; others = bs ++ 93 ∷ []; whole = refl; is_start = refl }
  value_starts core t (full_array {body = body} j n) = record { first = 91; others = body ++ 93 ∷ []; whole = refl; is_start = refl }
  value_starts core t (empty_object {whitespace = bs} b) = record { first = 123; others = bs ++ 125 ∷ []; whole = refl; is_start = refl }
  value_starts core t (full_object {body = body} j d) = record { first = 123; others = body ++ 125 ∷ []; whole = refl; is_start = refl }

  value_reads : (size : ℕ) → IsValueComplete Value read → (core : List ℕ) (t : Tree) (rest : List ℕ) → IsValue mode Value core t → (IsNumberTree t → Follows rest)
      → (s : Source) × (tree_of_source s ≡ t) × (value_with size mode (array_at size mode read) (object_at size mode read) (core ++ rest) ≡ Ok (s, rest))
  value_reads size complete core t rest (scalar s) f = scalar_reads size mode (array_at size mode read) (object_at size mode read) core t rest s f
  value_reads size complete core t rest (empty_array {whitespace = bs} b) f = (array_source no_sources, refl, ap (λ (u : List ℕ). array_at size mode read u) (append_assoc bs (93 ∷ []) rest) ∙ empty_array_complete size b rest)
  value_reads size complete core t rest (full_array {body = body} {ts = ts} j n) f =
      let r = array_complete size complete body ts rest j n in (r.0, r.1, ap (λ (u : List ℕ). array_at size mode read u) (append_assoc body (93 ∷ []) rest) ∙ r.2)
  value_reads size complete core t rest (empty_object {whitespace = bs} b) f = (object_source no_source_members, refl, ap (λ (u : List ℕ). object_at size mode read u) (append_assoc bs (125 ∷ []) rest) ∙ empty_object_complete size b rest)
  value_reads size complete core t rest (full_object {body = body} {ms = ms} j d) f =
      let r = object_complete size complete body ms rest j d in (r.0, r.1, ap (λ (u : List ℕ). object_at size mode read u) (append_assoc body (125 ∷ []) rest) ∙ r.2)

  pub containers_complete : (size : ℕ) → IsValueComplete Value read → IsValueComplete (IsValue mode Value) (value_with size mode (array_at size mode read) (object_at size mode read))
  containers_complete size complete = record { starts = value_starts; parses = value_reads size complete }

-- ---- values of any depth

too_deep_sound : (size : ℕ) (mode : Mode) → IsSound (Seen (IsScalar mode)) (value_with size mode (too_deep size) (too_deep size))
too_deep_sound size mode bytes t rest e =
    elim (on_byte_cases 91 bytes (too_deep size) (on_byte 123 bytes (too_deep size) (alone_at (scalar_at size mode bytes))) (Ok (t, rest)) e) [
      | inl h ↦ absurd (let never : too_deep size h.0 ≡ Ok (t, rest) = h.2 in cc)
      | inr h ↦ elim (on_byte_cases 123 bytes (too_deep size) (alone_at (scalar_at size mode bytes)) (Ok (t, rest)) h.1) [
        | inl k ↦ absurd (let never : too_deep size k.0 ≡ Ok (t, rest) = k.2 in cc)
        | inr k ↦ alone_sound size mode bytes t rest k.1
      ]
    ]

pub value_sound : (size : ℕ) (mode : Mode) (depth : ℕ) → IsSound (Seen (Derives mode depth)) (value_at size mode depth)
unfolding value_at
value_sound size mode zero = too_deep_sound size mode
value_sound size mode (suc depth) = containers_sound mode (Derives mode depth) (value_at size mode depth) size (value_sound size mode depth)

pub value_is_complete : (size : ℕ) (mode : Mode) (depth : ℕ) → IsValueComplete (Derives mode depth) (value_at size mode depth)
unfolding value_at
value_is_complete size mode zero =
    record {
      starts = λ core t s. let st = scalar_starts mode core t s in record { first = st.first; others = st.others; whole = st.whole; is_start = st.is_start };
      parses = λ core t rest s f. scalar_reads size mode (too_deep size) (too_deep size) core t rest s f;
    }
value_is_complete size mode (suc depth) = containers_complete mode (Derives mode depth) (value_at size mode depth) size (value_is_complete size mode depth)

-- ---- whole texts

-- where a comment begins
opens_is : (strictness : Strictness) (b : ℕ) (rest : List ℕ) → opens_comment strictness (b ∷ rest) ≡ true → (strictness ≡ lenient) × (b ≡ 47)
opens_is strict b rest e = absurd (true≢false (sym e))
opens_is lenient b rest e =
    elim (chosen (eqb b 47) (begins 42 rest || begins 47 rest) false true e) [
      | inl t ↦ (refl, eqb-true b 47 t.0)
      | inr f ↦ absurd (true≢false (sym f.1))
    ]

-- a comment that ends a text is a line
pub comment_ends : (mode : Mode) (size : ℕ) (bytes : List ℕ) (b : ℕ) (rest : List ℕ) (t u : Source) → skip_closed_whitespace mode bytes ≡ b ∷ rest → opens_comment (strictness mode) (b ∷ rest) ≡ true → comment_at size t rest ≡ Ok u → IsLenient mode × IsLastWhitespace mode bytes × (t ≡ u)
comment_ends mode size bytes b rest t u passed opens e =
    let is = opens_is (strictness mode) b rest opens in
    elim (chosen (begins 47 rest) (Ok t) (fault invalid_eof size) (Ok u) e) [
      | inl h ↦
          let line = begins_found rest h.0 in
          let left : skip_closed_whitespace mode bytes ≡ 47 ∷ 47 ∷ line.0 = passed ∙ ap (λ (c : ℕ). c ∷ rest) is.1 ∙ ap (λ (v : List ℕ). 47 ∷ v) line.1 in
          (is.0, ends_line mode bytes line.0 is.0 left, same_ok t u h.1)
      | inr h ↦ absurd (let never : ◌≡◌ {A = Result Source Fault} (fault invalid_eof size) (Ok u) = h.1 in cc)
    ]

pub ended : (size : ℕ) (mode : Mode) (t : Source) (bytes rest : List ℕ) (u : Source) → skip_closed_whitespace mode bytes ≡ rest → at_end size mode t rest ≡ Ok u → IsLastWhitespace mode bytes × (t ≡ u)
ended size mode t bytes [] u passed e = (ends_all mode bytes passed, same_ok t u e)
ended size mode t bytes (b ∷ rest) u passed e =
    elim (chosen (opens_comment (strictness mode) (b ∷ rest)) (comment_at size t rest) (fault unexpected_trailing_characters (size - length (b ∷ rest) + 1)) (Ok u) e) [
      | inl h ↦ let c = comment_ends mode size bytes b rest t u passed h.0 h.1 in (c.1, c.2)
      | inr h ↦ absurd (let never : ◌≡◌ {A = Result Source Fault} (fault unexpected_trailing_characters (size - length (b ∷ rest) + 1)) (Ok u) = h.1 in cc)
    ]

-- where whitespace alone is a text, it means null
nothing_is : (strictness : Strictness) (size : ℕ) (s : Source) → nothing_at size strictness ≡ Ok s → (strictness ≡ lenient) × (null_source ≡ s)
nothing_is strict size s e = absurd cc
nothing_is lenient size s e = (refl, same_ok null_source s e)

nothing_read : (mode : Mode) (bytes : List ℕ) (s : Source) (size : ℕ) → IsLastWhitespace mode bytes → nothing_at size (strictness mode) ≡ Ok s → Seen (IsDocument mode) bytes s
nothing_read mode bytes s size b e = let is = nothing_is (strictness mode) size s e in subst (λ (u : Source). Seen (IsDocument mode) bytes u) is.1 (whitespace_alone is.0 b)

source_sound : (mode : Mode) (bytes : List ℕ) (s : Source) → source_of mode bytes ≡ Ok s → Seen (IsDocument mode) bytes s
unfolding source_of
source_sound mode bytes t e = go (skip_closed_whitespace mode bytes) refl e
  where
    value_read : (b : ℕ) (rest : List ℕ) → Passes mode bytes (b ∷ rest) → value_to_end (length bytes) mode (b ∷ rest) ≡ Ok t → Seen (IsDocument mode) bytes t
    value_read b rest front e =
        let r = bind_ok (value_at (length bytes) mode max_depth (b ∷ rest)) (λ (x : Source × List ℕ). at_end (length bytes) mode x.0 (skip_closed_whitespace mode x.1)) t e in
        let s = value_sound (length bytes) mode max_depth (b ∷ rest) r.0.0 r.0.1 r.1 in
        let end = ended (length bytes) mode r.0.0 r.0.1 (skip_closed_whitespace mode r.0.1) t refl r.2 in
        let regrouped : front.whitespace ++ (s.core ++ r.0.1) ≡ bytes = sym (front.whole ∙ ap (λ (u : List ℕ). front.whitespace ++ u) s.whole) in
        subst₂ (λ (u : List ℕ) (v : Source). Seen (IsDocument mode) u v) regrouped end.1 (value_alone front.is_whitespace s.encodes end.0)

    go : (rest : List ℕ) → skip_closed_whitespace mode bytes ≡ rest → source_from (length bytes) mode rest ≡ Ok t → Seen (IsDocument mode) bytes t
    go [] passed e = nothing_read mode bytes t (length bytes) (ends_all mode bytes passed) e
    go (b ∷ rest) passed e =
        elim (chosen (opens_comment (strictness mode) (b ∷ rest)) (comment_at (length bytes) null_source rest) (value_to_end (length bytes) mode (b ∷ rest)) (Ok t) e) [
          | inl h ↦ let c = comment_ends mode (length bytes) bytes b rest null_source t passed h.0 h.1 in subst (λ (u : Source). Seen (IsDocument mode) bytes u) c.2 (whitespace_alone c.0 c.1)
          | inr h ↦ value_read b rest (subst (λ (u : List ℕ). Passes mode bytes u) passed (passes mode bytes)) h.1
        ]

pub document_sound : (mode : Mode) (bytes : List ℕ) (t : Tree) → document_of mode bytes ≡ Ok t → IsDocument mode bytes t
unfolding document_of
document_sound mode bytes t e =
    let b = bind_ok (source_of mode bytes) (λ (s : Source). Ok (tree_of_source s)) t e in
    subst (λ (u : Tree). IsDocument mode bytes u) (same_ok (tree_of_source b.0) t b.2) (source_sound mode bytes b.0 b.1)
