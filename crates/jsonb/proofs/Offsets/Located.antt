-- What parsing gives is in the text where it was parsed.
use Rattle.std.proofs.Common.{◌≡◌, true≢false, inl, inr, ℕ, zero, suc, ◌+◌, ◌-◌, ◌<◌, true, List, [], ◌∷◌, ◌++◌, length, drop, map, None, Ok, nat_cmp, refl, sym, ap, subst, subst₂, ◌∙◌, append-nil, append_assoc, arith, length-append}
use Rattle.std.proofs.Math.Seq.{drop-append_seam}
use Rattle.std.specs.Cmp.Lexicographic.{slice_cmp}
use Rattle.jsonb_spec.specs.Code.{Code}
use Rattle.jsonb_spec.specs.Code.Code.{expected_array_comma_or_end, expected_colon, expected_object_comma_or_end}
use Rattle.jsonb_spec.specs.Grammar.{Derives, IsElement, max_depth}
use Rattle.jsonb_spec.specs.Grammar.Whitespace.{IsLastWhitespace}
use Rattle.jsonb_spec.specs.Mode.{Mode, Strictness, strict, lenient, strictness}
use Rattle.jsonb_spec.specs.Grammar.Scalar.{IsKey}
use Rattle.jsonb_spec.specs.Tree.{Mark, Tree}
use Rattle.jsonb_spec.specs.Located.{AreElementsAt, AreMembersAt, Has, HasWhitespace, HasByte, IsElementAt, IsMemberAt, IsLocated, IsValueAt, SourceKeysAscend}
use Rattle.jsonb_spec.specs.Located.AreElementsAt.{more_elements, one_element}
use Rattle.jsonb_spec.specs.Located.AreMembersAt.{more_members, one_member}
use Rattle.jsonb_spec.specs.Located.IsElementAt.{empty_element, whole_element}
use Rattle.jsonb_spec.specs.Located.IsMemberAt.{key_and_value}
use Rattle.jsonb_spec.specs.Located.IsLocated.{whitespace_alone, value_alone}
use Rattle.jsonb_spec.specs.Located.IsValueAt.{empty_array, empty_object, full_array, full_object, scalar}
use Rattle.jsonb_spec.specs.Parsing.{Parse, begins, on_byte, reject, ◌>>=◌}
use Rattle.jsonb_spec.specs.Parsing.Whitespace.{opens_comment, skip_whitespace, skip_closed_whitespace}
use Rattle.jsonb_spec.specs.Parsing.Container.{after_key, after_part, array_at, element_at, elements_at, found_at, is_left_out, joined_at, member_at, members_at, object_at, object_or_fault, padded_at, value_or_null}
use Rattle.jsonb_spec.specs.Parsing.Document.{alone_at, at_end, comment_at, nothing_at, source_from, source_of, too_deep, value_at, value_to_end}
use Rattle.jsonb_spec.specs.Parsing.Scalar.{key_at, scalar_at}
use Rattle.jsonb_spec.specs.Source.{Found, Source, adjacent_repeat, array_source, array_source_of, first_repeat, found_member, no_source_members, no_sources, null_source, object_source, sort_by, source_alone, source_members_of, spot_of}
use Rattle.text_scan.proofs.Containers.JoinedParts.{IsSound, IsSoundBefore, joined-skip, joined_sound, on_byte_cases}
use Rattle.text_scan.proofs.Steps.Tests.{bind_ok, chosen, rejected_fails, same_ok, same_read}
use Rattle.text_scan.proofs.Text.Whitespace.{ends_all, passes, skip-whitespace, skip-skip, skip-stop, skips}
use Rattle.text_common.proofs.Repeats.{AreSorted, apart, below, sorted-sort}
use Rattle.text_common.proofs.Shuffles.{permutes, sort-shuffles, spots-sort}
use Rattle.text_parse.proofs.Containers.Values.{IsFound, Seen, comment_ends, element_sound, ended, is_lenient_if, member_skip, member_sound, object_of, value_sound}
use Rattle.text_parse.proofs.Scalars.Encodings.{key_sound, scalar_sound}

-- ---- keys in strictly ascending order

keys_rise : (fs : List Found) → AreSorted (map spot_of fs) → adjacent_repeat (map spot_of fs) ≡ None → SourceKeysAscend (source_members_of fs)
keys_rise [] up e = tt
keys_rise (f ∷ []) up e = tt
keys_rise (f ∷ g ∷ fs) up e =
    let none = apart (spot_of f) (spot_of g) (map spot_of fs) e in
    (below (slice_cmp nat_cmp f.key g.key) (nat_cmp f.offset g.offset) up.0.0 none.0, keys_rise (g ∷ fs) up.1 none.1)

sorted_rise : (fs : List Found) → first_repeat (map spot_of fs) ≡ None → SourceKeysAscend (source_members_of (sort_by spot_of fs))
unfolding first_repeat
sorted_rise fs e =
    let same = sym (spots-sort spot_of fs) in
    keys_rise (sort_by spot_of fs) (subst AreSorted same (sorted-sort (map spot_of fs))) (ap adjacent_repeat (sym same) ∙ e)

-- ---- offsets in one input

module _ (mode : Mode) (input : List ℕ) where
  -- the offset where so many bytes are left
  abbrev at : List ℕ → ℕ
  at bytes = length input - length bytes

  -- the input ends with these bytes
  abbrev IsRest : List ℕ → Type 0
  IsRest bytes = (before : List ℕ) × (input ≡ before ++ bytes)

  rest_after : {bytes : List ℕ} → IsRest bytes → (core rest : List ℕ) → bytes ≡ core ++ rest → IsRest rest
  rest_after r core rest e = (r.0 ++ core, r.1 ∙ ap (λ (u : List ℕ). r.0 ++ u) e ∙ sym (append_assoc r.0 core rest))

  dropped : {bytes : List ℕ} → IsRest bytes → drop (at bytes) input ≡ bytes
  dropped {bytes} r =
      let here : at bytes ≡ length r.0 = omega (arith, ap length r.1, length-append r.0 bytes) in
      ap (λ (n : ℕ). drop n input) here ∙ ap (λ (u : List ℕ). drop (length r.0) u) r.1 ∙ drop-append_seam r.0 bytes

  has : {Kind : List ℕ → Type 0} {bytes : List ℕ} → IsRest bytes → (core rest : List ℕ) → bytes ≡ core ++ rest → Kind core → Has input Kind (at bytes) (at rest)
  has {Kind} {bytes} r core rest e is =
      record {
        before = r.0;
        bytes = core;
        after = rest;
        whole = r.1 ∙ ap (λ (u : List ℕ). r.0 ++ u) e;
        begins = omega (arith, ap length r.1, length-append r.0 bytes);
        ends = omega (arith, ap length r.1, length-append r.0 bytes, ap length e, length-append core rest, length-append r.0 core);
        is = is;
      }

  has_dropped : {Kind : List ℕ → Type 0} {from to : ℕ} (h : Has input Kind from to) → drop from input ≡ h.bytes ++ drop to input
  has_dropped {Kind} {from} {to} h =
      ap (λ (n : ℕ). drop n input) h.begins ∙ ap (λ (u : List ℕ). drop (length h.before) u) h.whole ∙ drop-append_seam h.before (h.bytes ++ h.after)
      ∙ ap (λ (u : List ℕ). h.bytes ++ u) (sym (ap (λ (n : ℕ). drop n input) h.ends ∙ ap (λ (u : List ℕ). drop (length (h.before ++ h.bytes)) u) (h.whole ∙ sym (append_assoc h.before h.bytes h.after)) ∙ drop-append_seam (h.before ++ h.bytes) h.after))

  next : {bytes : List ℕ} → IsRest bytes → (c : ℕ) (rest : List ℕ) → bytes ≡ c ∷ rest → at rest ≡ at bytes + 1
  next {bytes} r c rest e = omega (arith, ap length r.1, length-append r.0 bytes, ap length e)

  has_byte : {bytes : List ℕ} → IsRest bytes → (c : ℕ) (rest : List ℕ) → bytes ≡ c ∷ rest → HasByte input c (at bytes)
  has_byte {bytes} r c rest e = subst (λ (n : ℕ). Has input (λ u. u ≡ c ∷ []) (at bytes) n) (next r c rest e) (has r (c ∷ []) rest e refl)

  after_byte : {bytes : List ℕ} → IsRest bytes → (c : ℕ) (rest : List ℕ) → bytes ≡ c ∷ rest → IsRest rest
  after_byte r c rest e = rest_after r (c ∷ []) rest e

  -- ---- what is parsed, with whitespace round it

  record IsRound {A : Type 0} (Encodes : List ℕ → A → Type 0) (bytes : List ℕ) (a : A) (after rest : List ℕ) : Type 0 where
    pub front : HasWhitespace mode input (at bytes) (at (skip_whitespace mode bytes))
    pub begins_at : IsRest (skip_whitespace mode bytes)
    pub is : Has input (λ core. Encodes core a) (at (skip_whitespace mode bytes)) (at after)
    pub back : HasWhitespace mode input (at after) (at rest)
    pub ends_at : IsRest rest

  round : {A : Type 0} (Encodes : List ℕ → A → Type 0) (read : List ℕ → Parse A) → IsSound Encodes read → {bytes : List ℕ} → IsRest bytes → (a : A) (after rest : List ℕ) → read (skip_whitespace mode bytes) ≡ Ok (a, after) → skip_whitespace mode after ≡ rest
      → 0 < length rest → IsRound Encodes bytes a after rest
  round Encodes read sound {bytes} r a after rest e skipped left =
      let s = sound (skip_whitespace mode bytes) a after e in
      let back = skips mode after (omega (arith, left, ap length skipped)) in
      let front = skips mode bytes (omega (arith, left, ap length skipped, ap length back.whole, ap length s.whole, length-append s.core after, length-append back.whitespace (skip_whitespace mode after))) in
      let here : IsRest (skip_whitespace mode bytes) = rest_after r front.whitespace (skip_whitespace mode bytes) front.whole in
      let there : IsRest after = rest_after here s.core after s.whole in
      let back_is : after ≡ back.whitespace ++ rest = back.whole ∙ ap (λ (u : List ℕ). back.whitespace ++ u) skipped in
      record {
        front = has r front.whitespace (skip_whitespace mode bytes) front.whole front.is_whitespace;
        begins_at = here;
        is = has here s.core after s.whole s.encodes;
        back = has there back.whitespace rest back_is back.is_whitespace;
        ends_at = rest_after there back.whitespace rest back_is;
      }

  -- ---- parts joined by commas

  module _ {A : Type 0} (AreAll : ℕ → List A → ℕ → Type 0) (Applies : ℕ → A → ℕ → Type 0) (one : (from to : ℕ) (a : A) → Applies from a to → AreAll from (a ∷ []) to)
      (more : (from comma to : ℕ) (a : A) (others : List A) → Applies from a comma → HasByte input 44 comma → AreAll (comma + 1) others to → AreAll from (a ∷ others) to)
      (size : ℕ) (code : Code) (close : ℕ) (Encodes : List ℕ → A → Type 0) (part : List ℕ → Parse A) (sound : IsSoundBefore Encodes part)
      (offsets : (bytes : List ℕ) (a : A) (rest : List ℕ) → IsRest bytes → part bytes ≡ Ok (a, rest) → 0 < length rest → Applies (at bytes) a (at rest)) where
    joined_located : (n : ℕ) (bytes : List ℕ) (parts : List A) (rest : List ℕ) → IsRest bytes → joined_at size code close part n bytes ≡ Ok (parts, rest) → AreAll (at bytes) parts (at (close ∷ rest))
    unfolding joined_at
    joined_located zero bytes parts rest r e = absurd cc
    joined_located (suc n) bytes parts rest r e =
        let b = bind_ok (part bytes) (λ (x : A × List ℕ). after_part size code close part (joined_at size code close part n) x.0 x.1) (parts, rest) e in
        let a : A = b.0.0 in
        let middle : List ℕ = b.0.1 in
        elim (on_byte_cases 44 middle (λ (t : List ℕ). joined_at size code close part n t >>= λ (x : List A × List ℕ). Ok (a ∷ x.0, x.1)) (on_byte close middle (λ (t : List ℕ). Ok (a ∷ [], t)) (reject size code 0 middle)) (Ok (parts, rest)) b.2) [
          | inl t ↦
              let some : 0 < length middle = omega (arith, ap length t.1) in
              let s = sound bytes a middle b.1 some in
              let there : IsRest middle = rest_after r s.core middle s.whole in
              let c = bind_ok (joined_at size code close part n t.0) (λ (x : List A × List ℕ). Ok (a ∷ x.0, x.1)) (parts, rest) t.2 in
              let same = same_read (a ∷ c.0.0) parts c.0.1 rest c.2 in
              let others = joined_located n t.0 c.0.0 c.0.1 (after_byte there 44 t.0 t.1) c.1 in
              let all = more (at bytes) (at middle) (at (close ∷ c.0.1)) a c.0.0 (offsets bytes a middle r b.1 some) (has_byte there 44 t.0 t.1) (subst (λ (m : ℕ). AreAll m c.0.0 (at (close ∷ c.0.1))) (next there 44 t.0 t.1) others) in
              subst₂ (λ (ps : List A) (u : List ℕ). AreAll (at bytes) ps (at (close ∷ u))) same.value same.rest all
          | inr f ↦
              elim (on_byte_cases close middle (λ (t : List ℕ). Ok (a ∷ [], t)) (reject size code 0 middle) (Ok (parts, rest)) f.1) [
                | inl t ↦
                    let same = same_read (a ∷ []) parts t.0 rest t.2 in
                    let last = offsets bytes a middle r b.1 (omega (arith, ap length t.1)) in
                    subst₂ (λ (ps : List A) (u : List ℕ). AreAll (at bytes) ps (at u)) same.value (t.1 ∙ ap (λ (u : List ℕ). close ∷ u) same.rest) (one (at bytes) (at middle) a last)
                | inr g ↦ absurd (rejected_fails size code 0 middle (parts, rest) g.1)
              ]
        ]

  -- ---- arrays and objects

  -- what is parsed is a value that is there
  abbrev Offsets : (List ℕ → Parse Source) → Type 0
  Offsets read = (bytes : List ℕ) (s : Source) (rest : List ℕ) → IsRest bytes → read bytes ≡ Ok (s, rest) → IsValueAt mode input (at bytes) s (at rest)

  module _ (Value : List ℕ → Tree → Type 0) (read : List ℕ → Parse Source) (sound : IsSound (Seen Value) read) (offsets : Offsets read) where
    element_located : (bytes : List ℕ) (s : Source) (rest : List ℕ) → IsRest bytes → element_at mode read bytes ≡ Ok (s, rest) → 0 < length rest → IsElementAt mode input (at bytes) s (at rest)
    element_located bytes s rest r e left =
        let here : List ℕ = skip_whitespace mode bytes in
        let b = bind_ok (value_or_null (strictness mode) read here) (λ (x : Source × List ℕ). Ok (x.0, skip_whitespace mode x.1)) (s, rest) e in
        let out = same_read b.0.0 s (skip_whitespace mode b.0.1) rest b.2 in
        elim (chosen (is_left_out (strictness mode) here) (Ok (null_source, here)) (read here) (Ok b.0) b.1) [
          | inl h ↦
              let same = same_read null_source b.0.0 here b.0.1 h.1 in
              let rest-is : here ≡ rest = sym (skip-skip mode bytes) ∙ ap (λ (u : List ℕ). skip_whitespace mode u) same.rest ∙ out.rest in
              let front = skips mode bytes (omega (arith, left, ap length rest-is)) in
              let whitespace = has r front.whitespace rest (front.whole ∙ ap (λ (u : List ℕ). front.whitespace ++ u) rest-is) front.is_whitespace in
              subst (λ (v : Source). IsElementAt mode input (at bytes) v (at rest)) (same.value ∙ out.value) (empty_element (is_lenient_if (strictness mode) here h.0) whitespace)
          | inr h ↦
              let p = round (Seen Value) read sound r b.0.0 b.0.1 rest h.1 out.rest left in
              subst (λ (v : Source). IsElementAt mode input (at bytes) v (at rest)) out.value (whole_element p.front (offsets here b.0.0 b.0.1 p.begins_at h.1) p.back)
        ]

    member_located : (bytes : List ℕ) (f : Found) (rest : List ℕ) → IsRest bytes → member_at (length input) mode read bytes ≡ Ok (f, rest) → 0 < length rest → IsMemberAt mode input (at bytes) f (at rest)
    member_located bytes f rest r e left =
        let b = bind_ok (key_at (length input) mode (skip_whitespace mode bytes)) (λ (x : (Mark × List ℕ) × List ℕ). after_key (length input) mode read x.0 (length input - length x.1) (skip_whitespace mode x.1)) (f, rest) e in
        let k : Mark × List ℕ = b.0.0 in
        let offset : ℕ = at b.0.1 in
        let colon : List ℕ = skip_whitespace mode b.0.1 in
        elim (on_byte_cases 58 colon (λ (u : List ℕ). padded_at mode read u >>= λ (x : Source × List ℕ). found_at k offset x) (reject (length input) expected_colon 0 colon) (Ok (f, rest)) b.2) [
          | inl t ↦
              let v = bind_ok (padded_at mode read t.0) (λ (x : Source × List ℕ). found_at k offset x) (f, rest) t.2 in
              let w = bind_ok (read (skip_whitespace mode t.0)) (λ (x : Source × List ℕ). Ok (x.0, skip_whitespace mode x.1)) v.0 v.1 in
              let s : Source = w.0.0 in
              let made = same_read (found_member k v.0.0 offset) f v.0.1 rest v.2 in
              let out = same_read s v.0.0 (skip_whitespace mode w.0.1) v.0.1 w.2 in
              let left_part = round (IsKey mode) (key_at (length input) mode) (key_sound (length input) mode) r k b.0.1 colon b.1 refl (omega (arith, ap length t.1)) in
              let there : IsRest t.0 = after_byte left_part.ends_at 58 t.0 t.1 in
              let right_part = round (Seen Value) read sound there s w.0.1 rest w.1 (out.rest ∙ made.rest) left in
              let due = subst (λ (n : ℕ). HasWhitespace mode input n (at (skip_whitespace mode t.0))) (next left_part.ends_at 58 t.0 t.1) right_part.front in
              let member = key_and_value left_part.front left_part.is left_part.back (has_byte left_part.ends_at 58 t.0 t.1) due (offsets (skip_whitespace mode t.0) s w.0.1 right_part.begins_at w.1) right_part.back in
              let same : found_member k s offset ≡ f = ap (λ (u : Source). found_member k u offset) out.value ∙ made.value in
              subst (λ (g : Found). IsMemberAt mode input (at bytes) g (at rest)) same member
          | inr g ↦ absurd (rejected_fails (length input) expected_colon 0 colon (f, rest) g.1)
        ]

    array_located : (bytes : List ℕ) (s : Source) (rest : List ℕ) → IsRest (91 ∷ bytes) → array_at (length input) mode read bytes ≡ Ok (s, rest) → IsValueAt mode input (at (91 ∷ bytes)) s (at rest)
    array_located bytes s rest r e =
        let from : ℕ = at (91 ∷ bytes) in
        let inside : IsRest bytes = after_byte r 91 bytes refl in
        let begun : at bytes ≡ from + 1 = next r 91 bytes refl in
        elim (on_byte_cases 93 (skip_whitespace mode bytes) (λ (u : List ℕ). Ok (array_source no_sources, u)) (elements_at (length input) mode read bytes) (Ok (s, rest)) e) [
          | inl h ↦
              let front = skips mode bytes (omega (arith, ap length h.1)) in
              let there : IsRest (skip_whitespace mode bytes) = rest_after inside front.whitespace (skip_whitespace mode bytes) front.whole in
              let same = same_read (array_source no_sources) s h.0 rest h.2 in
              let whitespace = subst (λ (n : ℕ). HasWhitespace mode input n (at (skip_whitespace mode bytes))) begun (has inside front.whitespace (skip_whitespace mode bytes) front.whole front.is_whitespace) in
              let ends : at (skip_whitespace mode bytes) + 1 ≡ at rest = sym (next there 93 h.0 h.1) ∙ ap at same.rest in
              subst₂ (λ (v : Source) (n : ℕ). IsValueAt mode input from v n) same.value ends (empty_array (has_byte r 91 bytes refl) whitespace (has_byte there 93 h.0 h.1))
          | inr h ↦
              let element : List ℕ → Parse Source = element_at mode read in
              let b = bind_ok (joined_at (length input) expected_array_comma_or_end 93 element (suc (length bytes)) (skip_whitespace mode bytes)) (λ (x : List Source × List ℕ). Ok (array_source_of x.0, x.1)) (s, rest) h.1 in
              let again = sym (joined-skip (length input) expected_array_comma_or_end 93 (Seen (IsElement mode Value)) element mode (λ u. ap (λ (w : List ℕ). value_or_null (strictness mode) read w >>= λ (x : Source × List ℕ). Ok (x.0, skip_whitespace mode x.1)) (skip-skip mode u)) (suc (length bytes)) bytes) ∙ b.1 in
              let j = joined_sound (length input) expected_array_comma_or_end 93 (Seen (IsElement mode Value)) element (element_sound mode Value read sound) (suc (length bytes)) bytes b.0.0 b.0.1 again in
              let all = joined_located (AreElementsAt mode input) (IsElementAt mode input) (λ from to a h. one_element h) (λ from comma to a others h c hs. more_elements h c hs) (length input) expected_array_comma_or_end 93 (Seen (IsElement mode Value)) element (element_sound mode Value read sound) element_located (suc (length bytes)) bytes b.0.0 b.0.1 inside again in
              let same = same_read (array_source_of b.0.0) s b.0.1 rest b.2 in
              let there : IsRest (93 ∷ b.0.1) = rest_after inside j.0 (93 ∷ b.0.1) j.2 in
              let elements = subst (λ (n : ℕ). AreElementsAt mode input n b.0.0 (at (93 ∷ b.0.1))) begun all in
              let not_piece : HasWhitespace mode input (from + 1) (at (93 ∷ b.0.1)) → ⊥ = λ k.
              let piece : bytes ≡ k.bytes ++ 93 ∷ b.0.1 = sym (dropped inside) ∙ ap (λ (n : ℕ). drop n input) begun ∙ has_dropped k ∙ ap (λ (u : List ℕ). k.bytes ++ u) (dropped there) in
              let found : begins 93 (skip_whitespace mode bytes) ≡ true = ap (λ (u : List ℕ). begins 93 (skip_whitespace mode u)) piece ∙ ap (λ (u : List ℕ). begins 93 u) (skip-whitespace k.is (93 ∷ b.0.1) ∙ skip-stop mode 93 b.0.1 refl) in
              true≢false (sym found ∙ h.0) in
              let ends : at (93 ∷ b.0.1) + 1 ≡ at rest = sym (next there 93 b.0.1 refl) ∙ ap at same.rest in
              subst₂ (λ (v : Source) (n : ℕ). IsValueAt mode input from v n) same.value ends (full_array (has_byte r 91 bytes refl) elements not_piece (has_byte there 93 b.0.1 refl))
        ]

    object_located : (bytes : List ℕ) (s : Source) (rest : List ℕ) → IsRest (123 ∷ bytes) → object_at (length input) mode read bytes ≡ Ok (s, rest) → IsValueAt mode input (at (123 ∷ bytes)) s (at rest)
    object_located bytes s rest r e =
        let from : ℕ = at (123 ∷ bytes) in
        let inside : IsRest bytes = after_byte r 123 bytes refl in
        let begun : at bytes ≡ from + 1 = next r 123 bytes refl in
        elim (on_byte_cases 125 (skip_whitespace mode bytes) (λ (u : List ℕ). Ok (object_source no_source_members, u)) (members_at (length input) mode read bytes) (Ok (s, rest)) e) [
          | inl h ↦
              let front = skips mode bytes (omega (arith, ap length h.1)) in
              let there : IsRest (skip_whitespace mode bytes) = rest_after inside front.whitespace (skip_whitespace mode bytes) front.whole in
              let same = same_read (object_source no_source_members) s h.0 rest h.2 in
              let whitespace = subst (λ (n : ℕ). HasWhitespace mode input n (at (skip_whitespace mode bytes))) begun (has inside front.whitespace (skip_whitespace mode bytes) front.whole front.is_whitespace) in
              let ends : at (skip_whitespace mode bytes) + 1 ≡ at rest = sym (next there 125 h.0 h.1) ∙ ap at same.rest in
              subst₂ (λ (v : Source) (n : ℕ). IsValueAt mode input from v n) same.value ends (empty_object (has_byte r 123 bytes refl) whitespace (has_byte there 125 h.0 h.1))
          | inr h ↦
              let member : List ℕ → Parse Found = member_at (length input) mode read in
              let IsOne : List ℕ → Found → Type 0 = IsFound mode Value read in
              let member_is_sound : IsSoundBefore IsOne member = member_sound mode Value read (length input) sound in
              let b = bind_ok (joined_at (length input) expected_object_comma_or_end 125 member (suc (length bytes)) (skip_whitespace mode bytes)) (λ (x : List Found × List ℕ). object_or_fault (first_repeat (map spot_of x.0)) x.0 x.1) (s, rest) h.1 in
              let again = sym (joined-skip (length input) expected_object_comma_or_end 125 IsOne member mode (member_skip mode Value read (length input)) (suc (length bytes)) bytes) ∙ b.1 in
              let j = joined_sound (length input) expected_object_comma_or_end 125 IsOne member member_is_sound (suc (length bytes)) bytes b.0.0 b.0.1 again in
              let all = joined_located (AreMembersAt mode input) (IsMemberAt mode input) (λ from to a h. one_member h) (λ from comma to a others h c hs. more_members h c hs) (length input) expected_object_comma_or_end 125 IsOne member member_is_sound member_located (suc (length bytes)) bytes b.0.0 b.0.1 inside again in
              let o = object_of (first_repeat (map spot_of b.0.0)) b.0.0 b.0.1 s rest b.2 in
              let there : IsRest (125 ∷ b.0.1) = rest_after inside j.0 (125 ∷ b.0.1) j.2 in
              let members = subst (λ (n : ℕ). AreMembersAt mode input n b.0.0 (at (125 ∷ b.0.1))) begun all in
              let ends : at (125 ∷ b.0.1) + 1 ≡ at rest = sym (next there 125 b.0.1 refl) ∙ ap at o.1.rest in
              subst₂ (λ (v : Source) (n : ℕ). IsValueAt mode input from v n) o.1.value ends
              (full_object (has_byte r 123 bytes refl) members (has_byte there 125 b.0.1 refl) (permutes (sort-shuffles spot_of b.0.0)) (sorted_rise b.0.0 o.0))
        ]

  -- ---- values of any depth

  alone_located : Offsets (λ bytes. alone_at (scalar_at (length input) mode bytes))
  alone_located bytes s rest r e =
      let b = bind_ok (scalar_at (length input) mode bytes) (λ (x : Tree × List ℕ). Ok (source_alone x.0, x.1)) (s, rest) e in
      let same = same_read (source_alone b.0.0) s b.0.1 rest b.2 in
      let k = scalar_sound (length input) mode bytes b.0.0 b.0.1 b.1 in
      subst₂ (λ (v : Source) (u : List ℕ). IsValueAt mode input (at bytes) v (at u)) same.value same.rest (scalar (has r k.core b.0.1 k.whole k.encodes))

  value_located : (depth : ℕ) → Offsets (value_at (length input) mode depth)
  unfolding value_at
  value_located zero bytes s rest r e =
      elim (on_byte_cases 91 bytes (too_deep (length input)) (on_byte 123 bytes (too_deep (length input)) (alone_at (scalar_at (length input) mode bytes))) (Ok (s, rest)) e) [
        | inl h ↦ absurd (let never : too_deep (length input) h.0 ≡ Ok (s, rest) = h.2 in cc)
        | inr h ↦ elim (on_byte_cases 123 bytes (too_deep (length input)) (alone_at (scalar_at (length input) mode bytes)) (Ok (s, rest)) h.1) [
          | inl k ↦ absurd (let never : too_deep (length input) k.0 ≡ Ok (s, rest) = k.2 in cc)
          | inr k ↦ alone_located bytes s rest r k.1
        ]
      ]
  value_located (suc depth) bytes s rest r e =
      let read : List ℕ → Parse Source = value_at (length input) mode depth in
      let arrays : List ℕ → Parse Source = array_at (length input) mode read in
      let objects : List ℕ → Parse Source = object_at (length input) mode read in
      let sound : IsSound (Seen (Derives mode depth)) read = value_sound (length input) mode depth in
      elim (on_byte_cases 91 bytes arrays (on_byte 123 bytes objects (alone_at (scalar_at (length input) mode bytes))) (Ok (s, rest)) e) [
        | inl h ↦ subst (λ (u : List ℕ). IsValueAt mode input (at u) s (at rest)) (sym h.1) (array_located (Derives mode depth) read sound (value_located depth) h.0 s rest (subst IsRest h.1 r) h.2)
        | inr h ↦ elim (on_byte_cases 123 bytes objects (alone_at (scalar_at (length input) mode bytes)) (Ok (s, rest)) h.1) [
          | inl k ↦ subst (λ (u : List ℕ). IsValueAt mode input (at u) s (at rest)) (sym k.1) (object_located (Derives mode depth) read sound (value_located depth) k.0 s rest (subst IsRest k.1 r) k.2)
          | inr k ↦ alone_located bytes s rest r k.1
        ]
      ]

-- ---- whole texts

nothing_located : (mode : Mode) (input : List ℕ) (s : Source) (size : ℕ) → IsLastWhitespace mode input → nothing_at size (strictness mode) ≡ Ok s → IsLocated mode input s
nothing_located mode input s size b e = by_strictness (strictness mode) refl e
  where
    by_strictness : (asked : Strictness) → strictness mode ≡ asked → nothing_at size asked ≡ Ok s → IsLocated mode input s
    by_strictness strict is h = absurd cc
    by_strictness lenient is h = subst (λ (u : Source). IsLocated mode input u) (same_ok null_source s h) (whitespace_alone is b)

pub source_located : (mode : Mode) (input : List ℕ) (s : Source) → source_of mode input ≡ Ok s → IsLocated mode input s
unfolding source_of
source_located mode input s e = go (skip_closed_whitespace mode input) refl e
  where
    value_read : (b : ℕ) (rest : List ℕ) → skip_closed_whitespace mode input ≡ b ∷ rest → value_to_end (length input) mode (b ∷ rest) ≡ Ok s → IsLocated mode input s
    value_read b rest passed e =
        let r = bind_ok (value_at (length input) mode max_depth (b ∷ rest)) (λ (x : Source × List ℕ). at_end (length input) mode x.0 (skip_closed_whitespace mode x.1)) s e in
        let front = passes mode input in
        let front_is : input ≡ front.whitespace ++ b ∷ rest = front.whole ∙ ap (λ (u : List ℕ). front.whitespace ++ u) passed in
        let k = value_sound (length input) mode max_depth (b ∷ rest) r.0.0 r.0.1 r.1 in
        let end = ended (length input) mode r.0.0 r.0.1 (skip_closed_whitespace mode r.0.1) s refl r.2 in
        let all : IsRest mode input input = ([], refl) in
        let here : IsRest mode input (b ∷ rest) = rest_after mode input all front.whitespace (b ∷ rest) front_is in
        let there : IsRest mode input r.0.1 = rest_after mode input here k.core r.0.1 k.whole in
        let first : length input - length input ≡ 0 = omega arith in
        let last : length input - 0 ≡ length input = omega arith in
        let before = subst (λ (n : ℕ). HasWhitespace mode input n (at mode input (b ∷ rest))) first (has mode input all front.whitespace (b ∷ rest) front_is front.is_whitespace) in
        let after = subst (λ (n : ℕ). Has input (IsLastWhitespace mode) (at mode input r.0.1) n) last (has mode input there r.0.1 [] (sym (append-nil r.0.1)) end.0) in
        subst (λ (v : Source). IsLocated mode input v) end.1 (value_alone before (value_located mode input max_depth (b ∷ rest) r.0.0 r.0.1 here r.1) after)

    go : (rest : List ℕ) → skip_closed_whitespace mode input ≡ rest → source_from (length input) mode rest ≡ Ok s → IsLocated mode input s
    go [] passed e = nothing_located mode input s (length input) (ends_all mode input passed) e
    go (b ∷ rest) passed e =
        elim (chosen (opens_comment (strictness mode) (b ∷ rest)) (comment_at (length input) null_source rest) (value_to_end (length input) mode (b ∷ rest)) (Ok s) e) [
          | inl h ↦ let c = comment_ends mode (length input) input b rest null_source s passed h.0 h.1 in subst (λ (u : Source). IsLocated mode input u) c.2 (whitespace_alone c.0 c.1)
          | inr h ↦ value_read b rest passed h.1
        ]
