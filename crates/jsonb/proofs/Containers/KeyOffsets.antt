-- The offsets of the keys of the parsed members.
use Rattle.std.proofs.Common.{◌≡◌, ℕ, zero, suc, ◌+◌, ◌-◌, ◌<◌, ◌≤◌, Bool, true, false, cond, inl, inr, List, [], ◌∷◌, ◌++◌, length, map, Some, Ok, is_eq, nat_cmp, refl, sym, ap, ap₂, subst, subst₂, ◌∙◌, append_assoc, length-append, arith, eqb, eqb-true}
use Rattle.std.specs.Cmp.Lexicographic.{slice_cmp}
use Rattle.std.proofs.lemmas.List.Recursion.{is_count_by}
use Rattle.std.proofs.lemmas.Bool.{cond-false}
use Rattle.jsonb_spec.specs.Grammar.Whitespace.{IsWhitespace}
use Rattle.jsonb_spec.specs.Code.Code.{expected_colon, expected_object_comma_or_end}
use Rattle.jsonb_spec.specs.Grammar.{IsJoined, IsMember}
use Rattle.jsonb_spec.specs.Grammar.IsJoined.{more_parts, one_part}
use Rattle.jsonb_spec.specs.Grammar.IsMember.{key_and_value}
use Rattle.jsonb_spec.specs.Grammar.IsPadded.{padded}
use Rattle.jsonb_spec.specs.Mode.{Mode}
use Rattle.jsonb_spec.specs.Grammar.Scalar.{IsKey}
use Rattle.jsonb_spec.specs.Tree.{Mark, Member}
use Rattle.jsonb_spec.specs.Parsing.{Parse, on_byte, reject, ◌>>=◌}
use Rattle.jsonb_spec.specs.Parsing.Whitespace.{skip_whitespace}
use Rattle.jsonb_spec.specs.Parsing.Container.{after_key, after_part, found_at, joined_at, member_at, padded_at}
use Rattle.jsonb_spec.specs.Source.{Found, Source, Spot, first_repeat, member_of, spot_of, tree_of_source}
use Rattle.jsonb_spec.specs.Parsing.Scalar.{key_at}
use Rattle.jsonb_spec.specs.Errors.{ArePassed, IsEncoding, Repeats, times}
use Rattle.jsonb_spec.specs.Errors.ArePassed.{no_parts, part_passed}
use Rattle.text_scan.proofs.Steps.Tests.{bind_ok, rejected_fails, same_read}
use Rattle.text_scan.proofs.Containers.JoinedParts.{IsSound, on_byte_cases, padded_seen, padded_sound}
use Rattle.text_parse.proofs.Containers.Values.{Seen}
use Rattle.text_parse.proofs.Scalars.Encodings.{key_sound, key_starts}
use Rattle.jsonb.proofs.Containers.SecondSlots.{AreRising, IsSecond, alike, count, has, once_before, rising-weaken, second_found, holds_there}
use Rattle.text_scan.proofs.Text.Whitespace.{skips}

-- ---- one member

-- The bytes of a member begin with whitespace and its key. Its offset is after the key, where these bytes follow the
-- member.
pub record KeyAt (mode : Mode) (size : ℕ) (tail bytes : List ℕ) (f : Found) : Type 0 where
  pub whitespace : List ℕ
  pub encoded : List ℕ
  pub after : List ℕ
  pub is_whitespace : IsWhitespace mode whitespace
  pub is_key : IsKey mode encoded (f.mark, f.key)
  pub whole : bytes ≡ whitespace ++ (encoded ++ after)
  pub some : 0 < length encoded
  pub offset : f.offset ≡ size - length (after ++ tail)

-- A member was parsed from the front of the bytes.
record MemberRead (mode : Mode) (size : ℕ) (bytes : List ℕ) (f : Found) (rest : List ℕ) : Type 0 where
  pub core : List ℕ
  pub encodes : IsMember mode (IsEncoding mode) core (member_of f)
  pub whole : bytes ≡ core ++ rest
  pub key_at : KeyAt mode size rest core f

module _ (mode : Mode) (size : ℕ) (read : List ℕ → Parse Source) (sound : IsSound (Seen (IsEncoding mode)) read) where
  member_read : (bytes : List ℕ) (f : Found) (rest : List ℕ) → member_at size mode read bytes ≡ Ok (f, rest) → 0 < length rest → MemberRead mode size bytes f rest
  member_read bytes f rest e left =
      let b = bind_ok (key_at size mode (skip_whitespace mode bytes)) (λ (x : (Mark × List ℕ) × List ℕ). after_key size mode read x.0 (size - length x.1) (skip_whitespace mode x.1)) (f, rest) e in
      let k : Mark × List ℕ = b.0.0 in
      let offset : ℕ = size - length b.0.1 in
      let colon : List ℕ = skip_whitespace mode b.0.1 in
      let s = key_sound size mode (skip_whitespace mode bytes) k b.0.1 b.1 in
      let st = key_starts mode s.core k s.encodes in
      elim (on_byte_cases 58 colon (λ (r : List ℕ). padded_at mode read r >>= λ (x : Source × List ℕ). found_at k offset x) (reject size expected_colon 0 colon) (Ok (f, rest)) b.2) [
        | inl t ↦
            let v = bind_ok (padded_at mode read t.0) (λ (x : Source × List ℕ). found_at k offset x) (f, rest) t.2 in
            let g : Found = record { mark = k.0; key = k.1; source = v.0.0; offset = offset } in
            let same = same_read g f v.0.1 rest v.2 in
            let right = padded_sound mode (Seen (IsEncoding mode)) read sound t.0 v.0.0 v.0.1 v.1 (omega (arith, left, ap length same.rest)) in
            let back = skips mode b.0.1 (omega (arith, ap length t.1)) in
            let front = skips mode bytes (omega (arith, ap length s.whole, length-append s.core b.0.1, ap length st.whole)) in
            let after : List ℕ = back.whitespace ++ 58 ∷ right.core in
            let core : List ℕ = (front.whitespace ++ (s.core ++ back.whitespace)) ++ 58 ∷ right.core in
            let after-is : b.0.1 ≡ after ++ v.0.1 = back.whole ∙ ap (λ (u : List ℕ). back.whitespace ++ u) (t.1 ∙ ap (λ (u : List ℕ). 58 ∷ u) right.whole) ∙ sym (append_assoc back.whitespace (58 ∷ right.core) v.0.1) in
            let core-is : core ≡ front.whitespace ++ (s.core ++ after) = append_assoc front.whitespace (s.core ++ back.whitespace) (58 ∷ right.core) ∙ ap (λ (u : List ℕ). front.whitespace ++ u) (append_assoc s.core back.whitespace (58 ∷ right.core)) in
            let whole : bytes ≡ core ++ v.0.1 =
            front.whole ∙ ap (λ (u : List ℕ). front.whitespace ++ u) (s.whole ∙ ap (λ (u : List ℕ). s.core ++ u) after-is ∙ sym (append_assoc s.core after v.0.1))
            ∙ sym (append_assoc front.whitespace (s.core ++ after) v.0.1) ∙ ap (λ (u : List ℕ). u ++ v.0.1) (sym core-is) in
            let some : 0 < length s.core = omega (arith, ap length st.whole) in
            let k_at : KeyAt mode size v.0.1 core g = record {
              whitespace = front.whitespace;
              encoded = s.core;
              after = after;
              is_whitespace = front.is_whitespace;
              is_key = s.encodes;
              whole = core-is;
              some = some;
              offset = ap (λ (u : List ℕ). size - length u) after-is;
            } in
            let m : MemberRead mode size bytes g v.0.1 = record { core = core; encodes = key_and_value (padded front.is_whitespace s.encodes back.is_whitespace) (padded_seen tree_of_source (IsEncoding mode) right.encodes); whole = whole; key_at = k_at } in
            subst₂ (λ (h : Found) (r : List ℕ). MemberRead mode size bytes h r) same.value same.rest m
        | inr g ↦ absurd (rejected_fails size expected_colon 0 colon (f, rest) g.1)
      ]

-- ---- all the members

-- Members joined by commas, each with its key's offset.
pub data AreLaid (mode : Mode) (size : ℕ) (tail : List ℕ) : List ℕ → List Found → Type 0 where
  last_laid : {bytes : List ℕ} {f : Found} → IsMember mode (IsEncoding mode) bytes (member_of f) → KeyAt mode size tail bytes f → AreLaid mode size tail bytes (f ∷ [])
  more_laid : {first rest : List ℕ} {f : Found} {fs : List Found} → IsMember mode (IsEncoding mode) first (member_of f) → (k : KeyAt mode size tail (first ++ 44 ∷ rest) f) → length rest ≤ length k.after
      → AreLaid mode size tail rest fs → AreLaid mode size tail (first ++ 44 ∷ rest) (f ∷ fs)

module _ (mode : Mode) (size : ℕ) (read : List ℕ → Parse Source) (sound : IsSound (Seen (IsEncoding mode)) read) where
  pub members_laid : (n : ℕ) (bytes : List ℕ) (fs : List Found) (rest : List ℕ) → joined_at size expected_object_comma_or_end 125 (member_at size mode read) n bytes ≡ Ok (fs, rest)
      → (body : List ℕ) × AreLaid mode size (125 ∷ rest) body fs × (bytes ≡ body ++ 125 ∷ rest)
  unfolding joined_at
  members_laid zero bytes fs rest e = absurd cc
  members_laid (suc n) bytes fs rest e =
      let part : List ℕ → Parse Found = member_at size mode read in
      let b = bind_ok (part bytes) (λ (x : Found × List ℕ). after_part size expected_object_comma_or_end 125 part (joined_at size expected_object_comma_or_end 125 part n) x.0 x.1) (fs, rest) e in
      let f : Found = b.0.0 in
      let middle : List ℕ = b.0.1 in
      elim (on_byte_cases 44 middle (λ (t : List ℕ). joined_at size expected_object_comma_or_end 125 part n t >>= λ (x : List Found × List ℕ). Ok (f ∷ x.0, x.1)) (on_byte 125 middle (λ (t : List ℕ). Ok (f ∷ [], t)) (reject size expected_object_comma_or_end 0 middle)) (Ok (fs, rest)) b.2) [
        | inl t ↦
            let m = member_read mode size read sound bytes f middle b.1 (omega (arith, ap length t.1)) in
            let c = bind_ok (joined_at size expected_object_comma_or_end 125 part n t.0) (λ (x : List Found × List ℕ). Ok (f ∷ x.0, x.1)) (fs, rest) t.2 in
            let h = members_laid n t.0 c.0.0 c.0.1 c.1 in
            let same = same_read (f ∷ c.0.0) fs c.0.1 rest c.2 in
            let k = m.key_at in
            let middle-is : middle ≡ 44 ∷ (h.0 ++ 125 ∷ c.0.1) = t.1 ∙ ap (λ (u : List ℕ). 44 ∷ u) h.2 in
            let after : List ℕ = k.after ++ 44 ∷ h.0 in
            let after-is : k.after ++ middle ≡ after ++ 125 ∷ c.0.1 = ap (λ (u : List ℕ). k.after ++ u) middle-is ∙ sym (append_assoc k.after (44 ∷ h.0) (125 ∷ c.0.1)) in
            let core-is : m.core ++ 44 ∷ h.0 ≡ k.whitespace ++ (k.encoded ++ after) =
            ap (λ (u : List ℕ). u ++ 44 ∷ h.0) k.whole ∙ append_assoc k.whitespace (k.encoded ++ k.after) (44 ∷ h.0) ∙ ap (λ (u : List ℕ). k.whitespace ++ u) (append_assoc k.encoded k.after (44 ∷ h.0)) in
            let k_at : KeyAt mode size (125 ∷ c.0.1) (m.core ++ 44 ∷ h.0) f = record {
              whitespace = k.whitespace;
              encoded = k.encoded;
              after = after;
              is_whitespace = k.is_whitespace;
              is_key = k.is_key;
              whole = core-is;
              some = k.some;
              offset = k.offset ∙ ap (λ (u : List ℕ). size - length u) after-is;
            } in
            let onward : length h.0 ≤ length after = omega (arith, length-append k.after (44 ∷ h.0)) in
            let laid : AreLaid mode size (125 ∷ c.0.1) (m.core ++ 44 ∷ h.0) (f ∷ c.0.0) = more_laid m.encodes k_at onward h.1 in (
              m.core ++ 44 ∷ h.0,
              subst₂ (λ (gs : List Found) (r : List ℕ). AreLaid mode size (125 ∷ r) (m.core ++ 44 ∷ h.0) gs) same.value same.rest laid,
              m.whole ∙ ap (λ (u : List ℕ). m.core ++ u) middle-is ∙ sym (append_assoc m.core (44 ∷ h.0) (125 ∷ c.0.1)) ∙ ap (λ (u : List ℕ). (m.core ++ 44 ∷ h.0) ++ 125 ∷ u) same.rest,
            )
        | inr g ↦
            elim (on_byte_cases 125 middle (λ (t : List ℕ). Ok (f ∷ [], t)) (reject size expected_object_comma_or_end 0 middle) (Ok (fs, rest)) g.1) [
              | inl t ↦
                  let m = member_read mode size read sound bytes f middle b.1 (omega (arith, ap length t.1)) in
                  let same = same_read (f ∷ []) fs t.0 rest t.2 in
                  let k_at : KeyAt mode size (125 ∷ t.0) m.core f = subst (λ (u : List ℕ). KeyAt mode size u m.core f) t.1 m.key_at in
                  (m.core, subst₂ (λ (gs : List Found) (r : List ℕ). AreLaid mode size (125 ∷ r) m.core gs) same.value same.rest (last_laid m.encodes k_at), m.whole ∙ ap (λ (u : List ℕ). m.core ++ u) (t.1 ∙ ap (λ (u : List ℕ). 125 ∷ u) same.rest))
              | inr h ↦ absurd (rejected_fails size expected_object_comma_or_end 0 middle (fs, rest) h.1)
            ]
      ]

-- ---- the member where a key comes the second time

module _ (mode : Mode) (size : ℕ) where
  laid_joined : {tail bytes : List ℕ} {fs : List Found} (l : AreLaid mode size tail bytes fs) → IsJoined (IsMember mode (IsEncoding mode)) bytes (map member_of fs)
  laid_joined (last_laid s k) = one_part s
  laid_joined (more_laid s k o l) = more_parts s (laid_joined l)

  laid_rising : {tail bytes : List ℕ} {fs : List Found} (l : AreLaid mode size tail bytes fs) → length (bytes ++ tail) ≤ size → AreRising (size - length (bytes ++ tail)) (map spot_of fs)
  laid_rising {tail} (last_laid {bytes = bytes} s k) h =
      (omega (arith, h, k.offset, k.some, ap length k.whole, length-append bytes tail, length-append k.after tail, length-append k.whitespace (k.encoded ++ k.after), length-append k.encoded k.after), tt)
  laid_rising {tail} (more_laid {first = first} {rest = rest} {f = f} {fs = fs} s k o l) h =
      let bytes : List ℕ = first ++ 44 ∷ rest in
      let within : length (rest ++ tail) ≤ size = omega (arith, h, length-append bytes tail, length-append rest tail, length-append first (44 ∷ rest)) in
      let onward : f.offset ≤ size - length (rest ++ tail) = omega (arith, k.offset, o, length-append k.after tail, length-append rest tail) in (
        omega (arith, h, k.offset, k.some, ap length k.whole, length-append bytes tail, length-append k.after tail, length-append k.whitespace (k.encoded ++ k.after), length-append k.encoded k.after),
        rising-weaken f.offset (size - length (rest ++ tail)) (map spot_of fs) onward (laid_rising l within),
      )

  -- The members before the spot, and from it on.
  record IsLocated (tail bytes : List ℕ) (fs : List Found) (s : Spot) : Type 0 where
    pub earlier : List Found
    pub found : Found
    pub later : List Found
    pub all : fs ≡ earlier ++ found ∷ later
    pub is_it : holds_there s (spot_of found) ≡ true
    pub passed : List ℕ
    pub rest : List ℕ
    pub whole : bytes ≡ passed ++ rest
    pub are_passed : ArePassed (IsMember mode (IsEncoding mode)) passed (map member_of earlier)
    pub are_joined : IsJoined (IsMember mode (IsEncoding mode)) rest (member_of found ∷ map member_of later)
    pub key_at : KeyAt mode size tail rest found

  locate : {tail bytes : List ℕ} {fs : List Found} (l : AreLaid mode size tail bytes fs) (s : Spot) → 1 ≤ count (holds_there s) (map spot_of fs) → IsLocated tail bytes fs s
  locate {tail} (last_laid {bytes = bytes} {f = f} m k) s h = here (holds_there s (spot_of f)) refl
    where
      here : (b : Bool) → holds_there s (spot_of f) ≡ b → IsLocated tail bytes (f ∷ []) s
      here true e = record { earlier = []; found = f; later = []; all = refl; is_it = e; passed = []; rest = bytes; whole = refl; are_passed = no_parts; are_joined = one_part m; key_at = k }
      here false e = absurd (let none : count (holds_there s) (map spot_of (f ∷ [])) ≡ 0 = cond-false (holds_there s (spot_of f)) (1 + 0) 0 e in omega (arith, h, none))
  locate {tail} (more_laid {first = first} {rest = others} {f = f} {fs = fs} m k o l) s h = here (holds_there s (spot_of f)) refl (locate l s)
    where
      here : (b : Bool) → holds_there s (spot_of f) ≡ b → (1 ≤ count (holds_there s) (map spot_of fs) → IsLocated tail others fs s) → IsLocated tail (first ++ 44 ∷ others) (f ∷ fs) s
      here true e next =
          record { earlier = []; found = f; later = fs; all = refl; is_it = e; passed = []; rest = first ++ 44 ∷ others; whole = refl; are_passed = no_parts; are_joined = more_parts m (laid_joined l); key_at = k }
      here false e next =
          let fewer : count (holds_there s) (map spot_of (f ∷ fs)) ≡ count (holds_there s) (map spot_of fs) = cond-false (holds_there s (spot_of f)) (1 + count (holds_there s) (map spot_of fs)) (count (holds_there s) (map spot_of fs)) e in
          let r = next (omega (arith, h, fewer)) in
          record {
            earlier = f ∷ r.earlier;
            found = r.found;
            later = r.later;
            all = ap (λ (gs : List Found). f ∷ gs) r.all;
            is_it = r.is_it;
            passed = first ++ 44 ∷ r.passed;
            rest = r.rest;
            whole = ap (λ (u : List ℕ). first ++ 44 ∷ u) r.whole ∙ sym (append_assoc first (44 ∷ r.passed) r.rest);
            are_passed = part_passed m r.are_passed;
            are_joined = r.are_joined;
            key_at = r.key_at;
          }

-- ---- members and spots

counted : List ℕ → List Member → ℕ
counted k [] = 0
counted k (m ∷ ms) = cond (is_eq (slice_cmp nat_cmp m.0 k)) (1 + counted k ms) (counted k ms)

spots_counted : (k : List ℕ) (fs : List Found) → count (has k) (map spot_of fs) ≡ counted k (map member_of fs)
unfolding counted
spots_counted k [] = refl
spots_counted k (f ∷ fs) = ap (λ (n : ℕ). cond (is_eq (slice_cmp nat_cmp f.key k)) (1 + n) n) (spots_counted k fs)

times_counted : (k : List ℕ) (fs : List Found) → count (has k) (map spot_of fs) ≡ times k (map member_of fs)
unfolding counted
times_counted k fs = spots_counted k fs ∙ is_count_by (counted k) (λ (m : Member). is_eq (slice_cmp nat_cmp m.0 k)) refl (λ m ms. refl) (map member_of fs)

same_spot : (s t : Spot) → holds_there s t ≡ true → t ≡ s
same_spot s t e = both (has s.key t) refl e
  where
    both : (b : Bool) → has s.key t ≡ b → cond b (eqb t.offset s.offset) false ≡ true → t ≡ s
    both true h p = ap₂ (λ (k : List ℕ) (n : ℕ). record { key = k; offset = n }) (alike t.key s.key h) (eqb-true t.offset s.offset p)
    both false h p = absurd cc

map_parts : {A B : Type 0} (g : A → B) (xs : List A) (y : A) (ys : List A) → map g (xs ++ y ∷ ys) ≡ map g xs ++ g y ∷ map g ys
map_parts g [] y ys = refl
map_parts g (x ∷ xs) y ys = ap (λ zs. g x ∷ zs) (map_parts g xs y ys)

-- what a key that comes twice says of the members
pub laid_repeats : (mode : Mode) (size : ℕ) {tail body : List ℕ} {fs : List Found} (l : AreLaid mode size tail body fs) (s : Spot) → first_repeat (map spot_of fs) ≡ Some s → length (body ++ tail) ≤ size
    → (upto : ℕ) × Repeats mode body s.key upto × (s.offset ≡ size - length (body ++ tail) + upto)
laid_repeats mode size {tail} {body} {fs} l s e h =
    let i = second_found (map spot_of fs) s e in
    let p = locate mode size l s i.there in
    let k = p.key_at in
    let is : spot_of p.found ≡ s = same_spot s (spot_of p.found) p.is_it in
    let key-is : p.found.key ≡ s.key = ap (λ (t : Spot). t.key) is in
    let offset-is : p.found.offset ≡ s.offset = ap (λ (t : Spot). t.offset) is in
    let left : List Spot = map spot_of p.earlier in
    let right : List Spot = map spot_of p.later in
    let spots-are : map spot_of fs ≡ left ++ s ∷ right = ap (λ (gs : List Found). map spot_of gs) p.all ∙ map_parts spot_of p.earlier p.found p.later ∙ ap (λ (t : Spot). left ++ t ∷ right) is in
    let members-are : map member_of fs ≡ map member_of p.earlier ++ member_of p.found ∷ map member_of p.later = ap (λ (gs : List Found). map member_of gs) p.all ∙ map_parts member_of p.earlier p.found p.later in
    let rising : AreRising (size - length (body ++ tail)) (left ++ s ∷ right) = subst (λ (ss : List Spot). AreRising (size - length (body ++ tail)) ss) spots-are (laid_rising mode size l h) in
    let once : count (has s.key) left ≡ 1 = once_before (size - length (body ++ tail)) left s right rising (subst (λ (ss : List Spot). IsSecond s ss) spots-are i) in
    let ends : s.offset ≡ size - length (body ++ tail) + length (p.passed ++ (k.whitespace ++ k.encoded)) =
    omega (arith, h, offset-is, k.offset, ap length p.whole, ap length k.whole, length-append body tail, length-append k.after tail, length-append p.passed p.rest, length-append p.passed (k.whitespace ++ k.encoded), length-append k.whitespace (k.encoded ++ k.after), length-append k.whitespace k.encoded, length-append k.encoded k.after) in (
      length (p.passed ++ (k.whitespace ++ k.encoded)),
      record {
        passed = p.passed;
        whitespace = k.whitespace;
        encoded = k.encoded;
        after = k.after;
        whole = p.whole ∙ ap (λ (u : List ℕ). p.passed ++ u) k.whole;
        earlier = map member_of p.earlier;
        again = member_of p.found;
        later = map member_of p.later;
        are_passed = p.are_passed;
        are_joined = subst (λ (u : List ℕ). IsJoined (IsMember mode (IsEncoding mode)) u (member_of p.found ∷ map member_of p.later)) k.whole p.are_joined;
        is_whitespace = k.is_whitespace;
        mark = p.found.mark;
        is_key = subst (λ (m : List ℕ). IsKey mode k.encoded (p.found.mark, m)) key-is k.is_key;
        same_key = key-is;
        second = sym (times_counted s.key p.earlier) ∙ once;
        least = λ m less. let few : times m (map member_of p.earlier ++ member_of p.found ∷ map member_of p.later) ≤ 1 = subst (λ (ms : List Member). times m ms ≤ 1) members-are (omega (arith, i.lesser m less, times_counted m fs)) in few;
        ends = refl;
      },
      ends,
    )
