-- The sink where an object ends: its members are put in order, or a key comes twice.
use Rattle.std.proofs.Common.{◌≡◌, ℕ, ◌+◌, true, false, List, [], ◌∷◌, ◌++◌, map, length, Option, Some, None, MatchOption, Result, Ok, Err, IfOk, refl, sym, ap, ap₂, subst, ◌∙◌, arith, append_assoc, length-append}
use Rattle.std.proofs.lemmas.List.{length-take-le}
use Rattle.std.specs.Option.{is_some}
use Rattle.jsonb_spec.specs.Text.{with_commas}
use Rattle.jsonb_spec.specs.Tree.{Mark}
use Rattle.jsonb_spec.specs.Source.Open.{Open, members_so_far}
use Rattle.jsonb_spec.specs.Source.{Found, sort_by, spot_of}
use Rattle.jsonb_spec.specs.SortKey.Joined.{join_pieces}
use Rattle.text_members.specs.OpenMembers.{AreOf, AreSettled, EndIn, EndsObject, KeysAscendFrom, PutsInOrder, ReportsRepeatOf}
use Rattle.text_members.specs.declared.open_members.Repeat.{Repeat}
use Rattle.jsonb_spec.specs.Text.SoFar.{member_text, open_text}
use Rattle.text_write.specs.TextSink.{Closes, Held, HeldFits, IsSettled, PreservesMembers, TextFilled, TextHolds, base_of, members, text_layout}
use Rattle.text_write.specs.Written.{bytes_of}
use Rattle.text_write.specs.declared.text.TextSink.{TextSink}
use Rattle.text_write.proofs.ObjectTexts.{object_ended, sort_ascends, stays}
use Rattle.text_members.proofs.Objects.Ascending.{ascending_new}
use Rattle.text_members.proofs.Objects.Closing.{with_commas_joined}
use Rattle.text_members.proofs.OpenMembers as opened

-- what is before the first member
abbrev front : TextSink → List Open → List ℕ
front r cs = base_of r ++ (open_text true cs ++ 123 ∷ [])

front_length : (r : TextSink) (cs : List Open) → r.base + length (open_text true cs) + 1 ≡ length (front r cs)
front_length r cs =
    omega (
      arith,
      length-take-le r.base r.written.out.items r.based,
      length-append (base_of r) (open_text true cs ++ 123 ∷ []),
      length-append (open_text true cs) (123 ∷ []),
    )

behind_front : (base before texts : List ℕ) → base ++ (before ++ 123 ∷ texts) ≡ (base ++ (before ++ 123 ∷ [])) ++ texts
behind_front base before texts = ap (λ xs. base ++ xs) (sym (append_assoc before (123 ∷ []) texts)) ∙ sym (append_assoc base (before ++ 123 ∷ []) texts)

-- members joined behind what is before them
joined_behind : (r : TextSink) (cs : List Open) (fs : List Found) → base_of r ++ (open_text true cs ++ 123 ∷ with_commas (map member_text fs)) ≡ front r cs ++ join_pieces true (map member_text fs)
joined_behind r cs fs = behind_front (base_of r) (open_text true cs) (with_commas (map member_text fs)) ∙ ap (λ texts. front r cs ++ texts) (sym (with_commas_joined (map member_text fs)))

-- ---- members put in order

pub settled : {E : Type 0} (r s : TextSink) (first : ℕ) (answer : Result (Option Repeat) E) → IfOk answer (PutsInOrder true r.base r.members s.members first (bytes_of r.written) (bytes_of s.written))
    → IfOk answer (λ reported. (text : List ℕ) → (held : List Held) → (fs : List Found) → (key : Mark × List ℕ) → (offset : ℕ) → (cs : List Open) → TextHolds text r false (members first ∷ held) (members_so_far fs key offset ∷ cs) → MatchOption reported (IsSettled r s fs cs) (ReportsRepeatOf s.members fs))
settled r s first (Err e) h = tt
settled r s first (Ok reported) h = λ text held fs key offset cs sink. by fs cs reported (
    h member_text (front r cs) fs (omega (arith, front_length r cs)) (subst (λ n. EndIn true member_text r.members first n fs) (front_length r cs) (opened.ends_in sink.members sink.fits.0)) (sink.bytes ∙ joined_behind r cs fs)
    )
  where
    by : (fs : List Found) (cs : List Open) (reported : Option Repeat) → MatchOption reported (AreSettled true member_text (front r cs) fs (bytes_of s.written)) (ReportsRepeatOf s.members fs) → MatchOption reported (IsSettled r s fs cs) (ReportsRepeatOf s.members fs)
    by fs cs None is = record { written = is.written ∙ sym (joined_behind r cs (sort_by spot_of fs)); new_keys = is.new_keys }
    by fs cs (Some i) is = is

pub same_members : (r : TextSink) → PreservesMembers r r
same_members r = record { text = refl; base = refl; before = refl; members = opened.same r.members }

-- keys that ascend
pub in_order : {text : List ℕ} {r : TextSink} {first : ℕ} {held : List Held} {fs : List Found} {key : Mark × List ℕ} {offset : ℕ} {cs : List Open} → TextHolds text r false (members first ∷ held) (members_so_far fs key offset ∷ cs) → KeysAscendFrom r.members first
    → IsSettled r r fs cs
in_order {r = r} {first = first} {fs = fs} {cs = cs} sink up =
    let ascending = opened.ascending true member_text r.members first (r.base + length (open_text true cs) + 1) fs (opened.ends_in sink.members sink.fits.0) up in
    record {
      written = sink.bytes ∙ ap (λ (gs : List Found). base_of r ++ (open_text true cs ++ 123 ∷ with_commas (map member_text gs))) (sym (stays fs ascending));
      new_keys = ascending_new (map spot_of fs) ascending;
    }

-- ---- the end

pub ended : {text : List ℕ} {r s t : TextSink} {first : ℕ} {held : List Held} {fs : List Found} {key : Mark × List ℕ} {offset : ℕ} {cs : List Open} → TextHolds text r false (members first ∷ held) (members_so_far fs key offset ∷ cs) → PreservesMembers r s → IsSettled r s fs cs → Closes first s t
    → EndsObject (TextFilled text) t fs held cs
ended {text = text} {r = r} {t = t} {held = held} {fs = fs} {cs = cs} sink preserves is closes =
    let body = open_text true cs ++ 123 ∷ with_commas (map member_text (sort_by spot_of fs)) in
    let base : r.base ≡ t.base = sym (closes.base ∙ preserves.base) in
    record {
      filled = record {
        text_is = closes.text ∙ preserves.text ∙ sink.text_is;
        bytes =
            closes.written ∙ ap (λ xs. xs ++ 125 ∷ []) is.written ∙ append_assoc (base_of r) body (125 ∷ [])
            ∙ ap₂ (λ b n. b ++ n) (sym (closes.before ∙ preserves.before)) (object_ended fs cs (sort_ascends fs is.new_keys));
        members = subst (λ b. AreOf (text_layout b) text t.members true cs) base (opened.closed sink.members sink.fits.0 preserves.members closes.members);
        fits = subst (λ b. HeldFits b true held cs) base sink.fits.1;
      };
      new_keys = is.new_keys;
    }

-- ---- what was reported

pub if_some : (text : List ℕ) (r s : TextSink) (fs : List Found) (held : List Held) (cs : List Open) (reported : Option Repeat) → true ≡ is_some reported → MatchOption reported (IsSettled r s fs cs) (ReportsRepeatOf s.members fs)
    → MatchOption reported (EndsObject (TextFilled text) s fs held cs) (ReportsRepeatOf s.members fs)
if_some text r s fs held cs None e h = absurd cc
if_some text r s fs held cs (Some n) e h = h

pub if_none : (r s : TextSink) (fs : List Found) (cs : List Open) (reported : Option Repeat) → false ≡ is_some reported → MatchOption reported (IsSettled r s fs cs) (ReportsRepeatOf s.members fs) → IsSettled r s fs cs
if_none r s fs cs None e h = h
if_none r s fs cs (Some n) e h = absurd cc
