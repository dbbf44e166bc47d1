-- The sink of a part after an event.
use Rattle.std.proofs.lemmas.List.{append_cancel_left, take-append-drop}
use Rattle.std.proofs.Common.{drop, ◌≡◌, inl, inr, ℕ, zero, suc, ◌+◌, ◌-◌, ◌<◌, ◌≤◌, Bool, true, false, true≢false, List, [], ◌∷◌, ◌++◌, map, length, take, Option, Some, None, MatchOption, refl, sym, ap, subst, ◌∙◌, arith, append-nil, length-append, ◌==◌}
use Rattle.std.proofs.lemmas.Bool.{cond-false, ne_eqb}
use Rattle.std.specs.Option.{is_none, option_and_then, option_map, option_or, option_map_or}
use Rattle.std.specs.Prelude.{if◌then◌else◌, nat_lt}
use Rattle.std.proofs.lemmas.Bool.Decides.{nat_tests}
use Rattle.jsonb_spec.specs.Text.{tree_text}
use Rattle.jsonb_spec.specs.Tree.{Mark, Tree}
use Rattle.jsonb_spec.specs.Tree.Mark.{plain}
use Rattle.jsonb_spec.specs.Source.Open.{Open, elements_so_far, members_so_far}
use Rattle.jsonb_spec.specs.Source.{Found, Source, array_source_of, first_repeat, found_member, object_source_of, spot_of, tree_of_source}
use Rattle.text_common.specs.VerbatimScalar.{IsVerbatimAt}
use Rattle.jsonb_spec.specs.Text.SourceText.{source_text}
use Rattle.text_common.specs.declared.verbatim.Verbatim.{Verbatim}
use Rattle.text_common.specs.declared.verbatim.Verbatim.TheVariants as verbatim
use Rattle.jsonb_spec.specs.PartAt.{index_named, part_at}
use Rattle.text_write.specs.CheckSink as check
use Rattle.text_write.specs.CheckSink.{CheckHolds, unwritten}
use Rattle.text_write.specs.KeySink as key
use Rattle.text_members.specs.OpenMembers.{EndsObject, ReportsRepeatOf, all_starts}
use Rattle.text_members.specs.declared.open_members.Repeat.{Repeat}
use Rattle.text_write.specs.PartSink.{EndsAt, FilledAt, HeldFits, InnerEnds, IsAhead, IsAround, IsInPart, IsOutside, IsSeeking, IsWritten, Leads, PartFilled, PartHeld, PartHolds, HoldsAt, check_held, first_index, follow_key, array_held, keys_of, object_held, part_of, less, rest_at, text_held, ahead_of, level_of}
use Rattle.jsonb_spec.specs.PartAt.SoFar.{HasNoParts, follow, path_behind, part_inside, part_of_ended, part_with_value, waits_at, within}
use Rattle.text_write.specs.TextSink as text
use Rattle.text_write.specs.TextSink.{SeesPart, TextFilled, TextHolds, base_of}
use Rattle.text_write.specs.declared.check.CheckSink.{CheckSink}
use Rattle.text_write.specs.declared.text.Part.{Part}
use Rattle.text_write.specs.declared.text.Part.TheVariants as part
use Rattle.text_write.specs.declared.part.PartItems.{PartItems}
use Rattle.text_write.specs.declared.part.PartMembers.{PartMembers}
use Rattle.text_write.specs.declared.part.PartSink.{PartSink}
use Rattle.text_write.specs.declared.text.TextSink.{TextSink}
use Rattle.text_write.proofs.Checks.{value_ended}
use Rattle.text_members.proofs.OpenMembers as opened
use Rattle.text_write.proofs.PartPaths.{array-ended, object-ended, or_none, picked-alone, picked-ended, picked-more}

-- ---- a value that ends

-- it is the part, and no other ended before
found_part : (before : Option Tree) (rest : Option (List (List ℕ))) (s : Source) → rest ≡ Some [] → None ≡ option_map tree_text before
    → Some (source_text s) ≡ option_map tree_text (option_or before (option_and_then (λ keys. part_at keys (tree_of_source s)) rest))
found_part None (Some []) s e h = refl
found_part None (Some (k ∷ ks)) s e h = absurd (longer k ks e)
  where
    longer : (k : List ℕ) (ks : List (List ℕ)) → Some (k ∷ ks) ≡ Some [] → ⊥
    longer k ks e = cc
found_part None None s e h = absurd (none e)
  where
    none : {A : Type 0} {x : A} → None ≡ Some x → ⊥
    none e = cc
found_part (Some t) rest s e h = absurd (none h)
  where
    none : {A : Type 0} {x : A} → None ≡ Some x → ⊥
    none e = cc

-- a part was copied before
verbatim_part : (before : Option Tree) (rest : Option (List (List ℕ))) (s : Source) (text : List ℕ) → Some text ≡ option_map tree_text (option_or before (option_and_then (part_inside s) rest))
    → Some text ≡ option_map tree_text (option_or before (option_and_then (λ keys. part_at keys (tree_of_source s)) rest))
verbatim_part (Some t) rest s text h = h
verbatim_part None None s text h = h
verbatim_part None (Some []) s text h = absurd (none h)
  where
    none : {A : Type 0} {x : A} → Some x ≡ None → ⊥
    none e = cc
verbatim_part None (Some (k ∷ ks)) s text h = h

-- it isn't the part itself
no_part : (before : Option Tree) (rest : Option (List (List ℕ))) (s : Source) → (rest ≡ Some [] → ⊥)
    → option_or before (option_and_then (part_inside s) rest) ≡ option_or before (option_and_then (λ keys. part_at keys (tree_of_source s)) rest)
no_part before None s h = refl
no_part before (Some []) s h = absurd (h refl)
no_part before (Some (k ∷ ks)) s h = refl

-- it isn't the part, or the part was found before
ends_outside : (keys : List (List ℕ)) (found : Bool) (got : List ℕ) (level : Option ℕ) (s : Source) (cs : List Open) → IsOutside keys found level cs
    → (if found then Some got else None) ≡ option_map tree_text (option_or (part_of_ended keys cs) (option_and_then (part_inside s) (path_behind keys cs))) → (if found then Some got else None) ≡ option_map tree_text (part_with_value keys s cs)
ends_outside keys true got level s cs outside h = verbatim_part (part_of_ended keys cs) (path_behind keys cs) s got h
ends_outside keys false got level s cs outside h = h ∙ ap (option_map tree_text) (no_part (part_of_ended keys cs) (path_behind keys cs) s (λ e. true≢false (sym (outside.other (sym outside.leads ∙ e)))))

-- ---- what is held around the part

fits_found : (keys : List (List ℕ)) (held : List PartHeld) (cs : List Open) → HeldFits keys false held cs → HeldFits keys true held cs
fits_found keys [] [] h = tt
fits_found keys [] (c ∷ cs) h = absurd h
fits_found keys (array_held f ∷ held) [] h = absurd h
fits_found keys (array_held f ∷ held) (elements_so_far ss ∷ cs) h = (record { leads = h.0.leads; other = λ e. refl }, (h.1.0, fits_found keys held cs h.1.1))
fits_found keys (array_held f ∷ held) (members_so_far fs k offset ∷ cs) h = absurd h
fits_found keys (object_held f ∷ held) [] h = absurd h
fits_found keys (object_held f ∷ held) (elements_so_far ss ∷ cs) h = absurd h
fits_found keys (object_held f ∷ held) (members_so_far fs k offset ∷ cs) h = (record { leads = h.0.leads; other = λ e. refl }, fits_found keys held cs h.1)

-- an array has no members
check_opened : {document : List ℕ} {k : CheckSink} {held : List key.Held} {cs : List Open} (due : Bool) (ss : List Source) → CheckHolds document k true held cs → CheckHolds document k due (key.items ∷ held) (elements_so_far ss ∷ cs)
check_opened {k = k} {cs = cs} due ss check = record { members = opened.stay check.members (opened.same k.members) (sym (append-nil (all_starts unwritten true cs))); fits = check.fits }

check_closed : {document : List ℕ} {k : CheckSink} {held : List key.Held} {cs : List Open} (due : Bool) (ss : List Source) → CheckHolds document k due (key.items ∷ held) (elements_so_far ss ∷ cs) → CheckHolds document k true held cs
check_closed {k = k} {cs = cs} due ss check = record { members = opened.stay check.members (opened.same k.members) (append-nil (all_starts unwritten true cs)); fits = check.fits }

-- no item yet
none_ended : (before : Option Tree) (rest : Option (List (List ℕ))) → before ≡ option_or before (option_and_then (within (elements_so_far [])) rest)
none_ended before None = sym (or_none before)
none_ended before (Some []) = sym (or_none before)
none_ended before (Some (key ∷ keys)) = sym (ap (option_or before) (none (index_named key)) ∙ or_none before)
  where
    none : {A : Type 0} (o : Option A) → option_and_then {U = Tree} (λ i. None) o ≡ None
    none None = refl
    none (Some x) = refl

no_member : (before : Option Tree) (rest : Option (List (List ℕ))) (k : Mark × List ℕ) (offset : ℕ) → before ≡ option_or before (option_and_then (within (members_so_far [] k offset)) rest)
no_member before None k offset = sym (or_none before)
no_member before (Some []) k offset = sym (or_none before)
no_member before (Some (key ∷ keys)) k offset = sym (or_none before)

all_ahead : (wanted : Option ℕ) → IsAhead wanted wanted 0
all_ahead None = tt
all_ahead (Some n) = ap Some (omega arith)

-- ---- where a value is due

-- the next item isn't on the path
elsewhere : (rest : Option (List (List ℕ))) (ss : List Source) → IsAhead (option_and_then first_index rest) None (length ss) → option_and_then (follow (elements_so_far ss)) rest ≡ None
elsewhere None ss h = refl
elsewhere (Some []) ss h = refl
elsewhere (Some (key ∷ keys)) ss h = cond-false (waits_at (elements_so_far ss) key) (Some keys) None (passed (index_named key) h)
  where
    passed : (o : Option ℕ) → IsAhead o None (length ss) → option_map_or (λ i. i == length ss) o false ≡ false
    passed None h = refl
    passed (Some i) h = ne_eqb i (length ss) (λ e. absurd (omega (arith, e, h)))

-- whatever key waits, the members are the same
same_members : (before : Option Tree) (fs : List Found) (k l : Mark × List ℕ) (offset other : ℕ) (rest : Option (List (List ℕ))) → option_or before (option_and_then (within (members_so_far fs k offset)) rest) ≡ option_or before (option_and_then (within (members_so_far fs l other)) rest)
same_members before fs k l offset other None = refl
same_members before fs k l offset other (Some []) = refl
same_members before fs k l offset other (Some (key ∷ keys)) = refl

follow_members : (fs : List Found) (k : Mark × List ℕ) (offset : ℕ) (rest : Option (List (List ℕ))) → option_and_then (follow (members_so_far fs k offset)) rest ≡ option_and_then (follow_key k.1) rest
follow_members fs k offset None = refl
follow_members fs k offset (Some []) = refl
follow_members fs k offset (Some (key ∷ keys)) = refl

-- ---- a value that holds no others

pub alone : (p : Part) (s : Source) → SeesPart p s → (rest : List (List ℕ)) → part_inside s rest ≡ None
alone p s sees [] = refl
alone part.Null s sees (key ∷ keys) = ap (λ v. part_inside v (key ∷ keys)) sees
alone (part.Bool b) s sees (key ∷ keys) = ap (λ v. part_inside v (key ∷ keys)) sees
alone (part.Number n) s sees (key ∷ keys) = ap (λ v. part_inside v (key ∷ keys)) sees
alone (part.String t) s sees (key ∷ keys) = ap (λ v. part_inside v (key ∷ keys)) sees
alone (part.Plain t) s sees (key ∷ keys) = ap (λ v. part_inside v (key ∷ keys)) sees.0
alone (part.Contents c) s sees (key ∷ keys) = ap (λ v. part_inside v (key ∷ keys)) sees
alone part.Written s sees (key ∷ keys) = absurd sees

-- nor is there a part inside of a scalar that is in the text
pub verbatim_alone : (kind : Verbatim) (text : List ℕ) (from to : ℕ) (s : Source) → IsVerbatimAt kind text from to s → (rest : List (List ℕ)) → part_inside s rest ≡ None
verbatim_alone kind text from to s at [] = refl
verbatim_alone verbatim.Integer text from to s at (key ∷ keys) = ap (λ v. part_inside v (key ∷ keys)) at.is
verbatim_alone verbatim.Decimal text from to s at (key ∷ keys) = ap (λ v. part_inside v (key ∷ keys)) at.is
verbatim_alone verbatim.Same text from to s at (key ∷ keys) = ap (λ v. part_inside v (key ∷ keys)) at.0.is
verbatim_alone verbatim.Escaped text from to s at (key ∷ keys) = ap (λ v. part_inside v (key ∷ keys)) at.is

-- ---- one part more

one_less : (wanted : Option ℕ) (ahead fewer : Option ℕ) (ss : List Source) (s : Source) → IsAhead wanted ahead (length ss) → fewer ≡ less ahead → IsAhead wanted fewer (length (ss ++ s ∷ []))
one_less wanted None fewer ss s h is = subst (λ a. IsAhead wanted a (length (ss ++ s ∷ []))) (sym is) (by wanted h)
  where
    by : (o : Option ℕ) → IsAhead o None (length ss) → IsAhead o None (length (ss ++ s ∷ []))
    by None h = tt
    by (Some i) h = omega (arith, length-append ss (s ∷ []))
one_less wanted (Some zero) fewer ss s h is = subst (λ a. IsAhead wanted a (length (ss ++ s ∷ []))) (sym is) (subst (λ o. IsAhead o None (length (ss ++ s ∷ []))) (sym h) last)
  where
    last : length ss + 0 < length (ss ++ s ∷ [])
    last = omega (arith, length-append ss (s ∷ []))
one_less wanted (Some (suc n)) fewer ss s h is = subst (λ a. IsAhead wanted a (length (ss ++ s ∷ []))) (sym is) (h ∙ ap Some next)
  where
    next : length ss + suc n ≡ length (ss ++ s ∷ []) + n
    next = omega (arith, length-append ss (s ∷ []))

-- ---- in the part

in_part_on : {document : List ℕ} {r : PartSink} {held : List PartHeld} {cs : List Open} (n m : ℕ) (w : TextSink) → IsInPart n document r held cs
    → IsInPart n document (record { check = r.check; text = w; path = r.path; due = r.due; inside = m; found = r.found }) held cs
in_part_on n m w h = record { seeks = h.seeks; open_yet = h.open_yet; here = h.here; few = h.few }

-- what is written where a value is due that is written
pub in_part : {document : List ℕ} {r : PartSink} {held : List PartHeld} {cs : List Open} → PartHolds document r true held cs → IsWritten r
    → IsInPart r.inside document r held cs × TextHolds document r.text true (map text_held (take r.inside held)) (take r.inside cs)
in_part {document = document} {r = r} {held = held} {cs = cs} sink (inl some) = by_count r.inside some sink.holds
  where
    by_count : (n : ℕ) → 0 < n → HoldsAt n document r true held cs → IsInPart n document r held cs × TextHolds document r.text true (map text_held (take n held)) (take n cs)
    by_count zero some h = absurd (omega (arith, some))
    by_count (suc n) some h = h
in_part {document = document} {r = r} {held = held} {cs = cs} sink (inr first) =
    let holds : HoldsAt 0 document r true held cs = subst (λ n. HoldsAt n document r true held cs) first.0 sink.holds in
    let seeks : IsSeeking document r.check (keys_of r) r.due false None true held cs =
    subst (λ b. IsSeeking document r.check (keys_of r) r.due b (if b then Some (drop r.text.base r.text.written.out.items) else None) true held cs) first.1 holds.0 in
    subst (λ n. IsInPart n document r held cs × TextHolds document r.text true (map text_held (take n held)) (take n cs)) (sym first.0)
    (record { seeks = seeks; open_yet = first.1; here = first.2; few = omega arith }, holds.1 first.1)

-- one more container is written
pub begun_in : {document : List ℕ} {r : PartSink} {w : TextSink} {held : List PartHeld} {cs : List Open} (g : PartHeld) (d : Open) (m : ℕ) → m ≡ r.inside + 1
    → ((hs : List text.Held) → (ds : List Open) → TextHolds document r.text true hs ds → TextHolds document w false (text_held g ∷ hs) (d ∷ ds)) → PartHolds document r true held cs → IsWritten r
    → PartHolds document (record { check = r.check; text = w; path = r.path; due = r.due; inside = m; found = r.found }) false (g ∷ held) (d ∷ cs)
begun_in {document = document} {r = r} {w = w} {held = held} {cs = cs} g d m more opens sink written =
    let n = r.inside in
    let h = in_part sink written in
    let next : PartSink = record { check = r.check; text = w; path = r.path; due = r.due; inside = m; found = r.found } in
    let inner : IsInPart (suc n) document next (g ∷ held) (d ∷ cs) = record { seeks = h.0.seeks; open_yet = h.0.open_yet; here = h.0.here; few = omega (arith, h.0.few) } in
    let is : suc n ≡ m = omega (arith, more) in
    record {
      holds = subst (λ k. HoldsAt k document next false (g ∷ held) (d ∷ cs)) is (inner, opens (map text_held (take n held)) (take n cs) h.1);
    }

-- the innermost of them goes on
pub goes_on_in : {document : List ℕ} {r : PartSink} {w : TextSink} {held : List PartHeld} {cs : List Open} (h g : PartHeld) (c d : Open) (due next_due : Bool) → 0 < r.inside
    → ((hs : List text.Held) → (ds : List Open) → TextHolds document r.text due (text_held h ∷ hs) (c ∷ ds) → TextHolds document w next_due (text_held g ∷ hs) (d ∷ ds)) → PartHolds document r due (h ∷ held) (c ∷ cs)
    → PartHolds document (record { check = r.check; text = w; path = r.path; due = r.due; inside = r.inside; found = r.found }) next_due (g ∷ held) (d ∷ cs)
goes_on_in {document = document} {r = r} {w = w} {held = held} {cs = cs} h g c d due next_due some step sink = record { holds = by_count r.inside some sink.holds }
  where
    next : PartSink
    next = record { check = r.check; text = w; path = r.path; due = r.due; inside = r.inside; found = r.found }

    by_count : (n : ℕ) → 0 < n → HoldsAt n document r due (h ∷ held) (c ∷ cs) → HoldsAt n document next next_due (g ∷ held) (d ∷ cs)
    by_count zero some x = absurd (omega (arith, some))
    by_count (suc n) some x = (record { seeks = x.0.seeks; open_yet = x.0.open_yet; here = x.0.here; few = x.0.few }, step (map text_held (take n held)) (take n cs) x.1)

-- a value becomes a part of it
pub put_in : {document : List ℕ} {r : PartSink} {w : TextSink} {s : Source} {held : List PartHeld} {cs : List Open} (h g : PartHeld) (c d : Open) → 0 < r.inside
    → ((hs : List text.Held) → (ds : List Open) → TextFilled document r.text s (text_held h ∷ hs) (c ∷ ds) → TextHolds document w false (text_held g ∷ hs) (d ∷ ds)) → PartFilled document r s (h ∷ held) (c ∷ cs)
    → PartHolds document (record { check = r.check; text = w; path = r.path; due = r.due; inside = r.inside; found = r.found }) false (g ∷ held) (d ∷ cs)
put_in {document = document} {r = r} {w = w} {s = s} {held = held} {cs = cs} h g c d some step sink = record { holds = by_count r.inside some sink.filled }
  where
    next : PartSink
    next = record { check = r.check; text = w; path = r.path; due = r.due; inside = r.inside; found = r.found }

    by_count : (n : ℕ) → 0 < n → FilledAt n document r s (h ∷ held) (c ∷ cs) → HoldsAt n document next false (g ∷ held) (d ∷ cs)
    by_count zero some x = absurd (omega (arith, some))
    by_count (suc n) some x = (record { seeks = x.0.seeks; open_yet = x.0.open_yet; here = x.0.here; few = x.0.few }, step (map text_held (take n held)) (take n cs) x.1)

-- it ends
pub ends_in : {document : List ℕ} {r : PartSink} {w : TextSink} {held : List PartHeld} {cs : List Open} (h : PartHeld) (c : Open) (s : Source) → 0 < r.inside
    → ((hs : List text.Held) → (ds : List Open) → TextHolds document r.text false (text_held h ∷ hs) (c ∷ ds) → TextFilled document w s hs ds) → PartHolds document r false (h ∷ held) (c ∷ cs)
    → InnerEnds document (record { check = r.check; text = w; path = r.path; due = r.due; inside = r.inside; found = r.found }) s held cs
ends_in {document = document} {r = r} {w = w} {held = held} {cs = cs} h c s some step sink = by_count r.inside refl some sink.holds
  where
    next : PartSink
    next = record { check = r.check; text = w; path = r.path; due = r.due; inside = r.inside; found = r.found }

    by_count : (n : ℕ) → r.inside ≡ n → 0 < n → HoldsAt n document r false (h ∷ held) (c ∷ cs) → InnerEnds document next s held cs
    by_count zero is some x = absurd (omega (arith, some))
    by_count (suc n) is some x =
        record {
          outer = n;
          count = is;
          ends = (record { seeks = x.0.seeks; open_yet = x.0.open_yet; here = x.0.here; few = omega (arith, x.0.few) }, step (map text_held (take n held)) (take n cs) x.1);
        }

-- a value that holds no others is counted as open
pub alone_in : {document : List ℕ} {r : PartSink} {w : TextSink} {s : Source} {held : List PartHeld} {cs : List Open} (m : ℕ) → m ≡ r.inside + 1
    → ((hs : List text.Held) → (ds : List Open) → TextHolds document r.text true hs ds → TextFilled document w s hs ds) → PartHolds document r true held cs → IsWritten r
    → InnerEnds document (record { check = r.check; text = w; path = r.path; due = r.due; inside = m; found = r.found }) s held cs
alone_in {r = r} {w = w} {held = held} {cs = cs} m more step sink written =
    let n = r.inside in
    let h = in_part sink written in
    record { outer = n; count = omega (arith, more); ends = (in_part_on n m w h.0, step (map text_held (take n held)) (take n cs) h.1) }

-- the part ends
pub part_ends : {document : List ℕ} {r : PartSink} {w : TextSink} {s : Source} {held : List PartHeld} {cs : List Open} → r.inside ≡ 1 → base_of w ≡ base_of r.text
    → ((text : List ℕ) → (s : Source) → TextFilled text r.text s [] [] → w.written.out.items ≡ base_of r.text ++ source_text s) → InnerEnds document r s held cs
    → PartFilled document (record { check = r.check; text = w; path = r.path; due = r.due; inside = 0; found = true }) s held cs
part_ends {document = document} {r = r} {w = w} {s = s} {held = held} {cs = cs} one same finishes inner =
    let keys = keys_of r in
    let none : inner.outer ≡ 0 = omega (arith, one, inner.count) in
    let ends : EndsAt 0 document r s held cs = subst (λ n. EndsAt n document r s held cs) none inner.ends in
    let seeks : IsSeeking document r.check keys r.due false None true held cs = ends.0.seeks in
    let out = w.written.out.items in
    let text : drop w.base out ≡ source_text s =
    append_cancel_left (base_of w) (drop w.base out) (source_text s) (take-append-drop w.base out ∙ finishes document s ends.1 ∙ ap (λ b. b ++ source_text s) (sym same)) in
    record {
      filled = (
        record {
          holds = seeks.holds;
          fits = fits_found keys held cs seeks.fits;
          part_is = ap Some text ∙ found_part (part_of_ended keys cs) (path_behind keys cs) s (seeks.leads refl ∙ ends.0.here) seeks.part_is;
        },
        λ e. absurd (true≢false e),
      );
    }

-- a container in it ends
pub inner_ends : {document : List ℕ} {r : PartSink} {s : Source} {held : List PartHeld} {cs : List Open} (m : ℕ) → (r.inside ≡ 1 → ⊥) → m ≡ r.inside - 1 → InnerEnds document r s held cs
    → PartFilled document (record { check = r.check; text = r.text; path = r.path; due = r.due; inside = m; found = r.found }) s held cs
inner_ends {document = document} {r = r} {s = s} {held = held} {cs = cs} m others less inner =
    record { filled = by_count inner.outer (omega (arith, less, inner.count)) (λ e. others (inner.count ∙ ap suc e)) inner.ends }
  where
    next : PartSink
    next = record { check = r.check; text = r.text; path = r.path; due = r.due; inside = m; found = r.found }

    by_count : (n : ℕ) → n ≡ m → (n ≡ 0 → ⊥) → EndsAt n document r s held cs → FilledAt m document next s held cs
    by_count zero is some x = absurd (some refl)
    by_count (suc n) is some x = subst (λ k. FilledAt k document next s held cs) is (in_part_on (suc n) m r.text x.0, x.1)

-- ---- around the part

-- what is where nothing is written
around : {document : List ℕ} {r : PartSink} {due : Bool} {held : List PartHeld} {cs : List Open} → r.inside ≡ 0 → PartHolds document r due held cs → HoldsAt 0 document r due held cs
around {document = document} {r = r} {due = due} {held = held} {cs = cs} none sink = subst (λ n. HoldsAt n document r due held cs) none sink.holds

around_filled : {document : List ℕ} {r : PartSink} {s : Source} {held : List PartHeld} {cs : List Open} → r.inside ≡ 0 → PartFilled document r s held cs → FilledAt 0 document r s held cs
around_filled {document = document} {r = r} {s = s} {held = held} {cs = cs} none sink = subst (λ n. FilledAt n document r s held cs) none sink.filled

outside : {document : List ℕ} (r : PartSink) {held : List PartHeld} {cs : List Open} → IsAround r → HoldsAt 0 document r true held cs → (level : Option ℕ) → level ≡ r.due → IsOutside (keys_of r) r.found level cs
outside r away holds level is = record { leads = holds.0.leads refl ∙ ap (rest_at (keys_of r)) (sym is); other = λ e. away.1 (ap (rest_at (keys_of r)) (sym is) ∙ e) }

pub array_begun : {document : List ℕ} {r : PartSink} {held : List PartHeld} {cs : List Open} (f : PartItems) → IsAround r → (level_of f) ≡ r.due → (ahead_of f) ≡ option_and_then first_index (rest_at (keys_of r) r.due) → PartHolds document r true held cs
    → PartHolds document r false (array_held f ∷ held) (elements_so_far [] ∷ cs)
array_begun {document = document} {r = r} {held = held} {cs = cs} f away level ahead sink =
    let keys = keys_of r in
    let holds = around away.0 sink in
    let wanted : (ahead_of f) ≡ option_and_then first_index (path_behind keys cs) = ahead ∙ ap (option_and_then first_index) (sym (holds.0.leads refl)) in
    record {
      holds = subst (λ n. HoldsAt n document r false (array_held f ∷ held) (elements_so_far [] ∷ cs)) (sym away.0) (
        record {
          holds = check_opened false [] holds.0.holds;
          fits = (outside r away holds (level_of f) level, (subst (λ a. IsAhead (option_and_then first_index (path_behind keys cs)) a 0) (sym wanted) (all_ahead (option_and_then first_index (path_behind keys cs))), holds.0.fits));
          leads = λ e. absurd cc;
          part_is = holds.0.part_is ∙ ap (option_map tree_text) (none_ended (part_of_ended keys cs) (path_behind keys cs));
        },
        holds.1,
      );
    }

pub object_begun_around : {document : List ℕ} {r : PartSink} {o : CheckSink} {held : List PartHeld} {cs : List Open} (f : PartMembers) (k : Mark × List ℕ) (offset : ℕ) → IsAround r → f.level ≡ r.due
    → (CheckHolds document r.check true (map check_held held) cs → CheckHolds document o false (key.members f.first ∷ map check_held held) (members_so_far [] k offset ∷ cs)) → PartHolds document r true held cs
    → PartHolds document (record { check = o; text = r.text; path = r.path; due = r.due; inside = r.inside; found = r.found }) false (object_held f ∷ held) (members_so_far [] k offset ∷ cs)
object_begun_around {document = document} {r = r} {o = o} {held = held} {cs = cs} f k offset away level opens sink =
    let keys = keys_of r in
    let next : PartSink = record { check = o; text = r.text; path = r.path; due = r.due; inside = r.inside; found = r.found } in
    let holds = around away.0 sink in
    record {
      holds = subst (λ n. HoldsAt n document next false (object_held f ∷ held) (members_so_far [] k offset ∷ cs)) (sym away.0) (
        record {
          holds = opens holds.0.holds;
          fits = (outside r away holds f.level level, holds.0.fits);
          leads = λ e. absurd cc;
          part_is = holds.0.part_is ∙ ap (option_map tree_text) (no_member (part_of_ended keys cs) (path_behind keys cs) k offset);
        },
        holds.1,
      );
    }

-- an item is due
pub item_due : {document : List ℕ} {r : PartSink} {held : List PartHeld} {cs : List Open} (f : PartItems) (ss : List Source) (due : Option ℕ) → r.inside ≡ 0
    → (Leads (keys_of r) (level_of f) cs → IsAhead (option_and_then first_index (path_behind (keys_of r) cs)) (ahead_of f) (length ss) → Leads (keys_of r) due (elements_so_far ss ∷ cs)) → PartHolds document r false (array_held f ∷ held) (elements_so_far ss ∷ cs)
    → PartHolds document (record { check = r.check; text = r.text; path = r.path; due = due; inside = r.inside; found = r.found }) true (array_held f ∷ held) (elements_so_far ss ∷ cs)
item_due {document = document} {r = r} {held = held} {cs = cs} f ss due none leads sink =
    let next : PartSink = record { check = r.check; text = r.text; path = r.path; due = due; inside = r.inside; found = r.found } in
    let holds = around none sink in
    record {
      holds = subst (λ n. HoldsAt n document next true (array_held f ∷ held) (elements_so_far ss ∷ cs)) (sym none) (
        record {
          holds = check_opened true ss (check_closed false ss holds.0.holds);
          fits = holds.0.fits;
          leads = λ e. leads holds.0.fits.0.leads holds.0.fits.1.0;
          part_is = holds.0.part_is;
        },
        holds.1,
      );
    }

-- a member's value is due
pub member_due : {document : List ℕ} {r : PartSink} {k : CheckSink} {held : List PartHeld} {cs : List Open} (f : PartMembers) (fs : List Found) (before next : Mark × List ℕ) (offset after : ℕ) (due : Option ℕ) → r.inside ≡ 0
    → rest_at (keys_of r) due ≡ option_and_then (follow_key next.1) (rest_at (keys_of r) f.level)
    → (CheckHolds document r.check false (key.members f.first ∷ map check_held held) (members_so_far fs before offset ∷ cs) → CheckHolds document k true (key.members f.first ∷ map check_held held) (members_so_far fs next after ∷ cs))
    → PartHolds document r false (object_held f ∷ held) (members_so_far fs before offset ∷ cs)
    → PartHolds document (record { check = k; text = r.text; path = r.path; due = due; inside = r.inside; found = r.found }) true (object_held f ∷ held) (members_so_far fs next after ∷ cs)
member_due {document = document} {r = r} {k = k} {held = held} {cs = cs} f fs before next offset after due none is begins sink =
    let keys = keys_of r in
    let sink_then : PartSink = record { check = k; text = r.text; path = r.path; due = due; inside = r.inside; found = r.found } in
    let holds = around none sink in
    record {
      holds = subst (λ n. HoldsAt n document sink_then true (object_held f ∷ held) (members_so_far fs next after ∷ cs)) (sym none) (
        record {
          holds = begins holds.0.holds;
          fits = holds.0.fits;
          leads = λ e. follow_members fs next after (path_behind keys cs) ∙ ap (option_and_then (follow_key next.1)) holds.0.fits.0.leads ∙ sym is;
          part_is = holds.0.part_is ∙ ap (option_map tree_text) (same_members (part_of_ended keys cs) fs before next offset after (path_behind keys cs));
        },
        holds.1,
      );
    }

-- a value that holds no others, and isn't the part
pub alone_around : {document : List ℕ} {r : PartSink} {held : List PartHeld} {cs : List Open} (s : Source) → IsAround r → ((rest : List (List ℕ)) → part_inside s rest ≡ None) → PartHolds document r true held cs → PartFilled document r s held cs
alone_around {document = document} {r = r} {held = held} {cs = cs} s away nothing sink =
    let keys = keys_of r in
    let holds = around away.0 sink in
    record {
      filled = subst (λ n. FilledAt n document r s held cs) (sym away.0) (
        record {
          holds = holds.0.holds;
          fits = holds.0.fits;
          part_is = ends_outside keys r.found (drop r.text.base r.text.written.out.items) r.due s cs (outside r away holds r.due refl) (holds.0.part_is ∙ ap (option_map tree_text) (picked-alone keys s cs nothing));
        },
        holds.1,
      );
    }

pub array_ended : {document : List ℕ} {r : PartSink} {held : List PartHeld} {cs : List Open} (f : PartItems) (ss : List Source) → r.inside ≡ 0 → PartHolds document r false (array_held f ∷ held) (elements_so_far ss ∷ cs) → PartFilled document r (array_source_of ss) held cs
array_ended {document = document} {r = r} {held = held} {cs = cs} f ss none sink =
    let keys = keys_of r in
    let holds = around none sink in
    record {
      filled = subst (λ n. FilledAt n document r (array_source_of ss) held cs) (sym none) (
        record {
          holds = check_closed false ss holds.0.holds;
          fits = holds.0.fits.1.1;
          part_is = ends_outside keys r.found (drop r.text.base r.text.written.out.items) (level_of f) (array_source_of ss) cs holds.0.fits.0 (holds.0.part_is ∙ ap (option_map tree_text) (picked-ended keys (elements_so_far ss) (array_source_of ss) cs (array-ended ss)));
        },
        holds.1,
      );
    }

pub object_ended : {document : List ℕ} {r : PartSink} {k : CheckSink} {held : List PartHeld} {cs : List Open} (f : PartMembers) (fs : List Found) (last : Mark × List ℕ) (offset : ℕ) → r.inside ≡ 0 → CheckHolds document k true (map check_held held) cs → first_repeat (map spot_of fs) ≡ None
    → PartHolds document r false (object_held f ∷ held) (members_so_far fs last offset ∷ cs)
    → PartFilled document (record { check = k; text = r.text; path = r.path; due = r.due; inside = r.inside; found = r.found }) (object_source_of fs) held cs
object_ended {document = document} {r = r} {k = k} {held = held} {cs = cs} f fs last offset none ended new sink =
    let keys = keys_of r in
    let next : PartSink = record { check = k; text = r.text; path = r.path; due = r.due; inside = r.inside; found = r.found } in
    let holds = around none sink in
    record {
      filled = subst (λ n. FilledAt n document next (object_source_of fs) held cs) (sym none) (
        record {
          holds = ended;
          fits = holds.0.fits.1;
          part_is = ends_outside keys r.found (drop r.text.base r.text.written.out.items) f.level (object_source_of fs) cs holds.0.fits.0 (holds.0.part_is ∙ ap (option_map tree_text) (picked-ended keys (members_so_far fs last offset) (object_source_of fs) cs (λ rest. object-ended fs last offset rest new)));
        },
        holds.1,
      );
    }

pub item_put : {document : List ℕ} {r : PartSink} {held : List PartHeld} {cs : List Open} (f g : PartItems) (ss : List Source) (s : Source) → r.inside ≡ 0 → (level_of g) ≡ (level_of f) → (ahead_of g) ≡ less (ahead_of f) → PartFilled document r s (array_held f ∷ held) (elements_so_far ss ∷ cs)
    → PartHolds document r false (array_held g ∷ held) (elements_so_far (ss ++ s ∷ []) ∷ cs)
item_put {document = document} {r = r} {held = held} {cs = cs} f g ss s none level ahead filled =
    let keys = keys_of r in
    let h = around_filled none filled in
    record {
      holds = subst (λ n. HoldsAt n document r false (array_held g ∷ held) (elements_so_far (ss ++ s ∷ []) ∷ cs)) (sym none) (
        record {
          holds = check_opened false (ss ++ s ∷ []) (check_closed true ss h.0.holds);
          fits = (subst (λ l. IsOutside keys r.found l cs) (sym level) h.0.fits.0, (one_less (option_and_then first_index (path_behind keys cs)) (ahead_of f) (ahead_of g) ss s h.0.fits.1.0 ahead, h.0.fits.1.1));
          leads = λ e. absurd cc;
          part_is = h.0.part_is ∙ ap (option_map tree_text) (picked-more keys (elements_so_far ss) s cs);
        },
        h.1,
      );
    }

-- an item that holds no others passes, where the one on the path isn't ahead, and none is due
pub item_passes : {document : List ℕ} {r : PartSink} {held : List PartHeld} {cs : List Open} (f : PartItems) (ss : List Source) (s : Source) → r.inside ≡ 0 → r.due ≡ None → ahead_of f ≡ None → HasNoParts s
    → PartHolds document r false (array_held f ∷ held) (elements_so_far ss ∷ cs) → PartHolds document r false (array_held f ∷ held) (elements_so_far (ss ++ s ∷ []) ∷ cs)
item_passes {document = document} {r = r} {held = held} {cs = cs} f ss s none away ahead nothing sink =
    let leads : Leads (keys_of r) (level_of f) cs → IsAhead (option_and_then first_index (path_behind (keys_of r) cs)) (ahead_of f) (length ss) → Leads (keys_of r) r.due (elements_so_far ss ∷ cs) =
    λ on is. elsewhere (path_behind (keys_of r) cs) ss (subst (λ a. IsAhead (option_and_then first_index (path_behind (keys_of r) cs)) a (length ss)) ahead is) ∙ sym (ap (rest_at (keys_of r)) away) in
    let due : PartHolds document r true (array_held f ∷ held) (elements_so_far ss ∷ cs) = item_due f ss r.due none leads sink in
    let around_it : IsAround r = (none, λ e. absurd (true≢false (ap is_none (sym (ap (rest_at (keys_of r)) away) ∙ e)))) in
    item_put f f ss s none refl (ahead ∙ sym (ap less ahead)) (alone_around s around_it nothing due)

pub member_put : {document : List ℕ} {r : PartSink} {held : List PartHeld} {cs : List Open} (f : PartMembers) (fs : List Found) (k next : Mark × List ℕ) (offset other : ℕ) (s : Source) → r.inside ≡ 0 → PartFilled document r s (object_held f ∷ held) (members_so_far fs k offset ∷ cs)
    → PartHolds document r false (object_held f ∷ held) (members_so_far (fs ++ found_member k s offset ∷ []) next other ∷ cs)
member_put {document = document} {r = r} {held = held} {cs = cs} f fs k next offset other s none filled =
    let keys = keys_of r in
    let h = around_filled none filled in
    record {
      holds = subst (λ n. HoldsAt n document r false (object_held f ∷ held) (members_so_far (fs ++ found_member k s offset ∷ []) next other ∷ cs)) (sym none) (
        record {
          holds = value_ended s next other h.0.holds;
          fits = h.0.fits;
          leads = λ e. absurd cc;
          part_is = h.0.part_is ∙ ap (option_map tree_text) (picked-more keys (members_so_far fs k offset) s cs ∙ same_members (part_of_ended keys cs) (fs ++ found_member k s offset ∷ []) (plain, []) next 0 other (path_behind keys cs));
        },
        h.1,
      );
    }

-- ---- what was reported of the keys of an object

-- around the part
pub reported_around : {document : List ℕ} {r : PartSink} (k : CheckSink) {held : List PartHeld} {cs : List Open} (reported : Option Repeat) (f : PartMembers) (fs : List Found) (last : Mark × List ℕ) (offset : ℕ) → r.inside ≡ 0
    → (CheckHolds document r.check false (key.members f.first ∷ map check_held held) (members_so_far fs last offset ∷ cs) → MatchOption reported (check.CheckEnds document k fs (map check_held held) cs) (ReportsRepeatOf k.members fs))
    → PartHolds document r false (object_held f ∷ held) (members_so_far fs last offset ∷ cs)
    → MatchOption reported (EndsObject (PartFilled document) (record { check = k; text = r.text; path = r.path; due = r.due; inside = r.inside; found = r.found }) fs held cs)
    (λ i. ReportsRepeatOf (if nat_lt 0 r.inside then r.text.members else k.members) fs i)
reported_around {document = document} {r = r} k {held = held} {cs = cs} reported f fs last offset none reports sink = by_reported reported (reports (around none sink).0.holds)
  where
    by_reported : (o : Option Repeat) → MatchOption o (check.CheckEnds document k fs (map check_held held) cs) (ReportsRepeatOf k.members fs)
        → MatchOption o (EndsObject (PartFilled document) (record { check = k; text = r.text; path = r.path; due = r.due; inside = r.inside; found = r.found }) fs held cs) (λ i. ReportsRepeatOf (if nat_lt 0 r.inside then r.text.members else k.members) fs i)
    by_reported None ends = record { filled = object_ended f fs last offset none ends.filled ends.new_keys sink; new_keys = ends.new_keys }
    by_reported (Some i) reported = subst (λ n. ReportsRepeatOf (if nat_lt 0 n then r.text.members else k.members) fs i) (sym none) reported

-- in it, where none comes twice
pub new_in : {document : List ℕ} {r : PartSink} {w : TextSink} {held : List PartHeld} {cs : List Open} (reported : Option Repeat) (f : PartMembers) (fs : List Found) (last : Mark × List ℕ) (offset : ℕ) → 0 < r.inside → is_none reported ≡ true
    → ((hs : List text.Held) → (ds : List Open) → TextHolds document r.text false (text.members f.first ∷ hs) (members_so_far fs last offset ∷ ds) → MatchOption reported (EndsObject (TextFilled document) w fs hs ds) (ReportsRepeatOf w.members fs))
    → PartHolds document r false (object_held f ∷ held) (members_so_far fs last offset ∷ cs) → ((hs : List text.Held) → (ds : List Open) → TextHolds document r.text false (text.members f.first ∷ hs) (members_so_far fs last offset ∷ ds) → TextFilled document w (object_source_of fs) hs ds)
    × (first_repeat (map spot_of fs) ≡ None)
new_in {document = document} {r = r} {w = w} {held = held} {cs = cs} reported f fs last offset some none reports sink =
    (λ hs ds holds_so. (by_reported reported none (reports hs ds holds_so)).filled, by_count r.inside some sink.holds)
  where
    by_reported : {hs : List text.Held} {ds : List Open} (o : Option Repeat) → is_none o ≡ true → MatchOption o (EndsObject (TextFilled document) w fs hs ds) (ReportsRepeatOf w.members fs) → EndsObject (TextFilled document) w fs hs ds
    by_reported None e ends = ends
    by_reported (Some i) e ends = absurd cc

    by_count : (n : ℕ) → 0 < n → HoldsAt n document r false (object_held f ∷ held) (members_so_far fs last offset ∷ cs) → first_repeat (map spot_of fs) ≡ None
    by_count zero some x = absurd (omega (arith, some))
    by_count (suc n) some x = (by_reported reported none (reports (map text_held (take n held)) (take n cs) x.1)).new_keys

pub ended_in : {document : List ℕ} {next : PartSink} (fs : List Found) {held : List PartHeld} {cs : List Open} (reported : Option Repeat) (B : Repeat → Type 0) → is_none reported ≡ true → PartFilled document next (object_source_of fs) held cs → first_repeat (map spot_of fs) ≡ None
    → MatchOption reported (EndsObject (PartFilled document) next fs held cs) B
ended_in fs None B e filled new = record { filled = filled; new_keys = new }
ended_in fs (Some i) B e filled new = absurd cc

-- in it, where one does
pub reported_in : {document : List ℕ} {r : PartSink} (w : TextSink) {held : List PartHeld} {cs : List Open} (A : Type 0) (reported : Option Repeat) (f : PartMembers) (fs : List Found) (last : Mark × List ℕ) (offset : ℕ) → 0 < r.inside → is_none reported ≡ false
    → ((hs : List text.Held) → (ds : List Open) → TextHolds document r.text false (text.members f.first ∷ hs) (members_so_far fs last offset ∷ ds) → MatchOption reported (EndsObject (TextFilled document) w fs hs ds) (ReportsRepeatOf w.members fs))
    → PartHolds document r false (object_held f ∷ held) (members_so_far fs last offset ∷ cs) → MatchOption reported A (λ i. ReportsRepeatOf (if nat_lt 0 r.inside then w.members else r.check.members) fs i)
reported_in {document = document} {r = r} w {held = held} {cs = cs} A reported f fs last offset some other reports sink = by_count r.inside some sink.holds
  where
    by_reported : (B C : Type 0) (D : Repeat → Type 0) (o : Option Repeat) → is_none o ≡ false → MatchOption o B D → MatchOption o C D
    by_reported B C D None e h = absurd cc
    by_reported B C D (Some i) e h = h

    by_count : (n : ℕ) → 0 < n → HoldsAt n document r false (object_held f ∷ held) (members_so_far fs last offset ∷ cs) → MatchOption reported A (λ i. ReportsRepeatOf (if nat_lt 0 n then w.members else r.check.members) fs i)
    by_count zero some x = absurd (omega (arith, some))
    by_count (suc n) some x = let tested : nat_lt 0 (suc n) ≡ true = grind (arith, nat_tests) in rw tested (by_reported _ A _ reported other (reports (map text_held (take n held)) (take n cs) x.1))

-- ---- a whole text

-- the text of the part is that of the whole value's part at the path
pub filled_root : {document : List ℕ} {r : PartSink} {s : Source} → PartFilled document r s [] [] → part_of r ≡ option_map tree_text (part_at (keys_of r) (tree_of_source s))
filled_root {document = document} {r = r} {s = s} filled = by_count r.inside filled.filled
  where
    by_count : (n : ℕ) → FilledAt n document r s [] [] → part_of r ≡ option_map tree_text (part_at (keys_of r) (tree_of_source s))
    by_count zero x = x.0.part_is
    by_count (suc n) x = absurd (none n x.0.few)
      where
        none : (n : ℕ) → suc n ≤ 0 → ⊥
        none n few = omega (arith, few)
