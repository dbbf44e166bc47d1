-- Changes of values are splices.
use Rattle.std.proofs.Common.{◌≡◌, ℕ, zero, suc, ◌-◌, Bool, true, false, inl, inr, List, [], ◌∷◌, ◌++◌, Option, Some, None, IfSome, length, replicate, nat_lt, if◌then◌else◌, refl, sym, ap, subst, ◌∙◌, arith, append_assoc, length-append}
use Rattle.std.proofs.lemmas.List.{length-replicate}
use Rattle.std.specs.Prelude.{option_map}
use Rattle.std.specs.Option.{option_and_then}
use Rattle.std.specs.Ordering.{match_ordering}
use Rattle.std.specs.declared.cmp.Ordering.{Ordering}
use Rattle.std.specs.declared.cmp.Ordering.TheVariants.{Less, Equal, Greater}
use Rattle.jsonb_spec.specs.Accessors.{trees_len}
use Rattle.jsonb_spec.specs.Order.{bytes_cmp}
use Rattle.jsonb_spec.specs.Proper.{IsProper, AreProper, HaveProperParts}
use Rattle.jsonb_spec.specs.SortKey.{key_of, items_key, members_key, text_key}
use Rattle.jsonb_spec.specs.Tree.{Tree, null, boolean, string, number, array, object, binary, date, timestamp, timestamp_tz, interval, Trees, no_trees, more_trees, Members, no_members, more_members}
use Rattle.jsonb_spec.specs.Edit.{Outcome, stays, goes, becomes, member_before, changed_member, item_before, changed_item, changed_item_back, step_named, changed_at_member, changed_at_step, changed_part, part_with, within, changed_at}
use Rattle.jsonb_spec.specs.Edit.Insert.{changed_between, changed_slot, changed_slot_at, slot_index}
use Rattle.jsonb_spec.specs.Edit.Splices.{Cut, IsSplice, AreSplices, Spliced, entry_key, entry_counts}
use Rattle.key_edit.specs.Spots.{changed_end}
use Rattle.key_text.proofs.Counts.{one_each, items_each, members_each}
use Rattle.jsonb_spec.specs.Document.Counts.{counts_at, counts_at_items, counts_at_members}

-- ---- behind more bytes

regroup : (a b c : List ℕ) → a ++ (b ++ c) ≡ (a ++ b) ++ c
regroup a b c = sym (append_assoc a b c)

-- a slot with more before it
abbrev moved : Cut → List ℕ → List ℕ → Cut
moved cut first firsts = record { front = first ++ cut.front; counts_front = firsts ++ cut.counts_front; name = cut.name; behind = cut.behind; counts_behind = cut.counts_behind }

moved_splice : {A B : Type 0} (key counts : A → List ℕ) (keys others : B → List ℕ) (cut : Cut) (first firsts : List ℕ) (into : A → B)
    → ((a : A) → keys (into a) ≡ first ++ key a) → ((a : A) → others (into a) ≡ firsts ++ counts a)
    → (outcome : Outcome) (x : Option A) → IsSplice key counts cut outcome x → IsSplice keys others (moved cut first firsts) outcome (option_map into x)
moved_splice key counts keys others cut first firsts into k o stays None s = tt
moved_splice key counts keys others cut first firsts into k o stays (Some a) s = absurd s
moved_splice key counts keys others cut first firsts into k o goes None s = absurd s
moved_splice key counts keys others cut first firsts into k o goes (Some a) s = (
  k a ∙ ap (λ l. first ++ l) s.0 ∙ regroup first cut.front cut.behind,
  o a ∙ ap (λ l. firsts ++ l) s.1 ∙ regroup firsts cut.counts_front cut.counts_behind,
)
moved_splice key counts keys others cut first firsts into k o (becomes t) None s = absurd s
moved_splice key counts keys others cut first firsts into k o (becomes t) (Some a) s = (
  k a ∙ ap (λ l. first ++ l) s.0 ∙ regroup first cut.front (cut.name ++ (key_of t ++ cut.behind)),
  o a ∙ ap (λ l. firsts ++ l) s.1 ∙ regroup firsts cut.counts_front (replicate (length cut.name) 0 ++ (counts_at t ++ cut.counts_behind)),
)

moved_splices : {A B : Type 0} (key counts : A → List ℕ) (keys others : B → List ℕ) (first firsts : List ℕ) (into : A → B)
    → length firsts ≡ length first → ((a : A) → keys (into a) ≡ first ++ key a) → ((a : A) → others (into a) ≡ firsts ++ counts a)
    → (x : A) (changed : (Option Tree → Outcome) → Option A) → AreSplices key counts x changed → AreSplices keys others (into x) (λ change. option_map into (changed change))
moved_splices key counts keys others first firsts into each k o x changed s = record {
  there = s.there;
  proper = s.proper;
  cut = moved s.cut first firsts;
  one_each = omega (arith, length-append first s.cut.front, length-append firsts s.cut.counts_front, each, s.one_each);
  each_behind = s.each_behind;
  key_is = k x ∙ ap (λ l. first ++ l) s.key_is ∙ regroup first s.cut.front (entry_key s.cut.name s.there ++ s.cut.behind);
  counts_are = o x ∙ ap (λ l. firsts ++ l) s.counts_are ∙ regroup firsts s.cut.counts_front (entry_counts s.cut.name s.there ++ s.cut.counts_behind);
  answers = λ change. moved_splice key counts keys others s.cut first firsts into k o (change s.there) (changed change) (s.answers change);
}

-- ---- members

abbrev here : List ℕ → List ℕ → List ℕ → Cut
here name behind counts_behind = record { front = []; counts_front = []; name = name; behind = behind; counts_behind = counts_behind }

member_here : (name : List ℕ) (ms : Members) (outcome : Outcome) → IsSplice members_key counts_at_members (here (text_key name) (members_key ms) (counts_at_members ms)) outcome (member_before name outcome ms)
member_here name ms stays = tt
member_here name ms goes = (refl, refl)
member_here name ms (becomes t) = (refl, refl)

members_splice : (name : List ℕ) (ms : Members) → HaveProperParts ms → AreSplices members_key counts_at_members ms (λ change. changed_member change name ms)
members_splice name no_members p = record {
  there = None;
  proper = tt;
  cut = here (text_key name) (members_key no_members) (counts_at_members no_members);
  one_each = refl;
  each_behind = refl;
  key_is = refl;
  counts_are = refl;
  answers = λ change. member_here name no_members (change None);
}
members_splice name (more_members k t ms) p = by (members_splice name ms p.2) (bytes_cmp name k)
  where
    by : AreSplices members_key counts_at_members ms (λ change. changed_member change name ms) → (o : Ordering) → AreSplices members_key counts_at_members (more_members k t ms) (λ change. match_ordering o (member_before name (change None) (more_members k t ms)) (member_before k (change (Some t)) ms) (option_map (more_members k t) (changed_member change name ms)))
    by rest Less = record {
      there = None;
      proper = tt;
      cut = here (text_key name) (members_key (more_members k t ms)) (counts_at_members (more_members k t ms));
      one_each = refl;
      each_behind = members_each (more_members k t ms) p;
      key_is = refl;
      counts_are = refl;
      answers = λ change. member_here name (more_members k t ms) (change None);
    }
    by rest Equal = record {
      there = Some t;
      proper = p.1;
      cut = here (text_key k) (members_key ms) (counts_at_members ms);
      one_each = refl;
      each_behind = members_each ms p.2;
      key_is = regroup (text_key k) (key_of t) (members_key ms);
      counts_are = regroup (replicate (length (text_key k)) 0) (counts_at t) (counts_at_members ms);
      answers = λ change. member_here k ms (change (Some t));
    }
    by rest Greater = moved_splices members_key counts_at_members members_key counts_at_members (text_key k ++ key_of t) (replicate (length (text_key k)) 0 ++ counts_at t) (more_members k t)
        (omega (arith, length-append (text_key k) (key_of t), length-append (replicate (length (text_key k)) 0) (counts_at t), length-replicate {A = ℕ} (length (text_key k)) 0, one_each t p.1))
        (λ ns. regroup (text_key k) (key_of t) (members_key ns))
        (λ ns. regroup (replicate (length (text_key k)) 0) (counts_at t) (counts_at_members ns))
        ms (λ change. changed_member change name ms) rest

-- ---- items

item_here : (ts : Trees) (outcome : Outcome) → IsSplice items_key counts_at_items (here [] (items_key ts) (counts_at_items ts)) outcome (item_before outcome ts)
item_here ts stays = tt
item_here ts goes = (refl, refl)
item_here ts (becomes t) = (refl, refl)

items_splice : (index : ℕ) (ts : Trees) → AreProper ts → AreSplices items_key counts_at_items ts (λ change. changed_item change index ts)
items_splice index no_trees p = record {
  there = None;
  proper = tt;
  cut = here [] (items_key no_trees) (counts_at_items no_trees);
  one_each = refl;
  each_behind = refl;
  key_is = refl;
  counts_are = refl;
  answers = λ change. item_here no_trees (change None);
}
items_splice zero (more_trees t ts) p = record {
  there = Some t;
  proper = p.0;
  cut = here [] (items_key ts) (counts_at_items ts);
  one_each = refl;
  each_behind = items_each ts p.1;
  key_is = refl;
  counts_are = refl;
  answers = λ change. item_here ts (change (Some t));
}
items_splice (suc index) (more_trees t ts) p =
    moved_splices items_key counts_at_items items_key counts_at_items (key_of t) (counts_at t) (more_trees t)
    (one_each t p.0) (λ us. refl) (λ us. refl) ts (λ change. changed_item change index ts) (items_splice index ts p.1)

back_splice : (back : ℕ) (ts : Trees) → AreProper ts → AreSplices items_key counts_at_items ts (λ change. changed_item_back change back ts)
back_splice back ts p = by (nat_lt (trees_len ts) back)
  where
    by : (b : Bool) → AreSplices items_key counts_at_items ts (λ change. if b then item_before (change None) ts else changed_item change (trees_len ts - back) ts)
    by true = record {
      there = None;
      proper = tt;
      cut = here [] (items_key ts) (counts_at_items ts);
      one_each = refl;
      each_behind = items_each ts p;
      key_is = refl;
      counts_are = refl;
      answers = λ change. item_here ts (change None);
    }
    by false = items_splice (trees_len ts - back) ts p

-- ---- a part, and a part within it

member_splice : (name : List ℕ) (ms : Members) → IsProper (object ms) → AreSplices key_of counts_at (object ms) (λ change. option_map object (changed_member change name ms))
member_splice name ms p = moved_splices members_key counts_at_members key_of counts_at (209 ∷ []) (0 ∷ []) object refl (λ ms. refl) (λ ms. refl) ms (λ change. changed_member change name ms) (members_splice name ms p.1)

pub at_member_splice : (name : List ℕ) (t : Tree) → IsProper t → Spliced key_of counts_at t (λ change. changed_at_member change name t)
at_member_splice name (object ms) p = inr (member_splice name ms p)
at_member_splice name t p = inl (λ change. refl)

part_splice : (name : List ℕ) (t : Tree) → IsProper t → Spliced key_of counts_at t (λ change. changed_part change name t)
part_splice name (object ms) p = inr (member_splice name ms p)
part_splice name (array ts) p = by (step_named name)
  where
    by : (step : Option (Bool × ℕ)) → Spliced key_of counts_at (array ts) (λ change. option_map array (option_and_then (changed_at_step change ts) step))
    by None = inl (λ change. refl)
    by (Some (false, index)) = inr (moved_splices items_key counts_at_items key_of counts_at (210 ∷ []) (0 ∷ []) array refl (λ us. refl) (λ us. refl) ts (λ change. changed_item change index ts) (items_splice index ts p))
    by (Some (true, back)) = inr (moved_splices items_key counts_at_items key_of counts_at (210 ∷ []) (0 ∷ []) array refl (λ us. refl) (λ us. refl) ts (λ change. changed_item_back change back ts) (back_splice back ts p))
part_splice name null p = inl (λ change. refl)
part_splice name (boolean b) p = inl (λ change. refl)
part_splice name (string mark bytes) p = inl (λ change. refl)
part_splice name (number n) p = inl (λ change. refl)
part_splice name (binary bytes) p = inl (λ change. refl)
part_splice name (date days) p = inl (λ change. refl)
part_splice name (timestamp micros) p = inl (λ change. refl)
part_splice name (timestamp_tz offset micros) p = inl (λ change. refl)
part_splice name (interval months days micros) p = inl (λ change. refl)

-- ---- within a part

stays_none : {A : Type 0} (key counts : A → List ℕ) (cut : Cut) (x : Option A) → IsSplice key counts cut stays x → x ≡ None
stays_none key counts cut None s = refl
stays_none key counts cut (Some a) s = absurd s

-- the slot in a part that is at a slot
abbrev inside : Cut → Cut → Cut
inside outer inner = record {
  front = outer.front ++ (outer.name ++ inner.front);
  counts_front = outer.counts_front ++ (replicate (length outer.name) 0 ++ inner.counts_front);
  name = inner.name;
  behind = inner.behind ++ outer.behind;
  counts_behind = inner.counts_behind ++ outer.counts_behind;
}

gone : (a b c d e : List ℕ) → a ++ (b ++ ((c ++ d) ++ e)) ≡ (a ++ (b ++ c)) ++ (d ++ e)
gone a b c d e = simp append_assoc

entered : (a b c n d e : List ℕ) → a ++ ((b ++ (c ++ (n ++ d))) ++ e) ≡ (a ++ (b ++ c)) ++ (n ++ (d ++ e))
entered a b c n d e = simp append_assoc

put_there : (a b c n k d e : List ℕ) → a ++ (b ++ ((c ++ (n ++ (k ++ d))) ++ e)) ≡ (a ++ (b ++ c)) ++ (n ++ (k ++ (d ++ e)))
put_there a b c n k d e = simp append_assoc

inside_splice : {A : Type 0} (key counts : A → List ℕ) (outer inner : Cut) (outcome : Outcome) (x : Option Tree) (y : Option A)
    → IsSplice key_of counts_at inner outcome x → IsSplice key counts outer (part_with x) y → IsSplice key counts (inside outer inner) outcome y
inside_splice key counts outer inner stays None None s r = tt
inside_splice key counts outer inner stays None (Some b) s r = absurd r
inside_splice key counts outer inner stays (Some a) y s r = absurd s
inside_splice key counts outer inner goes None y s r = absurd s
inside_splice key counts outer inner goes (Some a) None s r = absurd r
inside_splice key counts outer inner goes (Some a) (Some b) s r = (
  r.0 ∙ ap (λ l. outer.front ++ (outer.name ++ (l ++ outer.behind))) s.0 ∙ gone outer.front outer.name inner.front inner.behind outer.behind,
  r.1 ∙ ap (λ l. outer.counts_front ++ (replicate (length outer.name) 0 ++ (l ++ outer.counts_behind))) s.1 ∙ gone outer.counts_front (replicate (length outer.name) 0) inner.counts_front inner.counts_behind outer.counts_behind,
)
inside_splice key counts outer inner (becomes t) None y s r = absurd s
inside_splice key counts outer inner (becomes t) (Some a) None s r = absurd r
inside_splice key counts outer inner (becomes t) (Some a) (Some b) s r = (
  r.0 ∙ ap (λ l. outer.front ++ (outer.name ++ (l ++ outer.behind))) s.0 ∙ put_there outer.front outer.name inner.front inner.name (key_of t) inner.behind outer.behind,
  r.1 ∙ ap (λ l. outer.counts_front ++ (replicate (length outer.name) 0 ++ (l ++ outer.counts_behind))) s.1 ∙ put_there outer.counts_front (replicate (length outer.name) 0) inner.counts_front (replicate (length inner.name) 0) (counts_at t) inner.counts_behind outer.counts_behind,
)

-- no part is there
no_part : (name : List ℕ) (t : Tree) (cut : Cut) (change : Tree → Option Tree) (there : Option Tree) → there ≡ None
    → IsSplice key_of counts_at cut (within change there) (changed_part (within change) name t) → changed_part (within change) name t ≡ None
no_part name t cut change there e s =
    stays_none key_of counts_at cut (changed_part (within change) name t) (subst (λ h. IsSplice key_of counts_at cut (within change h) (changed_part (within change) name t)) e s)

-- a part is there, in which nothing changes
no_change : (name : List ℕ) (t u : Tree) (cut : Cut) (change : Tree → Option Tree) (there : Option Tree) → there ≡ Some u → change u ≡ None
    → IsSplice key_of counts_at cut (within change there) (changed_part (within change) name t) → changed_part (within change) name t ≡ None
no_change name t u cut change there e none s =
    stays_none key_of counts_at cut (changed_part (within change) name t)
    (subst (λ x. IsSplice key_of counts_at cut (part_with x) (changed_part (within change) name t)) none
    (subst (λ h. IsSplice key_of counts_at cut (within change h) (changed_part (within change) name t)) e s))

inner_splice : (name : List ℕ) (t : Tree) (inner : (Option Tree → Outcome) → Tree → Option Tree) (s : AreSplices key_of counts_at t (λ change. changed_part change name t)) → ((u : Tree) → IsProper u → Spliced key_of counts_at u (λ change. inner change u))
    → (there : Option Tree) → s.there ≡ there → Spliced key_of counts_at t (λ change. changed_part (within (inner change)) name t)
inner_splice name t inner s rest None e = inl (λ change. no_part name t s.cut (inner change) s.there e (s.answers (within (inner change))))
inner_splice name t inner s rest (Some u) e = elim (rest u (subst (λ h. IfSome h IsProper) e s.proper)) [
  | inl none ↦ inl (λ change. no_change name t u s.cut (inner change) s.there e (none change) (s.answers (within (inner change))))
  | inr i ↦ inr (record {
    there = i.there;
    proper = i.proper;
    cut = inside s.cut i.cut;
    one_each = omega (
      arith,
      s.one_each,
      i.one_each,
      length-append s.cut.front (s.cut.name ++ i.cut.front),
      length-append s.cut.name i.cut.front,
      length-append s.cut.counts_front (replicate (length s.cut.name) 0 ++ i.cut.counts_front),
      length-append (replicate (length s.cut.name) 0) i.cut.counts_front,
      length-replicate {A = ℕ} (length s.cut.name) 0,
    );
    each_behind = omega (arith, s.each_behind, i.each_behind, length-append i.cut.behind s.cut.behind, length-append i.cut.counts_behind s.cut.counts_behind);
    key_is = s.key_is ∙ ap (λ h. s.cut.front ++ (entry_key s.cut.name h ++ s.cut.behind)) e ∙ ap (λ l. s.cut.front ++ ((s.cut.name ++ l) ++ s.cut.behind)) i.key_is ∙ entered s.cut.front s.cut.name i.cut.front (entry_key i.cut.name i.there) i.cut.behind s.cut.behind;
    counts_are = s.counts_are ∙ ap (λ h. s.cut.counts_front ++ (entry_counts s.cut.name h ++ s.cut.counts_behind)) e ∙ ap (λ l. s.cut.counts_front ++ ((replicate (length s.cut.name) 0 ++ l) ++ s.cut.counts_behind)) i.counts_are ∙ entered s.cut.counts_front (replicate (length s.cut.name) 0) i.cut.counts_front (entry_counts i.cut.name i.there) i.cut.counts_behind s.cut.counts_behind;
    answers = λ change. inside_splice key_of counts_at s.cut i.cut (change i.there) (inner change u) (changed_part (within (inner change)) name t) (i.answers change)
        (subst (λ h. IsSplice key_of counts_at s.cut (within (inner change) h) (changed_part (within (inner change)) name t)) e (s.answers (within (inner change))));
  })
]

pub at_splice : (names : List (List ℕ)) (t : Tree) → IsProper t → Spliced key_of counts_at t (λ change. changed_at change names t)
at_splice [] t p = inl (λ change. refl)
at_splice (name ∷ []) t p = part_splice name t p
at_splice (name ∷ next ∷ names) t p = elim (part_splice name t p) [
  | inl none ↦ inl (λ change. none (within (changed_at change (next ∷ names))))
  | inr s ↦ inner_splice name t (λ change. changed_at change (next ∷ names)) s (λ u q. at_splice (next ∷ names) u q) s.there refl
]

-- ---- between items

between_splice : (index : ℕ) (ts : Trees) → AreProper ts → AreSplices items_key counts_at_items ts (λ change. changed_between change index ts)
between_splice zero ts p = record {
  there = None;
  proper = tt;
  cut = here [] (items_key ts) (counts_at_items ts);
  one_each = refl;
  each_behind = items_each ts p;
  key_is = refl;
  counts_are = refl;
  answers = λ change. item_here ts (change None);
}
between_splice (suc index) no_trees p = record {
  there = None;
  proper = tt;
  cut = here [] (items_key no_trees) (counts_at_items no_trees);
  one_each = refl;
  each_behind = refl;
  key_is = refl;
  counts_are = refl;
  answers = λ change. item_here no_trees (change None);
}
between_splice (suc index) (more_trees t ts) p =
    moved_splices items_key counts_at_items items_key counts_at_items (key_of t) (counts_at t) (more_trees t)
    (one_each t p.0) (λ us. refl) (λ us. refl) ts (λ change. changed_between change index ts) (between_splice index ts p.1)

slot_splice : (after : Bool) (name : List ℕ) (t : Tree) → IsProper t → Spliced key_of counts_at t (λ change. changed_slot change after name t)
slot_splice after name (object ms) p = inr (member_splice name ms p)
slot_splice after name (array ts) p = by (step_named name)
  where
    by : (step : Option (Bool × ℕ)) → Spliced key_of counts_at (array ts) (λ change. option_map array (option_and_then (λ step. changed_between change (slot_index after (trees_len ts) step) ts) step))
    by None = inl (λ change. refl)
    by (Some step) = inr (moved_splices items_key counts_at_items key_of counts_at (210 ∷ []) (0 ∷ []) array refl (λ us. refl) (λ us. refl) ts (λ change. changed_between change (slot_index after (trees_len ts) step) ts) (between_splice (slot_index after (trees_len ts) step) ts p))
slot_splice after name null p = inl (λ change. refl)
slot_splice after name (boolean b) p = inl (λ change. refl)
slot_splice after name (string mark bytes) p = inl (λ change. refl)
slot_splice after name (number n) p = inl (λ change. refl)
slot_splice after name (binary bytes) p = inl (λ change. refl)
slot_splice after name (date days) p = inl (λ change. refl)
slot_splice after name (timestamp micros) p = inl (λ change. refl)
slot_splice after name (timestamp_tz offset micros) p = inl (λ change. refl)
slot_splice after name (interval months days micros) p = inl (λ change. refl)

pub slot_at_splice : (after : Bool) (names : List (List ℕ)) (t : Tree) → IsProper t → Spliced key_of counts_at t (λ change. changed_slot_at change after names t)
slot_at_splice after [] t p = inl (λ change. refl)
slot_at_splice after (name ∷ []) t p = slot_splice after name t p
slot_at_splice after (name ∷ next ∷ names) t p = elim (part_splice name t p) [
  | inl none ↦ inl (λ change. none (within (changed_slot_at change after (next ∷ names))))
  | inr s ↦ inner_splice name t (λ change. changed_slot_at change after (next ∷ names)) s (λ u q. slot_at_splice after (next ∷ names) u q) s.there refl
]

pub end_splice : (t : Tree) → IsProper t → Spliced key_of counts_at t (λ change. changed_end change t)
end_splice (array ts) p = inr (moved_splices items_key counts_at_items key_of counts_at (210 ∷ []) (0 ∷ []) array refl (λ us. refl) (λ us. refl) ts (λ change. changed_between change (trees_len ts) ts) (between_splice (trees_len ts) ts p))
end_splice t p = inl (λ change. refl)
