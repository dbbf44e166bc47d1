-- A part inserted: the slot between items.
use Rattle.std.proofs.Common.{◌≡◌, ℕ, zero, suc, ◌+◌, ◌-◌, nat_lt, Bool, true, false, List, [], ◌∷◌, ◌++◌, Option, Some, None, option_map, if◌then◌else◌, Result, length, drop, refl, sym, ap, subst, ◌∙◌, arith, append_assoc, append-nil, length-append}
use Rattle.std.proofs.Math.Seq.{drop-append_seam}
use Rattle.jsonb_spec.specs.Grammar.{max_depth}
use Rattle.std.specs.Option.{option_and_then}
use Rattle.jsonb_spec.specs.SortKey.Readable.{IsAnyNumber, IsReadable}
use Rattle.jsonb_spec.specs.SortKey.Open.{Open, items, members, is_object, open_key, IsOpen}
use Rattle.jsonb_spec.specs.SortKey.Parts.{opened_tree}
use Rattle.jsonb_spec.specs.Accessors.{trees_len}
use Rattle.jsonb_spec.specs.Proper.{AreProper}
use Rattle.jsonb_spec.specs.SortKey.{key_of, items_key}
use Rattle.jsonb_spec.specs.Text.Range.{AreWithin, IsWithin}
use Rattle.jsonb_spec.specs.Tree.{Tree, null, boolean, string, number, array, object, binary, date, timestamp, timestamp_tz, interval, Trees, no_trees, more_trees}
use Rattle.jsonb_spec.specs.Edit.{Outcome, changed_at_member, changed_part, item_before, remove, step_named, within}
use Rattle.jsonb_spec.specs.Edit.Insert.{changed_between, changed_slot, changed_slot_at, one_more, slot_index, without_member}
use Rattle.key_edit.specs.Insert.{changed_within}
use Rattle.key_edit.specs.Spots.{SpotIn, changed_end, index_in, items_from}
use Rattle.key_value.proofs.Texts.{none_some}
use Rattle.key_walk.proofs.Finds.{parent_of}
use Rattle.key_walk.specs.declared.find.NoKey.{NoKey}
use Rattle.key_edit.specs.declared.slot.Slot.{Slot}
use Rattle.key_edit.specs.declared.spot.Spot.{Spot}
use Rattle.key_edit.proofs.Items.{from_end}
use Rattle.key_edit.proofs.Located.{FindsBefore, all_lifts, false_true, items_open, open_fits, tree_before, tree_fits}
use Rattle.key_edit.proofs.Spotted.{LeftSpot, first_item, fits_in, key_before, lifted_spot, more_items_lift, nothing_there}

-- ---- the index of the slot

-- behind the item of that index where that is asked for; before all where there is none
abbrev slot_of : Bool → Option ℕ → ℕ
slot_of after None = 0
slot_of after (Some index) = one_more after index

pub slot_is : (after : Bool) (count : ℕ) (step : Bool × ℕ) (index : Option ℕ) → index_in count step ≡ index → slot_index after count step ≡ slot_of after index
slot_is after count step index is = go step ∙ ap (slot_of after) is
  where
    by : (count back : ℕ) (b : Bool) → (if b then 0 else one_more after (count - back)) ≡ slot_of after (if b then None else Some (count - back))
    by count back true = refl
    by count back false = refl

    go : (step : Bool × ℕ) → slot_index after count step ≡ slot_of after (index_in count step)
    go (false, index) = refl
    go (true, back) = by count back (nat_lt count back)

-- ---- the slot between items

pub between : (index : ℕ) (ts : Trees) (name bytes behind more : List ℕ) (depth_left : ℕ) (spot : Spot) → AreWithin IsAnyNumber ts depth_left → bytes ≡ items_key ts ++ more → behind ≡ items_key (items_from index ts) ++ more → spot.found ≡ false → spot.entry.now ≡ behind
    → (s : LeftSpot more depth_left (λ change. option_map items (changed_between change index ts)) false name bytes spot) × (s.behind ≡ behind)
between zero ts name bytes behind more depth_left spot w e b found entry = (nothing_there more depth_left (λ outcome. option_map items (item_before outcome ts)) false name bytes spot (found, entry ∙ b ∙ sym e) (first_item name bytes more depth_left ts w e), e ∙ sym b)
between (suc index) no_trees name bytes behind more depth_left spot w e b found entry = (nothing_there more depth_left (λ outcome. option_map items (item_before outcome no_trees)) false name bytes spot (found, entry ∙ b ∙ sym e) (first_item name bytes more depth_left no_trees w e), e ∙ sym b)
between (suc index) (more_trees t ts) name bytes behind more depth_left spot w e b found entry =
    let s = between index ts name (items_key ts ++ more) behind more depth_left spot w.1 refl b found entry in (
      lifted_spot (key_before more) (fits_in depth_left) (key_before more) (fits_in depth_left) (λ change. option_map items (changed_between change index ts)) (λ change. option_map items (option_map (more_trees t) (changed_between change index ts))) false name (key_of t) bytes (items_key ts ++ more) depth_left spot
          (e ∙ append_assoc (key_of t) (items_key ts) more) (λ change. more_items_lift t more depth_left w.0 (changed_between change index ts)) s.0,
      s.1,
    )

-- ---- the slot in a value

-- the slot in the value, before which so many arrays and objects may be in one another
abbrev pub SlotOf : List ℕ → ℕ → Bool → Tree → Bool → List ℕ → List ℕ → ℕ → Spot → List ℕ → Type 0
SlotOf more depth after t of_object name bytes depth_left spot behind =
    (s : SpotIn (tree_before more) (tree_fits depth) (λ change. changed_slot change after name t) of_object name bytes depth_left spot) × (s.behind ≡ behind)

pub array_there : (index : ℕ) (name bytes parts behind more : List ℕ) (ts : Trees) (depth_left : ℕ) (spot : Spot) → AreWithin IsAnyNumber ts depth_left → bytes ≡ 0xD2 ∷ parts → parts ≡ items_key ts ++ more
    → behind ≡ items_key (items_from index ts) ++ more → spot.found ≡ false → spot.entry.now ≡ behind
    → (s : SpotIn (tree_before more) (tree_fits (suc depth_left)) (λ change. option_map array (changed_between change index ts)) false name bytes depth_left spot) × (s.behind ≡ behind)
array_there index name bytes parts behind more ts depth_left spot w begins e b found entry =
    let s = between index ts name parts behind more depth_left spot w e b found entry in (
      lifted_spot (key_before more) (fits_in depth_left) (tree_before more) (tree_fits (suc depth_left)) (λ change. option_map items (changed_between change index ts)) (λ change. option_map array (changed_between change index ts)) false name (0xD2 ∷ []) bytes parts depth_left spot begins
          (λ change. items_open more depth_left (changed_between change index ts)) s.0,
      s.1,
    )

pub array_slot : (after : Bool) (name bytes parts behind more : List ℕ) (ts : Trees) (step : Bool × ℕ) (depth_left : ℕ) (spot : Spot) → AreWithin IsAnyNumber ts depth_left → bytes ≡ 0xD2 ∷ parts → parts ≡ items_key ts ++ more → step_named name ≡ Some step
    → behind ≡ items_key (items_from (slot_index after (trees_len ts) step) ts) ++ more → spot.found ≡ false → spot.entry.now ≡ behind → SlotOf more (suc depth_left) after (array ts) false name bytes depth_left spot behind
array_slot after name bytes parts behind more ts step depth_left spot w begins e named b found entry =
    subst (λ o. (s : SpotIn (tree_before more) (tree_fits (suc depth_left)) (λ change. option_map array (option_and_then (λ step. changed_between change (slot_index after (trees_len ts) step) ts) o)) false name bytes depth_left spot) × (s.behind ≡ behind)) (sym named)
    (array_there (slot_index after (trees_len ts) step) name bytes parts behind more ts depth_left spot w begins e b found entry)

-- behind the last item
pub end_is : (keys front bytes behind : List ℕ) (last : ℕ) → bytes ≡ keys ++ 0 ∷ [] → bytes ≡ front ++ last ∷ [] → behind ≡ drop (length front) bytes → behind ≡ 0 ∷ []
end_is keys front bytes behind last e f b =
    let same : length front ≡ length keys = omega (arith, ap length e, ap length f, length-append keys (0 ∷ []), length-append front (last ∷ [])) in
    b ∙ ap (λ n. drop n bytes) same ∙ ap (drop (length keys)) e ∙ drop-append_seam keys (0 ∷ [])

pub end_there : (t : Tree) (ts : Trees) (key parts behind : List ℕ) (spot : Spot) → t ≡ array ts → AreWithin IsAnyNumber ts 511 → key ≡ 0xD2 ∷ parts → parts ≡ items_key ts → behind ≡ 0 ∷ [] → spot.found ≡ false → spot.entry.now ≡ behind
    → (s : SpotIn key_of (tree_fits max_depth) (λ change. changed_end change t) false [] key 511 spot) × (s.behind ≡ behind)
end_there t ts key parts behind spot is w begins e b found entry =
    let s = array_there (trees_len ts) [] key parts behind [] ts 511 spot w begins (e ∙ sym (append-nil (items_key ts))) (b ∙ ap (λ us. items_key us ++ []) (sym (from_end (trees_len ts) ts (omega arith)))) found entry in
    subst (λ u. (s : SpotIn key_of (tree_fits max_depth) (λ change. changed_end change u) false [] key 511 spot) × (s.behind ≡ behind)) (sym is)
    (lifted_spot (tree_before []) (tree_fits max_depth) key_of (tree_fits max_depth) (λ change. changed_end change (array ts)) (λ change. changed_end change (array ts)) false [] [] key key 511 spot refl (λ change. all_lifts (changed_end change (array ts))) s.0, s.1)

-- in any other value it is the slot of the part
pub other_slot : (after : Bool) (name bytes more : List ℕ) (t : Tree) (depth_left : ℕ) (r : Result (Option Slot) NoKey) → ((ts : Trees) (more : List ℕ) → bytes ≡ key_of (array ts) ++ more → None ≡ Some (items_key ts ++ more)) → bytes ≡ key_of t ++ more
    → FindsBefore more (λ change. changed_part change name t) bytes depth_left r → FindsBefore more (λ change. changed_slot change after name t) bytes depth_left r
other_slot after name bytes more (array ts) depth_left r none e f = absurd (none_some _ (none ts more e))
other_slot after name bytes more t depth_left r none e f = f

-- ---- within the value that the names before the last one lead to

-- a change at the last name is one within what the others lead to
pub last_within : (change : Option Tree → Outcome) (after : Bool) (before : List (List ℕ)) (last : List ℕ) (t : Tree) → changed_slot_at change after (before ++ last ∷ []) t ≡ changed_within (changed_slot change after last) before t
last_within change after [] last t = refl
last_within change after (name ∷ []) last t = refl
last_within change after (name ∷ next ∷ names) last t = λ i. changed_part (within (λ u. last_within change after (next ∷ names) last u i)) name t

-- the array is open
pub record ItemsOf (t : Tree) (parts more : List ℕ) (depth_left : ℕ) : Type 0 where
  pub ts : Trees
  pub whole : array ts ≡ t
  pub proper : AreProper ts
  pub within : AreWithin IsAnyNumber ts 511
  pub fits : AreWithin IsAnyNumber ts depth_left
  pub occurs : parts ≡ items_key ts ++ more

pub opened_items : (t : Tree) (bytes parts more : List ℕ) (depth inner : ℕ) → IsReadable t → bytes ≡ key_of t ++ more → bytes ≡ 0xD2 ∷ parts → IsWithin IsAnyNumber t depth → inner + 1 ≡ depth → ItemsOf t parts more inner
opened_items t bytes parts more depth inner r e begins w one =
    let x = parent_of t r 0xD2 parts bytes more begins e false refl in
    go x.open_there x.whole x.is x.fits x.occurs
  where
    go : (all : Open) → opened_tree all ≡ t → is_object all ≡ false → IsOpen all 511 → parts ≡ open_key all ++ more → ItemsOf t parts more inner
    go (members ms) whole is fits occurs = absurd (false_true (sym is))
    go (items ts) whole is fits occurs = record {
      ts = ts;
      whole = whole;
      proper = fits.0;
      within = fits.1;
      fits = open_fits (items ts) inner (subst (λ d. IsWithin IsAnyNumber (array ts) d) {x = depth} {y = suc inner} (omega (arith, one)) (subst (λ u. IsWithin IsAnyNumber u depth) (sym whole) w));
      occurs = occurs;
    }

-- ---- members removed

none_removed : (index : ℕ) (ts : Trees) → changed_between remove index ts ≡ None
none_removed zero ts = refl
none_removed (suc index) no_trees = refl
none_removed (suc index) (more_trees t ts) = ap (option_map (more_trees t)) (none_removed index ts)

no_items_removed : (after : Bool) (ts : Trees) (step : Option (Bool × ℕ)) → option_map array (option_and_then (λ step. changed_between remove (slot_index after (trees_len ts) step) ts) step) ≡ None
no_items_removed after ts None = refl
no_items_removed after ts (Some step) = ap (option_map array) (none_removed (slot_index after (trees_len ts) step) ts)

last_removed : (after : Bool) (name : List ℕ) (t : Tree) → changed_slot remove after name t ≡ changed_at_member remove name t
last_removed after name (object ms) = refl
last_removed after name (array ts) = no_items_removed after ts (step_named name)
last_removed after name null = refl
last_removed after name (boolean b) = refl
last_removed after name (string mark text) = refl
last_removed after name (number n) = refl
last_removed after name (binary bytes) = refl
last_removed after name (date days) = refl
last_removed after name (timestamp micros) = refl
last_removed after name (timestamp_tz offset micros) = refl
last_removed after name (interval months days micros) = refl

-- what is removed at a slot is a member
pub removed_member : (after : Bool) (names : List (List ℕ)) (t : Tree) → changed_slot_at remove after names t ≡ without_member names t
removed_member after [] t = refl
removed_member after (name ∷ []) t = last_removed after name t
removed_member after (name ∷ next ∷ names) t = λ i. changed_part (within (λ u. removed_member after (next ∷ names) u i)) name t
