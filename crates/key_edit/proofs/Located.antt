-- The slot that a path leads to: the walk to it.
use Rattle.std.proofs.Common.{◌≡◌, ℕ, suc, ◌+◌, Bool, true, false, List, [], ◌∷◌, ◌++◌, Bor, Option, Some, None, option_map, IfSome, MatchOption, MatchResult, Result, Ok, Err, refl, sym, ap, subst, ◌∙◌, arith, append_assoc, append-nil}
use Rattle.jsonb_spec.specs.SortKey.Readable.{IsAnyNumber, IsReadable}
use Rattle.jsonb_spec.specs.SortKey.Found.{IsLeftOf}
use Rattle.jsonb_spec.specs.SortKey.Open.{Open, items, members, is_object, name_key, opening_byte}
use Rattle.jsonb_spec.specs.SortKey.Parts.{opened_tree}
use Rattle.key_walk.specs.declared.find.NoKey.{NoKey}
use Rattle.jsonb_spec.specs.Grammar.{max_depth}
use Rattle.jsonb_spec.specs.SortKey.{key_of}
use Rattle.jsonb_spec.specs.Text.Range.{IsWithin}
use Rattle.jsonb_spec.specs.Tree.{Tree, array, object, Trees, Members}
use Rattle.jsonb_spec.specs.Edit.{Outcome, stays, changed_at, changed_items, changed_member, changed_part, part_with, within}
use Rattle.key_edit.specs.Insert.{changed_within, ChangesSo, IsPartWithin, SlotBefore, SpotBefore}
use Rattle.jsonb_spec.specs.Edit.Spots.{Answers}
use Rattle.key_edit.specs.Spots.{FindsSlot, OpenWithin, Occurs, changed_open}
use Rattle.key_edit.specs.declared.slot.Slot.{Slot}
use Rattle.key_edit.specs.declared.spot.Spot.{Spot}
use Rattle.key_edit.proofs.Lifting.{Lifts, lifted}
use Rattle.key_edit.proofs.Spotted.{LeftSpot, key_before, fits_in, lifted_spot}

pub false_true : false ≡ true → ⊥
false_true e = cc

-- a value, and these bytes behind it
abbrev pub tree_before : List ℕ → Tree → List ℕ
tree_before more t = key_of t ++ more

abbrev pub tree_fits : ℕ → Tree → Type 0
tree_fits depth_left t = IsWithin IsAnyNumber t depth_left

-- as the answer is in the bytes that are left, it is in the key of all
abbrev pub WholeLifts : List ℕ → ℕ → List ℕ → Option Tree → Option Tree → Type 0
WholeLifts behind depth_left front x y = Lifts (tree_before behind) (tree_fits depth_left) key_of (tree_fits max_depth) front x y

pub all_lifts : (x : Option Tree) → WholeLifts [] max_depth [] x x
all_lifts None = tt
all_lifts (Some t) = (sym (append-nil (key_of t)), (λ h. h, λ h. h))

-- nothing changes in the second, where nothing changes in the first
nothing_lifts : {A B : Type 0} (key : A → List ℕ) (Fits : A → Type 0) (others : B → List ℕ) (AlsoFits : B → Type 0) (front : List ℕ) (x : Option A) (y : Option B) → Lifts key Fits others AlsoFits front x y → x ≡ None → y ≡ None
nothing_lifts key Fits others AlsoFits front None None l e = refl
nothing_lifts key Fits others AlsoFits front None (Some y) l e = absurd l
nothing_lifts {A} key Fits others AlsoFits front (Some x) y l e = absurd (some_none x e)
  where
    some_none : (x : A) → Some x ≡ None → ⊥
    some_none x e = cc

pub items_open : (more : List ℕ) (depth_left : ℕ) (x : Option Trees) → Lifts (key_before more) (fits_in depth_left) (tree_before more) (tree_fits (suc depth_left)) (0xD2 ∷ []) (option_map items x) (option_map array x)
items_open more depth_left None = tt
items_open more depth_left (Some ts) = (refl, (λ h. h, λ h. h))

pub members_open : (more : List ℕ) (depth_left : ℕ) (x : Option Members) → Lifts (key_before more) (fits_in depth_left) (tree_before more) (tree_fits (suc depth_left)) (0xD1 ∷ []) (option_map members x) (option_map object x)
members_open more depth_left None = tt
members_open more depth_left (Some ms) = (refl, (λ h. h, λ h. h))

pub open_lifts : (more : List ℕ) (depth_left : ℕ) (change : Option Tree → Outcome) (name : List ℕ) (o : Open) → Lifts (key_before more) (fits_in depth_left) (tree_before more) (tree_fits (suc depth_left)) (opening_byte (is_object o) ∷ []) (changed_open change name o) (changed_part change name (opened_tree o))
open_lifts more depth_left change name (items ts) = items_open more depth_left (changed_items change name ts)
open_lifts more depth_left change name (members ms) = members_open more depth_left (changed_member change name ms)

pub open_fits : (o : Open) (depth_left : ℕ) → IsWithin IsAnyNumber (opened_tree o) (suc depth_left) → OpenWithin o depth_left
open_fits (items ts) depth_left h = h
open_fits (members ms) depth_left h = h

-- an answer about a part within the one that is there
pub within_lifts : (of_object : Bool) (name front behind : List ℕ) (depth_left : ℕ) (x y : Option Tree) → Answers key_of (tree_fits max_depth) of_object name front behind depth_left (part_with x) y → WholeLifts behind depth_left (front ++ name_key of_object name) x y
within_lifts of_object name front behind depth_left None None h = tt
within_lifts of_object name front behind depth_left None (Some y) h = absurd h
within_lifts of_object name front behind depth_left (Some x) None h = absurd h
within_lifts of_object name front behind depth_left (Some x) (Some y) h = (h.0 ∙ sym (append_assoc front (name_key of_object name) (key_of x ++ behind)), h.1)

answers_none : {A : Type 0} (key : A → List ℕ) (Fits : A → Type 0) (of_object : Bool) (name front behind : List ℕ) (depth_left : ℕ) (x : Option A) → Answers key Fits of_object name front behind depth_left stays x → x ≡ None
answers_none key Fits of_object name front behind depth_left None h = refl
answers_none key Fits of_object name front behind depth_left (Some a) h = absurd h

-- ---- the slot in the value that is open

-- as the answer is in what is open, it is in the value
opened_lifts : (t : Tree) (of_object : Bool) (parts more : List ℕ) (depth inner : ℕ) (l : IsLeftOf t of_object parts more) → inner + 1 ≡ depth → (change : Option Tree → Outcome) (name : List ℕ)
    → Lifts (key_before more) (fits_in inner) (tree_before more) (tree_fits depth) (opening_byte of_object ∷ []) (changed_open change name l.all) (changed_part change name t)
opened_lifts t of_object parts more depth inner l one change name =
    subst (λ d. Lifts (key_before more) (fits_in inner) (tree_before more) (tree_fits d) (opening_byte of_object ∷ []) (changed_open change name l.all) (changed_part change name t)) deeper
    (subst (λ u. Lifts (key_before more) (fits_in inner) (tree_before more) (tree_fits (suc inner)) (opening_byte of_object ∷ []) (changed_open change name l.all) (changed_part change name u)) l.whole
    (subst (λ b. Lifts (key_before more) (fits_in inner) (tree_before more) (tree_fits (suc inner)) (opening_byte b ∷ []) (changed_open change name l.all) (changed_part change name (opened_tree l.all))) l.is (open_lifts more inner change name l.all)))
  where
    deeper : suc inner ≡ depth
    deeper = omega (arith, one)

-- what is open fits
pub opened_fits : (t : Tree) (of_object : Bool) (parts more : List ℕ) (depth inner : ℕ) (l : IsLeftOf t of_object parts more) → inner + 1 ≡ depth → IsWithin IsAnyNumber t depth → OpenWithin l.all inner
opened_fits t of_object parts more depth inner l one h =
    open_fits l.all inner (subst (λ d. IsWithin IsAnyNumber (opened_tree l.all) d) {x = depth} {y = suc inner} (omega (arith, one)) (subst (λ u. IsWithin IsAnyNumber u depth) (sym l.whole) h))

-- nothing changes in the value, where nothing changes in what is open
pub none_opened : (t : Tree) (of_object : Bool) (parts more : List ℕ) (depth inner : ℕ) (l : IsLeftOf t of_object parts more) → inner + 1 ≡ depth → (change : Option Tree → Outcome) (name : List ℕ) → changed_open change name l.all ≡ None → changed_part change name t ≡ None
none_opened t of_object parts more depth inner l one change name none =
    nothing_lifts (key_before more) (fits_in inner) (tree_before more) (tree_fits depth) (opening_byte of_object ∷ []) (changed_open change name l.all) (changed_part change name t) (opened_lifts t of_object parts more depth inner l one change name) none

pub opened_spot : (t : Tree) (name bytes parts more : List ℕ) (of_object : Bool) (depth inner : ℕ) (spot : Spot) (l : IsLeftOf t of_object parts more) → bytes ≡ opening_byte of_object ∷ parts → inner + 1 ≡ depth
    → LeftSpot more inner (λ change. changed_open change name l.all) of_object name parts spot → SpotBefore more (λ change. changed_part change name t) of_object name bytes depth inner spot
opened_spot t name bytes parts more of_object depth inner spot l begins one =
    lifted_spot (key_before more) (fits_in inner) (tree_before more) (tree_fits depth) (λ change. changed_open change name l.all) (λ change. changed_part change name t) of_object name (opening_byte of_object ∷ []) bytes parts inner spot begins (λ change. opened_lifts t of_object parts more depth inner l one change name)

-- what is reported of the spot in a value
abbrev pub ReportsSpot : Tree → List ℕ → List ℕ → List ℕ → ℕ → Option (Spot × Bool × ℕ) → Type 0
ReportsSpot t more name bytes depth_left answer = MatchOption answer ((change : Option Tree → Outcome) → changed_part change name t ≡ None) (λ r. SpotBefore more (λ change. changed_part change name t) r.1 name bytes depth_left r.2 r.0)

-- ---- within the value that the names before the last one lead to

so_lifts : (front behind : List ℕ) (depth_left : ℕ) (x y : Option Tree) → ChangesSo front behind depth_left x y → WholeLifts behind depth_left front x y
so_lifts front behind depth_left None None h = h
so_lifts front behind depth_left None (Some u) h = h
so_lifts front behind depth_left (Some part) None h = h
so_lifts front behind depth_left (Some part) (Some u) h = h

-- the part at the names so far, within which a change at the others is that of all
pub record WithinLeft (t : Tree) (names left : List (List ℕ)) (key part : List ℕ) (depth_left : ℕ) : Type 0 where
  pub inner : Tree
  pub readable : IsReadable inner
  pub fits : IsWithin IsAnyNumber inner depth_left
  pub front : List ℕ
  pub behind : List ℕ
  pub inside : key ≡ front ++ part
  pub occurs : part ≡ key_of inner ++ behind
  pub lifts : (change : Tree → Option Tree) → WholeLifts behind depth_left front (changed_within change left inner) (changed_within change names t)

abbrev pub WalksWithin : List ℕ → List (List ℕ) → List (List ℕ) → List ℕ → ℕ → Type 0
WalksWithin key names left part depth_left = (t : Tree) → IsReadable t → key ≡ key_of t → WithinLeft t names left key part depth_left

pub within_begun : (key : List ℕ) (names : List (List ℕ)) → WalksWithin key names names key max_depth
within_begun key names = λ t r e. record { inner = t; readable = r; fits = r.within; front = []; behind = []; inside = refl; occurs = e ∙ sym (append-nil (key_of t)); lifts = λ change. all_lifts (changed_within change names t) }

module _ (t : Tree) (names left others : List (List ℕ)) (name key part : List ℕ) (depth_left : ℕ) (w : WithinLeft t names left key part depth_left) (first : left ≡ name ∷ others) where
  next_lifts : (change : Tree → Option Tree) → WholeLifts w.behind depth_left w.front (changed_part (within (changed_within change others)) name w.inner) (changed_within change names t)
  next_lifts change = subst (λ x. WholeLifts w.behind depth_left w.front x (changed_within change names t)) (ap (λ l. changed_within change l w.inner) first) (w.lifts change)

  -- the name leads nowhere
  pub within_missed : ((change : Option Tree → Outcome) → changed_part change name w.inner ≡ None) → (change : Tree → Option Tree) → changed_within change names t ≡ None
  within_missed none change =
      nothing_lifts (tree_before w.behind) (tree_fits depth_left) key_of (tree_fits max_depth) w.front (changed_part (within (changed_within change others)) name w.inner) (changed_within change names t) (next_lifts change) (none (within (changed_within change others)))

  module _ (of_object : Bool) (inner : ℕ) (spot : Spot) (s : SpotBefore w.behind (λ change. changed_part change name w.inner) of_object name part depth_left inner spot) where
    -- it leads to no part
    pub within_lost : spot.found ≡ false → (change : Tree → Option Tree) → changed_within change names t ≡ None
    within_lost lost change =
        nothing_lifts (tree_before w.behind) (tree_fits depth_left) key_of (tree_fits max_depth) w.front (changed_part (within (changed_within change others)) name w.inner) (changed_within change names t) (next_lifts change) (go s.there s.occurs (s.answers (within (changed_within change others))))
      where
        go : (there : Option Tree) → Occurs of_object s.name spot s.behind there → Answers (tree_before w.behind) (tree_fits depth_left) of_object s.name s.front s.behind inner (within (changed_within change others) there) (changed_part (within (changed_within change others)) name w.inner) → changed_part (within (changed_within change others)) name w.inner ≡ None
        go None st h = answers_none (tree_before w.behind) (tree_fits depth_left) of_object s.name s.front s.behind inner (changed_part (within (changed_within change others)) name w.inner) h
        go (Some u) st h = absurd (false_true (sym lost ∙ st.0))

    -- it leads to a part
    pub within_taken : spot.found ≡ true → WithinLeft t names others key spot.value.now inner
    within_taken found = go s.there s.occurs s.readable s.fits s.answers
      where
        moved : (a b c d : List ℕ) → a ++ (b ++ (c ++ d)) ≡ ((a ++ b) ++ c) ++ d
        moved a b c d = simp append_assoc

        go : (there : Option Tree) → Occurs of_object s.name spot s.behind there → IfSome there IsReadable → IfSome there (λ u. IsWithin IsAnyNumber u inner)
            → ((change : Option Tree → Outcome) → Answers (tree_before w.behind) (tree_fits depth_left) of_object s.name s.front s.behind inner (change there) (changed_part change name w.inner)) → WithinLeft t names others key spot.value.now inner
        go None st r f h = absurd (false_true (sym st.0 ∙ found))
        go (Some u) st r f h = record {
          inner = u;
          readable = r;
          fits = f;
          front = (w.front ++ s.front) ++ name_key of_object s.name;
          behind = s.behind;
          inside = w.inside ∙ ap (λ key. w.front ++ key) (s.inside ∙ ap (λ key. s.front ++ key) st.1) ∙ moved w.front s.front (name_key of_object s.name) spot.value.now;
          occurs = st.2;
          lifts = λ change. within_lifts of_object s.name (w.front ++ s.front) s.behind inner (changed_within change others u) (changed_within change names t)
              (lifted (tree_before w.behind) (tree_fits depth_left) key_of (tree_fits max_depth) of_object s.name w.front s.front s.behind inner (part_with (changed_within change others u)) (changed_part (within (changed_within change others)) name w.inner) (changed_within change names t) (next_lifts change) (h (within (changed_within change others))));
        }

-- ---- what is found

abbrev pub Finds : ((Option Tree → Outcome) → Option Tree) → List ℕ → Result (Option Slot) NoKey → Type 0
Finds changed key r = MatchResult r (FindsSlot changed key) (λ e. ⊥)

abbrev pub FindsBefore : List ℕ → ((Option Tree → Outcome) → Option Tree) → List ℕ → ℕ → Result (Option Slot) NoKey → Type 0
FindsBefore more changed bytes depth_left r = MatchResult r (λ answer. MatchOption answer ((change : Option Tree → Outcome) → changed change ≡ None) (SlotBefore more changed bytes depth_left)) (λ e. ⊥)

-- what is reported of the part that the names before the last one lead to
abbrev pub ReportsWithin : Tree → List (List ℕ) → List ℕ → Option (Bor (List ℕ) × ℕ) → Type 0
ReportsWithin t names key answer = MatchOption answer ((change : Tree → Option Tree) → changed_within change names t ≡ None) (λ r. IsPartWithin t names key r.0.now r.1)

-- a change at the last name is one within what the others lead to
pub last_at : (change : Option Tree → Outcome) (before : List (List ℕ)) (last : List ℕ) (t : Tree) → changed_at change (before ++ last ∷ []) t ≡ changed_within (changed_part change last) before t
last_at change [] last t = refl
last_at change (name ∷ []) last t = refl
last_at change (name ∷ next ∷ names) last t = λ i. changed_part (within (λ u. last_at change (next ∷ names) last u i)) name t

module _ (t : Tree) (names : List (List ℕ)) (key : List ℕ) (last : (Option Tree → Outcome) → Tree → Option Tree) (whole : (Option Tree → Outcome) → Option Tree) (is : (change : Option Tree → Outcome) → whole change ≡ changed_within (last change) names t) where
  -- the names lead nowhere
  pub none_there : ((change : Tree → Option Tree) → changed_within change names t ≡ None) → (change : Option Tree → Outcome) → whole change ≡ None
  none_there none change = is change ∙ none (last change)

  module _ (value : List ℕ) (depth_left : ℕ) (c : IsPartWithin t names key value depth_left) where
    part_lifts : (change : Option Tree → Outcome) → WholeLifts c.behind depth_left c.front (last change c.part) (whole change)
    part_lifts change = subst (WholeLifts c.behind depth_left c.front (last change c.part)) (sym (is change)) (so_lifts c.front c.behind depth_left (last change c.part) (changed_within (last change) names t) (c.lifts (last change)))

    -- the slot in the whole value; or nothing changes in what the names lead to
    pub inner_found : (r : Result (Option Slot) NoKey) → FindsBefore c.behind (λ change. last change c.part) value depth_left r → Finds whole key r
    inner_found (Ok None) f = λ change. nothing_lifts (tree_before c.behind) (tree_fits depth_left) key_of (tree_fits max_depth) c.front (last change c.part) (whole change) (part_lifts change) (f change)
    inner_found (Ok (Some slot)) (s, b) = (lifted_spot (tree_before c.behind) (tree_fits depth_left) key_of (tree_fits max_depth) (λ change. last change c.part) whole slot.object slot.name.now c.front key value slot.depth_left slot.spot c.inside part_lifts s, b)
    inner_found (Err e) f = f

-- the names of a path, whose last one is this
pub last_named : (names before : List (List ℕ)) (name last : List ℕ) → names ≡ before ++ name ∷ [] → last ≡ name → names ≡ before ++ last ∷ []
last_named names before name last e is = e ∙ ap (λ n. before ++ n ∷ []) (sym is)
