-- What is left of the arrays and objects that are open while a key is checked, and what a step of the check does to it.
use Rattle.std.proofs.Common.{◌≡◌, ◌≢◌, ℕ, suc, ◌↔◌, Bool, true, false, true≢false, List, [], ◌∷◌, ◌++◌, Option, Some, None, length, refl, sym, ap, subst, ◌∙◌, arith, append_assoc, append-nil, ◌==◌}
use Rattle.std.specs.Bool.{⊤, IsTrue}
use Rattle.std.proofs.lemmas.Bool.{ne_eqb}
use Rattle.key_value.proofs.Texts.{none_some, some_same}
use Rattle.std.specs.Ordering.{nat_cmp, ordering_then}
use Rattle.std.specs.Cmp.Lexicographic.{slice_cmp}
use Rattle.std.specs.declared.cmp.Ordering.{Ordering}
use Rattle.std.specs.declared.cmp.Ordering.TheVariants.{Less, Equal, Greater}
use Rattle.std.proofs.lemmas.Cmp.{nat_list_cmp_total, tied_itself}
use Rattle.std.proofs.lemmas.Map.Lookups.{exact_bytes}
use Rattle.key_value.proofs.FirstBytes.{no_key}
use Rattle.jsonb_spec.specs.SortKey.Checked.{IsSortKey}
use Rattle.key_walk.specs.Frames.{IsInRangeAt, KeyFirst, ScalarFirst, PartsFirst, Frame, in_array, in_object, is_object_frame, new_frame, IsAbove, NameFirst, frame_behind}
use Rattle.jsonb_spec.specs.SortKey.Open.{Open, items, members, is_object, open_key, IsOpenWith, end_key, opening_byte, IsScalar}
use Rattle.jsonb_spec.specs.SortKey.Parts.{opened_tree}
use Rattle.key_walk.proofs.InRange.{readable_at, array_in_range, object_in_range}
use Rattle.key_walk.proofs.Opens.{no_end}
use Rattle.key_walk.proofs.Scalars.{scalar_there}
use Rattle.jsonb_spec.specs.Keys.{IsBelowKeys, KeysAscend}
use Rattle.jsonb_spec.specs.Order.{bytes_cmp}
use Rattle.jsonb_spec.specs.SortKey.{key_of, items_key, members_key, text_key}
use Rattle.jsonb_spec.specs.Text.Range.{HasFewDigits}
use Rattle.jsonb_spec.specs.Tree.{Tree, null, boolean, string, number, array, object, no_trees, more_trees, Members, no_members, more_members}
use Rattle.jsonb_core.proofs.SortKeys.Texts.{text_compares}
use Rattle.jsonb_core.proofs.Trees.Runs.{tails}

-- ---- what is left

-- the name is below all that follow
abbrev IsBelowAll : Option (List ℕ) → Members → Type 0
IsBelowAll None ms = ⊤
IsBelowAll (Some last) ms = IsBelowKeys last ms

-- what is left of an array or an object goes on from the frame
abbrev pub Continues : Frame → Open → Type 0
Continues in_array (items ts) = ⊤
Continues in_array (members ms) = ⊥
Continues (in_object last) (items ts) = ⊥
Continues (in_object last) (members ms) = IsBelowAll last ms × KeysAscend ms

-- What is left of the innermost is first, and what holds of the bytes behind it.
pub record OpenThere (f : Frame) (left : ℕ) (Behind : List ℕ → Type 0) (rest : List ℕ) : Type 0 where
  pub opened : Open
  pub continues : Continues f opened
  pub fits : IsOpenWith HasFewDigits opened left
  pub after : List ℕ
  pub occurs : rest ≡ open_key opened ++ after
  pub behind : Behind after

-- What is left of all that are open is first, the innermost before the others, and these bytes behind it.
abbrev pub Ends : List Frame → ℕ → List ℕ → List ℕ → Type 0
Ends [] left rest more = rest ≡ more
Ends (f ∷ fs) left rest more = OpenThere f left (λ after. Ends fs (suc left) after more) rest

-- The key of a value is first, and then what is left of all that are open.
pub record Due (fs : List Frame) (left : ℕ) (bytes more : List ℕ) : Type 0 where
  pub value : Tree
  pub in_range : IsInRangeAt left value
  pub after : List ℕ
  pub occurs : bytes ≡ key_of value ++ after
  pub behind : Ends fs left after more

-- ---- an end

member_first : (k : List ℕ) (t : Tree) (ms : Members) (after : List ℕ) → (text_key k ++ (key_of t ++ members_key ms)) ++ after ≡ text_key k ++ (key_of t ++ (members_key ms ++ after))
member_first k t ms after = append_assoc (text_key k) (key_of t ++ members_key ms) after ∙ ap (λ bs. text_key k ++ bs) (append_assoc (key_of t) (members_key ms) after)

pub end_passed : (f : Frame) (fs : List Frame) (left : ℕ) (rest others more : List ℕ) → rest ≡ end_key (is_object_frame f) ++ others → Ends fs (suc left) others more ↔ Ends (f ∷ fs) left rest more
end_passed f fs left rest others more e = (to f e, λ o. from f o.opened o.continues o.fits o.after o.occurs o.behind e)
  where
    below_none : (last : Option (List ℕ)) → IsBelowAll last no_members
    below_none None = tt
    below_none (Some last) = tt

    to : (f : Frame) → rest ≡ end_key (is_object_frame f) ++ others → Ends fs (suc left) others more → Ends (f ∷ fs) left rest more
    to in_array e b = record { opened = items no_trees; continues = tt; fits = (tt, tt); after = others; occurs = e; behind = b }
    to (in_object last) e b = record { opened = members no_members; continues = (below_none last, tt); fits = (tt, tt); after = others; occurs = e; behind = b }

    from : (f : Frame) (o : Open) → Continues f o → IsOpenWith HasFewDigits o left → (after : List ℕ) → rest ≡ open_key o ++ after → Ends fs (suc left) after more → rest ≡ end_key (is_object_frame f) ++ others → Ends fs (suc left) others more
    from in_array (items no_trees) c h after st b e = subst (λ r. Ends fs (suc left) r more) (tails 0 0 after others (sym st ∙ e)) b
    from in_array (items (more_trees t ts)) c h after st b e =
        absurd (no_end false [] t left (readable_at left t (record { proper = h.0.0; within = h.1.0 })) rest others (items_key ts ++ after) e (st ∙ append_assoc (key_of t) (items_key ts) after))
    from in_array (members ms) c h after st b e = absurd c
    from (in_object last) (items ts) c h after st b e = absurd c
    from (in_object last) (members no_members) c h after st b e = subst (λ r. Ends fs (suc left) r more) (tails 0 0 after others (tails 0 0 (0 ∷ after) (0 ∷ others) (sym st ∙ e))) b
    from (in_object last) (members (more_members k t ms)) c h after st b e =
        absurd (no_end true k t left (readable_at left t (record { proper = h.0.1; within = h.1.0 })) rest others (members_key ms ++ after) e (st ∙ member_first k t ms after))

-- ---- a name

below_all : (k l : List ℕ) (ms : Members) → slice_cmp nat_cmp k l ≡ Less → IsBelowKeys l ms → IsBelowKeys k ms
below_all k l no_members less b = tt
below_all k l (more_members m t ms) less b = (nat_list_cmp_total.trans k l m less b.0, below_all k l ms less b.1)

-- the next item or member
record NextThere (f : Frame) (fs : List Frame) (left : ℕ) (rest more : List ℕ) : Type 0 where
  name : List ℕ
  value : List ℕ
  first : NameFirst f name rest value
  due : Due (frame_behind f name ∷ fs) left value more

abbrev NoEnd : Frame → List ℕ → Type 0
NoEnd f rest = (tail : List ℕ) → rest ≡ end_key (is_object_frame f) ++ tail → ⊥

next_there : (f : Frame) (fs : List Frame) (left : ℕ) (rest more : List ℕ) → NoEnd f rest → Ends (f ∷ fs) left rest more → NextThere f fs left rest more
next_there f fs left rest more none o = go f o.opened o.continues o.fits o.after o.occurs o.behind none
  where
    above : (last : Option (List ℕ)) (k : List ℕ) (t : Tree) (ms : Members) → IsBelowAll last (more_members k t ms) → IsAbove last k
    above None k t ms b = tt
    above (Some last) k t ms b = b.0

    go : (f : Frame) (o : Open) → Continues f o → IsOpenWith HasFewDigits o left → (after : List ℕ) → rest ≡ open_key o ++ after → Ends fs (suc left) after more → NoEnd f rest → NextThere f fs left rest more
    go in_array (items no_trees) c h after st b none = absurd (none after st)
    go in_array (items (more_trees t ts)) c h after st b none = record {
      name = [];
      value = rest;
      first = refl;
      due = record {
        value = t;
        in_range = record { proper = h.0.0; within = h.1.0 };
        after = items_key ts ++ after;
        occurs = st ∙ append_assoc (key_of t) (items_key ts) after;
        behind = record { opened = items ts; continues = tt; fits = (h.0.1, h.1.1); after = after; occurs = refl; behind = b };
      };
    }
    go in_array (members ms) c h after st b none = absurd c
    go (in_object last) (items ts) c h after st b none = absurd c
    go (in_object last) (members no_members) c h after st b none = absurd (none after st)
    go (in_object last) (members (more_members k t ms)) c h after st b none = record {
      name = k;
      value = key_of t ++ (members_key ms ++ after);
      first = (above last k t ms c.0, h.0.0, st ∙ member_first k t ms after);
      due = record {
        value = t;
        in_range = record { proper = h.0.1; within = h.1.0 };
        after = members_key ms ++ after;
        occurs = refl;
        behind = record { opened = members ms; continues = (c.1.0, c.1.1); fits = (h.0.2, h.1.1); after = after; occurs = refl; behind = b };
      };
    }

next_back : (f : Frame) (fs : List Frame) (left : ℕ) (rest value name more : List ℕ) → NameFirst f name rest value → Due (frame_behind f name ∷ fs) left value more → Ends (f ∷ fs) left rest more
next_back in_array fs left rest value name more first d = go d.behind.opened d.behind.continues d.behind.fits d.behind.occurs
  where
    go : (o : Open) → Continues in_array o → IsOpenWith HasFewDigits o left → d.after ≡ open_key o ++ d.behind.after → Ends (in_array ∷ fs) left rest more
    go (items ts) c h st = record {
      opened = items (more_trees d.value ts);
      continues = tt;
      fits = ((d.in_range.proper, h.0), (d.in_range.within, h.1));
      after = d.behind.after;
      occurs = first ∙ d.occurs ∙ ap (λ bs. key_of d.value ++ bs) st ∙ sym (append_assoc (key_of d.value) (items_key ts) d.behind.after);
      behind = d.behind.behind;
    }
    go (members ms) c h st = absurd c
next_back (in_object last) fs left rest value name more first d = go d.behind.opened d.behind.continues d.behind.fits d.behind.occurs
  where
    below : (last : Option (List ℕ)) (ms : Members) → IsAbove last name → IsBelowKeys name ms → IsBelowAll last (more_members name d.value ms)
    below None ms less b = tt
    below (Some last) ms less b = (less, below_all last name ms less b)

    go : (o : Open) → Continues (in_object (Some name)) o → IsOpenWith HasFewDigits o left → d.after ≡ open_key o ++ d.behind.after → Ends (in_object last ∷ fs) left rest more
    go (items ts) c h st = absurd c
    go (members ms) c h st = record {
      opened = members (more_members name d.value ms);
      continues = (below last ms first.0 c.0, (c.0, c.1));
      fits = ((first.1, d.in_range.proper, h.0), (d.in_range.within, h.1));
      after = d.behind.after;
      occurs = first.2 ∙ ap (λ bs. text_key name ++ bs) (d.occurs ∙ ap (λ bs. key_of d.value ++ bs) st) ∙ sym (member_first name d.value ms d.behind.after);
      behind = d.behind.behind;
    }

-- a text's key is that of one text
first_ties : (r s : Ordering) → ordering_then r s ≡ Equal → r ≡ Equal
first_ties Less s e = cc e
first_ties Equal s e = refl
first_ties Greater s e = cc e

pub one_name : (j k x y : List ℕ) → text_key j ++ x ≡ text_key k ++ y → j ≡ k
one_name j k x y e =
    exact_bytes j k (first_ties (bytes_cmp j k) (bytes_cmp x y) (sym ((text_compares j k).compared x y) ∙ ap (bytes_cmp (text_key j ++ x)) (sym e) ∙ tied_itself nat_list_cmp_total (text_key j ++ x)))

-- names are in the order of their keys
then_equal : (r : Ordering) → ordering_then r Equal ≡ r
then_equal Less = refl
then_equal Equal = refl
then_equal Greater = refl

pub names_compare : (j k : List ℕ) → slice_cmp nat_cmp (text_key j) (text_key k) ≡ slice_cmp nat_cmp j k
names_compare j k =
    (λ i. slice_cmp nat_cmp (sym (append-nil (text_key j)) i) (sym (append-nil (text_key k)) i)) ∙ (text_compares j k).compared [] [] ∙ then_equal (slice_cmp nat_cmp j k)

same_frame : (f : Frame) (j k rest x y : List ℕ) → NameFirst f j rest x → NameFirst f k rest y → frame_behind f j ≡ frame_behind f k
same_frame in_array j k rest x y p q = refl
same_frame (in_object last) j k rest x y p q = ap (λ n. in_object (Some n)) (one_name j k x y (sym p.2 ∙ q.2))

pub name_passed : (f : Frame) (fs : List Frame) (left : ℕ) (rest value name more : List ℕ) → NoEnd f rest → NameFirst f name rest value → ((v : List ℕ) → (n : List ℕ) × NameFirst f n rest v → value ≡ v) → Due (frame_behind f name ∷ fs) left value more ↔ Ends (f ∷ fs) left rest more
name_passed f fs left rest value name more none first one = (next_back f fs left rest value name more first, from)
  where
    from : Ends (f ∷ fs) left rest more → Due (frame_behind f name ∷ fs) left value more
    from o =
        let n = next_there f fs left rest more none o in
        subst (λ v. Due (frame_behind f name ∷ fs) left v more) (sym (one n.value (n.name, n.first)))
        (subst (λ g. Due (g ∷ fs) left n.value more) (same_frame f n.name name rest n.value value n.first first) n.due)

pub no_name : (f : Frame) (fs : List Frame) (left : ℕ) (rest more : List ℕ) → NoEnd f rest → ((v : List ℕ) → (n : List ℕ) × NameFirst f n rest v → ⊥) → Ends (f ∷ fs) left rest more → ⊥
no_name f fs left rest more none wrong o = let n = next_there f fs left rest more none o in wrong n.value (n.name, n.first)

-- ---- a value

anywhere : (t : Tree) (left : ℕ) → IsInRangeAt left t → IsScalar t → (depth : ℕ) → IsInRangeAt depth t
anywhere null left r s depth = record { proper = tt; within = tt }
anywhere (boolean b) left r s depth = record { proper = tt; within = tt }
anywhere (string mark text) left r s depth = record { proper = r.proper; within = tt }
anywhere (number n) left r s depth = record { proper = r.proper; within = r.within }
anywhere (array ts) left r s depth = absurd s
anywhere (object ms) left r s depth = absurd s
anywhere t left r s depth = absurd r.within

scalar_first : (fs : List Frame) (left first : ℕ) (value tail more : List ℕ) → value ≡ first ∷ tail → (first ≢ 209) × (first ≢ 210) → (d : Due fs left value more) → ScalarFirst value d.after
scalar_first fs left first value tail more e other d =
    let scalar = scalar_there left d.value (readable_at left d.value d.in_range) first tail value d.after e d.occurs other.0 other.1 in
    record { value = d.value; scalar = scalar; in_range = anywhere d.value left d.in_range scalar; occurs = d.occurs }

pub scalar_passed : (fs : List Frame) (left first : ℕ) (value tail others more : List ℕ) → value ≡ first ∷ tail → (first ≢ 209) × (first ≢ 210) → ScalarFirst value others → ((v : List ℕ) → ScalarFirst value v → others ≡ v) → Ends fs left others more ↔ Due fs left value more
scalar_passed fs left first value tail others more e other s one = (to, from)
  where
    to : Ends fs left others more → Due fs left value more
    to b = record { value = s.value; in_range = s.in_range left; after = others; occurs = s.occurs; behind = b }

    from : Due fs left value more → Ends fs left others more
    from d = subst (λ v. Ends fs left v more) (sym (one d.after (scalar_first fs left first value tail more e other d))) d.behind

pub no_scalar_due : (fs : List Frame) (left first : ℕ) (value tail more : List ℕ) → value ≡ first ∷ tail → (first ≢ 209) × (first ≢ 210) → ((v : List ℕ) → ScalarFirst value v → ⊥) → Due fs left value more → ⊥
no_scalar_due fs left first value tail more e other none d = none d.after (scalar_first fs left first value tail more e other d)

pub no_value : (fs : List Frame) (left : ℕ) (value more : List ℕ) → length value ≡ 0 → Due fs left value more → ⊥
no_value fs left value more none d = no_key left d.value (readable_at left d.value d.in_range) value d.after d.occurs none

pub opening_passed : (fs : List Frame) (inner first : ℕ) (b : Bool) (value others more : List ℕ) → value ≡ first ∷ others → first ≡ opening_byte b → Ends (new_frame b ∷ fs) inner others more ↔ Due fs (suc inner) value more
opening_passed fs inner first true value others more e is = (λ o. to o.opened o.continues o.fits o.after o.occurs o.behind, from)
  where
    to : (o : Open) → Continues (in_object None) o → IsOpenWith HasFewDigits o inner → (after : List ℕ) → others ≡ open_key o ++ after → Ends fs (suc inner) after more → Due fs (suc inner) value more
    to (items ts) c h after st b = absurd c
    to (members ms) c h after st b = record { value = object ms; in_range = record { proper = (c.1, h.0); within = h.1 }; after = after; occurs = e ∙ (λ i. is i ∷ st i); behind = b }

    from : Due fs (suc inner) value more → Ends (in_object None ∷ fs) inner others more
    from d =
        let x = object_in_range (suc inner) d.value d.in_range first others value d.after e d.occurs is in
        record { opened = members x.0; continues = (tt, x.1.proper.0); fits = (x.1.proper.1, x.1.within); after = d.after; occurs = x.2; behind = d.behind }
opening_passed fs inner first false value others more e is = (λ o. to o.opened o.continues o.fits o.after o.occurs o.behind, from)
  where
    to : (o : Open) → Continues in_array o → IsOpenWith HasFewDigits o inner → (after : List ℕ) → others ≡ open_key o ++ after → Ends fs (suc inner) after more → Due fs (suc inner) value more
    to (members ms) c h after st b = absurd c
    to (items ts) c h after st b = record { value = array ts; in_range = record { proper = h.0; within = h.1 }; after = after; occurs = e ∙ (λ i. is i ∷ st i); behind = b }

    from : Due fs (suc inner) value more → Ends (in_array ∷ fs) inner others more
    from d =
        let x = array_in_range (suc inner) d.value d.in_range first others value d.after e d.occurs is in
        record { opened = items x.0; continues = tt; fits = (x.1.proper, x.1.within); after = d.after; occurs = x.2; behind = d.behind }

pub too_deep_due : (fs : List Frame) (first : ℕ) (b : Bool) (value others more : List ℕ) → value ≡ first ∷ others → first ≡ opening_byte b → Due fs 0 value more → ⊥
too_deep_due fs first true value others more e is d = (object_in_range 0 d.value d.in_range first others value d.after e d.occurs is).1.within
too_deep_due fs first false value others more e is d = (array_in_range 0 d.value d.in_range first others value d.after e d.occurs is).1.within

-- ---- the whole

pub parts_first : (object : Bool) (bytes more : List ℕ) → Ends (new_frame object ∷ []) 511 bytes more ↔ PartsFirst object bytes more
parts_first true bytes more = (λ o. to o.opened o.continues o.fits o.after o.occurs o.behind, λ p. from p.opened p.is p.in_range p.occurs)
  where
    to : (o : Open) → Continues (in_object None) o → IsOpenWith HasFewDigits o 511 → (after : List ℕ) → bytes ≡ open_key o ++ after → after ≡ more → PartsFirst true bytes more
    to (items ts) c h after st b = absurd c
    to (members ms) c h after st b = record { opened = members ms; is = refl; in_range = record { proper = (c.1, h.0); within = h.1 }; occurs = st ∙ ap (λ bs. members_key ms ++ bs) b }

    from : (o : Open) → is_object o ≡ true → IsInRangeAt 512 (opened_tree o) → bytes ≡ open_key o ++ more → Ends (in_object None ∷ []) 511 bytes more
    from (items ts) is r st = absurd (true≢false (sym is))
    from (members ms) is r st = record { opened = members ms; continues = (tt, r.proper.0); fits = (r.proper.1, r.within); after = more; occurs = st; behind = refl }
parts_first false bytes more = (λ o. to o.opened o.continues o.fits o.after o.occurs o.behind, λ p. from p.opened p.is p.in_range p.occurs)
  where
    to : (o : Open) → Continues in_array o → IsOpenWith HasFewDigits o 511 → (after : List ℕ) → bytes ≡ open_key o ++ after → after ≡ more → PartsFirst false bytes more
    to (members ms) c h after st b = absurd c
    to (items ts) c h after st b = record { opened = items ts; is = refl; in_range = record { proper = h.0; within = h.1 }; occurs = st ∙ ap (λ bs. items_key ts ++ bs) b }

    from : (o : Open) → is_object o ≡ false → IsInRangeAt 512 (opened_tree o) → bytes ≡ open_key o ++ more → Ends (in_array ∷ []) 511 bytes more
    from (members ms) is r st = absurd (true≢false is)
    from (items ts) is r st = record { opened = items ts; continues = tt; fits = (r.proper, r.within); after = more; occurs = st; behind = refl }

pub opened_first : (first : ℕ) (b : Bool) (bytes rest : List ℕ) → bytes ≡ first ∷ rest → first ≡ opening_byte b → (more : List ℕ) → PartsFirst b rest more ↔ KeyFirst bytes more
opened_first first true bytes rest e is more = (λ p. to p.opened p.is p.in_range p.occurs, from)
  where
    to : (o : Open) → is_object o ≡ true → IsInRangeAt 512 (opened_tree o) → rest ≡ open_key o ++ more → KeyFirst bytes more
    to (items ts) s r st = absurd (true≢false (sym s))
    to (members ms) s r st = record { value = object ms; in_range = r; occurs = e ∙ (λ i. is i ∷ st i) }

    from : KeyFirst bytes more → PartsFirst true rest more
    from k = let x = object_in_range 512 k.value k.in_range first rest bytes more e k.occurs is in record { opened = members x.0; is = refl; in_range = x.1; occurs = x.2 }
opened_first first false bytes rest e is more = (λ p. to p.opened p.is p.in_range p.occurs, from)
  where
    to : (o : Open) → is_object o ≡ false → IsInRangeAt 512 (opened_tree o) → rest ≡ open_key o ++ more → KeyFirst bytes more
    to (members ms) s r st = absurd (true≢false s)
    to (items ts) s r st = record { value = array ts; in_range = r; occurs = e ∙ (λ i. is i ∷ st i) }

    from : KeyFirst bytes more → PartsFirst false rest more
    from k = let x = array_in_range 512 k.value k.in_range first rest bytes more e k.occurs is in record { opened = items x.0; is = refl; in_range = x.1; occurs = x.2 }

pub scalar_key : (first : ℕ) (bytes rest : List ℕ) → bytes ≡ first ∷ rest → (first ≢ 209) × (first ≢ 210) → (more : List ℕ) → ScalarFirst bytes more ↔ KeyFirst bytes more
scalar_key first bytes rest e other more = (to, from)
  where
    to : ScalarFirst bytes more → KeyFirst bytes more
    to s = record { value = s.value; in_range = s.in_range 512; occurs = s.occurs }

    from : KeyFirst bytes more → ScalarFirst bytes more
    from k =
        let scalar = scalar_there 512 k.value (readable_at 512 k.value k.in_range) first rest bytes more e k.occurs other.0 other.1 in
        record { value = k.value; scalar = scalar; in_range = anywhere k.value 512 k.in_range scalar; occurs = k.occurs }

pub no_key_first : (bytes more : List ℕ) → length bytes ≡ 0 → KeyFirst bytes more → ⊥
no_key_first bytes more none k = no_key 512 k.value (readable_at 512 k.value k.in_range) bytes more k.occurs none

pub whole_key : (bytes : List ℕ) → KeyFirst bytes [] ↔ IsSortKey bytes
whole_key bytes = (to, from)
  where
    to : KeyFirst bytes [] → IsSortKey bytes
    to k = record { value = k.value; proper = k.in_range.proper; in_range = k.in_range.within; is_key = k.occurs ∙ append-nil (key_of k.value) }

    from : IsSortKey bytes → KeyFirst bytes []
    from k = record { value = k.value; in_range = record { proper = k.proper; within = k.in_range }; occurs = k.is_key ∙ sym (append-nil (key_of k.value)) }

-- the bytes are a key exactly where nothing is behind the one that they begin with
pub nothing_behind : (bytes rest : List ℕ) (empty : Bool) → ((more : List ℕ) → (Some rest ≡ Some more) ↔ KeyFirst bytes more) → empty ≡ (length rest == 0) → IsTrue empty ↔ IsSortKey bytes
nothing_behind bytes [] empty found is = (λ t. (whole_key bytes).0 ((found []).0 refl), λ k. is)
nothing_behind bytes (b ∷ rest) empty found is = (λ t. absurd (true≢false (sym t ∙ is ∙ more)), λ k. absurd (omega (arith, ap length (some_same (b ∷ rest) [] ((found []).1 ((whole_key bytes).1 k))))))
  where
    more : (length (b ∷ rest) == 0) ≡ false
    more = ne_eqb (length (b ∷ rest)) 0 (λ e. absurd (omega (arith, e)))

pub no_whole_key : (bytes : List ℕ) → ((more : List ℕ) → (None ≡ Some more) ↔ KeyFirst bytes more) → IsTrue false ↔ IsSortKey bytes
no_whole_key bytes found = (λ t. absurd (true≢false (sym t)), λ k. absurd (none_some [] ((found []).1 ((whole_key bytes).1 k))))
