-- What stays of arrays and objects that are open where nulls are left out.
use Rattle.std.proofs.Common.{◌≡◌, ℕ, zero, suc, ◌==◌, Bool, true, false, ◌&&◌, ◌||◌, if◌then◌else◌, List, [], ◌∷◌, ◌++◌, length, replicate, None, Ok, refl, sym, ap, ap₂, subst, ◌∙◌, arith, append-nil, append_assoc, length-append}
use Rattle.std.proofs.lemmas.Bool.{ne_eqb}
use Rattle.std.proofs.lemmas.List.{length-replicate}
use Rattle.jsonb_spec.specs.SortKey.Readable.{IsAnyNumber, IsReadableAt}
use Rattle.jsonb_spec.specs.Proper.{IsProper}
use Rattle.jsonb_spec.specs.SortKey.{key_of, items_key, members_key, text_key}
use Rattle.jsonb_spec.specs.Text.Range.{IsOneDeeper, IsWithin, AreWithin, HaveWithin}
use Rattle.jsonb_spec.specs.Tree.{Tree, null, boolean, string, number, array, object, binary, date, timestamp, timestamp_tz, interval, Trees, no_trees, more_trees, Members, no_members, more_members}
use Rattle.jsonb_core.proofs.SortKeys.Kinds.{is_small, number_begins}
use Rattle.jsonb_core.proofs.Trees.Runs.{heads}
use Rattle.jsonb_spec.specs.SortKey.Open.{Open, items, members, is_object, open_key, end_key, name_key, opening_byte, IsScalar}
use Rattle.jsonb_spec.specs.SortKey.Parts.{opened_tree}
use Rattle.key_walk.specs.Steps.{IsAmid, StepsOver}
use Rattle.jsonb_spec.specs.SortKey.Steps.{opens_key, IsOver, IsPart}
use Rattle.key_walk.specs.declared.steps.Steps.{Steps}
use Rattle.key_walk.proofs.Stepping.{Walking}
use Rattle.jsonb_spec.specs.Edit.LeftOut.{is_null, items_without_nulls, members_without_nulls, without_nulls}
use Rattle.key_document.specs.Retaining.{AreAhead, IsBegun, Retains, unless}
use Rattle.key_document.specs.declared.retain.Output.{Output}
use Rattle.key_document.specs.declared.retain.Retaining.{Retaining}
use Rattle.key_document.proofs.Beside.{push_counts, push_key, picked}
use Rattle.key_text.proofs.Counts.{one_each}
use Rattle.key_document.proofs.OpenCounts.{opened_bytes, over_bytes, part_bytes}
use Rattle.key_document.proofs.Retained.{PassedNext, retains_begun}
use Rattle.jsonb_spec.specs.Document.Counts.{counts_at, counts_at_items, counts_at_members, counts_open, opens_counts}
use Rattle.key_document.proofs.Walks.{over_key, opened_key}

-- ---- what stays

abbrev pub bare : Bool → Open → Open
bare b (items ts) = items (items_without_nulls b ts)
bare b (members ms) = members (members_without_nulls b ms)

abbrev pub bare_all : Bool → List Open → List Open
bare_all b [] = []
bare_all b (o ∷ os) = bare b o ∷ bare_all b os

pub bare_tree : (b : Bool) (o : Open) → without_nulls b (opened_tree o) ≡ opened_tree (bare b o)
bare_tree b (items ts) = refl
bare_tree b (members ms) = refl

pub bare_scalar : (b : Bool) (t : Tree) → IsScalar t → without_nulls b t ≡ t
bare_scalar b (array ts) s = absurd s
bare_scalar b (object ms) s = absurd s
bare_scalar b null s = refl
bare_scalar b (boolean x) s = refl
bare_scalar b (string mark bytes) s = refl
bare_scalar b (number n) s = refl
bare_scalar b (binary bytes) s = refl
bare_scalar b (date days) s = refl
bare_scalar b (timestamp micros) s = refl
bare_scalar b (timestamp_tz offset micros) s = refl
bare_scalar b (interval months days micros) s = refl

-- a scalar is null exactly where its key begins so
pub null_first : (depth : ℕ) (t : Tree) → IsReadableAt depth t → IsScalar t → (first : ℕ) (rest bytes more : List ℕ) → bytes ≡ first ∷ rest → bytes ≡ key_of t ++ more → (first == 211) ≡ is_null t
null_first depth null r s first rest bytes more e f = ap (λ n. n == 211) (heads first 211 rest more (sym e ∙ f))
null_first depth (boolean true) r s first rest bytes more e f = ap (λ n. n == 211) (heads first 22 rest more (sym e ∙ f))
null_first depth (boolean false) r s first rest bytes more e f = ap (λ n. n == 211) (heads first 21 rest more (sym e ∙ f))
null_first depth (string mark text) r s first rest bytes more e f = ap (λ n. n == 211) (heads first 208 rest (text_key text ++ more) (sym e ∙ f))
null_first depth (number n) r s first rest bytes more e f =
    let x = number_begins n (is_small n r.proper) in
    let is = heads first x.head rest (x.tail ++ more) (sym e ∙ f ∙ ap (λ key. key ++ more) x.is) in
    ne_eqb first 211 (λ h. omega (arith, is, x.high, h))
null_first depth (array ts) r s first rest bytes more e f = absurd s
null_first depth (object ms) r s first rest bytes more e f = absurd s
null_first depth t r s first rest bytes more e f = absurd r.within

-- ---- an end

bare_over : (b : Bool) (over : Open) → IsOver over → bare b over ≡ over
bare_over b (items no_trees) h = refl
bare_over b (items (more_trees t ts)) h = absurd h
bare_over b (members no_members) h = refl
bare_over b (members (more_members k t ms)) h = absurd h

-- ---- a part

push_member_key : (g : Bool) (k : List ℕ) (t : Tree) (ms : Members) → members_key (if g then ms else more_members k t ms) ≡ unless g (text_key k ++ key_of t) (members_key ms)
push_member_key true k t ms = refl
push_member_key false k t ms = sym (append_assoc (text_key k) (key_of t) (members_key ms))

push_member_counts : (g : Bool) (k : List ℕ) (t : Tree) (ms : Members) → counts_at_members (if g then ms else more_members k t ms) ≡ unless g (replicate (length (text_key k)) 0 ++ counts_at t) (counts_at_members ms)
push_member_counts true k t ms = refl
push_member_counts false k t ms = sym (append_assoc (replicate (length (text_key k)) 0) (counts_at t) (counts_at_members ms))

unless_append : (g : Bool) (one later more : List ℕ) → unless g one later ++ more ≡ unless g one (later ++ more)
unless_append true one later more = refl
unless_append false one later more = append_assoc one later more

and_true : (x b : Bool) → x ≡ (x && (true || b))
and_true true b = refl
and_true false b = refl

-- whether the part of the open one goes
abbrev pub part_goes : Bool → Open → Tree → Bool
part_goes b o value = is_null value && (is_object o || b)

pub part_later : (b : Bool) (o : Open) (name : List ℕ) (value : Tree) (others : Open) (under : List Open) → IsPart o name value others
    → opens_key (bare_all b (o ∷ under)) ≡ unless (is_null value && (is_object o || b)) (name_key (is_object o) name ++ key_of (without_nulls b value)) (opens_key (bare_all b (others ∷ under)))
part_later b (items no_trees) name value others under p = absurd p
part_later b (items (more_trees t ts)) name value others under p =
    ap (λ key. key ++ opens_key (bare_all b under)) (push_key (is_null t && b) (without_nulls b t) (items_without_nulls b ts))
    ∙ unless_append (is_null t && b) (key_of (without_nulls b t)) (items_key (items_without_nulls b ts)) (opens_key (bare_all b under))
    ∙ ap₂ (λ v o. unless (is_null v && b) (key_of (without_nulls b v)) (opens_key (bare_all b (o ∷ under)))) (sym p.1) (sym p.2)
part_later b (members no_members) name value others under p = absurd p
part_later b (members (more_members k t ms)) name value others under p =
    ap (λ key. key ++ opens_key (bare_all b under)) (push_member_key (is_null t) k (without_nulls b t) (members_without_nulls b ms))
    ∙ unless_append (is_null t) (text_key k ++ key_of (without_nulls b t)) (members_key (members_without_nulls b ms)) (opens_key (bare_all b under))
    ∙ ap (λ g. unless g (text_key k ++ key_of (without_nulls b t)) (opens_key (bare_all b (members ms ∷ under)))) (and_true (is_null t) b)
    ∙ ap (λ n. unless (is_null t && (true || b)) (text_key n ++ key_of (without_nulls b t)) (opens_key (bare_all b (members ms ∷ under)))) (sym p.0)
    ∙ ap₂ (λ v o. unless (is_null v && (true || b)) (text_key name ++ key_of (without_nulls b v)) (opens_key (bare_all b (o ∷ under)))) (sym p.1) (sym p.2)

pub part_later_counts : (b : Bool) (o : Open) (name : List ℕ) (value : Tree) (others : Open) (under : List Open) → IsPart o name value others
    → opens_counts (bare_all b (o ∷ under)) ≡ unless (is_null value && (is_object o || b)) (replicate (length (name_key (is_object o) name)) 0 ++ counts_at (without_nulls b value)) (opens_counts (bare_all b (others ∷ under)))
part_later_counts b (items no_trees) name value others under p = absurd p
part_later_counts b (items (more_trees t ts)) name value others under p =
    ap (λ key. key ++ opens_counts (bare_all b under)) (push_counts (is_null t && b) (without_nulls b t) (items_without_nulls b ts))
    ∙ unless_append (is_null t && b) (counts_at (without_nulls b t)) (counts_at_items (items_without_nulls b ts)) (opens_counts (bare_all b under))
    ∙ ap₂ (λ v o. unless (is_null v && b) (counts_at (without_nulls b v)) (opens_counts (bare_all b (o ∷ under)))) (sym p.1) (sym p.2)
part_later_counts b (members no_members) name value others under p = absurd p
part_later_counts b (members (more_members k t ms)) name value others under p =
    let zeros : List ℕ → List ℕ = λ n. replicate (length (text_key n)) 0 in
    ap (λ key. key ++ opens_counts (bare_all b under)) (push_member_counts (is_null t) k (without_nulls b t) (members_without_nulls b ms))
    ∙ unless_append (is_null t) (zeros k ++ counts_at (without_nulls b t)) (counts_at_members (members_without_nulls b ms)) (opens_counts (bare_all b under))
    ∙ ap (λ g. unless g (zeros k ++ counts_at (without_nulls b t)) (opens_counts (bare_all b (members ms ∷ under)))) (and_true (is_null t) b)
    ∙ ap (λ n. unless (is_null t && (true || b)) (zeros n ++ counts_at (without_nulls b t)) (opens_counts (bare_all b (members ms ∷ under)))) (sym p.0)
    ∙ ap₂ (λ v o. unless (is_null v && (true || b)) (zeros name ++ counts_at (without_nulls b v)) (opens_counts (bare_all b (o ∷ under)))) (sym p.1) (sym p.2)

-- ---- steps

-- a step through what is open
abbrev pub StripsNext : Bool → Bool → List ℕ → List ℕ → List Open → List Open → Type 0
StripsNext b gone rest behind opens others =
    PassedNext gone rest (opens_counts opens) (opens_key (bare_all b opens)) (opens_counts (bare_all b opens)) behind (opens_counts others) (opens_key (bare_all b others)) (opens_counts (bare_all b others))

pub end_next : (b : Bool) (rest behind : List ℕ) (over : Open) (under : List Open) → IsOver over → rest ≡ end_key (is_object over) ++ behind → StripsNext b false rest behind (over ∷ under) under
end_next b rest behind over under h e = record {
  one = end_key (is_object over);
  one_counts = replicate (length (end_key (is_object over))) 0;
  each = length-replicate {A = ℕ} (length (end_key (is_object over))) 0;
  key_is = e;
  counts_are = over_bytes over under h;
  later_is = ap (λ o. open_key o ++ opens_key (bare_all b under)) (bare_over b over h) ∙ over_key over (bare_all b under) h;
  later_counts_are = ap (λ o. counts_open o ++ opens_counts (bare_all b under)) (bare_over b over h) ∙ over_bytes over (bare_all b under) h;
}

module _ (b : Bool) (rest behind : List ℕ) (o : Open) (name : List ℕ) (value : Tree) (others : Open) (under : List Open) (p : IsPart o name value others) where
  abbrev named : List ℕ
  named = name_key (is_object o) name

  abbrev named_counts : List ℕ
  named_counts = replicate (length named) 0

  pub scalar_next : IsScalar value → IsProper value → rest ≡ name_key (is_object o) name ++ (key_of value ++ behind) → StripsNext b (is_null value && (is_object o || b)) rest behind (o ∷ under) (others ∷ under)
  scalar_next s q e = record {
    one = named ++ key_of value;
    one_counts = named_counts ++ counts_at value;
    each = omega (arith, length-append named (key_of value), length-append named_counts (counts_at value), length-replicate {A = ℕ} (length named) 0, one_each value q);
    key_is = e ∙ sym (append_assoc named (key_of value) behind);
    counts_are = part_bytes o name value others under p ∙ sym (append_assoc named_counts (counts_at value) (opens_counts (others ∷ under)));
    later_is = part_later b o name value others under p ∙ ap (λ v. unless (is_null value && (is_object o || b)) (named ++ key_of v) (opens_key (bare_all b (others ∷ under)))) (bare_scalar b value s);
    later_counts_are = part_later_counts b o name value others under p ∙ ap (λ v. unless (is_null value && (is_object o || b)) (named_counts ++ counts_at v) (opens_counts (bare_all b (others ∷ under)))) (bare_scalar b value s);
  }

  -- an array or an object isn't null
  not_null : (inside : Open) → is_null (opened_tree inside) ≡ false
  not_null (items ts) = refl
  not_null (members ms) = refl

  bare_kind : (inside : Open) → is_object (bare b inside) ≡ is_object inside
  bare_kind (items ts) = refl
  bare_kind (members ms) = refl

  regroup : (n : List ℕ) (x : ℕ) (k o : List ℕ) → (n ++ x ∷ k) ++ o ≡ (n ++ x ∷ []) ++ (k ++ o)
  regroup n x k o = simp append_assoc

  pub opening_next : (inside : Open) → value ≡ opened_tree inside → rest ≡ name_key (is_object o) name ++ (opening_byte (is_object inside) ∷ behind) → StripsNext b false rest behind (o ∷ under) (inside ∷ others ∷ under)
  opening_next inside w e =
      let byte = opening_byte (is_object inside) in
      let none : is_null value ≡ false = ap is_null w ∙ not_null inside in
      let stays : without_nulls b value ≡ opened_tree (bare b inside) = ap (without_nulls b) w ∙ bare_tree b inside in
      record {
        one = named ++ byte ∷ [];
        one_counts = named_counts ++ 0 ∷ [];
        each = omega (arith, length-append named (byte ∷ []), length-append named_counts (0 ∷ []), length-replicate {A = ℕ} (length named) 0);
        key_is = e ∙ sym (append_assoc named (byte ∷ []) behind);
        counts_are = part_bytes o name value others under p ∙ ap (λ cs. named_counts ++ (cs ++ opens_counts (others ∷ under))) (ap counts_at w ∙ opened_bytes inside) ∙ sym (append_assoc named_counts (0 ∷ []) (counts_open inside ++ opens_counts (others ∷ under)));
        later_is = part_later b o name value others under p ∙ ap (λ g. unless (g && (is_object o || b)) (named ++ key_of (without_nulls b value)) (opens_key (bare_all b (others ∷ under)))) none
            ∙ ap (λ k. (named ++ k) ++ opens_key (bare_all b (others ∷ under))) (ap key_of stays ∙ opened_key (bare b inside) ∙ ap (λ x. opening_byte x ∷ open_key (bare b inside)) (bare_kind inside))
            ∙ regroup named byte (open_key (bare b inside)) (opens_key (bare_all b (others ∷ under)));
        later_counts_are = part_later_counts b o name value others under p ∙ ap (λ g. unless (g && (is_object o || b)) (named_counts ++ counts_at (without_nulls b value)) (opens_counts (bare_all b (others ∷ under)))) none
            ∙ ap (λ k. (named_counts ++ k) ++ opens_counts (bare_all b (others ∷ under))) (ap counts_at stays ∙ opened_bytes (bare b inside))
            ∙ regroup named_counts 0 (counts_open (bare b inside)) (opens_counts (bare_all b (others ∷ under)));
      }

-- ---- the walk

-- What was written of the value, and what is left of those that are open.
abbrev pub StripsLeft : Output → Tree → Bool → Retaining → List ℕ → List ℕ → List ℕ → List Open → Type 0
StripsLeft first v b retaining rest old now opens = Retains first (key_of v) (counts_at v) rest (opens_counts opens) (opens_key (bare_all b opens)) (opens_counts (bare_all b opens)) retaining old now

pub strip_begun : (o : Open) (b : Bool) (begun : Retaining) (bytes old : List ℕ) → IsBegun (opening_byte (is_object o)) begun bytes (counts_open o) → StripsLeft begun.output (without_nulls b (opened_tree o)) b begun bytes old old (o ∷ [])
strip_begun (items ts) b begun bytes old h =
    let left = counts_at_items ts in
    retains_begun begun.output (210 ∷ items_key (items_without_nulls b ts)) (0 ∷ counts_at_items (items_without_nulls b ts)) old begun bytes (left ++ []) (210 ∷ []) (0 ∷ []) (items_key (items_without_nulls b ts) ++ []) (counts_at_items (items_without_nulls b ts) ++ []) refl refl h.pending_is
    (subst (λ l. AreAhead begun.output (0 ∷ l)) (sym (append-nil left)) h.are_ahead)
    (ap (λ l. 210 ∷ l) (sym (append-nil (items_key (items_without_nulls b ts))))) (ap (λ l. 0 ∷ l) (sym (append-nil (counts_at_items (items_without_nulls b ts)))))
strip_begun (members ms) b begun bytes old h =
    let left = counts_at_members ms in
    retains_begun begun.output (209 ∷ members_key (members_without_nulls b ms)) (0 ∷ counts_at_members (members_without_nulls b ms)) old begun bytes (left ++ []) (209 ∷ []) (0 ∷ []) (members_key (members_without_nulls b ms) ++ []) (counts_at_members (members_without_nulls b ms) ++ []) refl refl h.pending_is
    (subst (λ l. AreAhead begun.output (0 ∷ l)) (sym (append-nil left)) h.are_ahead)
    (ap (λ l. 209 ∷ l) (sym (append-nil (members_key (members_without_nulls b ms))))) (ap (λ l. 0 ∷ l) (sym (append-nil (counts_at_members (members_without_nulls b ms)))))

-- ---- what stays is nested no deeper

one_deeper : (P Q : ℕ → Type 0) (depth : ℕ) → ((d : ℕ) → P d → Q d) → IsOneDeeper P depth → IsOneDeeper Q depth
one_deeper P Q zero h w = absurd w
one_deeper P Q (suc depth) h w = h depth w

mutual
  pub bare_within : (b : Bool) (t : Tree) (depth : ℕ) → IsWithin IsAnyNumber t depth → IsWithin IsAnyNumber (without_nulls b t) depth
  bare_within b (array ts) depth w = one_deeper (AreWithin IsAnyNumber ts) (AreWithin IsAnyNumber (items_without_nulls b ts)) depth (bare_items_within b ts) w
  bare_within b (object ms) depth w = one_deeper (HaveWithin IsAnyNumber ms) (HaveWithin IsAnyNumber (members_without_nulls b ms)) depth (bare_members_within b ms) w
  bare_within b null depth w = w
  bare_within b (boolean x) depth w = w
  bare_within b (string mark bytes) depth w = w
  bare_within b (number n) depth w = w
  bare_within b t depth w = absurd w

  bare_items_within : (b : Bool) (ts : Trees) (depth : ℕ) → AreWithin IsAnyNumber ts depth → AreWithin IsAnyNumber (items_without_nulls b ts) depth
  bare_items_within b no_trees depth w = tt
  bare_items_within b (more_trees t ts) depth w =
      let rest = bare_items_within b ts depth w.1 in
      picked (λ us. AreWithin IsAnyNumber us depth) (is_null t && b) (items_without_nulls b ts) (more_trees (without_nulls b t) (items_without_nulls b ts)) rest (bare_within b t depth w.0, rest)

  bare_members_within : (b : Bool) (ms : Members) (depth : ℕ) → HaveWithin IsAnyNumber ms depth → HaveWithin IsAnyNumber (members_without_nulls b ms) depth
  bare_members_within b no_members depth w = tt
  bare_members_within b (more_members k t ms) depth w =
      let rest = bare_members_within b ms depth w.1 in
      picked (λ us. HaveWithin IsAnyNumber us depth) (is_null t) (members_without_nulls b ms) (more_members k (without_nulls b t) (members_without_nulls b ms)) rest (bare_within b t depth w.0, rest)

-- at the end of the walk nothing is left
pub ended : (Holds : List Open → Type 0) (old new : Steps) → (w : Walking Holds [] old) → StepsOver w.opens [] old (Ok None) new → old.rest.now ≡ []
ended Holds old new w law = go w.opens w.amid law
  where
    go : (os : List Open) → IsAmid os [] old → StepsOver os [] old (Ok None) new → old.rest.now ≡ []
    go [] a s = a.occurs
    go (o ∷ under) a s = absurd s
