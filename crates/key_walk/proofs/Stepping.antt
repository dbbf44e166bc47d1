-- What is first where a walk over all that is in an array or an object is.
use Rattle.std.proofs.Common.{◌≡◌, Err, length, ℕ, zero, suc, ◌+◌, ◌<◌, ◌≤◌, inl, inr, Bool, true, false, List, [], ◌∷◌, ◌++◌, Some, None, get_or, set, refl, sym, ap, subst, ◌∙◌, arith, append_assoc, Option, Result, Ok}
use Rattle.std.proofs.lemmas.List.{get_or-set_same}
use Rattle.jsonb_spec.specs.SortKey.Readable.{IsReadableAt}
use Rattle.jsonb_spec.specs.SortKey.{key_of, items_key, members_key, text_key}
use Rattle.jsonb_spec.specs.Tree.{Tree, null, boolean, string, number, array, object, no_trees, more_trees, no_members, more_members}
use Rattle.jsonb_spec.specs.SortKey.Open.{Open, items, members, is_object, open_key, opening_byte, IsOpen, end_key, name_key}
use Rattle.jsonb_spec.specs.SortKey.Steps.{BeginsWithEnd, AreOpen, IsPart, Stacks, opens_key}
use Rattle.key_walk.specs.NextPart.{BeginsWithOpening, BeginsWithPart, BeginsWithScalar}
use Rattle.jsonb_spec.specs.SortKey.Parts.{opened_tree}
use Rattle.key_walk.specs.Steps.{IsAmid, IsWithin, PassesEnd, PassesOpening, PassesScalar, StepsOver}
use Rattle.key_walk.specs.declared.find.NoKey.{NoKey}
use Rattle.key_walk.specs.declared.part.Opened.{Opened}
use Rattle.key_walk.specs.declared.part.Part.{Part}
use Rattle.key_walk.specs.declared.part.ScalarPart.{ScalarPart}
use Rattle.key_walk.specs.declared.steps.Step.{Step}
use Rattle.key_walk.specs.declared.steps.Step.TheVariants as step
use Rattle.key_walk.specs.declared.steps.Steps.{Steps}
use Rattle.key_walk.proofs.Opens.{stack_retained}
use Rattle.key_walk.proofs.Scalars.{array_open, object_open}
use Rattle.jsonb_core.proofs.SortKeys.Kinds.{is_small, number_begins}
use Rattle.jsonb_core.proofs.Trees.Runs.{heads, tails}

-- the array or the object that a value is
pub record Opening (left : ℕ) (value : Tree) (b : Bool) (rest tail : List ℕ) : Type 0 where
  pub inside : Open
  pub whole : value ≡ opened_tree inside
  pub is : is_object inside ≡ b
  pub inner : ℕ
  pub deeper : left ≡ suc inner
  pub fits : IsOpen inside inner
  pub occurs : rest ≡ open_key inside ++ tail

between : (b : Bool) → (209 ≤ opening_byte b) × (opening_byte b ≤ 210)
between true = (omega arith, omega arith)
between false = (omega arith, omega arith)

pub opening_there : (left : ℕ) (t : Tree) → IsReadableAt left t → (first : ℕ) (rest bytes tail : List ℕ) → bytes ≡ first ∷ rest → bytes ≡ key_of t ++ tail → (b : Bool) → first ≡ opening_byte b → Opening left t b rest tail
opening_there left null r first rest bytes tail e occurs b is = absurd (omega (arith, is, between b, heads first 211 rest tail (sym e ∙ occurs)))
opening_there left (boolean true) r first rest bytes tail e occurs b is = absurd (omega (arith, is, between b, heads first 22 rest tail (sym e ∙ occurs)))
opening_there left (boolean false) r first rest bytes tail e occurs b is = absurd (omega (arith, is, between b, heads first 21 rest tail (sym e ∙ occurs)))
opening_there left (string mark text) r first rest bytes tail e occurs b is = absurd (omega (arith, is, between b, heads first 208 rest (text_key text ++ tail) (sym e ∙ occurs)))
opening_there left (number n) r first rest bytes tail e occurs b is =
    let x = number_begins n (is_small n r.proper) in
    absurd (omega (arith, is, between b, x.high, heads first x.head rest (x.tail ++ tail) (sym e ∙ occurs ∙ ap (λ key. key ++ tail) x.is)))
opening_there left (array ts) r first rest bytes tail e occurs true is = absurd (omega (arith, is, heads first 210 rest (items_key ts ++ tail) (sym e ∙ occurs)))
opening_there left (array ts) r first rest bytes tail e occurs false is =
    let o = array_open ts left r in
    record { inside = items ts; whole = refl; is = refl; inner = o.0; deeper = o.1; fits = o.2; occurs = tails first 210 rest (items_key ts ++ tail) (sym e ∙ occurs) }
opening_there left (object ms) r first rest bytes tail e occurs false is = absurd (omega (arith, is, heads first 209 rest (members_key ms ++ tail) (sym e ∙ occurs)))
opening_there left (object ms) r first rest bytes tail e occurs true is =
    let o = object_open ms left r in
    record { inside = members ms; whole = refl; is = refl; inner = o.0; deeper = o.1; fits = o.2; occurs = tails first 209 rest (members_key ms ++ tail) (sym e ∙ occurs) }
opening_there left t r first rest bytes tail e occurs b is = absurd r.within

-- ---- one step

stacked_as : (os : List Open) (objects others : List Bool) (depth d : ℕ) → others ≡ objects → d ≡ depth → Stacks os objects depth → Stacks os others d
stacked_as os objects others depth d same is s = subst (λ i. Stacks os others i) (sym is) (subst (λ bs. Stacks os bs depth) (sym same) s)

none_open : (objects : List Bool) (depth top : ℕ) → top + 1 ≡ depth → Stacks [] objects depth → ⊥
none_open objects zero top below s = omega (arith, below)
none_open objects (suc d) top below s = s

module _ (more : List ℕ) (old : Steps) (top : ℕ) (below : top + 1 ≡ old.depth) (object : Bool) (is : object ≡ get_or old.objects top false) where
  -- what begins here, of what is open
  abbrev pub AtTop : Result Part NoKey → Type 0
  AtTop r = (o : Open) → is_object o ≡ object → (left : ℕ) → IsOpen o left → (behind : List ℕ) → old.rest.now ≡ open_key o ++ behind → BeginsWithPart o left behind old.rest.now r

  top_is : (o : Open) (under : List Open) (depth : ℕ) → top + 1 ≡ depth → Stacks (o ∷ under) old.objects depth → (is_object o ≡ object) × Stacks under old.objects top
  top_is o under zero at s = absurd (omega (arith, at))
  top_is o under (suc d) at s =
      let same : top ≡ d = omega (arith, at) in
      (sym (is ∙ ap (λ i. get_or old.objects i false) same ∙ s.0), subst (λ i. Stacks under old.objects i) (sym same) s.1)

  module _ (o : Open) (under : List Open) (w : IsAmid (o ∷ under) more old) where
    pub kind_is : is_object o ≡ object
    kind_is = (top_is o under old.depth below w.stacked).0

    pub begins_here : (r : Result Part NoKey) → AtTop r → BeginsWithPart o w.left (opens_key under ++ more) old.rest.now r
    begins_here r at = at o kind_is w.left w.are_open.0 (opens_key under ++ more) (w.occurs ∙ append_assoc (open_key o) (opens_key under) more)

    pub end_passed : (after : List ℕ) → BeginsWithEnd o (opens_key under ++ more) old.rest.now after → (new : Steps) → new.objects ≡ old.objects → new.depth ≡ top → new.rest.now ≡ after → PassesEnd o under more old new
    end_passed after x new same at rest = record {
      is_over = x.is_over;
      passed = x.passed ∙ ap (λ v. end_key (is_object o) ++ v) (sym rest);
      amid = record {
        left = suc w.left;
        levels = omega (arith, w.levels, below, at);
        are_open = w.are_open.1;
        stacked = stacked_as under old.objects new.objects top new.depth same at (top_is o under old.depth below w.stacked).1;
        occurs = rest ∙ x.behind;
      };
    }

    -- the others of its parts are open in its stead
    others_stacked : (depth : ℕ) → top + 1 ≡ depth → Stacks (o ∷ under) old.objects depth → (others : Open) → is_object others ≡ is_object o → Stacks (others ∷ under) old.objects depth
    others_stacked zero at s others same = absurd (omega (arith, at))
    others_stacked (suc d) at s others same = (s.0 ∙ sym same, s.1)

    same_kind : (p : Open) (name : List ℕ) (value : Tree) (others : Open) → IsPart p name value others → is_object others ≡ is_object p
    same_kind (items no_trees) name value others p = absurd p
    same_kind (items (more_trees t ts)) name value others p = ap is_object p.2
    same_kind (members no_members) name value others p = absurd p
    same_kind (members (more_members k t ms)) name value others p = ap is_object p.2

    pub opened : (b : Opened) → (x : BeginsWithOpening o w.left (opens_key under ++ more) old.rest.now b) → (new : Steps) → IsWithin b.object b.parts.now old new → old.depth < 512 → PassesOpening o under more old new
    opened b x new within space =
        let one_more : new.depth ≡ suc old.depth = omega (arith, within.space) in
        let others : Stacks (x.others ∷ under) old.objects old.depth = others_stacked old.depth below w.stacked x.others (same_kind o x.name (opened_tree x.inside) x.others x.is_part) in
        let there : Stacks (x.inside ∷ x.others ∷ under) (set old.objects old.depth b.object) (suc old.depth) =
        (get_or-set_same old.objects old.depth b.object false (omega (arith, space, old.sized)) ∙ x.kind_is, stack_retained (x.others ∷ under) old.objects old.depth b.object old.depth (omega arith) others) in
        record {
          name = x.name;
          value = opened_tree x.inside;
          others = x.others;
          inside = x.inside;
          is_part = x.is_part;
          whole = refl;
          passed = x.named ∙ ap (λ v. name_key (is_object o) x.name ++ v) (x.begins ∙ ap (λ v. opening_byte (is_object x.inside) ∷ v) (sym within.rest));
          amid = record {
            left = x.inner;
            levels = omega (arith, w.levels, x.deeper, one_more);
            are_open = (x.fits, subst (λ d. AreOpen (x.others ∷ under) d) x.deeper (x.others_fit, w.are_open.1));
            stacked = stacked_as (x.inside ∷ x.others ∷ under) (set old.objects old.depth b.object) new.objects (suc old.depth) new.depth within.objects one_more there;
            occurs = within.rest ∙ x.behind ∙ ap (λ v. open_key x.inside ++ v) (sym (append_assoc (open_key x.others) (opens_key under) more)) ∙ sym (append_assoc (open_key x.inside) (opens_key (x.others ∷ under)) more);
          };
        }

    pub scalar_passed : (p : ScalarPart) → (x : BeginsWithScalar o w.left (opens_key under ++ more) old.rest.now p) → (new : Steps) → new.objects ≡ old.objects → new.depth ≡ old.depth → new.rest.now ≡ p.after.now → PassesScalar o under more p old new
    scalar_passed p x new same at rest = record {
      name = x.name;
      value = x.value;
      others = x.others;
      left = w.left;
      is_part = x.is_part;
      is_scalar = x.is_scalar;
      readable = x.readable;
      member = x.member;
      tail = x.tail;
      begins = x.begins;
      from = x.from;
      named = x.from ∙ x.named;
      occurs = x.occurs;
      behind = rest;
      amid = record {
        left = w.left;
        levels = omega (arith, w.levels, at);
        are_open = (x.others_fit, w.are_open.1);
        stacked = stacked_as (x.others ∷ under) old.objects new.objects old.depth new.depth same at
            (others_stacked old.depth below w.stacked x.others (same_kind o x.name x.value x.others x.is_part));
        occurs = rest ∙ x.behind ∙ sym (append_assoc (open_key x.others) (opens_key under) more);
      };
    }

  -- what a step over these reports, by what is so of the innermost
  pub stepped : (opens : List Open) → (w : IsAmid opens more old) → (r : Result (Option Step) NoKey) (new : Steps) → ((o : Open) (under : List Open) → IsAmid (o ∷ under) more old → StepsOver (o ∷ under) more old r new) → StepsOver opens more old r new
  stepped [] w r new law = absurd (none_open old.objects old.depth top below w.stacked)
  stepped (o ∷ under) w r new law = law o under w

-- ---- a walk of which something holds

-- what is reported at the end of all
abbrev StepsEnded : Result (Option Step) NoKey → Type 0
StepsEnded r = r ≡ Ok None

some_step : (s : Step) → StepsEnded (Ok (Some s)) → ⊥
some_step s e = cc

error_step : (e : NoKey) → StepsEnded (Err e) → ⊥
error_step e is = cc

-- What holds of those that are open, and what is behind them.
pub record Walking (Holds : List Open → Type 0) (more : List ℕ) (steps : Steps) : Type 0 where
  pub opens : List Open
  pub amid : IsAmid opens more steps
  pub holds : Holds opens

-- A value was passed.
pub record PassingScalar (Holds : List Open → Type 0) (more : List ℕ) (p : ScalarPart) (old new : Steps) : Type 0 where
  pub o : Open
  pub under : List Open
  pub x : PassesScalar o under more p old new
  pub holds : Holds (o ∷ under)

module _ (Holds : List Open → Type 0) (more : List ℕ) (old new : Steps) (w : Walking Holds more old) where
  abbrev Law : Result (Option Step) NoKey → Type 0
  Law r = (opens : List Open) (behind : List ℕ) → IsAmid opens behind old → StepsOver opens behind old r new

  -- the end of all
  pub all_passed : Law (Ok None) → Holds []
  all_passed law = go w.opens (law w.opens more w.amid) w.holds
    where
      go : (os : List Open) → StepsOver os more old (Ok None) new → Holds os → Holds []
      go [] s h = h
      go (o ∷ under) s h = absurd s

  pub no_error : (e : NoKey) → Law (Err e) → ⊥
  no_error e law = go w.opens (law w.opens more w.amid)
    where
      go : (os : List Open) → StepsOver os more old (Err e) new → ⊥
      go [] s = error_step e s
      go (o ∷ under) s = s

  -- an end, or a beginning
  pub edge_passed : (Then : List Open → Type 0) → Law (Ok (Some step.Edge))
      → ((o : Open) (under : List Open) → PassesEnd o under more old new → Holds (o ∷ under) → Then under)
      → ((o : Open) (under : List Open) → (x : PassesOpening o under more old new) → Holds (o ∷ under) → Then (x.inside ∷ x.others ∷ under))
      → Walking Then more new
  edge_passed Then law at_end at_opening = go w.opens (law w.opens more w.amid) w.holds
    where
      go : (os : List Open) → StepsOver os more old (Ok (Some step.Edge)) new → Holds os → Walking Then more new
      go [] s h = absurd (some_step step.Edge s)
      go (o ∷ under) (inl x) h = record { opens = under; amid = x.amid; holds = at_end o under x h }
      go (o ∷ under) (inr x) h = record { opens = x.inside ∷ x.others ∷ under; amid = x.amid; holds = at_opening o under x h }

  -- another value
  pub value_passed : (p : ScalarPart) → Law (Ok (Some (step.Scalar p))) → PassingScalar Holds more p old new
  value_passed p law = go w.opens (law w.opens more w.amid) w.holds
    where
      go : (os : List Open) → StepsOver os more old (Ok (Some (step.Scalar p))) new → Holds os → PassingScalar Holds more p old new
      go [] s h = absurd (some_step (step.Scalar p) s)
      go (o ∷ under) s h = record { o = o; under = under; x = s; holds = h }

  -- any of these
  pub step_passed : (Then : List Open → Type 0) → (s : Step) → Law (Ok (Some s))
      → ((o : Open) (under : List Open) → PassesEnd o under more old new → Holds (o ∷ under) → Then under)
      → ((o : Open) (under : List Open) → (x : PassesOpening o under more old new) → Holds (o ∷ under) → Then (x.inside ∷ x.others ∷ under))
      → ((o : Open) (under : List Open) → (p : ScalarPart) → (x : PassesScalar o under more p old new) → Holds (o ∷ under) → Then (x.others ∷ under))
      → Walking Then more new
  step_passed Then step.Edge law at_end at_opening at_value = edge_passed Then law at_end at_opening
  step_passed Then (step.Scalar p) law at_end at_opening at_value =
      let v = value_passed p law in
      record { opens = v.x.others ∷ v.under; amid = v.x.amid; holds = at_value v.o v.under p v.x v.holds }

-- as many are open as the walk says
pub stacked_depth : (os : List Open) (objects : List Bool) (depth : ℕ) → Stacks os objects depth → length os ≡ depth
stacked_depth [] objects zero s = refl
stacked_depth [] objects (suc d) s = absurd s
stacked_depth (o ∷ os) objects zero s = absurd s
stacked_depth (o ∷ os) objects (suc d) s = ap suc (stacked_depth os objects d s.1)
