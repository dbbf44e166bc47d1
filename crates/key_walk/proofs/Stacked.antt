-- The frames of the arrays and objects that are open, in a list with the outermost first.
use Rattle.std.proofs.Common.{◌≡◌, ◌≢◌, ℕ, zero, suc, ◌+◌, ◌<◌, ◌≤◌, ◌↔◌, Bool, List, [], ◌∷◌, ◌++◌, Some, None, get_or, set, length, refl, sym, ap, subst, ◌∙◌, arith, append_assoc}
use Rattle.std.specs.Bool.{⊤}
use Rattle.std.proofs.lemmas.List.{get_or-set_same, get_or-set_other}
use Rattle.key_value.proofs.Texts.{none_some, some_same}
use Rattle.key_walk.specs.Frames.{ScalarFirst, PartsFirst, Frame, in_array, in_object, is_object_frame, new_frame, NameFirst, frame_behind, IsFrame}
use Rattle.jsonb_spec.specs.SortKey.Open.{end_key, opening_byte}
use Rattle.key_walk.proofs.Checks.{through}
use Rattle.key_walk.proofs.Framed.{Ends, Due, parts_first, end_passed, name_passed, no_name, scalar_passed, no_scalar_due, no_value, opening_passed, too_deep_due}
use Rattle.jsonb_spec.specs.SortKey.{key_of, text_key}

-- the innermost is the last of the list
abbrev pub Stacked : List ℕ → List Frame → List ℕ → ℕ → Type 0
Stacked bytes [] frames zero = ⊤
Stacked bytes [] frames (suc depth) = ⊥
Stacked bytes (f ∷ fs) frames zero = ⊥
Stacked bytes (f ∷ fs) frames (suc depth) = IsFrame bytes f (get_or frames depth 0) × Stacked bytes fs frames depth

retained : (bytes : List ℕ) (fs : List Frame) (frames : List ℕ) (e v d : ℕ) → d ≤ e → Stacked bytes fs frames d → Stacked bytes fs (set frames e v) d
retained bytes [] frames e v zero l s = tt
retained bytes [] frames e v (suc d) l s = absurd s
retained bytes (f ∷ fs) frames e v zero l s = absurd s
retained bytes (f ∷ fs) frames e v (suc d) l s =
    let other : d ≢ e = omega (arith, l) in
    (subst (IsFrame bytes f) (sym (get_or-set_other frames e d v 0 other)) s.0, retained bytes fs frames e v d (omega (arith, l)) s.1)

-- The bytes are parts that end, exactly where what is left ends all that are open.
pub record Left (object : Bool) (bytes frames : List ℕ) (depth : ℕ) (rest : List ℕ) : Type 0 where
  pub opens : List Frame
  pub left : ℕ
  pub levels : left + depth ≡ 512
  pub stacked : Stacked bytes opens frames depth
  pub front : List ℕ
  pub suffix : bytes ≡ front ++ rest
  pub whole : (more : List ℕ) → Ends opens left rest more ↔ PartsFirst object bytes more

-- How far the check is, where at least one is open.
pub record Top (object : Bool) (bytes frames : List ℕ) (top : ℕ) (rest : List ℕ) : Type 0 where
  pub frame : Frame
  pub under : List Frame
  pub left : ℕ
  pub levels : left + suc top ≡ 512
  pub is : IsFrame bytes frame (get_or frames top 0)
  pub stacked : Stacked bytes under frames top
  pub front : List ℕ
  pub suffix : bytes ≡ front ++ rest
  pub whole : (more : List ℕ) → Ends (frame ∷ under) left rest more ↔ PartsFirst object bytes more

-- How far the check is, where a value is due.
pub record ValueDue (object : Bool) (bytes frames : List ℕ) (depth : ℕ) (value : List ℕ) : Type 0 where
  pub opens : List Frame
  pub left : ℕ
  pub levels : left + depth ≡ 512
  pub stacked : Stacked bytes opens frames depth
  pub front : List ℕ
  pub suffix : bytes ≡ front ++ value
  pub whole : (more : List ℕ) → Due opens left value more ↔ PartsFirst object bytes more

pub begun : (object : Bool) (bytes frames : List ℕ) → IsFrame bytes (new_frame object) (get_or frames 0 0) → Left object bytes frames 1 bytes
begun object bytes frames is = record {
  opens = new_frame object ∷ [];
  left = 511;
  levels = omega arith;
  stacked = (is, tt);
  front = [];
  suffix = refl;
  whole = parts_first object bytes;
}

pub all_passed : (object : Bool) (bytes frames : List ℕ) (depth : ℕ) (rest : List ℕ) → depth ≡ 0 → Left object bytes frames depth rest → (more : List ℕ) → (rest ≡ more) ↔ PartsFirst object bytes more
all_passed object bytes frames depth rest none l more = go l.opens depth none l.stacked (l.whole more)
  where
    go : (opens : List Frame) (depth : ℕ) → depth ≡ 0 → Stacked bytes opens frames depth → Ends opens l.left rest more ↔ PartsFirst object bytes more → (rest ≡ more) ↔ PartsFirst object bytes more
    go [] zero n s w = w
    go [] (suc d) n s w = absurd s
    go (f ∷ fs) zero n s w = absurd s
    go (f ∷ fs) (suc d) n s w = absurd (omega (arith, n))

pub top_of : (object : Bool) (bytes frames : List ℕ) (depth top : ℕ) (rest : List ℕ) → top + 1 ≡ depth → Left object bytes frames depth rest → Top object bytes frames top rest
top_of object bytes frames depth top rest below l = go l.opens depth below l.levels l.stacked l.whole
  where
    go : (opens : List Frame) (depth : ℕ) → top + 1 ≡ depth → l.left + depth ≡ 512 → Stacked bytes opens frames depth → ((more : List ℕ) → Ends opens l.left rest more ↔ PartsFirst object bytes more) → Top object bytes frames top rest
    go [] zero b v s w = absurd (omega (arith, b))
    go [] (suc d) b v s w = absurd s
    go (f ∷ fs) zero b v s w = absurd s
    go (f ∷ fs) (suc d) b v s w =
        let same : d ≡ top = omega (arith, b) in
        record {
          frame = f;
          under = fs;
          left = l.left;
          levels = omega (arith, v, same);
          is = subst (λ i. IsFrame bytes f (get_or frames i 0)) same s.0;
          stacked = subst (Stacked bytes fs frames) same s.1;
          front = l.front;
          suffix = l.suffix;
          whole = w;
        }

farther : (bytes front rest part others : List ℕ) → bytes ≡ front ++ rest → rest ≡ part ++ others → bytes ≡ (front ++ part) ++ others
farther bytes front rest part others e f = e ∙ ap (λ bs. front ++ bs) f ∙ sym (append_assoc front part others)

pub ended : (object : Bool) (bytes frames : List ℕ) (top : ℕ) (rest others : List ℕ) (t : Top object bytes frames top rest) → rest ≡ end_key (is_object_frame t.frame) ++ others → Left object bytes frames top others
ended object bytes frames top rest others t e = record {
  opens = t.under;
  left = suc t.left;
  levels = omega (arith, t.levels);
  stacked = t.stacked;
  front = t.front ++ end_key (is_object_frame t.frame);
  suffix = farther bytes t.front rest (end_key (is_object_frame t.frame)) others t.suffix e;
  whole = λ more. through _ _ _ (end_passed t.frame t.under t.left rest others more e) (t.whole more);
}

name_bytes : (f : Frame) (name rest value : List ℕ) → NameFirst f name rest value → (part : List ℕ) × (rest ≡ part ++ value)
name_bytes in_array name rest value first = ([], first)
name_bytes (in_object last) name rest value first = (text_key name, first.2)

pub named_next : (object : Bool) (bytes frames : List ℕ) (top v : ℕ) (rest value name : List ℕ) (t : Top object bytes frames top rest) → top < length frames → ((tail : List ℕ) → rest ≡ end_key (is_object_frame t.frame) ++ tail → ⊥) → NameFirst t.frame name rest value → ((w : List ℕ) → (n : List ℕ) × NameFirst t.frame n rest w → value ≡ w)
    → IsFrame bytes (frame_behind t.frame name) v → ValueDue object bytes (set frames top v) (suc top) value
named_next object bytes frames top v rest value name t within none first one is =
    let part = name_bytes t.frame name rest value first in
    record {
      opens = frame_behind t.frame name ∷ t.under;
      left = t.left;
      levels = t.levels;
      stacked = (subst (IsFrame bytes (frame_behind t.frame name)) (sym (get_or-set_same frames top v 0 within)) is, retained bytes t.under frames top v top (omega arith) t.stacked);
      front = t.front ++ part.0;
      suffix = farther bytes t.front rest part.0 value t.suffix part.1;
      whole = λ more. through _ _ _ (name_passed t.frame t.under t.left rest value name more none first one) (t.whole more);
    }

pub none_named : (object : Bool) (bytes frames : List ℕ) (top : ℕ) (rest : List ℕ) (t : Top object bytes frames top rest) → ((tail : List ℕ) → rest ≡ end_key (is_object_frame t.frame) ++ tail → ⊥) → ((w : List ℕ) → (n : List ℕ) × NameFirst t.frame n rest w → ⊥) → (more : List ℕ) → PartsFirst object bytes more → ⊥
none_named object bytes frames top rest t none wrong more p = no_name t.frame t.under t.left rest more none wrong ((t.whole more).1 p)

pub scalar_next : (object : Bool) (bytes frames : List ℕ) (depth first : ℕ) (value tail others : List ℕ) → ValueDue object bytes frames depth value → value ≡ first ∷ tail → (first ≢ 209) × (first ≢ 210) → ScalarFirst value others → ((v : List ℕ) → ScalarFirst value v → others ≡ v) → Left object bytes frames depth others
scalar_next object bytes frames depth first value tail others d e other s one = record {
  opens = d.opens;
  left = d.left;
  levels = d.levels;
  stacked = d.stacked;
  front = d.front ++ key_of s.value;
  suffix = farther bytes d.front value (key_of s.value) others d.suffix s.occurs;
  whole = λ more. through _ _ _ (scalar_passed d.opens d.left first value tail others more e other s one) (d.whole more);
}

pub none_scalar : (object : Bool) (bytes frames : List ℕ) (depth first : ℕ) (value tail : List ℕ) → ValueDue object bytes frames depth value → value ≡ first ∷ tail → (first ≢ 209) × (first ≢ 210) → ((v : List ℕ) → ScalarFirst value v → ⊥) → (more : List ℕ) → PartsFirst object bytes more → ⊥
none_scalar object bytes frames depth first value tail d e other none more p = no_scalar_due d.opens d.left first value tail more e other none ((d.whole more).1 p)

pub none_due : (object : Bool) (bytes frames : List ℕ) (depth : ℕ) (value : List ℕ) → ValueDue object bytes frames depth value → length value ≡ 0 → (more : List ℕ) → PartsFirst object bytes more → ⊥
none_due object bytes frames depth value d none more p = no_value d.opens d.left value more none ((d.whole more).1 p)

pub opened_next : (object : Bool) (bytes frames : List ℕ) (depth first v : ℕ) (b : Bool) (value others : List ℕ) → ValueDue object bytes frames depth value → value ≡ first ∷ others → first ≡ opening_byte b → depth < 512 → depth < length frames → IsFrame bytes (new_frame b) v → Left object bytes (set frames depth v) (depth + 1) others
opened_next object bytes frames depth first v b value others d e is shallow within new = go d.left d.levels d.whole
  where
    one_more : suc depth ≡ depth + 1
    one_more = omega arith

    go : (left : ℕ) → left + depth ≡ 512 → ((more : List ℕ) → Due d.opens left value more ↔ PartsFirst object bytes more) → Left object bytes (set frames depth v) (depth + 1) others
    go zero l w = absurd (omega (arith, l, shallow))
    go (suc inner) l w = record {
      opens = new_frame b ∷ d.opens;
      left = inner;
      levels = omega (arith, l);
      stacked = subst (Stacked bytes (new_frame b ∷ d.opens) (set frames depth v)) one_more
          (subst (IsFrame bytes (new_frame b)) (sym (get_or-set_same frames depth v 0 within)) new, retained bytes d.opens frames depth v depth (omega arith) d.stacked);
      front = d.front ++ first ∷ [];
      suffix = farther bytes d.front value (first ∷ []) others d.suffix e;
      whole = λ more. through _ _ _ (opening_passed d.opens inner first b value others more e is) (w more);
    }

pub none_deeper : (object : Bool) (bytes frames : List ℕ) (depth first : ℕ) (b : Bool) (value others : List ℕ) → ValueDue object bytes frames depth value → value ≡ first ∷ others → first ≡ opening_byte b → depth ≡ 512 → (more : List ℕ) → PartsFirst object bytes more → ⊥
none_deeper object bytes frames depth first b value others d e is full more p = go d.left d.levels ((d.whole more).1 p)
  where
    go : (left : ℕ) → left + depth ≡ 512 → Due d.opens left value more → ⊥
    go zero l due = too_deep_due d.opens first b value others more e is due
    go (suc inner) l due = absurd (omega (arith, l, full))

-- ---- one step of the loop, by what its calls returned

module _ (object : Bool) (bytes frames : List ℕ) (depth top last : ℕ) (rest : List ℕ) (kind : Bool) (below : top + 1 ≡ depth) (l : Left object bytes frames depth rest) (is_last : last ≡ get_or frames top 0)
    (is_kind : (bs : List ℕ) (f : Frame) → IsFrame bs f last → kind ≡ is_object_frame f) where
  here : Top object bytes frames top rest
  here = top_of object bytes frames depth top rest below l

  frame_there : IsFrame bytes here.frame last
  frame_there = subst (IsFrame bytes here.frame) (sym is_last) here.is

  kind_there : kind ≡ is_object_frame here.frame
  kind_there = is_kind bytes here.frame frame_there

  pub end_step : (others : List ℕ) → rest ≡ end_key kind ++ others → Left object bytes frames top others
  end_step others e = ended object bytes frames top rest others here (e ∙ ap (λ b. end_key b ++ others) kind_there)

  no_end_there : ((more : List ℕ) → rest ≡ end_key kind ++ more → None ≡ Some more) → (tail : List ℕ) → rest ≡ end_key (is_object_frame here.frame) ++ tail → ⊥
  no_end_there none tail e = none_some tail (none tail (e ∙ ap (λ b. end_key b ++ tail) (sym kind_there)))

  pub name_step : (value : List ℕ) (v : ℕ) → ((more : List ℕ) → rest ≡ end_key kind ++ more → None ≡ Some more) → top < length frames
      → ((f : Frame) → IsFrame bytes f last → (more : List ℕ) → (Some value ≡ Some more) ↔ ((name : List ℕ) × NameFirst f name rest more))
      → ((bs front name more : List ℕ) → (f : Frame) → IsFrame bs f last → NameFirst f name rest more → bs ≡ front ++ rest → IsFrame bs (frame_behind f name) v) → ValueDue object bytes (set frames top v) depth value
  name_step value v none within found with_name =
      let first = (found here.frame frame_there value).0 refl in
      subst (λ d. ValueDue object bytes (set frames top v) d value) (omega (arith, below))
      (named_next object bytes frames top v rest value first.0 here within (no_end_there none) first.1 (λ w n. some_same value w ((found here.frame frame_there w).1 n))
      (with_name bytes here.front first.0 value here.frame frame_there first.1 here.suffix))

  pub no_name_step : ((more : List ℕ) → rest ≡ end_key kind ++ more → None ≡ Some more) → ((f : Frame) → IsFrame bytes f last → (more : List ℕ) → (None ≡ Some more) ↔ ((name : List ℕ) × NameFirst f name rest more)) → (more : List ℕ) → PartsFirst object bytes more → ⊥
  no_name_step none found more p = none_named object bytes frames top rest here (no_end_there none) (λ w n. none_some w ((found here.frame frame_there w).1 n)) more p

-- a value that was checked
pub scalar_step : (object : Bool) (bytes frames : List ℕ) (depth first : ℕ) (value tail others : List ℕ) → ValueDue object bytes frames depth value → value ≡ first ∷ tail → (first ≢ 209) × (first ≢ 210) → ((more : List ℕ) → (Some others ≡ Some more) ↔ ScalarFirst value more) → Left object bytes frames depth others
scalar_step object bytes frames depth first value tail others d e other found = scalar_next object bytes frames depth first value tail others d e other ((found others).0 refl) (λ w s. some_same others w ((found w).1 s))

pub no_scalar_step : (object : Bool) (bytes frames : List ℕ) (depth first : ℕ) (value tail : List ℕ) → ValueDue object bytes frames depth value → value ≡ first ∷ tail → (first ≢ 209) × (first ≢ 210) → ((more : List ℕ) → (None ≡ Some more) ↔ ScalarFirst value more) → (more : List ℕ) → PartsFirst object bytes more → ⊥
no_scalar_step object bytes frames depth first value tail d e other found more p = none_scalar object bytes frames depth first value tail d e other (λ w s. none_some w ((found w).1 s)) more p
