-- The member at a setting's key among those that were parsed; settings and errors of the whole text.
use Rattle.std.proofs.Common.{◌≡◌, ℕ, ◌+◌, ◌<◌, List, [], ◌∷◌, ◌++◌, length, take, get_or, Option, Some, Bool, true, false, not, Ordering, Less, Equal, Greater, nat_cmp, Vec, Global, Result, Ok, Err, IfOk, IfErr, refl, sym, subst, ap, ◌∙◌, add-one, take-suc, rules, if◌then◌else◌}
use Rattle.std.proofs.lemmas.Map.Text.{is_eq-slice_cmp}
use Rattle.std.specs.Cmp.Lexicographic.{slice_cmp}
use Rattle.std.specs.Cow.{cow_str_bytes}
use Rattle.std.specs.Ordering.{match_ordering, is_eq}
use Rattle.std.specs.Str.{bytes_eq}
use Rattle.jsonb_spec.specs.Accessors.{as_object, find_member}
use Rattle.jsonb.specs.AstView.{Written, ast_view, written_members, written_pairs}
use Rattle.jsonb_spec.specs.Grammar.{IsDocument}
use Rattle.jsonb_spec.specs.Mode.{extended}
use Rattle.jsonb_spec.specs.Located.{IsLocated}
use Rattle.jsonb.specs.Source.{source_members_view, source_view}
use Rattle.jsonb_spec.specs.Tree.{Member, Members, no_members, more_members, object, put, put_all, Tree}
use Rattle.jsonb.specs.declared.parser.ast.JsonAst.{JsonAst, the_lemmas}
use Rattle.jsonb.specs.declared.parser.ast.JsonAst.TheVariants as ast
use Rattle.example_config.proofs.KeyEnds.{key_found, object_located, same_bytes}
use Rattle.example_config.specs.Config.{HasKeyEnd, IsConfig, IsConfigOf, IsConfigError, IsSettingError, key_of, setting_of}
use Rattle.example_config.specs.declared.config.Config.{Config}
use Rattle.example_config.specs.declared.config.ConfigError.{ConfigError}
use Rattle.example_config.specs.declared.config.ConfigError.TheVariants as config_error
use Rattle.example_config.specs.declared.config.Setting.{Setting}

-- ---- one more member put in

same_key : (k l : List ℕ) → slice_cmp nat_cmp k l ≡ Equal → k ≡ l
same_key k l e = same_bytes k l (sym (is_eq-slice_cmp k l) ∙ ap is_eq e)

false_true : false ≡ true → ⊥
false_true e = cc

one_or_other : {A : Type 0} (b c : Bool) (x y z : A) → (b ≡ true → c ≡ true → ⊥) → (if c then x else (if b then y else z)) ≡ (if b then y else (if c then x else z))
one_or_other true true x y z differ = absurd (differ refl refl)
one_or_other true false x y z differ = refl
one_or_other false true x y z differ = refl
one_or_other false false x y z differ = refl

replaced : {A : Type 0} (b : Bool) (x y z : A) → (if b then x else z) ≡ (if b then x else (if b then y else z))
replaced true x y z = refl
replaced false x y z = refl

-- the member that is found after one more is put in
find_put : (key k : List ℕ) (t : Tree) (ms : Members) → find_member (bytes_eq key) (put k t ms) ≡ (if bytes_eq key k then Some t else find_member (bytes_eq key) ms)
find_put key k t no_members = refl
find_put key k t (more_members l u ms) = by_order (slice_cmp nat_cmp k l) refl (find_put key k t ms)
  where
    found : Members → Option Tree
    found members = find_member (bytes_eq key) members

    by_order : (o : Ordering) → slice_cmp nat_cmp k l ≡ o → found (put k t ms) ≡ (if bytes_eq key k then Some t else found ms)
        → found (match_ordering o (more_members k t (more_members l u ms)) (more_members l t ms) (more_members l u (put k t ms))) ≡ (if bytes_eq key k then Some t else (if bytes_eq key l then Some u else found ms))
    by_order Less is behind = refl
    by_order Equal is behind =
        let same : bytes_eq key k ≡ bytes_eq key l = ap (bytes_eq key) (same_key k l is) in
        subst (λ b. (if bytes_eq key l then Some t else found ms) ≡ (if b then Some t else (if bytes_eq key l then Some u else found ms))) (sym same) (replaced (bytes_eq key l) (Some t) (Some u) (found ms))
    by_order Greater is behind =
        ap (λ o. if bytes_eq key l then Some u else o) behind
        ∙ one_or_other (bytes_eq key k) (bytes_eq key l) (Some u) (Some t) (found ms) differ
      where
        differ : bytes_eq key k ≡ true → bytes_eq key l ≡ true → ⊥
        differ at_k at_l =
            let both : bytes_eq k l ≡ true = subst (λ x. bytes_eq x l ≡ true) (same_bytes key k at_k) at_l in
            false_true (sym (ap is_eq is) ∙ is_eq-slice_cmp k l ∙ both)

put_all-push : (es : List Member) (e : Member) (ms : Members) → put_all (es ++ e ∷ []) ms ≡ put e.0 e.1 (put_all es ms)
put_all-push [] e ms = refl
put_all-push (x ∷ es) e ms = put_all-push es e (put x.0 x.1 ms)

pairs-push : (ms : List Written) (m : Written) → written_pairs (ms ++ m ∷ []) ≡ written_pairs ms ++ (cow_str_bytes m.0, ast_view m.1) ∷ []
pairs-push [] m = refl
pairs-push (x ∷ ms) m = ap (λ ps. (cow_str_bytes x.0, ast_view x.1) ∷ ps) (pairs-push ms m)

-- what is found among one more of the members
pub next_member : (key : List ℕ) (ms : List Written) (i : ℕ) (m : Written) → i < length ms → m ≡ get_or ms i m
    → find_member (bytes_eq key) (written_members (take (i + 1) ms)) ≡ (if bytes_eq key (cow_str_bytes m.0) then Some (ast_view m.1) else find_member (bytes_eq key) (written_members (take i ms)))
next_member key ms i m within is =
    let grown : take (i + 1) ms ≡ take i ms ++ m ∷ [] = rw add-one (take-suc ms i m within) ∙ ap (λ x. take i ms ++ x ∷ []) (sym is) in
    ap (λ ws. find_member (bytes_eq key) (written_members ws)) grown
    ∙ ap (λ ps. find_member (bytes_eq key) (put_all ps no_members)) (pairs-push (take i ms) m)
    ∙ ap (λ members. find_member (bytes_eq key) members) (put_all-push (written_pairs (take i ms)) (cow_str_bytes m.0, ast_view m.1) no_members)
    ∙ find_put key (cow_str_bytes m.0) (ast_view m.1) (written_members (take i ms))

-- a member with another key changes nothing
passed : (b : Bool) (now before : Option Tree) (t : Tree) → b ≡ false → now ≡ before → now ≡ (if b then Some t else before)
passed false now before t is same = same
passed true now before t is same = absurd (false_true (sym is))

-- a member with the key replaces what was found
taken : (b : Bool) (before : Option Tree) (t : Tree) → b ≡ true → Some t ≡ (if b then Some t else before)
taken true before t is = refl
taken false before t is = absurd (false_true is)

denied : (b c : Bool) → c ≡ not b → c ≡ true → b ≡ false
denied true c is h = cc
denied false c is h = refl

granted : (b c : Bool) → c ≡ not b → c ≡ false → b ≡ true
granted true c is h = refl
granted false c is h = cc

module _ (setting : Setting) (key name : List ℕ) (ms : List Written) (i : ℕ) (m : Written) (within : i < length ms) (is : m ≡ get_or ms i m) (is_key : key ≡ key_of setting) (is_name : name ≡ cow_str_bytes m.0) where
  tested : bytes_eq key name ≡ bytes_eq (key_of setting) (cow_str_bytes m.0)
  tested = ap (λ k. bytes_eq k name) is_key ∙ ap (bytes_eq (key_of setting)) is_name

  -- after a member with another key
  pub next_passed : (other : Bool) (now : Option Tree) → other ≡ not (bytes_eq key name) → other ≡ true → now ≡ setting_of setting (written_members (take i ms)) → now ≡ setting_of setting (written_members (take (i + 1) ms))
  next_passed other now ne h so_far =
      passed (bytes_eq (key_of setting) (cow_str_bytes m.0)) now _ (ast_view m.1) (sym tested ∙ denied (bytes_eq key name) other ne h) so_far ∙ sym (next_member (key_of setting) ms i m within is)

  -- after a member with the key
  pub next_taken : (other : Bool) → other ≡ not (bytes_eq key name) → other ≡ false → Some (ast_view m.1) ≡ setting_of setting (written_members (take (i + 1) ms))
  next_taken other ne h =
      taken (bytes_eq (key_of setting) (cow_str_bytes m.0)) _ (ast_view m.1) (sym tested ∙ granted (bytes_eq key name) other ne h) ∙ sym (next_member (key_of setting) ms i m within is)

  -- where that key ends
  pub taken_end : (other : Bool) → other ≡ not (bytes_eq key name) → other ≡ false → HasKeyEnd (source_members_view ms) (key_of setting) m.2
  taken_end other ne h =
      key_found ms i m (key_of setting) within is (sym (same_bytes (key_of setting) (cow_str_bytes m.0) (sym tested ∙ granted (bytes_eq key name) other ne h)))

-- ---- the whole text

view-Object : (v : Vec Written Global) → ast_view (ast.Object v) ≡ object (written_members v.items)
view-Object v = search (rules, the_lemmas)

-- an object that was read is that of its members
pub as_members : (read : JsonAst) (v : Vec Written Global) → read ≡ ast.Object v → as_object (ast_view read) ≡ Some (written_members v.items)
as_members read v is = ap as_object (ap ast_view is ∙ view-Object v)

-- settings of the object that was read
pub settings : (text : List ℕ) (read : JsonAst) (v : Vec Written Global) (r : Result Config ConfigError) → read ≡ ast.Object v → IsDocument extended text (ast_view read)
    → IfOk r (IsConfig (written_members v.items)) → IfOk r (λ c. (t : Tree) × IsDocument extended text t × IsConfigOf t c)
settings text read v (Ok c) is document config = (ast_view read, document, (written_members v.items, as_members read v is, config))
settings text read v (Err e) is document config = tt

pub only_settings : (text : List ℕ) (read : JsonAst) (v : Vec Written Global) (r : Result Config ConfigError) → read ≡ ast.Object v → ((t : Tree) → IsDocument extended text t → t ≡ ast_view read)
    → IfOk r (IsConfig (written_members v.items)) → IfOk r (λ c. (t : Tree) → IsDocument extended text t → IsConfigOf t c)
only_settings text read v (Ok c) is one config = λ t document. (written_members v.items, ap as_object (one t document) ∙ as_members read v is, config)
only_settings text read v (Err e) is one config = tt

-- the error of a setting of the object that was read
pub no_settings : (text : List ℕ) (read : JsonAst) (v : Vec Written Global) (r : Result Config ConfigError) → read ≡ ast.Object v → IsDocument extended text (ast_view read) → IsLocated extended text (source_view read)
    → IfErr r (IsSettingError text v.items) → IfErr r (IsConfigError text)
no_settings text read v (Ok c) is document located reported = tt
no_settings text read v (Err (config_error.Wrong setting line column)) is document located reported = (
  ast_view read,
  document,
  written_members v.items,
  as_members read v is,
  reported.0,
  record {
    members = source_members_view v.items;
    located = object_located extended text read v is located;
    index = reported.1;
    ends = reported.2;
    line_there = reported.3;
    column_there = reported.4;
  },
)
no_settings text read v (Err config_error.NoMemory) is document located reported = (ast_view read, document, written_members v.items, as_members read v is, reported)
no_settings text read v (Err (config_error.NoDocument e line column)) is document located reported = absurd reported
no_settings text read v (Err config_error.NoObject) is document located reported = absurd reported
