use Rattle.std.proofs.Common.{◌≡◌, ℕ, List, [], ◌∷◌, ◌++◌, map, string_bytes, String, Global, Result, Ok, Err, IfErr, true≢false, sym, subst, ap, ◌∙◌}
use Rattle.std.proofs.lemmas.List.{map-append, nil_from_length}
use Rattle.jsonb_spec.specs.Path.KeyEncoding.{Reads}
use Rattle.jsonb_spec.specs.Path.{StartsKey}
use Rattle.jsonb_path.proofs.KeyEncoding.{after_key, path_read, path_alone, no_slash, no_text, starts}
use Rattle.jsonb_path.proofs.keys.read_keys.Goals as goal

moved : (bytes : List ℕ) (keys : List (List ℕ)) (rest more : List ℕ) (slash : ℕ) → Reads bytes keys rest → rest ≡ slash ∷ more → slash ≡ 47 → Reads bytes keys (47 ∷ more)
moved bytes keys rest more slash r begins is = subst (λ b. Reads bytes keys (b ∷ more)) is (subst (λ left. Reads bytes keys left) begins r)

pushed : (bytes : List ℕ) (old new : List (String Global)) (key : String Global) (text rest : List ℕ) → new ≡ old ++ key ∷ [] → string_bytes key ≡ text → Reads bytes (map string_bytes old ++ text ∷ []) rest → Reads bytes (map string_bytes new) rest
pushed bytes old new key text rest grown same r =
    let keys : map string_bytes new ≡ map string_bytes old ++ text ∷ [] =
    ap (λ (ks : List (String Global)). map string_bytes ks) grown ∙ map-append string_bytes old (key ∷ []) ∙ ap (λ t. map string_bytes old ++ t ∷ []) same in
    subst (λ ks. Reads bytes ks rest) (sym keys) r

pub returns-then-slash-ne47-clause-none : goal.returns-then-slash-ne47-clause-none
returns-then-slash-ne47-clause-none c = λ others path.
    let keys = map string_bytes c.parts.keys.items in
    no_slash c.args.path.now keys others c.in-Some.slash.now c.in-Some.more.now (subst (λ left. Reads c.args.path.now keys left) c.in-Some.ensures.cases.0 c.parts.invariant) c.if-slash-ne47.true path

pub returns-in_default-from_utf8-clause-none : goal.returns-in_default-from_utf8-clause-none
returns-in_default-from_utf8-clause-none c = λ others path.
    let bytes = c.args.path.now in
    let keys = map string_bytes c.parts.keys.items in
    let key = c.in_ok-key.key.items in
    let here = moved bytes keys c.parts.rest.now c.in-Some.more.now c.in-Some.slash.now c.parts.invariant c.in-Some.ensures.cases.0 c.if-slash-ne47.false in
    let after = after_key bytes keys c.in-Some.more.now key c.in_ok-key.more.now here c.in_ok-key.ensures.key c.in_ok-key.ensures.whole in
    no_text bytes keys others key c.in_ok-key.more.now after (λ text. true≢false (sym (c.in_default-from_utf8.ensures.succeeds text))) path

pub parts-preserved : goal.parts-preserved
parts-preserved c =
    let bytes = c.args.path.now in
    let keys = map string_bytes c.parts.keys.items in
    let key = c.in_ok-key.key.items in
    let here = moved bytes keys c.parts.rest.now c.in-Some.more.now c.in-Some.slash.now c.parts.invariant c.in-Some.ensures.cases.0 c.if-slash-ne47.false in
    let after = after_key bytes keys c.in-Some.more.now key c.in_ok-key.more.now here c.in_ok-key.ensures.key c.in_ok-key.ensures.whole in
    pushed bytes c.parts.keys.items c.push.new.self.items c.in-Ok.key key c.in_ok-key.more.now c.in_ok-push.ensures.items (ap (λ v. v.items) c.in-Ok.ensures.ok) after

pub returns-clause-some : goal.returns-clause-some
returns-clause-some c = path_read c.args.path.now c.parts.keys.items (subst (λ left. Reads c.args.path.now (map string_bytes c.parts.keys.items) left) (nil_from_length c.parts.rest.now c.in_default.ensures.cases) c.parts.invariant)

pub returns-clause-only : goal.returns-clause-only
returns-clause-only c = λ others path.
    path_alone c.args.path.now (map string_bytes c.parts.keys.items) others (subst (λ left. Reads c.args.path.now (map string_bytes c.parts.keys.items) left) (nil_from_length c.parts.rest.now c.in_default.ensures.cases) c.parts.invariant) path

reported : {A E : Type 0} (r : Result A E) (P : Type 0) → P → IfErr r (λ _. P)
reported (Ok x) P p = tt
reported (Err e) P p = p

pub returns-in_err-key-clause-memory : goal.returns-in_err-key-clause-memory
returns-in_err-key-clause-memory c =
    let here = moved c.args.path.now (map string_bytes c.parts.keys.items) c.parts.rest.now c.in-Some.more.now c.in-Some.slash.now c.parts.invariant c.in-Some.ensures.cases.0 c.if-slash-ne47.false in
    reported c.from_residual.result (StartsKey c.args.path.now) (starts c.args.path.now (map string_bytes c.parts.keys.items) c.in-Some.more.now here)

pub returns-in_err-push-clause-memory : goal.returns-in_err-push-clause-memory
returns-in_err-push-clause-memory c =
    let here = moved c.args.path.now (map string_bytes c.parts.keys.items) c.parts.rest.now c.in-Some.more.now c.in-Some.slash.now c.parts.invariant c.in-Some.ensures.cases.0 c.if-slash-ne47.false in
    reported c.from_residual-in_err-push.result (StartsKey c.args.path.now) (starts c.args.path.now (map string_bytes c.parts.keys.items) c.in-Some.more.now here)
