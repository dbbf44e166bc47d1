use Rattle.std.proofs.Common.{◌≡◌, ◌↔◌, ℕ, List, [], ◌∷◌, ◌++◌, ◌+◌, ◌<◌, ◌≤◌, ◌⊎◌, length, length-append, arith, false, Result, Ok, Err, Some, OnErr, true, inl, inr, if◌then◌else◌, refl, sym, ap, subst, ◌∙◌, append_assoc}
use Rattle.std.specs.Result.{is_err, is_ok}
use Rattle.std.specs.Vec.{vec_len, vec_capacity}
use Rattle.std.proofs.lemmas.Result.{err_from_is_err_and}
use Rattle.jsonb_core.specs.declared.error.Error.TheVariants.{OutOfMemory}
use Rattle.jsonb_spec.specs.Grammar.{IsDocument}
use Rattle.jsonb_spec.specs.Mode.{Mode}
use Rattle.jsonb_spec.specs.Text.{AppendsText, tree_text}
use Rattle.jsonb_spec.specs.Tree.{Tree}
use Rattle.jsonb_spec.specs.Parsing.Appends.{LacksCapacityForText}
use Rattle.jsonb.proofs.Documents.Straight.{text_there}
use Rattle.jsonb_spec.specs.Parsing.Memory.{MayAllocate}
use Rattle.text_scan.specs.Answer.{mode_of}
use Rattle.jsonb_spec.specs.Program.{IsLineOf, LacksCapacity}
use Rattle.jsonb_cat.proofs.LinesAgain.{appended_again}
use Rattle.jsonb_cat.proofs.cat.convert.Goals as goal

done : {T E : Type 0} (r : Result T E) (new now old : List ℕ) → is_err r ≡ false → new ≡ (if is_ok r then now else old) → new ≡ now
done (Ok x) new now old e p = p
done (Err x) new now old e p = cc

-- the text of a document and a line feed, appended to old, are what the document's text gives again
again : (mode : Mode) (t : Tree) (input old now new : List ℕ) → IsDocument mode input t → AppendsText t old now → new ≡ now ++ 10 ∷ [] → (text : List ℕ) → new ≡ old ++ (text ++ 10 ∷ [])
    → (line : List ℕ) → IsLineOf mode text line ↔ (line ≡ text ++ 10 ∷ [])
again mode t input old now new document written pushed text ended line =
    let whole : new ≡ old ++ (written.bytes ++ 10 ∷ []) = pushed ∙ ap (λ bytes. bytes ++ 10 ∷ []) written.appended ∙ append_assoc old written.bytes (10 ∷ []) in
    appended_again mode input old new (written.bytes ++ 10 ∷ []) (record { tree = t; document = document; text = written.bytes; is_text = written.is_text; ended = refl }) whole text ended line

-- a buffer that the text and a line feed don't fit has no space for the line
lacking : (mode : Mode) (input : List ℕ) (t : Tree) (capacity len : ℕ) → IsDocument mode input t → capacity < len + (length (tree_text t) + 1) → LacksCapacity mode input capacity len
lacking mode input t capacity len document short = record {
  line = tree_text t ++ 10 ∷ [];
  line_of = record { tree = t; document = document; text = tree_text t; is_text = text_there mode input t document; ended = refl };
  too_short = omega (arith, short, length-append (tree_text t) (10 ∷ []));
}

-- the text alone doesn't fit
text_lacks : (mode : Mode) (input : List ℕ) (capacity len : ℕ) → MayAllocate input ⊎ LacksCapacityForText mode input capacity len → MayAllocate input ⊎ LacksCapacity mode input capacity len
text_lacks mode input capacity len (inl may) = inl may
text_lacks mode input capacity len (inr lacks) = inr (lacking mode input lacks.tree capacity len lacks.document (omega (arith, lacks.too_short)))

-- the clause of a call that was rejected
grown_failed : {T E P : Type 0} (r : Result T E) → OnErr r P → is_err r ≡ true → P
grown_failed (Ok x) reported rejected = cc
grown_failed (Err e) reported rejected = reported

-- the line feed alone doesn't fit
feed_lacks : (mode : Mode) (input : List ℕ) (t : Tree) (old now : List ℕ) (capacity after : ℕ) → IsDocument mode input t → AppendsText t old now → after ≤ length now → MayAllocate input ⊎ (capacity ≤ after) → MayAllocate input ⊎ LacksCapacity mode input capacity (length old)
feed_lacks mode input t old now capacity after document written full (inl may) = inl may
feed_lacks mode input t old now capacity after document written full (inr retained) =
    let both : Some written.bytes ≡ Some (tree_text t) = sym written.is_text ∙ text_there mode input t document in
    let same : written.bytes ≡ tree_text t = one_of both in
    let whole : length now ≡ length old + length (tree_text t) = ap length written.appended ∙ length-append old written.bytes ∙ ap (λ text. length old + length text) same in
    inr (lacking mode input t capacity (length old) document (omega (arith, whole, retained, full)))
  where
    one_of : {xs ys : List ℕ} → Some xs ≡ Some ys → xs ≡ ys
    one_of e = cc

pub returns-in_err-append_text-clause-memory : goal.returns-in_err-append_text-clause-memory
returns-in_err-append_text-clause-memory c = λ is.
    let residual = err_from_is_err_and c.from_residual.result c.from_residual.ensures.1 in
    let reported : c.append_text.result ≡ Err OutOfMemory = (let returned = residual.1 in let same = residual.2 in let was = c.in_err-append_text.was in cc) in
    text_lacks (mode_of c.args.mode) c.args.input.now (vec_capacity c.args.out.now) (vec_len c.args.out.now)
    (subst (λ mode. MayAllocate c.args.input.now ⊎ LacksCapacityForText mode c.args.input.now (vec_capacity c.args.out.now) (vec_len c.args.out.now)) c.from.ensures (c.append_text.ensures.appends.memory reported))

pub returns-then-is_err-clause-memory : goal.returns-then-is_err-clause-memory
returns-then-is_err-clause-memory c = λ is.
    let appended = c.in_ok-append_text.ensures.appends.ok in
    let document = subst (λ mode. IsDocument mode c.args.input.now appended.tree) c.from.ensures appended.parsed.document in
    let full : vec_capacity c.append_text.new.buf ≤ vec_len c.append_text.new.buf = grown_failed c.push.result c.push.ensures.full (sym c.if-is_err.ensures.value) in
    let within : vec_capacity c.append_text.new.buf ≤ length c.append_text.new.buf.items = omega (arith, full, c.append_text.new.buf.ok.0) in
    subst (λ len. MayAllocate c.args.input.now ⊎ LacksCapacity (mode_of c.args.mode) c.args.input.now (vec_capacity c.args.out.now) len) (sym c.args.out.now.ok.0)
    (feed_lacks (mode_of c.args.mode) c.args.input.now appended.tree c.args.out.now.items c.append_text.new.buf.items (vec_capacity c.args.out.now) (vec_capacity c.append_text.new.buf) document appended.appended within c.append_text.ensures.appends.capacity)

pub returns-clause-again : goal.returns-clause-again
returns-clause-again c = λ text ended line.
    let appended = c.in_ok-append_text.ensures.appends.ok in
    let document = subst (λ mode. IsDocument mode c.args.input.now appended.tree) c.from.ensures appended.parsed.document in
    again (mode_of c.args.mode) appended.tree c.args.input.now c.args.out.now.items _ c.push.new.self.items document appended.appended
    (done c.push.result _ _ _ (sym c.is_err.ensures.value ∙ c.if-is_err.false) c.push.ensures.items) text ended line
