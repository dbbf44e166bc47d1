-- What a step of the parser gives, from what the steps in it give.
use Rattle.std.proofs.Common.{◌≡◌, ℕ, true, false, List, ◌∷◌, length, drop, codes, Result, sym, ap, ap₂, subst, ◌∙◌, Ok, Err, IfOk, IfErr}
use Rattle.std.proofs.lemmas.Bool.{cond-false}
use Rattle.text_parse.specs.declared.parser.Parser.{Parser}
use Rattle.jsonb_core.specs.declared.error.Error.{Error}
use Rattle.jsonb_core.specs.declared.error.Error.TheVariants.{Syntax, OutOfMemory}
use Rattle.jsonb_spec.specs.Mode.{Mode, strictness}
use Rattle.jsonb_spec.specs.Tree.Tree.{boolean}
use Rattle.text_scan.specs.Answer.{Fails, grammar_of}
use Rattle.text_parse.specs.Parser.{Advances, rest_of, size_of}
use Rattle.jsonb_spec.specs.Parsing.{Fault, begins, ◌>>=◌}
use Rattle.jsonb_spec.specs.Parsing.Scalar.{begins_letter, begins_single_quote, false_at, key_at, null_at, number_or_fault, on_single_quote, quoted_at, scalar_at, true_or_false_at, unquoted_at, word_at, words_at}
use Rattle.jsonb_spec.specs.Parsing.String.{string_at}
use Rattle.text_scan.proofs.Containers.JoinedParts.{on_byte-found, on_byte-none}
use Rattle.text_parse.proofs.Steps.Advancing.{single-false, single-true}

-- a fault of the first step is one of the whole
pub fails_through : {A B : Type 0} (e : Error) (r : Result A Fault) (f : A → Result B Fault) → Fails e r → Fails e (r >>= f)
fails_through (Syntax code offset) r f h = ap (λ q. q >>= f) h
fails_through OutOfMemory r f h = tt
fails_through other r f h = h

pub fails_same : {Y : Type 0} (e : Error) (read other : Result Y Fault) → other ≡ read → Fails e read → Fails e other
fails_same e read other same h = subst (λ q. Fails e q) (sym same) h

-- one input has one size
pub same_size : (p q : Parser) → Advances p q → size_of q ≡ size_of p
same_size p q a = ap (λ r. length r.now) a.buf

-- what is parsed by a parser that has not moved
module _ (p q : Parser) (same : q ≡ p) where
  pub unmoved : {A : Type 0} (f : Parser → A) → f p ≡ f q
  unmoved f = ap f (sym same)

-- the bytes after the next one, in the same input
pub read_past : {A : Type 0} (p q : Parser) (c : ℕ) (read : ℕ → Mode → List ℕ → A) → Advances p q → rest_of p ≡ c ∷ rest_of q → read (size_of p) (grammar_of p.grammar) (drop 1 (rest_of p)) ≡ read (size_of q) (grammar_of q.grammar) (rest_of q)
read_past p q c read a e = ap (λ (u : List ℕ). read (size_of p) (grammar_of p.grammar) (drop 1 u)) e ∙ sym (ap₂ (λ n m. read n m (rest_of q)) (same_size p q a) (ap grammar_of a.grammar))

-- ---- keys

pub key_quoted : (p q : Parser) {bytes : List ℕ} → Advances p q → bytes ≡ 34 ∷ rest_of q → key_at (size_of p) (grammar_of p.grammar) bytes ≡ string_at (size_of q) (grammar_of q.grammar) 34 (rest_of q)
unfolding key_at
key_quoted p q a e =
    ap (λ (u : List ℕ). key_at (size_of p) (grammar_of p.grammar) u) e
    ∙ on_byte-found 34 (rest_of q) (string_at (size_of p) (grammar_of p.grammar) 34) (on_single_quote (strictness (grammar_of p.grammar)) (34 ∷ rest_of q) (string_at (size_of p) (grammar_of p.grammar) 39) (unquoted_at (size_of p) (strictness (grammar_of p.grammar)) (34 ∷ rest_of q)))
    ∙ sym (ap₂ (λ n m. string_at n m 34 (rest_of q)) (same_size p q a) (ap grammar_of a.grammar))

key-single : (size : ℕ) (mode : Mode) (bytes : List ℕ) → begins 34 bytes ≡ false → begins_single_quote (strictness mode) bytes ≡ true → key_at size mode bytes ≡ string_at size mode 39 (drop 1 bytes)
unfolding key_at
key-single size mode bytes none single =
    on_byte-none 34 bytes (string_at size mode 34) (on_single_quote (strictness mode) bytes (string_at size mode 39) (unquoted_at size (strictness mode) bytes)) none ∙ single-true (strictness mode) bytes (string_at size mode 39) (unquoted_at size (strictness mode) bytes) single

key-unquoted : (size : ℕ) (mode : Mode) (bytes : List ℕ) → begins 34 bytes ≡ false → begins_single_quote (strictness mode) bytes ≡ false → key_at size mode bytes ≡ unquoted_at size (strictness mode) bytes
unfolding key_at
key-unquoted size mode bytes none single =
    on_byte-none 34 bytes (string_at size mode 34) (on_single_quote (strictness mode) bytes (string_at size mode 39) (unquoted_at size (strictness mode) bytes)) none ∙ single-false (strictness mode) bytes (string_at size mode 39) (unquoted_at size (strictness mode) bytes) single

pub key_single : (p q r : Parser) → q ≡ p → begins 34 (rest_of p) ≡ false → Advances q r → begins_single_quote (strictness (grammar_of q.grammar)) (rest_of q) ≡ true → rest_of q ≡ 39 ∷ rest_of r
    → key_at (size_of p) (grammar_of p.grammar) (rest_of p) ≡ string_at (size_of r) (grammar_of r.grammar) 39 (rest_of r)
key_single p q r same none a single e =
    key-single (size_of p) (grammar_of p.grammar) (rest_of p) none (unmoved p q same (λ o. begins_single_quote (strictness (grammar_of o.grammar)) (rest_of o)) ∙ single)
    ∙ unmoved p q same (λ o. string_at (size_of o) (grammar_of o.grammar) 39 (drop 1 (rest_of o))) ∙ read_past q r 39 (λ n m u. string_at n m 39 u) a e

pub key_bare : (p q r : Parser) → q ≡ p → begins 34 (rest_of p) ≡ false → r ≡ q → begins_single_quote (strictness (grammar_of q.grammar)) (rest_of q) ≡ false
    → key_at (size_of p) (grammar_of p.grammar) (rest_of p) ≡ unquoted_at (size_of r) (strictness (grammar_of r.grammar)) (rest_of r)
key_bare p q r same none still single =
    key-unquoted (size_of p) (grammar_of p.grammar) (rest_of p) none (unmoved p q same (λ o. begins_single_quote (strictness (grammar_of o.grammar)) (rest_of o)) ∙ single)
    ∙ unmoved p q same (λ o. unquoted_at (size_of o) (strictness (grammar_of o.grammar)) (rest_of o)) ∙ unmoved q r still (λ o. unquoted_at (size_of o) (strictness (grammar_of o.grammar)) (rest_of o))

-- ---- scalars

pub scalar_quoted : (p q : Parser) → Advances p q → rest_of p ≡ 34 ∷ rest_of q → scalar_at (size_of p) (grammar_of p.grammar) (rest_of p) ≡ quoted_at (size_of q) (grammar_of q.grammar) 34 (rest_of q)
unfolding scalar_at
scalar_quoted p q a e =
    ap (λ (u : List ℕ). scalar_at (size_of p) (grammar_of p.grammar) u) e
    ∙ on_byte-found 34 (rest_of q) (quoted_at (size_of p) (grammar_of p.grammar) 34) (on_single_quote (strictness (grammar_of p.grammar)) (34 ∷ rest_of q) (quoted_at (size_of p) (grammar_of p.grammar) 39) (words_at (size_of p) (grammar_of p.grammar) (34 ∷ rest_of q)))
    ∙ sym (ap₂ (λ n m. quoted_at n m 34 (rest_of q)) (same_size p q a) (ap grammar_of a.grammar))

-- where no word begins
module _ (size : ℕ) (mode : Mode) (bytes : List ℕ) where
  pub words_number : begins_letter (strictness mode) 110 bytes ≡ false → begins_letter (strictness mode) 116 bytes ≡ false → begins_letter (strictness mode) 102 bytes ≡ false → words_at size mode bytes ≡ number_or_fault size mode bytes
  words_number n t f =
      cond-false (begins_letter (strictness mode) 110 bytes) (null_at size mode bytes) (true_or_false_at size mode bytes) n
      ∙ cond-false (begins_letter (strictness mode) 116 bytes) (word_at size (strictness mode) (codes "true") (boolean true) bytes) (false_at size mode bytes) t
      ∙ cond-false (begins_letter (strictness mode) 102 bytes) (word_at size (strictness mode) (codes "false") (boolean false) bytes) (number_or_fault size mode bytes) f

-- what an error for want of memory says beside its code
pub rejected_container : {A : Type 0} (Q : Type 0) (r : Result A Error) → IfErr r (λ e. (e ≡ OutOfMemory) × Q) → r ≡ Err OutOfMemory → Q
rejected_container Q (Ok x) h is = cc
rejected_container Q (Err e) h is = h.1

-- what follows for each value follows for the one that is returned
pub value_has : {V E : Type 0} (P Q : V → Type 0) (r : Result V E) → ((v : V) → P v → Q v) → IfOk r P → IfOk r Q
value_has P Q (Ok v) then p = then v p
value_has P Q (Err e) then p = tt
