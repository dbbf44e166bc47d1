-- Conditions and steps that may fail, by their outcome.
use Rattle.std.proofs.Common.{◌≡◌, ℕ, Bool, true, false, cond, ◌⊎◌, inl, inr, List, Result, Ok, Err, refl, ap, eqb, eq-eqb}
use Rattle.jsonb_spec.specs.Code.{Code}
use Rattle.jsonb_spec.specs.Parsing.{Fault, Parse, reject, ◌>>=◌}

-- which way a choice went
pub chosen : {A : Type 0} (b : Bool) (x y z : A) → cond b x y ≡ z → ((b ≡ true) × (x ≡ z)) ⊎ ((b ≡ false) × (y ≡ z))
chosen true x y z e = inl (refl, e)
chosen false x y z e = inr (refl, e)

-- the value of a step that did not fail
pub bind_ok : {A B : Type 0} (r : Result A Fault) (f : A → Result B Fault) (y : B) → (r >>= f) ≡ Ok y → (x : A) × (r ≡ Ok x) × (f x ≡ Ok y)
bind_ok (Ok x) f y e = (x, refl, e)
bind_ok (Err d) f y e = absurd cc

-- a fault is no value
pub rejected_fails : {A : Type 0} (size : ℕ) (code : Code) (step : ℕ) (bytes : List ℕ) (a : A) → reject size code step bytes ≡ Ok a → ⊥
rejected_fails size code step bytes a e = cc

pub eqb_self : (c : ℕ) → eqb c c ≡ true
eqb_self c = eq-eqb c c refl

ok_value : {X : Type 0} → X → Result X Fault → X
ok_value x (Ok y) = y
ok_value x (Err e) = x

pub same_ok : {A : Type 0} (a b : A) → ◌≡◌ {A = Result A Fault} (Ok a) (Ok b) → a ≡ b
unfolding ok_value
same_ok {A} a b e = ap (λ (r : Result A Fault). ok_value a r) e

-- what two equal answers answer
pub record SameRead {A : Type 0} (a b : A) (r s : List ℕ) : Type 0 where
  pub value : a ≡ b
  pub rest : r ≡ s

pub same_read : {A : Type 0} (a b : A) (rest others : List ℕ) → ◌≡◌ {A = Parse A} (Ok (a, rest)) (Ok (b, others)) → SameRead a b rest others
unfolding ok_value
same_read {A} a b rest others e =
    let p : ◌≡◌ {A = A × List ℕ} (a, rest) (b, others) = ap (λ (r : Parse A). ok_value (a, rest) r) e in
    record { value = ap (λ (x : A × List ℕ). x.0) p; rest = ap (λ (x : A × List ℕ). x.1) p }
