-- What comes next of an array or an object.
use Rattle.std.proofs.Common.{◌≡◌, Bool, List, ℕ, ◌++◌, Bor, Ok, Vec, Global, subst}
use Rattle.jsonb_spec.specs.Text.Appending.{comma_before}
use Rattle.key_text.specs.NextParts.{BeginsNext, NoEnd}
use Rattle.key_text.specs.Writes.{name_text}
use Rattle.key_text.specs.declared.write.Next.{Next}
use Rattle.key_text.specs.declared.write.Next.TheVariants as next
use Rattle.jsonb_spec.specs.SortKey.Open.{end_key, name_key}

pub end_next : (object first : Bool) (bytes : List ℕ) (n : Next) (others : Bor (List ℕ)) (old new : Vec ℕ Global) → n ≡ next.End others → BeginsNext object first bytes (Ok n) old new
    → (bytes ≡ end_key object ++ others.now) × ((tail : List ℕ) → bytes ≡ end_key object ++ tail → others.now ≡ tail) × (new.items ≡ old.items)
end_next object first bytes n others old new is b = subst (λ n. BeginsNext object first bytes (Ok n) old new) is b

pub value_next : (object first : Bool) (bytes : List ℕ) (n : Next) (value : Bor (List ℕ)) (old new : Vec ℕ Global) → n ≡ next.Value value → BeginsNext object first bytes (Ok n) old new
    → NoEnd object bytes × ((name more : List ℕ) → bytes ≡ name_key object name ++ more → (value.now ≡ more) × (new.items ≡ old.items ++ (comma_before first ++ name_text object name)))
value_next object first bytes n value old new is b = subst (λ n. BeginsNext object first bytes (Ok n) old new) is b
