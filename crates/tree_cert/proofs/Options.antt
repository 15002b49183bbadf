-- What an answer that is there came from.
use Rattle.std.proofs.Common.{◌≡◌, Bool, true, false, cond, Option, Some, None, Result, Ok, Err, refl}
use Rattle.tree_cert.specs.declared.fault.FaultKind.{FaultKind}
use Rattle.tree_cert.specs.TreeRules.{Holds}
use Rattle.tree_cert.specs.Place.{allowed}
use Rattle.tree_cert.specs.Texts.{◌>>=◌}

pub holds_some : {A : Type 0} (o : Option A) (P : A → Type 0) → Holds o P → (x : A) × (o ≡ Some x) × P x
holds_some None P h = absurd h
holds_some (Some x) P h = (x, refl, h)

pub some_holds : {A : Type 0} (o : Option A) (P : A → Type 0) (x : A) → o ≡ Some x → P x → Holds o P
some_holds o P x e p = rw e p

pub allowed_ok : {A B : Type 0} (o : Option A) (fault : FaultKind) (f : A → B) (y : B) → allowed o fault f ≡ Ok y → (x : A) × (o ≡ Some x) × (f x ≡ y)
allowed_ok None fault f y h = absurd cc
allowed_ok (Some x) fault f y h = (x, refl, cc)

pub bind_ok : {A B : Type 0} (r : Result A FaultKind) (f : A → Result B FaultKind) (y : B) → (r >>= f) ≡ Ok y → (x : A) × (r ≡ Ok x) × (f x ≡ Ok y)
bind_ok (Ok x) f y e = (x, refl, e)
bind_ok (Err d) f y e = absurd cc

pub cond_ok : {A : Type 0} (b : Bool) (fault : FaultKind) (x y : A) → cond b (Ok x) (Err fault) ≡ Ok y → (b ≡ true) × (x ≡ y)
cond_ok true fault x y h = (refl, cc)
cond_ok false fault x y h = absurd cc
