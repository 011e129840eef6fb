-- A chain of judgements, taken apart line by line: what holds of an Ok, what holds of an Err, and how it goes on.
use Rattle.std.proofs.Common.{◌≡◌, ℕ, ◌+◌, Bool, true, false, cond, Some, None, Ok, Err, Option, Result, IfSome, IfOk, IfErr, refl, ap}
use Rattle.refusal.specs.declared.kinds.Refusal.{Refusal}
use Rattle.refusal.specs.declared.kinds.Fault.{Fault}
use Rattle.layout.specs.Fields.{refuse, then, unless}

-- what is accepted goes on, and so does what has no wrong byte
pub then_at : {A B : Type 0} (r : Result A Refusal) (f : A → Result B Refusal) (x : A) → r ≡ Ok x → then r f ≡ f x
then_at r f x e = ap (λ r. then r f) e

pub unless_at : {A : Type 0} (o : Option ℕ) (fault : Fault) (place : ℕ) (r : Result A Refusal) → o ≡ None → unless o fault place r ≡ r
unless_at o fault place r e = ap (λ o. unless o fault place r) e

-- what is accepted in the end was accepted at each step
pub then_ok : {A B : Type 0} (P : B → Type 0) (r : Result A Refusal) (f : A → Result B Refusal) → ((x : A) → r ≡ Ok x → IfOk (f x) P) → IfOk (then r f) P
then_ok P (Ok x) f h = h x refl
then_ok P (Err z) f h = tt

pub unless_ok : {A : Type 0} (P : A → Type 0) (o : Option ℕ) (fault : Fault) (place : ℕ) (r : Result A Refusal) → (o ≡ None → IfOk r P) → IfOk (unless o fault place r) P
unless_ok P None fault place r h = h refl
unless_ok P (Some k) fault place r h = tt

pub cond_ok : {A : Type 0} (P : A → Type 0) (b : Bool) (r : Result A Refusal) (fault : Fault) (place : ℕ) → (b ≡ true → IfOk r P) → IfOk (cond b r (refuse fault place)) P
cond_ok P true r fault place h = h refl
cond_ok P false r fault place h = tt

-- what is refused was refused at one of the steps
pub then_err : {A B : Type 0} (P : Refusal → Type 0) (r : Result A Refusal) (f : A → Result B Refusal) → IfErr r P → ((x : A) → r ≡ Ok x → IfErr (f x) P) → IfErr (then r f) P
then_err P (Ok x) f here h = h x refl
then_err P (Err z) f here h = here

pub unless_err : {A : Type 0} (P : Refusal → Type 0) (o : Option ℕ) (fault : Fault) (place : ℕ) (r : Result A Refusal) → IfSome o (λ k. P (record { fault = fault; place = place + k })) → (o ≡ None → IfErr r P) → IfErr (unless o fault place r) P
unless_err P None fault place r here h = h refl
unless_err P (Some k) fault place r here h = here

pub cond_err : {A : Type 0} (P : Refusal → Type 0) (b : Bool) (r : Result A Refusal) (fault : Fault) (place : ℕ) → (b ≡ false → P (record { fault = fault; place = place })) → (b ≡ true → IfErr r P) → IfErr (cond b r (refuse fault place)) P
cond_err P true r fault place here h = h refl
cond_err P false r fault place here h = here refl
