-- The shelf as a function from slots to the checkpoints they hold, 0 where one is empty, and lists of moves on it.
use Rattle.std.proofs.Common.{◌≡◌, ℕ, zero, suc, ◌<◌, cond, eqb, List, [], ◌∷◌, ◌++◌, take, sym, refl, ap, ◌∙◌, subst, ⊎_elim, arith}
use mathlib.Core.Path.{fun_ext}
use Rattle.std.proofs.lemmas.Bool.{cases_eq}
use Rattle.std.proofs.lemmas.Bool.Decides.{nat_tests}
use Rattle.schedule.specs.declared.moves.Move.{Move}
use Rattle.schedule.specs.declared.moves.Change.{Change}
use Rattle.schedule.specs.declared.moves.Change.TheVariants.{Place, Remove}

-- the shelf with v in slot s
abbrev pub put : (ℕ → ℕ) → ℕ → ℕ → ℕ → ℕ
put σ s v x = cond (eqb x s) v (σ x)

pub put_same : (σ : ℕ → ℕ) (s v : ℕ) → put σ s v s ≡ v
put_same σ s v = grind (arith, nat_tests)

pub put_other : (σ : ℕ → ℕ) (s v x : ℕ) → (x ≡ s → ⊥) → put σ s v x ≡ σ x
put_other σ s v x h = grind (arith, nat_tests)

-- two shelves are equal where they agree in one slot and in all others
by_slot : (σ τ : ℕ → ℕ) (s : ℕ) → σ s ≡ τ s → ((x : ℕ) → (x ≡ s → ⊥) → σ x ≡ τ x) → σ ≡ τ
by_slot σ τ s here there =
    fun_ext (λ x. ⊎_elim (λ (e : x ≡ s). ap σ e ∙ here ∙ ap τ (sym e)) (λ (d : x ≡ s → ⊥). there x d) (cases_eq x s))

pub put_put : (σ : ℕ → ℕ) (s u v : ℕ) → put (put σ s u) s v ≡ put σ s v
put_put σ s u v =
    by_slot (put (put σ s u) s v) (put σ s v) s (put_same (put σ s u) s v ∙ sym (put_same σ s v))
    (λ x d. put_other (put σ s u) s v x d ∙ put_other σ s u x d ∙ sym (put_other σ s v x d))

pub put_back : (σ : ℕ → ℕ) (s v : ℕ) → σ s ≡ v → put σ s v ≡ σ
put_back σ s v e = by_slot (put σ s v) σ s (put_same σ s v ∙ sym e) (put_other σ s v)

pub put_swap : (σ : ℕ → ℕ) (s t u v : ℕ) → (s ≡ t → ⊥) → put (put σ s u) t v ≡ put (put σ t v) s u
put_swap σ s t u v d =
    by_slot (put (put σ s u) t v) (put (put σ t v) s u) s
    (put_other (put σ s u) t v s d ∙ put_same σ s u ∙ sym (put_same (put σ t v) s u))
    (λ x e. ⊎_elim
    (λ (y : x ≡ t).
    ap (put (put σ s u) t v) y ∙ put_same (put σ s u) t v
    ∙ sym (put_other (put σ t v) s u t (λ z. d (sym z)) ∙ put_same σ t v) ∙ ap (put (put σ t v) s u) (sym y))
    (λ (n : x ≡ t → ⊥).
    put_other (put σ s u) t v x n ∙ put_other σ s u x e
    ∙ sym (put_other (put σ t v) s u x e ∙ put_other σ t v x n))
    (cases_eq x t))

-- what the slot of checkpoint j holds before and after a move of it
abbrev pub before : Change → ℕ → ℕ
before Place j = 0
before Remove j = j

abbrev pub after : Change → ℕ → ℕ
after Place j = j
after Remove j = 0

module _ (at : ℕ → ℕ) where
  abbrev pub Fits : (ℕ → ℕ) → Move → Type 0
  Fits σ m = (0 < m.segment → σ (at m.segment) ≡ m.segment) × (σ (at (suc m.segment)) ≡ before m.change (suc m.segment))

  abbrev pub next : (ℕ → ℕ) → Move → ℕ → ℕ
  next σ m = put σ (at (suc m.segment)) (after m.change (suc m.segment))

  abbrev pub held_from : (ℕ → ℕ) → List Move → ℕ → ℕ
  held_from σ [] = σ
  held_from σ (m ∷ ms) = held_from (next σ m) ms

  abbrev pub Fitting : (ℕ → ℕ) → List Move → Type 0
  Fitting σ [] = Unit {0}
  Fitting σ (m ∷ ms) = Fits σ m × Fitting (next σ m) ms

  -- every move fits where it stands, and the list leads from σ to τ
  abbrev pub Runs : (ℕ → ℕ) → List Move → (ℕ → ℕ) → Type 0
  Runs σ ms τ = Fitting σ ms × (held_from σ ms ≡ τ)

  fitting_append : (xs ys : List Move) (σ : ℕ → ℕ) → Fitting σ xs → Fitting (held_from σ xs) ys → Fitting σ (xs ++ ys)
  fitting_append [] ys σ h g = g
  fitting_append (x ∷ xs) ys σ h g = (h.0, fitting_append xs ys (next σ x) h.1 g)

  held_append : (xs ys : List Move) (σ : ℕ → ℕ) → held_from σ (xs ++ ys) ≡ held_from (held_from σ xs) ys
  held_append [] ys σ = refl
  held_append (x ∷ xs) ys σ = held_append xs ys (next σ x)

  pub runs_append : (xs ys : List Move) (σ τ υ : ℕ → ℕ) → Runs σ xs τ → Runs τ ys υ → Runs σ (xs ++ ys) υ
  runs_append xs ys σ τ υ h g = (
    fitting_append xs ys σ h.0 (subst (λ ρ. Fitting ρ ys) (sym h.1) g.0),
    held_append xs ys σ ∙ ap (λ ρ. held_from ρ ys) h.1 ∙ g.1,
  )

  pub fitting_take : (t : ℕ) (ms : List Move) (σ : ℕ → ℕ) → Fitting σ ms → Fitting σ (take t ms)
  fitting_take zero ms σ h = tt
  fitting_take (suc t) [] σ h = tt
  fitting_take (suc t) (m ∷ ms) σ h = (h.0, fitting_take t ms (next σ m) h.1)
