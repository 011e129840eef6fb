-- A checkpoint is live exactly where its own slot holds it.
use Rattle.std.proofs.Common.{◌≡◌, ℕ, suc, ◌<◌, Bool, true, false, not, eqb, List, [], ◌∷◌, sym, ap, ◌∙◌, ap₂, ⊎_elim, arith}
use Rattle.std.proofs.lemmas.Bool.{cases_eq, eq-eqb, ne_eqb, eqb-true, cond-true, cond-false}
use Rattle.std.proofs.lemmas.Bool.Decides.{nat_tests}
use Rattle.schedule.specs.declared.moves.Move.{Move}
use Rattle.schedule.specs.declared.moves.Change.{Change}
use Rattle.schedule.specs.declared.moves.Change.TheVariants.{Place, Remove}
use Rattle.schedule.specs.Live.{places, moved, live_from, Allowed, LegalFrom}
use Rattle.schedule.proofs.Entries.{made}
use Rattle.schedule.proofs.Shelf.{put_same, put_other, before, after, Fits, next, held_from, Fitting}

module _ (at : ℕ → ℕ) where
  abbrev pub Tied : (ℕ → Bool) → (ℕ → ℕ) → Type 0
  Tied on σ = (j : ℕ) → 0 < j → on j ≡ eqb (σ (at j)) j

  pub tied_none : Tied (λ _. false) (λ _. 0)
  tied_none j h = grind (arith, nat_tests)

  -- no other checkpoint than suc s is in a slot before or after a move of it
  not_before : (c : Change) (s j : ℕ) → 0 < j → (j ≡ suc s → ⊥) → eqb (before c (suc s)) j ≡ false
  not_before Place s j h d = grind (arith, nat_tests)
  not_before Remove s j h d = grind (arith, nat_tests)

  not_after : (c : Change) (s j : ℕ) → 0 < j → (j ≡ suc s → ⊥) → eqb (after c (suc s)) j ≡ false
  not_after Place s j h d = grind (arith, nat_tests)
  not_after Remove s j h d = grind (arith, nat_tests)

  own_before : (c : Change) (s : ℕ) → eqb (before c (suc s)) (suc s) ≡ not (places c)
  own_before Place s = grind (arith, nat_tests)
  own_before Remove s = grind (arith, nat_tests)

  own_after : (c : Change) (s : ℕ) → eqb (after c (suc s)) (suc s) ≡ places c
  own_after Place s = grind (arith, nat_tests)
  own_after Remove s = grind (arith, nat_tests)

  module _ (on : ℕ → Bool) (σ : ℕ → ℕ) (c : Change) (s : ℕ) (tied : Tied on σ) (fits : Fits at σ (made c s)) where
    pub allowed : Allowed on (made c s)
    allowed = (
      (λ h. tied s h ∙ eq-eqb (σ (at s)) s (fits.0 h)),
      tied (suc s) (omega arith) ∙ ap (λ x. eqb x (suc s)) fits.1 ∙ own_before c s,
    )

    tied_own : (j : ℕ) → j ≡ suc s → moved on (made c s) j ≡ eqb (next at σ (made c s) (at j)) j
    tied_own j e =
        cond-true (eqb j (suc s)) (places c) (on j) (eq-eqb j (suc s) e)
        ∙ sym (own_after c s)
        ∙ ap₂ eqb (sym (put_same σ (at (suc s)) (after c (suc s))) ∙ ap (λ x. next at σ (made c s) (at x)) (sym e)) (sym e)

    tied_other : (j : ℕ) → 0 < j → (j ≡ suc s → ⊥) → moved on (made c s) j ≡ eqb (next at σ (made c s) (at j)) j
    tied_other j h d =
        cond-false (eqb j (suc s)) (places c) (on j) (ne_eqb j (suc s) d)
        ∙ tied j h
        ∙ ⊎_elim
        (λ (e : at j ≡ at (suc s)).
        ap (λ x. eqb x j) (ap σ e ∙ fits.1) ∙ not_before c s j h d ∙ sym (not_after c s j h d)
        ∙ ap (λ x. eqb x j) (sym (ap (next at σ (made c s)) e ∙ put_same σ (at (suc s)) (after c (suc s)))))
        (λ (n : at j ≡ at (suc s) → ⊥). ap (λ x. eqb x j) (sym (put_other σ (at (suc s)) (after c (suc s)) (at j) n)))
        (cases_eq (at j) (at (suc s)))

    pub tied_next : Tied (moved on (made c s)) (next at σ (made c s))
    tied_next j h = ⊎_elim (tied_own j) (tied_other j h) (cases_eq j (suc s))

  pub legal_held : (ms : List Move) (on : ℕ → Bool) (σ : ℕ → ℕ) → Tied on σ → Fitting at σ ms → LegalFrom on ms × Tied (live_from on ms) (held_from at σ ms)
  legal_held [] on σ tied fit = (tt, tied)
  legal_held (m ∷ ms) on σ tied fit =
      let rest = legal_held ms (moved on m) (next at σ m) (tied_next on σ m.change m.segment tied fit.0) fit.1 in
      ((allowed on σ m.change m.segment tied fit.0, rest.0), rest.1)

  -- a slot holds one checkpoint only
  pub one_each : (on : ℕ → Bool) (σ : ℕ → ℕ) → Tied on σ → (i j : ℕ) → 0 < i → 0 < j → on i ≡ true → on j ≡ true → at i ≡ at j → i ≡ j
  one_each on σ tied i j p q h g e =
      sym (eqb-true (σ (at i)) i (sym (tied i p) ∙ h)) ∙ ap σ e ∙ eqb-true (σ (at j)) j (sym (tied j q) ∙ g)
