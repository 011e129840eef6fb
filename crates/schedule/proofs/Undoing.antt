-- A legal list of moves, taken back move by move, leads back to where it began.
use Rattle.std.proofs.Common.{◌≡◌, ℕ, suc, ◌-◌, ◌≤◌, Bool, not, ◌⊎◌, List, [], ◌∷◌, ◌++◌, map, length, take, sym, refl, ap, ◌∙◌, subst, inl, inr, ⊎_elim, arith}
use mathlib.Core.Path.{fun_ext}
use Rattle.std.proofs.lemmas.List.{length-map, length-reverse, take_all, take-append-le}
use Rattle.std.proofs.lemmas.Bool.{cases_eq}
use Rattle.std.proofs.Math.Seq.{take-nil}
use Rattle.std.proofs.lemmas.Bool.Decides.{nat_tests}
use Rattle.schedule.specs.declared.moves.Move.{Move}
use Rattle.schedule.specs.declared.moves.Change.{Change}
use Rattle.schedule.specs.declared.moves.Change.TheVariants.{Place, Remove}
use Rattle.schedule.specs.Moves.{turned, opposite}
use Rattle.schedule.specs.Live.{places, moved, live_from, Allowed, LegalFrom}
use Rattle.schedule.specs.Schedule.{undone}
use Rattle.schedule.proofs.Blocks.{undone_append}
use Rattle.schedule.proofs.Lasting.{live_append}

-- the last move is taken back first
undone_cons : (m : Move) (ms : List Move) → undone (m ∷ ms) ≡ undone ms ++ turned m ∷ []
undone_cons m ms = undone_append (m ∷ []) ms

turned_places : (c : Change) → places (opposite c) ≡ not (places c)
turned_places Place = refl
turned_places Remove = refl

not_turned : (c : Change) → places c ≡ not (places (opposite c))
not_turned Place = refl
not_turned Remove = refl

own : (on : ℕ → Bool) (m : Move) → moved on m (suc m.segment) ≡ places m.change
own on m = grind (arith, nat_tests)

other : (on : ℕ → Bool) (m : Move) (j : ℕ) → (j ≡ suc m.segment → ⊥) → moved on m j ≡ on j
other on m j d = grind (arith, nat_tests)

pub taken_back : (on : ℕ → Bool) (m : Move) → Allowed on m → moved (moved on m) (turned m) ≡ on
taken_back on m ok =
    fun_ext (λ j. ⊎_elim
    (λ (e : j ≡ suc m.segment).
    ap (moved (moved on m) (turned m)) e ∙ own (moved on m) (turned m) ∙ turned_places m.change ∙ sym ok.1 ∙ ap on (sym e))
    (λ (d : j ≡ suc m.segment → ⊥). other (moved on m) (turned m) j d ∙ other on m j d)
    (cases_eq j (suc m.segment)))

turned_allowed : (on : ℕ → Bool) (m : Move) → Allowed on m → Allowed (moved on m) (turned m)
turned_allowed on m ok =
    ((λ h. other on m m.segment (λ e. omega arith) ∙ ok.0 h), own on m ∙ not_turned m.change)

pub legal_append : (xs ys : List Move) (on : ℕ → Bool) → LegalFrom on xs → LegalFrom (live_from on xs) ys → LegalFrom on (xs ++ ys)
legal_append [] ys on h g = g
legal_append (x ∷ xs) ys on h g = (h.0, legal_append xs ys (moved on x) h.1 g)

-- taking back is legal, and leaves what was live at the start
pub undone_returns : (ms : List Move) (on : ℕ → Bool) → LegalFrom on ms → LegalFrom (live_from on ms) (undone ms) × (live_from (live_from on ms) (undone ms) ≡ on)
undone_returns [] on h = (tt, refl)
undone_returns (m ∷ ms) on h =
    let end = live_from (moved on m) ms in
    let rest = undone_returns ms (moved on m) h.1 in
    let last : LegalFrom (moved on m) (turned m ∷ []) = (turned_allowed on m h.0, tt) in (
      subst (LegalFrom end) (sym (undone_cons m ms))
          (legal_append (undone ms) (turned m ∷ []) end rest.0 (subst (λ s. LegalFrom s (turned m ∷ [])) (sym rest.1) last)),
      ap (live_from end) (undone_cons m ms) ∙ live_append (undone ms) (turned m ∷ []) end
          ∙ ap (λ s. moved s (turned m)) rest.1 ∙ taken_back on m h.0,
    )

length_undone : (ms : List Move) → length (undone ms) ≡ length ms
length_undone ms = length-reverse (map turned ms) ∙ length-map ms turned

-- taking back u moves leaves what the others had made live
pub undone_front : (ms : List Move) (on : ℕ → Bool) (u : ℕ) → LegalFrom on ms → u ≤ length ms → live_from (live_from on ms) (take u (undone ms)) ≡ live_from on (take (length ms - u) ms)
undone_front [] on u h l = ap (live_from on) (take-nil u ∙ sym (take-nil (0 - u)))
undone_front (m ∷ ms) on u h l =
    ⊎_elim
    (λ (inside : u ≤ length ms).
    ap (λ xs. live_from (live_from (moved on m) ms) xs)
    (ap (take u) (undone_cons m ms) ∙ take-append-le u (undone ms) (turned m ∷ []) (omega (arith, length_undone ms)))
    ∙ undone_front ms (moved on m) u h.1 inside
    ∙ ap (λ n. live_from on (take n (m ∷ ms))) (the_rest inside))
    (λ (whole : u ≡ suc (length ms)).
    ap (live_from (live_from (moved on m) ms)) (take_all u (undone (m ∷ ms)) (omega (arith, length_undone (m ∷ ms))))
    ∙ (undone_returns (m ∷ ms) on h).1
    ∙ ap (λ n. live_from on (take n (m ∷ ms))) (none_left whole))
    (either u (length ms) l)
  where
    either : (u n : ℕ) → u ≤ suc n → (u ≤ n) ⊎ (u ≡ suc n)
    either u n h = ⊎_elim (λ (e : u ≡ suc n). inr e) (λ (d : u ≡ suc n → ⊥). inl (omega (arith, d))) (cases_eq u (suc n))

    the_rest : u ≤ length ms → suc (length ms - u) ≡ suc (length ms) - u
    the_rest h = omega arith

    none_left : u ≡ suc (length ms) → 0 ≡ suc (length ms) - u
    none_left e = omega arith
