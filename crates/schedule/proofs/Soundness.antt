-- The schedule is sound at every fan-out of 2 or more and every depth.
use Rattle.std.proofs.Common.{◌≡◌, ℕ, zero, suc, ◌+◌, ◌-◌, ◌^◌, ◌<◌, ◌≤◌, true, false, eqb, ◌⊎◌, [], ◌∷◌, ◌++◌, length, get_or, take, sym, refl, ap, ◌∙◌, subst, ap₂, inl, inr, ⊎_elim, zero-add, zero-mul, arith, length-append}
use native.Mathlib.Nat.{one-le-pow}
use Rattle.std.specs.List.{range_with_len, AllByRecursion}
use Rattle.std.proofs.lemmas.List.FromFn.{length-range_with_len}
use Rattle.std.proofs.ByRecursion.{All-weaker, All-take}
use Rattle.std.proofs.lemmas.List.{take_at, take_more}
use Rattle.std.proofs.lemmas.List.Sums.{count_by-le-length}
use Rattle.std.proofs.lemmas.Bool.{cases_eq, cases_lt, both_ways, eq-eqb, ne_eqb}
use Rattle.schedule.specs.declared.moves.Move.{Move}
use Rattle.schedule.specs.declared.moves.Change.TheVariants.{Place, Remove}
use Rattle.schedule.specs.Sizes.{base, moves_count, slots_count}
use Rattle.schedule.specs.Live.{live, Legal, live_count}
use Rattle.schedule.specs.Slots.{slot}
use Rattle.schedule.specs.Schedule.{build, undone, Sound}
use Rattle.schedule.proofs.Blocks.{length_moves, segments_within, undone_moves}
use Rattle.schedule.proofs.SlotLaws.{shelving, slot_last, slot_le, slot_row, slot_high}
use Rattle.schedule.proofs.Shelf.{put, put_same, put_other, Runs, Fitting, fitting_take, held_from}
use Rattle.schedule.proofs.Levels.{levels}
use Rattle.schedule.proofs.LiveHeld.{Tied, tied_none, legal_held, one_each}
use Rattle.schedule.proofs.Lasting.{live_append, untouched, never_empty}
use Rattle.schedule.proofs.Undoing.{legal_append, undone_returns, undone_front}
use Rattle.schedule.proofs.Counts.{InRange, busy, counts, count_none, placings, removals, up_by, down_by}
use Rattle.schedule.proofs.Balance.{placings_push, removals_push, climb, climb_front, climb_more}

module _ (w : ℕ) (pos : 0 < w) (n : ℕ) where
  runs : Runs (slot (suc w) n) (λ _. 0) (build (suc w) n) (put (λ _. 0) 0 (suc w ^ n))
  runs =
      let zero-start : 0 + suc w ^ n ≡ suc w ^ n = zero-add (suc w ^ n) in
      subst (λ x. Runs (slot (suc w) n) (λ _. 0) (build (suc w) n) (put (λ _. 0) x (suc w ^ n))) (slot_last w pos n)
      (subst (λ x. Runs (slot (suc w) n) (λ _. 0) (build (suc w) n) (put (λ _. 0) (slot (suc w) n x) x)) zero-start
      (levels w pos n (slot (suc w) n) (slot_row w pos n) (slot_high w pos n) n (omega arith) Place 0 0 (λ _. 0)
      (sym (zero-mul (suc w ^ n))) (omega arith) (λ x p b. refl) (λ p. absurd (omega arith)) refl))

  segment_range : AllByRecursion (InRange (slot (suc w) n) (suc w ^ n) (slots_count (suc w) n)) (build (suc w) n)
  segment_range =
      All-weaker (λ m. (0 ≤ m.segment) × (m.segment < 0 + suc w ^ n)) (InRange (slot (suc w) n) (suc w ^ n) (slots_count (suc w) n))
      (λ m r. (omega (arith, r.1), omega (arith, slot_le w pos n (suc m.segment))))
      (build (suc w) n) (segments_within w Place n 0)

  fits : (t : ℕ) → Fitting (slot (suc w) n) (λ _. 0) (take t (build (suc w) n))
  fits t = fitting_take (slot (suc w) n) t (build (suc w) n) (λ _. 0) runs.0

  tied : (t : ℕ) → Tied (slot (suc w) n) (live (take t (build (suc w) n))) (held_from (slot (suc w) n) (λ _. 0) (take t (build (suc w) n)))
  tied t = (legal_held (slot (suc w) n) (take t (build (suc w) n)) (λ _. false) (λ _. 0) (tied_none (slot (suc w) n)) (fits t)).1

  pub in_range : (t j : ℕ) → live (take t (build (suc w) n)) j ≡ true → (0 < j) × (j ≤ suc w ^ n)
  in_range t j h =
      let named : (j ≡ 0) ⊎ (suc w ^ n < j) → ⊥ =
      λ out. both_ways (live (take t (build (suc w) n)) j)
      (untouched j (take t (build (suc w) n)) (λ _. false)
      (All-take (λ m. j ≡ suc m.segment → ⊥) t (build (suc w) n)
      (All-weaker (λ m. (0 ≤ m.segment) × (m.segment < 0 + suc w ^ n)) (λ m. j ≡ suc m.segment → ⊥)
      (λ m r e. omega (arith, r.1, out)) (build (suc w) n) (segments_within w Place n 0)))) h in (
        (⊎_elim (λ (p : 0 < j). p) (λ (p : j ≤ 0). absurd (named (inl (omega arith)))) (cases_lt 0 j)),
        (⊎_elim (λ (p : suc w ^ n < j). absurd (named (inr p))) (λ (p : j ≤ suc w ^ n). p) (cases_lt (suc w ^ n) j)),
      )

  apart : (t i j : ℕ) → live (take t (build (suc w) n)) i ≡ true → live (take t (build (suc w) n)) j ≡ true → slot (suc w) n i ≡ slot (suc w) n j → i ≡ j
  apart t i j h g e =
      one_each (slot (suc w) n) (live (take t (build (suc w) n))) (held_from (slot (suc w) n) (λ _. 0) (take t (build (suc w) n)))
      (tied t) i j (in_range t i h).0 (in_range t j g).0 h g e

  balanced : (t : ℕ) → (live_count (take t (build (suc w) n)) (suc w ^ n) + removals (take t (build (suc w) n)) ≡ placings (take t (build (suc w) n))) × (live_count (take t (build (suc w) n)) (suc w ^ n) ≤ slots_count (suc w) n)
  balanced t =
      let front = take t (build (suc w) n) in
      let S : ℕ = slots_count (suc w) n in
      let held = held_from (slot (suc w) n) (λ _. 0) front in
      let both = counts (slot (suc w) n) (suc w ^ n) (slots_count (suc w) n) front (λ _. false) (λ _. 0) (tied_none (slot (suc w) n)) (fits t)
      (All-take (InRange (slot (suc w) n) (suc w ^ n) (slots_count (suc w) n)) t (build (suc w) n) segment_range) in
      let full = count_by-le-length (busy (slot (suc w) n) (suc w ^ n) (slots_count (suc w) n) held) (range_with_len 0 (slots_count (suc w) n)) in (
        omega (arith, both.0, count_none (suc w ^ n) 1),
        omega (arith, both.0, both.1, count_none (suc w ^ n) 1, count_none (slots_count (suc w) n) 0, full, length-range_with_len 0 (slots_count (suc w) n)),
      )

  -- one move more
  front_more : (t : ℕ) (d : Move) → t < moves_count (suc w) n → take (t + 1) (build (suc w) n) ≡ take t (build (suc w) n) ++ get_or (build (suc w) n) t d ∷ []
  front_more t d h = take_more (build (suc w) n) t d (omega (arith, length_moves w Place n 0))

  live_placed_suc : (t : ℕ) (d : Move) → t < moves_count (suc w) n → (get_or (build (suc w) n) t d).change ≡ Place → live_count (take (t + 1) (build (suc w) n)) (suc w ^ n) ≡ live_count (take t (build (suc w) n)) (suc w ^ n) + 1
  live_placed_suc t d h e =
      omega (
        arith,
        (balanced t).0,
        (balanced (t + 1)).0,
        ap placings (front_more t d h) ∙ placings_push (take t (build (suc w) n)) (get_or (build (suc w) n) t d),
        ap removals (front_more t d h) ∙ removals_push (take t (build (suc w) n)) (get_or (build (suc w) n) t d),
        ap (λ c. up_by c 0) e,
        ap (λ c. down_by c 0) e,
      )

  live_removed_suc : (t : ℕ) (d : Move) → t < moves_count (suc w) n → (get_or (build (suc w) n) t d).change ≡ Remove → live_count (take (t + 1) (build (suc w) n)) (suc w ^ n) + 1 ≡ live_count (take t (build (suc w) n)) (suc w ^ n)
  live_removed_suc t d h e =
      omega (
        arith,
        (balanced t).0,
        (balanced (t + 1)).0,
        ap placings (front_more t d h) ∙ placings_push (take t (build (suc w) n)) (get_or (build (suc w) n) t d),
        ap removals (front_more t d h) ∙ removals_push (take t (build (suc w) n)) (get_or (build (suc w) n) t d),
        ap (λ c. up_by c 0) e,
        ap (λ c. down_by c 0) e,
      )

  full_once : (t : ℕ) × (t ≤ moves_count (suc w) n) × (live_count (take t (build (suc w) n)) (suc w ^ n) ≡ slots_count (suc w) n)
  full_once =
      let front = climb_front w n 0 in
      let t : ℕ = length (climb w n 0) in
      let is : take (length (climb w n 0)) (build (suc w) n) ≡ climb w n 0 =
      ap (take (length (climb w n 0))) front.1 ∙ take_at (climb w n 0) front.0 (length (climb w n 0)) refl in (
        t,
        omega (arith, ap length front.1, length-append (climb w n 0) front.0, length_moves w Place n 0),
        omega (arith, (balanced t).0, ap placings is, ap removals is, climb_more w n 0),
      )

  last_alone : (j : ℕ) → live (build (suc w) n) j ≡ eqb j (suc w ^ n)
  last_alone zero =
      untouched 0 (build (suc w) n) (λ _. false)
      (All-weaker (λ m. (0 ≤ m.segment) × (m.segment < 0 + suc w ^ n)) (λ m. 0 ≡ suc m.segment → ⊥)
      (λ m r e. omega arith) (build (suc w) n) (segments_within w Place n 0))
      ∙ sym (ne_eqb 0 (suc w ^ n) (λ e. omega (arith, one-le-pow n (suc w) (omega arith))))
  last_alone (suc i) =
      let j : ℕ = suc i in
      let K : ℕ = suc w ^ n in
      let end : ℕ → ℕ = put (λ _. 0) 0 (suc w ^ n) in
      (legal_held (slot (suc w) n) (build (suc w) n) (λ _. false) (λ _. 0) (tied_none (slot (suc w) n)) runs.0).1 j (omega arith)
      ∙ ap (λ σ. eqb (σ (slot (suc w) n j)) j) runs.1
      ∙ ⊎_elim
      (λ (e : j ≡ K).
      ap₂ eqb (ap end (ap (slot (suc w) n) e ∙ slot_last w pos n) ∙ put_same (λ _. 0) 0 K) e
      ∙ eq-eqb K K refl ∙ sym (eq-eqb j K e))
      (λ (d : j ≡ K → ⊥).
      ⊎_elim
      (λ (z : slot (suc w) n j ≡ 0). ap (λ x. eqb x j) (ap end z ∙ put_same (λ _. 0) 0 K) ∙ ne_eqb K j (λ e. d (sym e)))
      (λ (z : slot (suc w) n j ≡ 0 → ⊥). ap (λ x. eqb x j) (put_other (λ _. 0) 0 K (slot (suc w) n j) z) ∙ ne_eqb 0 j (λ e. omega arith))
      (cases_eq (slot (suc w) n j) 0)
      ∙ sym (ne_eqb j K d))
      (cases_eq j K)

  legal : Legal (build (suc w) n)
  legal = (legal_held (slot (suc w) n) (build (suc w) n) (λ _. false) (λ _. 0) (tied_none (slot (suc w) n)) runs.0).0

  -- with the first moves all made and u taken back, what the others had made live is live
  undoing_front : (u j : ℕ) → u ≤ moves_count (suc w) n → live (build (suc w) n ++ take u (undone (build (suc w) n))) j ≡ live (take (moves_count (suc w) n - u) (build (suc w) n)) j
  undoing_front u j h =
      ap (λ f. f j)
      (live_append (build (suc w) n) (take u (undone (build (suc w) n))) (λ _. false)
      ∙ undone_front (build (suc w) n) (λ _. false) u legal (omega (arith, length_moves w Place n 0))
      ∙ ap (λ x. live (take (x - u) (build (suc w) n))) (length_moves w Place n 0))

  sound_suc : Sound (suc w) n
  sound_suc =
      record {
        counted = length_moves w Place n 0;
        taken_back = sym (undone_moves w Place n 0);
        legal = legal;
        last_alone = last_alone;
        in_range = in_range;
        shelved = shelving (suc w) n (omega arith);
        on_shelf = λ j. omega (arith, slot_le w pos n j);
        apart = apart;
        never_more = λ t. (balanced t).1;
        full_once = full_once;
        undoing_legal = legal_append (build (suc w) n) (undone (build (suc w) n)) (λ _. false) legal (undone_returns (build (suc w) n) (λ _. false) legal).0;
        undoing_front = undoing_front;
        never_empty =
            never_empty w n 0 (λ _. false) (omega (arith, length_moves w Place n 0, one-le-pow n (base (suc w)) (omega arith)));
      }

pub sound : (k n : ℕ) → 2 ≤ k → Sound k n
sound zero n h = absurd (omega arith)
sound (suc w) n h = sound_suc w (omega arith) n

-- the live count after one move more: one up at a placing, one down at a removal
pub live_placed : (k n t : ℕ) (d : Move) → 2 ≤ k → t < moves_count k n → (get_or (build k n) t d).change ≡ Place → live_count (take (t + 1) (build k n)) (k ^ n) ≡ live_count (take t (build k n)) (k ^ n) + 1
live_placed zero n t d two h e = absurd (omega arith)
live_placed (suc w) n t d two h e = live_placed_suc w (omega arith) n t d h e

pub live_removed : (k n t : ℕ) (d : Move) → 2 ≤ k → t < moves_count k n → (get_or (build k n) t d).change ≡ Remove → live_count (take (t + 1) (build k n)) (k ^ n) + 1 ≡ live_count (take t (build k n)) (k ^ n)
live_removed zero n t d two h e = absurd (omega arith)
live_removed (suc w) n t d two h e = live_removed_suc w (omega arith) n t d h e
