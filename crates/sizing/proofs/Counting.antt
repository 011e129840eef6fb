-- The live count of a plan from move to move, from the start and back from the end.
use Rattle.std.proofs.Common.{◌≡◌, ℕ, zero, suc, pred, ◌+◌, ◌-◌, ◌^◌, ◌<◌, ◌≤◌, min, false, cond, leb, ◌&&◌, ◌∷◌, take, slice_index_or, Some, None, Ok, Err, Option, Result, sym, refl, ap, ◌∙◌, ap₂, subst, mul-le-mul, arith}
use native.Mathlib.Nat.{one-le-pow}
use Rattle.std.specs.List.{AllByRecursion}
use Rattle.std.specs.Result.{result_ok}
use Rattle.std.proofs.lemmas.List.{take_all, take_min}
use Rattle.std.proofs.lemmas.List.FromFn.{length-map-range_with_len, take-map-range_with_len}
use Rattle.refusal.specs.declared.kinds.Refusal.{Refusal}
use Rattle.refusal.specs.declared.kinds.Fault.TheVariants.{End}
use Rattle.schedule.specs.Moves.{opposite}
use Rattle.std.proofs.ByRecursion.{All-get_or, All-weaker}
use Rattle.std.proofs.lemmas.Bool.Decides.{nat_tests}
use Rattle.std.proofs.lemmas.Grind.{common_steps}
use Rattle.std.proofs.lemmas.Bool.{eq-eqb, ne_eqb, leb-true}
use Rattle.schedule.specs.declared.sizes.Plan.{Plan}
use Rattle.schedule.specs.declared.moves.Move.{Move}
use Rattle.schedule.specs.declared.moves.Change.{Change}
use Rattle.schedule.specs.declared.moves.Change.TheVariants.{Place, Remove}
use Rattle.schedule.specs.Live.{live, live_count}
use Rattle.schedule.specs.Schedule.{build, Sound}
use Rattle.schedule.specs.Answers.{segments_of, moves_of, build_of, slot_of}
use Rattle.schedule.proofs.Counts.{count_none, count_flip}
use Rattle.schedule.proofs.Blocks.{segments_within}
use Rattle.schedule.proofs.Soundness.{sound, live_placed, live_removed}
use Rattle.sizing.specs.Rows.{move_of, live_of, row_at, rows, rows_left, counted_on, counted_back}

-- the move that stands past the end
abbrev any : Move
any = record { change = Place; segment = 0 }

within : (k n : ℕ) → 2 ≤ k → AllByRecursion (λ m. m.segment < k ^ n) (build k n)
within zero n h = absurd (omega arith)
within (suc w) n h =
    All-weaker (λ m. (0 ≤ m.segment) × (m.segment < 0 + suc w ^ n)) (λ m. m.segment < suc w ^ n)
    (λ m r. omega (arith, r.1)) (build (suc w) n) (segments_within w Place n 0)

module _ (p : Plan) where
  whole : Sound p.sizes.fan_out p.sizes.depth
  whole = sound p.sizes.fan_out p.sizes.depth p.fan_out_range.0

  pub live_few : (t : ℕ) → live_of p t ≤ 57
  unfolding live_of
  live_few t =
      omega (
        arith,
        whole.never_more t,
        mul-le-mul {n₁ = p.sizes.depth} {m₁ = pred p.sizes.fan_out} {n₂ = 8} {m₂ = 7}
            (leb-true p.sizes.depth 8 p.depth_range) (omega (arith, p.fan_out_range.1)),
      )

  pub segments_few : segments_of p ≤ 2 ^ 24
  segments_few = omega (arith, p.segments_is, p.segments_few)

  pub live_start : live_of p 0 ≡ 0
  unfolding live_of
  live_start = count_none (segments_of p) 1

  pub live_end : live_of p (moves_of p) ≡ 1
  unfolding live_of
  live_end =
      ap (λ ms. live_count ms (segments_of p)) (take_all (moves_of p) (build_of p) (omega (arith, whole.counted)))
      ∙ count_flip (λ _. false) (live (build_of p)) (segments_of p) (segments_of p) 1
      (one-le-pow p.sizes.depth p.sizes.fan_out (omega (arith, p.fan_out_range.0))) (omega arith) refl
      (whole.last_alone (segments_of p) ∙ eq-eqb (segments_of p) (segments_of p) refl)
      (λ y d. whole.last_alone y ∙ ne_eqb y (segments_of p) d)
      ∙ ap suc (count_none (segments_of p) 1)

  pub rows_front : (n : ℕ) → take n (rows_left p 0) ≡ rows p 0 (min n (moves_of p))
  rows_front n =
      let all : moves_of p - 0 ≡ moves_of p = omega arith in
      ap (λ m. take n (rows p 0 m)) all
      ∙ sym (take_min n (rows p 0 (moves_of p)))
      ∙ ap (λ k. take (min n k) (rows p 0 (moves_of p))) (length-map-range_with_len (row_at p) 0 (moves_of p))
      ∙ take-map-range_with_len (row_at p) 0 (moves_of p) (min n (moves_of p)) (omega arith)

  pub rows_back : (n from : ℕ) → from ≡ moves_of p - n → rows_left p from ≡ rows p (moves_of p - min n (moves_of p)) (min n (moves_of p))
  rows_back n from is =
      let same : from ≡ moves_of p - min n (moves_of p) = omega arith in
      let count : moves_of p - from ≡ min n (moves_of p) = omega arith in
      ap₂ (rows p) same count

-- to count on by the opposite change is to count back
on_opposite : (c : Change) (n : ℕ) → counted_on (opposite c) n ≡ counted_back c n
on_opposite Place n = refl
on_opposite Remove n = refl

-- m is move t of p, and there is one
pub record Made (p : Plan) (t : ℕ) (m : Move) : Type 0 where
  pub within : t < moves_of p
  pub is : m ≡ move_of p t

pub made_from_move_at : (p : Plan) (t : ℕ) (m : Move) (r : Result Move Refusal) → ((d : Move) → t < moves_of p → r ≡ Ok (slice_index_or (build_of p) t d)) → (moves_of p ≤ t → r ≡ Err (record { fault = End; place = 0 })) → result_ok r ≡ Some m → Made p t m
made_from_move_at p t m r entry refused is =
    let both : (t < moves_of p) × (m ≡ move_of p t) = grind (arith, common_steps, entry any) in
    record { within = both.0; is = both.1 }

module _ {p : Plan} {t : ℕ} {m : Move} (made : Made p t m) where
  pub segment_within : m.segment < segments_of p
  segment_within =
      subst (λ x. x.segment < segments_of p) (sym made.is)
      (All-get_or (λ x. x.segment < segments_of p) (build_of p) t any (omega (arith, (whole p).counted, made.within))
      (within p.sizes.fan_out p.sizes.depth p.fan_out_range.0))

  pub slot_there : {r : Option ℕ} → r ≡ cond (leb 1 (m.segment + 1) && leb (m.segment + 1) (segments_of p)) (Some (slot_of p (m.segment + 1))) None → r ≡ Some (slot_of p (m.segment + 1))
  slot_there {r} e = grind (arith, nat_tests, segment_within)

  pub placed : m.change ≡ Place → live_of p (t + 1) ≡ live_of p t + 1
  unfolding live_of
  placed e =
      live_placed p.sizes.fan_out p.sizes.depth t any p.fan_out_range.0 made.within (ap (λ x. x.change) (sym made.is) ∙ e)

  pub removed : m.change ≡ Remove → live_of p (t + 1) + 1 ≡ live_of p t
  unfolding live_of
  removed e =
      live_removed p.sizes.fan_out p.sizes.depth t any p.fan_out_range.0 made.within (ap (λ x. x.change) (sym made.is) ∙ e)

  on_at : (c : Change) → m.change ≡ c → counted_on c (live_of p t) ≡ live_of p (t + 1)
  on_at Place e = sym (placed e)
  on_at Remove e = omega (arith, removed e)

  pub counts_on : {before after : ℕ} → before ≡ live_of p t → after ≡ counted_on m.change before → after ≡ live_of p (t + 1)
  counts_on was is = is ∙ ap (counted_on m.change) was ∙ on_at m.change refl

  back_at : (c : Change) → m.change ≡ c → counted_back c (live_of p (t + 1)) ≡ live_of p t
  back_at Place e = omega (arith, placed e)
  back_at Remove e = removed e

  pub counts_back : {before after : ℕ} → after ≡ live_of p (t + 1) → before ≡ counted_on (opposite m.change) after → before ≡ live_of p t
  counts_back {after} was is = is ∙ on_opposite m.change after ∙ ap (counted_back m.change) was ∙ back_at m.change refl

  pub some_before : m.change ≡ Remove → 0 < live_of p t
  some_before e = omega (arith, removed e)

  some_at : (c : Change) → m.change ≡ c → opposite c ≡ Remove → 0 < live_of p (t + 1)
  some_at Place e _ = omega (arith, placed e)
  some_at Remove e f = cc

  pub some_after : opposite m.change ≡ Remove → 0 < live_of p (t + 1)
  some_after = some_at m.change refl

  pub rows_left_from : {slot after : ℕ} → Some slot ≡ Some (slot_of p (m.segment + 1)) → after ≡ live_of p (t + 1) → rows_left p t ≡ record { made = m; slot = slot; live = after } ∷ rows_left p (t + 1)
  unfolding row_at
  rows_left_from is counted =
      let more : moves_of p - t ≡ suc (moves_of p - (t + 1)) = omega (arith, made.within) in
      ap (rows p t) more ∙ ap (λ r. r ∷ rows_left p (t + 1)) (cc (made.is, is, counted))
