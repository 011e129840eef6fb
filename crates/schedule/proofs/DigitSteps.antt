-- The digits of a move or of a slot, one level at a time, as the code takes them.
use Rattle.std.proofs.Common.{◌≡◌, ℕ, suc, ◌+◌, ◌-◌, ◌*◌, ◌/◌, ◌%◌, ◌^◌, ◌<◌, ◌≤◌, min, cond, eqb, None, sym, ap, ◌∙◌, sub-one, mul-le-mul_left, mul-suc, arith}
use Rattle.std.specs.Option.{option_or}
use Rattle.schedule.specs.Sizes.{base}
use Rattle.schedule.specs.Digits.{digit_says, digits_say, digit_segment}
use Rattle.schedule.specs.Slots.{digit_slot}
use Rattle.schedule.proofs.Bounds.{level_suc, whole_level}

module _ (k level t : ℕ) where
  pub says_none : level ≡ 0 → digits_say k level t ≡ None
  unfolding digits_say
  says_none e = ap (λ l. digits_say k l t) e

  pub segment_none : level ≡ 0 → digit_segment k level t ≡ 0
  unfolding digit_segment
  segment_none e = ap (λ l. digit_segment k l t) e

  pub slot_none : level ≡ 0 → digit_slot k level t ≡ 0
  unfolding digit_slot
  slot_none e = ap (λ l. digit_slot k l t) e

  module _ (pos : level ≡ 0 → ⊥) where
    pub says_more : digits_say k level t ≡ option_or (digit_says (k - 1) (t % base k)) (digits_say k (level - 1) (t / base k))
    unfolding digits_say
    says_more = ap (λ l. digits_say k l t) (level_suc level pos) ∙ ap (λ m. option_or (digit_says m (t % base k)) (digits_say k (level - 1) (t / base k))) (sym (sub-one k))

    pub segment_more : digit_segment k level t ≡ min (t % base k) (2 * (k - 1) - t % base k) + k * digit_segment k (level - 1) (t / base k)
    unfolding digit_segment
    segment_more = ap (λ l. digit_segment k l t) (level_suc level pos) ∙ ap (λ m. min (t % base k) (2 * m - t % base k) + k * digit_segment k (level - 1) (t / base k)) (sym (sub-one k))

    pub slot_more : digit_slot k level t ≡ cond (eqb (t % k) 0) (k - 1 + digit_slot k (level - 1) (t / k)) (t % k)
    unfolding digit_slot
    slot_more = ap (λ l. digit_slot k l t) (level_suc level pos) ∙ ap (λ m. cond (eqb (t % k) 0) (m + digit_slot k (level - 1) (t / k)) (t % k)) (sym (sub-one k))

-- a digit below k and a number of the level below make a number of the level
pub segment_fits : (k s level : ℕ) → (level ≡ 0 → ⊥) → s < k ^ (level - 1) → k * s + k ≤ k ^ level
segment_fits k s level pos h =
    omega (arith, whole_level k level pos, mul-le-mul_left {m = suc s} {n = k ^ (level - 1)} k h, mul-suc k s)

pub ruleset move_digits = (says_none, says_more, segment_none, segment_more, segment_fits)

pub ruleset slot_digits = (slot_none, slot_more)
