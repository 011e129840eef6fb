-- What the calls on a plan answer.
--   wrong_of       the byte of the sizes where the first one out of its limits stands, if any
--   Planned        the answer of a call for a plan: the plan of just these sizes, whose schedule is
--                    sound, or the refusal of the first wrong one
--   segments_of, moves_of, last_tick_of, slots_of, build_of, digit_move_of, slot_of   the schedule's words at the sizes of a plan
--   whole_steps_of   the machine's steps and unsteps of a whole run forward
--   plain_steps_of   the steps of the program itself
-- Assumes nothing.
use Rattle.std.specs.Prelude.{◌≡◌, ℕ, ◌*◌, List, Some, None, Ok, Err, Option, Result}
use Rattle.refusal.specs.declared.kinds.Refusal.{Refusal}
use Rattle.refusal.specs.declared.kinds.Fault.TheVariants as fault
use Rattle.schedule.specs.declared.sizes.Plan.{Plan}
use Rattle.schedule.specs.declared.sizes.Sizes.{Sizes}
use Rattle.schedule.specs.declared.moves.Move.{Move}
use Rattle.schedule.specs.Sizes.{first_wrong, segments, moves_count, last_tick_at, slots_count}
use Rattle.schedule.specs.Digits.{digit_move}
use Rattle.schedule.specs.Slots.{slot}
use Rattle.schedule.specs.Schedule.{build, Sound}

abbrev pub wrong_of : Sizes → Option ℕ
wrong_of s = first_wrong s.fan_out s.depth s.steps s.allowance

abbrev pub Planned : Sizes → Result Plan Refusal → Type 0
Planned s (Ok p) = (wrong_of s ≡ None) × (p.sizes ≡ s) × Sound s.fan_out s.depth
Planned s (Err r) = (wrong_of s ≡ Some r.place) × (r.fault ≡ fault.Sizes)

abbrev pub segments_of : Plan → ℕ
segments_of p = segments p.sizes.fan_out p.sizes.depth

abbrev pub moves_of : Plan → ℕ
moves_of p = moves_count p.sizes.fan_out p.sizes.depth

abbrev pub last_tick_of : Plan → ℕ
last_tick_of p = last_tick_at p.sizes.fan_out p.sizes.depth p.sizes.steps

abbrev pub slots_of : Plan → ℕ
slots_of p = slots_count p.sizes.fan_out p.sizes.depth

-- a whole run forward goes through each of the P moves twice, with m steps and m unsteps each time
abbrev pub whole_steps_of : Plan → ℕ
whole_steps_of p = 4 * p.sizes.steps * moves_of p

abbrev pub plain_steps_of : Plan → ℕ
plain_steps_of p = p.sizes.steps * segments_of p

abbrev pub build_of : Plan → List Move
build_of p = build p.sizes.fan_out p.sizes.depth

abbrev pub digit_move_of : Plan → ℕ → Move
digit_move_of p t = digit_move p.sizes.fan_out p.sizes.depth t

abbrev pub slot_of : Plan → ℕ → ℕ
slot_of p j = slot p.sizes.fan_out p.sizes.depth j
