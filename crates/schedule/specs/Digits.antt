-- The digit rule: one move of the schedule from the digits of its number in base 2 k - 1.
--   digit_says     what one digit says of the change: below k - 1 a placing, above it a removal, k - 1 itself nothing
--   digits_say     what the lowest digit says that says anything
--   digit_segment  the sum of min d (2 k - 2 - d) * k ^ l over the digits d at the places l = 0, 1, ..
--   digit_move     the move: a placing where no digit says anything
-- Assumes nothing.
use Rattle.std.specs.Prelude.{ℕ, zero, suc, pred, ◌+◌, ◌-◌, ◌*◌, ◌/◌, ◌%◌, min, cond, Some, None, Option, ◌==◌, nat_lt}
use Rattle.std.specs.Option.{option_or, unwrap_or}
use Rattle.schedule.specs.Sizes.{base}
use Rattle.schedule.specs.declared.moves.Move.{Move}
use Rattle.schedule.specs.declared.moves.Change.{Change}
use Rattle.schedule.specs.declared.moves.Change.TheVariants.{Place, Remove}

abbrev pub digit_says : ℕ → ℕ → Option Change
digit_says middle d = cond (d == middle) None (Some (cond (nat_lt d middle) Place Remove))

unfoldable pub digits_say : ℕ → ℕ → ℕ → Option Change
digits_say k zero t = None
digits_say k (suc l) t = option_or (digit_says (pred k) (t % base k)) (digits_say k l (t / base k))

unfoldable pub digit_segment : ℕ → ℕ → ℕ → ℕ
digit_segment k zero t = 0
digit_segment k (suc l) t =
    min (t % base k) (2 * pred k - t % base k) + k * digit_segment k l (t / base k)

abbrev pub digit_move : ℕ → ℕ → ℕ → Move
digit_move k n t = record { change = unwrap_or (digits_say k n t) Place; segment = digit_segment k n t }
