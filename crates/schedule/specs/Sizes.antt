-- The sizes of a run and what follows from them.
--   base          2 k - 1, in how many blocks of the level below a level's moves fall
--   segments      how many segments a run of depth n has
--   moves_count   how many moves place its last checkpoint
--   last_tick_at  the last tick of the whole run, with m steps to a segment
--   slots_count   how many slots its shelf needs
--   overhead      the steps done, in hundredths of the steps of the plain program, cut to a whole number
--   fan_out_legal, depth_legal, steps_legal, allowance_legal   the limits of each size
--   first_wrong   the byte of the sizes where the first one out of its limits stands, if any
-- Assumes nothing.
use Rattle.std.specs.Prelude.{ℕ, pred, ◌+◌, ◌-◌, ◌*◌, ◌/◌, ◌^◌, Bool, cond, ◌&&◌, Some, None, Option, nat_le}

abbrev pub base : ℕ → ℕ
base k = 2 * k - 1

abbrev pub segments : ℕ → ℕ → ℕ
segments k n = k ^ n

abbrev pub moves_count : ℕ → ℕ → ℕ
moves_count k n = base k ^ n

abbrev pub last_tick_at : ℕ → ℕ → ℕ → ℕ
last_tick_at k n m = 2 * moves_count k n * (2 * m + 3) + 1

abbrev pub slots_count : ℕ → ℕ → ℕ
slots_count k n = n * pred k + 1

abbrev pub overhead : ℕ → ℕ → ℕ
overhead done plain = 100 * done / plain

abbrev pub fan_out_legal : ℕ → Bool
fan_out_legal k = nat_le 2 k && nat_le k 8

abbrev pub depth_legal : ℕ → ℕ → Bool
depth_legal k n = nat_le n 8

abbrev pub steps_legal : ℕ → Bool
steps_legal m = nat_le 1 m && nat_le m 1024

abbrev pub allowance_legal : ℕ → Bool
allowance_legal a = nat_le 1 a && nat_le a 1_000_000_000_000_000

abbrev pub first_wrong : ℕ → ℕ → ℕ → ℕ → Option ℕ
first_wrong k n m a =
    cond (fan_out_legal k)
    (cond (depth_legal k n) (cond (steps_legal m) (cond (allowance_legal a) None (Some 4)) (Some 2)) (Some 1))
    (Some 0)
