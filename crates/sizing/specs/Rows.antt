-- The moves of a plan as rows of a table.
--   move_of       move number t of a plan, from 0; past the end any
--   live_of       how many checkpoints are live after the first t moves
--   row_at        the row of move t: the move, the slot of its checkpoint, and how many are live behind it
--   rows          the rows of the n moves from move `from` on
--   rows_left     the rows of all moves from move t on
--   counted_on    the live count after one move, from the one before it
--   counted_back  the live count before one move, from the one after it
-- Assumes nothing.
use Rattle.std.specs.Prelude.{ℕ, ◌+◌, ◌-◌, List, map, take, slice_index_or}
use Rattle.std.specs.List.{range_with_len}
use Rattle.schedule.specs.declared.sizes.Plan.{Plan}
use Rattle.schedule.specs.declared.moves.Move.{Move}
use Rattle.schedule.specs.declared.moves.Change.{Change}
use Rattle.schedule.specs.declared.moves.Change.TheVariants.{Place, Remove}
use Rattle.schedule.specs.Live.{live_count}
use Rattle.schedule.specs.Answers.{segments_of, moves_of, build_of, slot_of}
use Rattle.sizing.specs.declared.table.Row.{Row}

abbrev pub move_of : Plan → ℕ → Move
move_of p t = slice_index_or (build_of p) t (record { change = Place; segment = 0 })

unfoldable pub live_of : Plan → ℕ → ℕ
live_of p t = live_count (take t (build_of p)) (segments_of p)

unfoldable pub row_at : Plan → ℕ → Row
row_at p t = record { made = move_of p t; slot = slot_of p ((move_of p t).segment + 1); live = live_of p (t + 1) }

abbrev pub rows : Plan → ℕ → ℕ → List Row
rows p from n = map (row_at p) (range_with_len from n)

abbrev pub rows_left : Plan → ℕ → List Row
rows_left p t = rows p t (moves_of p - t)

abbrev pub counted_on : Change → ℕ → ℕ
counted_on Place n = n + 1
counted_on Remove n = n - 1

abbrev pub counted_back : Change → ℕ → ℕ
counted_back Place n = n - 1
counted_back Remove n = n + 1
