-- The count so far is that before move t, which is not before move `from`.
use Rattle.std.proofs.Common.{◌≡◌, ◌≤◌}
use Rattle.sizing.specs.Rows.{live_of}
use Rattle.sizing.proofs.table.live_before.Given as goal

abbrev pub invariant-loop-t : goal.invariant-loop-t
invariant-loop-t l = record { counted : l.live ≡ live_of l.plan l.t; within : l.from ≤ l.t }
