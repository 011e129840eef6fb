-- The lines of the rows so far.
use Rattle.std.proofs.Common.{◌≡◌, take, string_bytes}
use Rattle.sizing.specs.Texts.{lines_of}
use Rattle.sizing.proofs.report.lines.Given as goal

abbrev pub invariant-loop-row : goal.invariant-loop-row
invariant-loop-row l = string_bytes l.text ≡ lines_of (take l.row-index l.rows)
