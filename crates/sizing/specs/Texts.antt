-- What the program prints, as bytes.
--   sign        `+` of a placing, `-` of a removal
--   row_text    the line of a row, with no line end
--   head_of     the numbers of the head lines of a plan
--   head_text   the four head lines, with no line end after the last
--   lines_of    a line for each row
--   table_text  the lines of the moves of a plan: of all, or of the first and the last 20 where there are more than 40
--   report_text the head lines, the lines of the moves, and the most slots that are ever in use
--   reply_text  the report on a plan, or the line of a refusal
--   Replied     what is printed where certain sizes are asked for
--   Answered    what is printed on an input line
-- Assumes nothing.
use Rattle.std.specs.Prelude.{◌≡◌, ℕ, ◌-◌, cond, ◌⊎◌, List, [], ◌∷◌, ◌++◌, Ok, Err, codes, decimal, Result, nat_le}
use Rattle.refusal.specs.declared.kinds.Refusal.{Refusal}
use Rattle.refusal.specs.Faults.{line}
use Rattle.schedule.specs.declared.sizes.Plan.{Plan}
use Rattle.schedule.specs.declared.moves.Change.{Change}
use Rattle.schedule.specs.declared.moves.Change.TheVariants.{Place, Remove}
use Rattle.schedule.specs.Sizes.{overhead}
use Rattle.schedule.specs.Answers.{Planned, segments_of, moves_of, last_tick_of, slots_of, whole_steps_of, plain_steps_of}
use Rattle.sizing.specs.declared.table.Row.{Row}
use Rattle.sizing.specs.declared.head.Head.{Head}
use Rattle.sizing.specs.declared.words.Sizes.{Sizes}
use Rattle.sizing.specs.Rows.{rows}
use Rattle.sizing.specs.Words.{Asked, sizes_of}

abbrev pub sign : Change → List ℕ
sign Place = codes "+"
sign Remove = codes "-"

abbrev pub row_text : Row → List ℕ
row_text r =
    sign r.made.change ++ (decimal r.made.segment ++ (codes "/" ++ (decimal r.slot ++ (codes " live " ++ decimal r.live))))

abbrev pub head_of : Plan → Head
head_of p =
    record {
      fan_out = p.sizes.fan_out;
      depth = p.sizes.depth;
      steps = p.sizes.steps;
      segments = segments_of p;
      moves = moves_of p;
      last_tick = last_tick_of p;
      shelf = slots_of p;
      whole_steps = whole_steps_of p;
      overhead = overhead (whole_steps_of p) (plain_steps_of p);
    }

unfoldable pub head_text : Head → List ℕ
head_text h =
    codes "fan-out " ++ (decimal h.fan_out ++ (codes " depth " ++ (decimal h.depth ++ (codes " steps " ++ (decimal h.steps ++ (
    codes "\nsegments " ++ (decimal h.segments ++ (codes " moves " ++ (decimal h.moves ++ (codes " last tick " ++ (decimal h.last_tick ++ (
    codes "\nshelf " ++ (decimal h.shelf ++ (codes " trail " ++ (decimal h.steps ++ (
    codes "\nsteps " ++ (decimal h.whole_steps ++ (codes " overhead " ++ decimal h.overhead))))))))))))))))))

unfoldable pub lines_of : List Row → List ℕ
lines_of [] = []
lines_of (r ∷ rs) = row_text r ++ (codes "\n" ++ lines_of rs)

unfoldable pub table_text : Plan → List ℕ
table_text p =
    cond (nat_le (moves_of p) 40) (lines_of (rows p 0 (moves_of p)))
    (lines_of (rows p 0 20) ++ (codes ".. " ++ (decimal (moves_of p - 40) ++ (codes " more ..\n" ++ lines_of (rows p (moves_of p - 20) 20)))))

unfoldable pub report_text : Plan → List ℕ
report_text p = head_text (head_of p) ++ (codes "\n" ++ (table_text p ++ (codes "peak " ++ (decimal (slots_of p) ++ codes "\n"))))

abbrev pub reply_text : Result Plan Refusal → List ℕ
reply_text (Ok p) = report_text p
reply_text (Err r) = line r ++ codes "\n"

abbrev pub Replied : Sizes → List ℕ → Type 0
Replied s bs =
    (x : Result Plan Refusal)
    × Planned (sizes_of s) x
    × (bs ≡ reply_text x)

abbrev pub Answered : List ℕ → List ℕ → Type 0
Answered line bs =
    ((s : Sizes) × Asked line s × Replied s bs) ⊎ (((s : Sizes) → Asked line s → ⊥) × (bs ≡ codes "expected three decimal numbers: fan-out, depth, steps\n"))
