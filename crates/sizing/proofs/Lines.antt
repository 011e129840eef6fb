-- The text of a report from its parts.
use Rattle.std.proofs.Common.{◌≡◌, ℕ, ◌+◌, ◌-◌, ◌<◌, min, leb, List, [], ◌∷◌, ◌++◌, length, get_or, take, codes, decimal, sym, refl, ap, ◌∙◌, append_assoc, arith}
use Rattle.std.proofs.lemmas.List.{take_more}
use Rattle.std.proofs.lemmas.Bool.{cond-false, lt-leb}
use Rattle.schedule.specs.declared.sizes.Plan.{Plan}
use Rattle.schedule.specs.Answers.{moves_of}
use Rattle.sizing.specs.declared.table.Row.{Row}
use Rattle.sizing.specs.Rows.{rows}
use Rattle.sizing.specs.Texts.{row_text, lines_of, table_text}

lines_push : (rs : List Row) (r : Row) → lines_of (rs ++ r ∷ []) ≡ lines_of rs ++ (row_text r ++ codes "\n")
unfolding lines_of
lines_push [] r = refl
lines_push (x ∷ xs) r =
    ap (λ (l : List ℕ). row_text x ++ (codes "\n" ++ l)) (lines_push xs r)
    ∙ sym (append_assoc (row_text x) (codes "\n" ++ lines_of xs) (row_text r ++ codes "\n"))

pub lines_more : (rs : List Row) (i : ℕ) (d : Row) → i < length rs → lines_of (take (i + 1) rs) ≡ lines_of (take i rs) ++ (row_text (get_or rs i d) ++ codes "\n")
lines_more rs i d h = ap lines_of (take_more rs i d h) ∙ lines_push (take i rs) (get_or rs i d)

-- the lines where there are more than 40
pub many_lines : (p : Plan) → 40 < moves_of p → table_text p ≡ lines_of (rows p 0 (min 20 (moves_of p))) ++ (codes ".. " ++ (decimal (moves_of p - 40) ++ (codes " more ..\n" ++ lines_of (rows p (moves_of p - min 20 (moves_of p)) (min 20 (moves_of p))))))
unfolding table_text
many_lines p many =
    let all : min 20 (moves_of p) ≡ 20 = omega arith in
    rw all (cond-false (leb (moves_of p) 40) _ _ (lt-leb (moves_of p) 40 many))
