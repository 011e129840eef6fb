-- The part from the start is cut at 32, or at the end of a shorter table.
use Rattle.std.proofs.Common.{◌≡◌, min, length, take, ap, ◌∙◌, arith}
use Rattle.std.proofs.lemmas.List.{take_min}
use Rattle.rewriting.proofs.searching.program.Goals as goal

pub returns : goal.returns
returns c =
    let table = c.args.table.now in
    let cut : c.min.result ≡ min 32 (length table) = omega arith in
    ap (λ n. take n table) cut ∙ take_min 32 table
