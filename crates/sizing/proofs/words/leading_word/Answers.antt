-- The first space behind the spaces in front ends the word.
use Rattle.sizing.proofs.Reading.{unspaced_is, first_cut}
use Rattle.sizing.proofs.words.leading_word.Goals as goal

pub returns : goal.returns
returns c =
    record { cases = rw c.ok_or.ensures.value (first_cut c.args.text.now (unspaced_is c.trim_start_matches.ensures.matches) _ _ c.split_once.ensures.cases) }
