-- The rule that was chosen is the only one, so it is what `choose` of the specs answers.
use Rattle.std.proofs.Common.{rules}
use Rattle.std.proofs.iter.runs.Made.{chains}
use Rattle.rewriting.specs.Occurs.{Applies}
use Rattle.rewriting.specs.Search.{choose}
use Rattle.rewriting.specs.Laws.Searching.{choose_applies, applies_once}
use Rattle.rewriting.proofs.searching.choose.Goals as goal

pub returns-clause-value : goal.returns-clause-value
returns-clause-value c =
    let rules_now = c.args.rules.now in
    let text = c.args.text.now in
    let chosen : Applies rules_now text c.find_map.result = search (rules, chains) in
    applies_once rules_now text c.find_map.result (choose rules_now text) chosen (choose_applies rules_now text)
