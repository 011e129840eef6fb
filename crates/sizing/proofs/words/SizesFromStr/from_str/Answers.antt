-- Each error shows that the line asks for nothing, and the end that it asks for just these sizes.
use Rattle.std.proofs.lemmas.Result.{MatchResult-from_err}
use Rattle.sizing.proofs.Reading.{unspaced_is, none_first, none_second, no_fan_out, no_depth, no_steps, asked}
use Rattle.sizing.proofs.words.SizesFromStr.from_str.Goals as goal

pub returns-in_err-first : goal.returns-in_err-first
returns-in_err-first c =
    MatchResult-from_err c.from_residual.result _ _ c.from_residual.ensures.0 (λ _. none_first c.in_err-first.ensures.cases)

pub returns-in_err-second : goal.returns-in_err-second
returns-in_err-second c =
    MatchResult-from_err c.from_residual-in_err-second.result _ _ c.from_residual-in_err-second.ensures.0
    (λ _. none_second c.in_ok-first.ensures.cases c.in_err-second.ensures.cases)

pub returns-in_err-fan_out : goal.returns-in_err-fan_out
returns-in_err-fan_out c =
    MatchResult-from_err c.from_residual-in_err-fan_out.result _ _ c.from_residual-in_err-fan_out.ensures.0
    (λ _. no_fan_out c.in_ok-first.ensures.cases c.in_err-fan_out.ensures.cases)

pub returns-in_err-depth : goal.returns-in_err-depth
returns-in_err-depth c =
    MatchResult-from_err c.from_residual-in_err-depth.result _ _ c.from_residual-in_err-depth.ensures.0
    (λ _. no_depth c.in_ok-first.ensures.cases c.in_ok-second.ensures.cases c.in_err-depth.ensures.cases)

pub returns-in_err-steps : goal.returns-in_err-steps
returns-in_err-steps c =
    MatchResult-from_err c.from_residual-in_err-steps.result _ _ c.from_residual-in_err-steps.ensures.0
    (λ _. no_steps c.in_ok-first.ensures.cases c.in_ok-second.ensures.cases
    (unspaced_is c.trim_start_matches.ensures.matches) c.in_err-steps.ensures.cases)

pub returns : goal.returns
returns c =
    asked c.in_ok-first.ensures.cases c.in_ok-second.ensures.cases (unspaced_is c.trim_start_matches.ensures.matches)
    c.in_ok-fan_out.ensures.cases c.in_ok-depth.ensures.cases c.in_ok-steps.ensures.cases
