use Rattle.schedule.proofs.sizes.Plan.+by_digits.Given as goal

abbrev pub decreases-by_digits : goal.decreases-by_digits
decreases-by_digits l = l.level
