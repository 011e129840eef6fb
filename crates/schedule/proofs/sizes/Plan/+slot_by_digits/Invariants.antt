use Rattle.schedule.proofs.sizes.Plan.+slot_by_digits.Given as goal

abbrev pub decreases-slot_by_digits : goal.decreases-slot_by_digits
decreases-slot_by_digits l = l.level
