-- reduced n     the countdown with n modulo 2^32 left
-- plus, minus   sum and difference modulo 2^32
-- after         one less is left, and zero stays zero
-- trace         whether a step takes one away
-- back          one more, modulo 2^32, where one was taken away
-- halted        nothing is left
-- unmoved       the record of a step that takes nothing away
-- Assumes nothing.
use Rattle.std.specs.Prelude.{ℕ, ◌+◌, ◌-◌, ◌%◌, ◌^◌, Bool, false, cond, ◌==◌, nat_lt}
use Rattle.std.proofs.Common.{mod-lt, lit<}
use Rattle.tally.specs.declared.countdown.Countdown.{Countdown}
use Rattle.tally.specs.declared.moved.Moved.{Moved}

abbrev pub reduced : ℕ → Countdown
reduced n = record { left = n % 2 ^ 32; ranged = mod-lt n (lit< tt) }

abbrev pub plus : Countdown → Countdown → Countdown
plus a b = reduced (a.left + b.left)

abbrev pub minus : Countdown → Countdown → Countdown
minus a b = reduced (a.left + (2 ^ 32 - b.left))

abbrev pub halted : Countdown → Bool
halted t = t.left == 0

abbrev pub after : Countdown → Countdown
after t = reduced (t.left - 1)

abbrev pub trace : Countdown → Moved
trace t = record { one = nat_lt 0 t.left }

abbrev pub back : Countdown → Moved → Countdown
back t r = reduced (cond r.one (t.left + 1) t.left)

abbrev pub unmoved : Moved
unmoved = record { one = false }
