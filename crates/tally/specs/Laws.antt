-- countdown_sum     the sum of countdowns, with its laws
-- plus_commutes     it may be taken either way round
-- countdown_model   the machine that counts down, with its laws
-- The laws are proved here, beside the definitions, since a sum and a model hold the proofs of theirs.
-- Assumes nothing.
use Rattle.std.specs.Prelude.{◌≡◌, ◌^◌, ◌<◌, true}
use Rattle.std.proofs.Common.{⊎_elim, arith}
use mathlib.Core.HLevel.{is_prop→PathP}
use Rattle.std.proofs.Math.Bridge.{le_prop}
use Rattle.std.proofs.lemmas.Bool.{cases_lt, lt-ltb, le-ltb, eqb-true}
use Rattle.machine.specs.Sum.{Sum}
use Rattle.machine.specs.Model.{Model}
use Rattle.tally.specs.declared.countdown.Countdown.{Countdown}
use Rattle.tally.specs.declared.moved.Moved.{Moved}
use Rattle.tally.specs.Countdown.{reduced, plus, minus, after, trace, back, halted}

-- countdowns with the same number left are equal: that it is in range has one proof
pub same_left : (a b : Countdown) → a.left ≡ b.left → a ≡ b
same_left a b e =
    λ i. record { left = e i; ranged = is_prop→PathP (λ j. e j < 2 ^ 32) (λ j. le_prop) a.ranged b.ranged i }

pub plus_assoc : (a b c : Countdown) → plus (plus a b) c ≡ plus a (plus b c)
plus_assoc a b c = same_left _ _ (omega arith)

pub zero_plus : (a : Countdown) → plus (reduced 0) a ≡ a
zero_plus a = same_left _ _ (omega arith)

pub plus_minus : (a b : Countdown) → minus (plus a b) b ≡ a
plus_minus a b = same_left _ _ (omega arith)

pub minus_plus : (a b : Countdown) → plus (minus a b) b ≡ a
minus_plus a b = same_left _ _ (omega arith)

pub plus_commutes : (a b : Countdown) → plus a b ≡ plus b a
plus_commutes a b = same_left _ _ (omega arith)

abbrev pub countdown_sum : Sum Countdown
countdown_sum = record {
  zero = reduced 0;
  plus = plus;
  minus = minus;
  plus_assoc = plus_assoc;
  zero_plus = zero_plus;
  plus_minus = plus_minus;
  minus_plus = minus_plus;
}

pub back_after : (t : Countdown) → back (after t) (trace t) ≡ t
back_after t =
    same_left _ _ (⊎_elim
    (λ h. rw (lt-ltb 0 t.left h) (omega arith))
    (λ h. rw (le-ltb 0 t.left h) (omega arith))
    (cases_lt 0 t.left))

pub rest : (t : Countdown) → halted t ≡ true → after t ≡ t
rest t e = let z : t.left ≡ 0 = eqb-true _ _ e in same_left _ _ (omega arith)

abbrev pub countdown_model : Model Countdown Moved
countdown_model = record {
  after = after;
  trace = trace;
  back = back;
  halted = halted;
  back_after = back_after;
  rest = rest;
}
