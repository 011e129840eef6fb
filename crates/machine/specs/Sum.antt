-- Sum T        a zero, a sum and a difference on T, with the laws by which what was added can be taken away again.
-- Commutes S   the sum of S may be taken either way round. It stands apart, since no undoing needs it.
-- Assumes nothing.
use Rattle.std.specs.Prelude.{◌≡◌}

pub record Sum (T : Type 0) : Type 0 where
  pub zero : T
  pub plus : T → T → T
  pub minus : T → T → T
  pub plus_assoc : (a b c : T) → plus (plus a b) c ≡ plus a (plus b c)
  pub zero_plus : (a : T) → plus zero a ≡ a
  pub plus_minus : (a b : T) → minus (plus a b) b ≡ a
  pub minus_plus : (a b : T) → plus (minus a b) b ≡ a

abbrev pub Commutes : {T : Type 0} → Sum T → Type 0
Commutes {T} s = (a b : T) → s.plus a b ≡ s.plus b a
