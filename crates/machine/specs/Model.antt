-- Model T R   what a machine does with tableaux T and records R:
--   after t     the tableau one step after t
--   trace t     the record that this step notes
--   back t r    the tableau from which a step led to t and noted r
--   halted t    whether the machine stands still at t
--   back_after  a step is undone by its own record, whatever the tableau
--   rest        a halted machine stays where it is
-- Assumes nothing.
use Rattle.std.specs.Prelude.{◌≡◌, Bool, true}

pub record Model (T R : Type 0) : Type 0 where
  pub after : T → T
  pub trace : T → R
  pub back : T → R → T
  pub halted : T → Bool
  pub back_after : (t : T) → back (after t) (trace t) ≡ t
  pub rest : (t : T) → halted t ≡ true → after t ≡ t
