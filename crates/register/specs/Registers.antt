-- NamesRegister n r   r is the register with the number n, or the error that there is none, at the numbers from 8 on
-- unknown_text e      the bytes of `no register has the number NUMBER`, the number in decimal
-- Assumes nothing.
use Rattle.std.specs.Prelude.{◌≡◌, ℕ, ◌≤◌, List, ◌++◌, Result, MatchResult, codes, decimal}
use Rattle.register.specs.declared.registers.Register.{Register}
use Rattle.register.specs.declared.registers.UnknownRegister.{UnknownRegister}

abbrev pub NamesRegister : ℕ → Result Register UnknownRegister → Type 0
NamesRegister n r = MatchResult r (λ x. x.index ≡ n) (λ e. (e.0 ≡ n) × (8 ≤ n))

abbrev pub unknown_text : UnknownRegister → List ℕ
unknown_text e = codes "no register has the number " ++ decimal e.0
