-- A register written in place: the tableau is the one that `put` says.
-- Assumes nothing.
use Rattle.std.proofs.Common.{◌≡◌, ℕ, ◌%◌, ◌^◌, ◌<◌, length, set, sym, ◌∙◌, ⊎_elim, arith}
use Rattle.std.proofs.lemmas.List.{get_or-set_same, get_or-set_other}
use Rattle.std.proofs.lemmas.Bool.{cases_eq}
use Rattle.register.specs.declared.tableau.RegisterTableau.{RegisterTableau}
use Rattle.register.specs.Ranges.{Ranged}
use Rattle.register.specs.Tableau.{put}
use Rattle.register.specs.Laws.Places.{same_tableau, pc_put, held_put_same, held_put_other}

pub put_set : (t : RegisterTableau) (i v : ℕ) (r : Ranged t.pc (set t.registers i v)) → i < 8 → v < 2 ^ 32 → record { pc = t.pc; registers = set t.registers i v; ranged = r } ≡ put t i v
put_set t i v r below small =
    let fits : v ≡ v % 2 ^ 32 = omega arith in
    same_tableau _ _ (sym (pc_put t i v))
    (λ k h. ⊎_elim
    (λ e. let within : i < length t.registers = omega arith in rw e (get_or-set_same t.registers i v 0 within ∙ fits ∙ sym (held_put_same t i v below)))
    (λ ne. get_or-set_other t.registers i k v 0 ne ∙ sym (held_put_other t i v k h ne))
    (cases_eq k i))
