-- register_model p   the register machine with the program p, with its laws, for every program and every tableau
-- Assumes nothing.
use Rattle.std.specs.Prelude.{◌≡◌, ℕ, ◌%◌, ◌^◌, ◌<◌, true, ◌≢◌, List, Some, ◌==◌, refl}
use Rattle.std.proofs.Common.{ap, ◌∙◌, ⊎_elim, arith}
use Rattle.std.proofs.lemmas.Bool.{cases_eq, cond_both, false≢true}
use Rattle.machine.specs.Model.{Model}
use Rattle.register.specs.declared.registers.Register.{Register}
use Rattle.register.specs.declared.instruction.Instruction.{Instruction}
use Rattle.register.specs.declared.instruction.Instruction.TheVariants.{Halt, Increment, Decrement, JumpIfZero, Jump, Copy, Add}
use Rattle.register.specs.declared.tableau.RegisterTableau.{RegisterTableau}
use Rattle.register.specs.declared.record.RegisterRecord.{RegisterRecord}
use Rattle.register.specs.Tableau.{held, put, go_to, note}
use Rattle.register.specs.Step.{at, is_halt, written, next, effect, old_value, undone, after, trace, back, halted}
use Rattle.register.specs.Laws.Places.{same_tableau, pc_put, held_put_same, held_put_other, pc_go_to, held_go_to}

-- from a tableau u with the registers of t, the program counter of t leads back to t
jumped_back : (t u : RegisterTableau) → ((k : ℕ) → k < 8 → held u k ≡ held t k) → go_to u (t.pc % 2 ^ 32) ≡ t
jumped_back t u same = same_tableau _ _ (rw pc_go_to (omega arith)) (λ k h. held_go_to u _ k h ∙ same k h)

-- and where one register differs, its old value is wanted besides
put_back : (t u : RegisterTableau) (i : ℕ) → ((k : ℕ) → k < 8 → k ≢ i → held u k ≡ held t k) → i < 8 → put (go_to u (t.pc % 2 ^ 32)) i (held t i % 2 ^ 32) ≡ t
put_back t u i same below =
    let w = go_to u (t.pc % 2 ^ 32) in
    let v = held t i % 2 ^ 32 in
    let r = t.ranged.2 i below in
    same_tableau _ _ (rw (pc_put, pc_go_to) (omega arith))
    (λ k h. ⊎_elim
    (λ e. rw e (held_put_same w i v below ∙ omega arith))
    (λ ne. held_put_other w i v k h ne ∙ held_go_to u _ k h ∙ same k h ne)
    (cases_eq k i))

-- an instruction that writes the register a is undone by the old value of a
unwritten : (t : RegisterTableau) (a : Register) (v : ℕ) → undone (put (next t) a.index v) (Some a) (note t.pc (held t a.index)) ≡ t
unwritten t a v =
    put_back t (put (next t) a.index v) a.index
    (λ k h ne. held_put_other (next t) a.index v k h ne ∙ held_go_to t _ k h) a.below

undone_effect : (i : Instruction) (t : RegisterTableau) → undone (effect i t) (written i) (note t.pc (old_value t (written i))) ≡ t
undone_effect Halt t = jumped_back t t (λ k h. refl)
undone_effect (Increment a) t = unwritten t a _
undone_effect (Decrement a) t = unwritten t a _
undone_effect (JumpIfZero a n) t =
    cond_both (held t a.index == 0) (go_to t n) (next t) (λ u. go_to u (t.pc % 2 ^ 32) ≡ t)
    (λ _. jumped_back t (go_to t n) (held_go_to t n)) (λ _. jumped_back t (next t) (held_go_to t _))
undone_effect (Jump n) t = jumped_back t (go_to t n) (held_go_to t n)
undone_effect (Copy into from) t = unwritten t into _
undone_effect (Add into from) t = unwritten t into _

pub back_after : (p : List Instruction) (t : RegisterTableau) → back p (after p t) (trace p t) ≡ t
back_after p t =
    let same_place : t.pc % 2 ^ 32 ≡ t.pc = omega arith in
    ap (λ n. undone (after p t) (written (at p n)) (trace p t)) same_place ∙ undone_effect (at p t.pc) t

halt_rests : (i : Instruction) (t : RegisterTableau) → is_halt i ≡ true → effect i t ≡ t
halt_rests Halt t e = refl
halt_rests (Increment a) t e = absurd (false≢true e)
halt_rests (Decrement a) t e = absurd (false≢true e)
halt_rests (JumpIfZero a n) t e = absurd (false≢true e)
halt_rests (Jump n) t e = absurd (false≢true e)
halt_rests (Copy into from) t e = absurd (false≢true e)
halt_rests (Add into from) t e = absurd (false≢true e)

pub rest : (p : List Instruction) (t : RegisterTableau) → halted p t ≡ true → after p t ≡ t
rest p t e = halt_rests (at p t.pc) t e

abbrev pub register_model : List Instruction → Model RegisterTableau RegisterRecord
register_model p = record {
  after = after p;
  trace = trace p;
  back = back p;
  halted = halted p;
  back_after = back_after p;
  rest = rest p;
}
