-- at p n          the instruction at place n of the program p; past its end stands a Halt
-- is_halt i       i is Halt
-- written i       the register that i writes, if any
-- next t          t with its program counter one on, modulo 2^32
-- effect i t      the tableau after the instruction i
-- old_value t o   what the register o of t holds, and 0 where there is none
-- undone t o r    t with the program counter of the record r, and with its value in the register o, if any
-- halted, after, trace, back   the register machine with the program p
-- Assumes nothing.
use Rattle.std.specs.Prelude.{ℕ, ◌+◌, ◌-◌, ◌%◌, ◌^◌, Bool, true, false, cond, List, Some, None, Option, ◌==◌, slice_index_or}
use Rattle.register.specs.declared.registers.Register.{Register}
use Rattle.register.specs.declared.instruction.Instruction.{Instruction}
use Rattle.register.specs.declared.instruction.Instruction.TheVariants.{Halt, Increment, Decrement, JumpIfZero, Jump, Copy, Add}
use Rattle.register.specs.declared.tableau.RegisterTableau.{RegisterTableau}
use Rattle.register.specs.declared.record.RegisterRecord.{RegisterRecord}
use Rattle.register.specs.Tableau.{held, put, go_to, note}

abbrev pub at : List Instruction → ℕ → Instruction
at p n = slice_index_or p n Halt

abbrev pub is_halt : Instruction → Bool
is_halt Halt = true
is_halt (Increment a) = false
is_halt (Decrement a) = false
is_halt (JumpIfZero a n) = false
is_halt (Jump n) = false
is_halt (Copy into from) = false
is_halt (Add into from) = false

abbrev pub written : Instruction → Option Register
written Halt = None
written (Increment a) = Some a
written (Decrement a) = Some a
written (JumpIfZero a n) = None
written (Jump n) = None
written (Copy into from) = Some into
written (Add into from) = Some into

abbrev pub next : RegisterTableau → RegisterTableau
next t = go_to t ((t.pc + 1) % 2 ^ 32)

abbrev pub effect : Instruction → RegisterTableau → RegisterTableau
effect Halt t = t
effect (Increment a) t = put (next t) a.index ((held t a.index + 1) % 2 ^ 32)
effect (Decrement a) t = put (next t) a.index (held t a.index - 1)
effect (JumpIfZero a n) t = cond (held t a.index == 0) (go_to t n) (next t)
effect (Jump n) t = go_to t n
effect (Copy into from) t = put (next t) into.index (held t from.index)
effect (Add into from) t = put (next t) into.index ((held t into.index + held t from.index) % 2 ^ 32)

abbrev pub old_value : RegisterTableau → Option Register → ℕ
old_value t None = 0
old_value t (Some a) = held t a.index

abbrev pub undone : RegisterTableau → Option Register → RegisterRecord → RegisterTableau
undone t None r = go_to t r.pc
undone t (Some a) r = put (go_to t r.pc) a.index r.value

abbrev pub halted : List Instruction → RegisterTableau → Bool
halted p t = is_halt (at p t.pc)

abbrev pub after : List Instruction → RegisterTableau → RegisterTableau
after p t = effect (at p t.pc) t

abbrev pub trace : List Instruction → RegisterTableau → RegisterRecord
trace p t = note t.pc (old_value t (written (at p t.pc)))

abbrev pub back : List Instruction → RegisterTableau → RegisterRecord → RegisterTableau
back p t r = undone t (written (at p r.pc)) r
