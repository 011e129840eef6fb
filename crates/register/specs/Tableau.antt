-- held t k       what register k of t holds
-- tableau n f    the tableau with program counter n and f k in register k, each modulo 2^32
-- zero           all 0
-- plus, minus    sum and difference, place by place, modulo 2^32
-- put t k v      t with v modulo 2^32 in register k
-- go_to t n      t with program counter n modulo 2^32
-- note n v       the record of program counter n and value v, each modulo 2^32
-- Assumes nothing.
use Rattle.std.specs.Prelude.{ℕ, ◌+◌, ◌-◌, ◌%◌, ◌^◌, cond, map, ◌==◌, slice_index}
use Rattle.std.proofs.Common.{mod-lt, zero-add, lit<}
use Rattle.std.specs.List.{range_with_len}
use Rattle.std.proofs.lemmas.List.FromFn.{length-map-range_with_len, get_or-map-range_with_len}
use Rattle.register.specs.declared.tableau.RegisterTableau.{RegisterTableau}
use Rattle.register.specs.declared.record.RegisterRecord.{RegisterRecord}

abbrev pub held : RegisterTableau → ℕ → ℕ
held t k = slice_index t.registers k

unfoldable pub tableau : ℕ → (ℕ → ℕ) → RegisterTableau
tableau n f = record {
  pc = n % 2 ^ 32;
  registers = map (λ k. f k % 2 ^ 32) (range_with_len 0 8);
  ranged = (
    mod-lt n (lit< tt),
    length-map-range_with_len (λ k. f k % 2 ^ 32) 0 8,
    λ k h. rw (get_or-map-range_with_len (λ k. f k % 2 ^ 32) 0 8 k k 0 h (zero-add k)) (mod-lt (f k) (lit< tt)),
  );
}

abbrev pub zero : RegisterTableau
zero = tableau 0 (λ _. 0)

abbrev pub plus : RegisterTableau → RegisterTableau → RegisterTableau
plus a b = tableau (a.pc + b.pc) (λ k. held a k + held b k)

abbrev pub minus : RegisterTableau → RegisterTableau → RegisterTableau
minus a b = tableau (a.pc + (2 ^ 32 - b.pc)) (λ k. held a k + (2 ^ 32 - held b k))

unfoldable pub put : RegisterTableau → ℕ → ℕ → RegisterTableau
put t k v = tableau t.pc (λ j. cond (j == k) v (held t j))

unfoldable pub go_to : RegisterTableau → ℕ → RegisterTableau
go_to t n = tableau n (held t)

abbrev pub note : ℕ → ℕ → RegisterRecord
note n v = record { pc = n % 2 ^ 32; value = v % 2 ^ 32; ranged = (mod-lt n (lit< tt), mod-lt v (lit< tt)) }
