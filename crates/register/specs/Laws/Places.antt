-- same_tableau         tableaux are equal where they agree place by place
-- same_record          records are equal where they agree place by place
-- pc_.., held_..       what each place of a tableau holds that tableau, put or go_to made
-- Assumes nothing.
use Rattle.std.specs.Prelude.{◌≡◌, ℕ, ◌%◌, ◌^◌, ◌<◌, ◌≢◌, List, length, refl}
use Rattle.std.proofs.Common.{sym, ◌∙◌, zero-add, arith}
use mathlib.Core.HLevel.{is_prop→PathP}
use Rattle.std.proofs.Math.Bridge.{le_prop}
use Rattle.std.proofs.Math.Nat.{ℕ_set}
use Rattle.std.proofs.lemmas.List.{ext_get_or}
use Rattle.std.proofs.lemmas.List.FromFn.{get_or-map-range_with_len}
use Rattle.std.proofs.lemmas.Bool.{eq-eqb, ne_eqb}
use Rattle.register.specs.declared.tableau.RegisterTableau.{RegisterTableau}
use Rattle.register.specs.declared.record.RegisterRecord.{RegisterRecord}
use Rattle.register.specs.Ranges.{Ranged, Words}
use Rattle.register.specs.Tableau.{held, tableau, put, go_to}

-- what is in range is so in one way only
pub ranged_prop : (n : ℕ) (rs : List ℕ) → IsProp (Ranged n rs)
ranged_prop n rs p q =
    λ i. (le_prop p.0 q.0 i, ℕ_set (length rs) 8 p.1 q.1 i, λ k h. le_prop (p.2 k h) (q.2 k h) i)

pub words_prop : (a b : ℕ) → IsProp (Words a b)
words_prop a b p q = λ i. (le_prop p.0 q.0 i, le_prop p.1 q.1 i)

pub same_data : (a b : RegisterTableau) → a.pc ≡ b.pc → a.registers ≡ b.registers → a ≡ b
same_data a b p q =
    λ i. record {
      pc = p i;
      registers = q i;
      ranged = is_prop→PathP (λ j. Ranged (p j) (q j)) (λ j. ranged_prop (p j) (q j)) a.ranged b.ranged i;
    }

pub same_tableau : (a b : RegisterTableau) → a.pc ≡ b.pc → ((k : ℕ) → k < 8 → held a k ≡ held b k) → a ≡ b
same_tableau a b p q =
    same_data a b p
    (ext_get_or 0 a.registers b.registers (a.ranged.1 ∙ sym b.ranged.1) (λ k h. q k (rw a.ranged.1 at h)))

pub same_record : (a b : RegisterRecord) → a.pc ≡ b.pc → a.value ≡ b.value → a ≡ b
same_record a b p q =
    λ i. record {
      pc = p i;
      value = q i;
      ranged = is_prop→PathP (λ j. Words (p j) (q j)) (λ j. words_prop (p j) (q j)) a.ranged b.ranged i;
    }

pub pc_tableau : (n : ℕ) (f : ℕ → ℕ) → (tableau n f).pc ≡ n % 2 ^ 32
unfolding tableau
pc_tableau n f = refl

pub held_tableau : (n : ℕ) (f : ℕ → ℕ) (k : ℕ) → k < 8 → held (tableau n f) k ≡ f k % 2 ^ 32
unfolding tableau
held_tableau n f k h = get_or-map-range_with_len (λ k. f k % 2 ^ 32) 0 8 k k 0 h (zero-add k)

pub pc_put : (t : RegisterTableau) (i v : ℕ) → (put t i v).pc ≡ t.pc
unfolding put
pc_put t i v = rw pc_tableau (omega arith)

pub held_put_same : (t : RegisterTableau) (i v : ℕ) → i < 8 → held (put t i v) i ≡ v % 2 ^ 32
unfolding put
held_put_same t i v h = rw held_tableau (rw (eq-eqb i i refl))

pub held_put_other : (t : RegisterTableau) (i v k : ℕ) → k < 8 → k ≢ i → held (put t i v) k ≡ held t k
unfolding put
held_put_other t i v k h ne = let r = t.ranged.2 k h in rw held_tableau (rw (ne_eqb k i ne) (omega arith))

pub pc_go_to : (t : RegisterTableau) (n : ℕ) → (go_to t n).pc ≡ n % 2 ^ 32
unfolding go_to
pc_go_to t n = pc_tableau n (held t)

pub held_go_to : (t : RegisterTableau) (n k : ℕ) → k < 8 → held (go_to t n) k ≡ held t k
unfolding go_to
held_go_to t n k h = let r = t.ranged.2 k h in rw held_tableau (omega arith)
