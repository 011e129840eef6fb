-- How large the numbers of legal sizes get.
use Rattle.std.proofs.Common.{◌≡◌, ℕ, suc, ◌+◌, ◌-◌, ◌*◌, ◌^◌, ◌<◌, ◌≤◌, sym, ap, ◌∙◌, mul-le-mul, arith}
use native.Mathlib.Nat.{pow-succ', pow-le-pow_left, pow-le-pow_right}
use Rattle.schedule.specs.Sizes.{base}

power_bound : (b m n : ℕ) → b ≤ m → 0 < m → n ≤ 8 → b ^ n ≤ m ^ 8
power_bound b m n h p g = omega (arith, pow-le-pow_left {n = b} {m = m} h n, pow-le-pow_right {n = m} p {i = n} {j = 8} g)

pub segments_bound : (k n : ℕ) → k ≤ 8 → n ≤ 8 → k ^ n ≤ 2 ^ 24
segments_bound k n h g = power_bound k 8 n h (omega arith) g

pub moves_bound : (k n : ℕ) → k ≤ 8 → n ≤ 8 → base k ^ n ≤ 3_000_000_000
moves_bound k n h g = omega (arith, power_bound (base k) 15 n (omega arith) (omega arith) g)

pub ticks_bound : (k n m : ℕ) → k ≤ 8 → n ≤ 8 → m ≤ 1024 → 2 * base k ^ n * (2 * m + 3) ≤ 12_306_000_000_000
ticks_bound k n m h g f =
    mul-le-mul {n₁ = 2 * base k ^ n} {m₁ = 2 * m + 3} {n₂ = 6_000_000_000} {m₂ = 2051} (omega (arith, moves_bound k n h g)) (omega arith)

-- a level and the one of its blocks, of which it has b
pub level_suc : (level : ℕ) → (level ≡ 0 → ⊥) → level ≡ suc (level - 1)
level_suc level pos = omega (arith, pos)

pub whole_level : (b level : ℕ) → (level ≡ 0 → ⊥) → b * b ^ (level - 1) ≡ b ^ level
whole_level b level pos = sym (pow-succ' b (level - 1)) ∙ ap (λ l. b ^ l) (sym (level_suc level pos))

pub ruleset bounds = (segments_bound, moves_bound, ticks_bound)
