-- A job byte by byte: a counter (jz 1,4 and dec 1 and inc 0 and jmp 0, and a halt) from r0 = 2 and r1 = 1, at fan-out 2, depth 1,
-- 3 steps to a segment and an allowance of 1,000 ticks. It has 96 bytes.
use Rattle.std.proofs.Common.{◌≡◌, ℕ, List, [], ◌∷◌, ◌++◌, length, replicate, Ok, refl}
use Rattle.layout.specs.declared.kinds.Kind.TheVariants as kind
use Rattle.layout.specs.Jobs.{Job, encode, fields}
use Rattle.layout.specs.Judging.{judge}
use Rattle.layout.specs.Numbers.{spelling, number}
use Rattle.layout.specs.Programs.{entries, first_far}

abbrev counter : Job
counter =
    record {
      kind = kind.Register;
      fan_out = 2;
      depth = 1;
      steps = 3;
      allowance = 1000;
      program = (3 ∷ 1 ∷ 0 ∷ 4 ∷ []) ∷ (2 ∷ 1 ∷ 0 ∷ 0 ∷ []) ∷ (1 ∷ 0 ∷ 0 ∷ 0 ∷ []) ∷ (4 ∷ 0 ∷ 0 ∷ 0 ∷ []) ∷ (0 ∷ 0 ∷ 0 ∷ 0 ∷ []) ∷ [];
      start = (0 ∷ 0 ∷ 0 ∷ 0 ∷ []) ++ ((0 ∷ 0 ∷ 0 ∷ 2 ∷ []) ++ ((0 ∷ 0 ∷ 0 ∷ 1 ∷ []) ++ replicate 24 0));
    }

abbrev counter_bytes : List ℕ
counter_bytes =
    (1 ∷ 0 ∷ 1 ∷ 1 ∷ [])
    ++ ((2 ∷ 0 ∷ 12 ∷ 2 ∷ 1 ∷ 0 ∷ 3 ∷ 0 ∷ 0 ∷ 0 ∷ 0 ∷ 0 ∷ 0 ∷ 3 ∷ 232 ∷ [])
    ++ ((3 ∷ 0 ∷ 35 ∷ [])
    ++ ((16 ∷ 0 ∷ 4 ∷ 3 ∷ 1 ∷ 0 ∷ 4 ∷ [])
    ++ ((16 ∷ 0 ∷ 4 ∷ 2 ∷ 1 ∷ 0 ∷ 0 ∷ [])
    ++ ((16 ∷ 0 ∷ 4 ∷ 1 ∷ 0 ∷ 0 ∷ 0 ∷ [])
    ++ ((16 ∷ 0 ∷ 4 ∷ 4 ∷ 0 ∷ 0 ∷ 0 ∷ [])
    ++ ((16 ∷ 0 ∷ 4 ∷ 0 ∷ 0 ∷ 0 ∷ 0 ∷ [])
    ++ ((4 ∷ 0 ∷ 36 ∷ [])
    ++ ((0 ∷ 0 ∷ 0 ∷ 0 ∷ []) ++ ((0 ∷ 0 ∷ 0 ∷ 2 ∷ []) ++ ((0 ∷ 0 ∷ 0 ∷ 1 ∷ []) ++ replicate 24 0)))))))))))

counter_long : length counter_bytes ≡ 96
counter_long = refl

counter_written : encode counter ≡ counter_bytes
unfolding spelling fields
counter_written = refl

counter_read : judge counter_bytes ≡ Ok counter
unfolding number entries first_far
counter_read = refl
