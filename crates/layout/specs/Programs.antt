-- The program of a job: a row of inner fields, one for each instruction or rule.
--   first_operand op, second_operand op   what the operands of the instruction with the number op stand for
--   fits operand x        x is a value that the operand may have; whether a target is too far shows at the program's end
--   first_zero xs         the place of the first 0 in xs, if any
--   instruction_wrong b   the place of the first wrong byte in an instruction's body: op, first operand, second in two bytes
--   rule_wrong b          the same in a rule's body: final or not, left length, left side, right side
--   Inner, inner kind     tag, greatest number, lengths and first wrong byte of a program's inner fields, by kind of job
--   entries               the bodies of the inner fields in xs, which begins at place, if none is wrong and at most `left` of them
--   too_far count b       b jumps past the place behind the last of count instructions
--   far_jump              the offset of the first target that is too far in a program
-- Assumes nothing.
use Rattle.std.specs.Prelude.{ℕ, zero, suc, ◌+◌, ◌-◌, Bool, true, false, cond, ◌&&◌, List, [], ◌∷◌, length, take, drop, Some, None, Ok, Option, Result, ◌==◌, nat_le, nat_lt, slice_index}
use Rattle.std.specs.Option.{option_map}
use Rattle.refusal.specs.declared.kinds.Refusal.{Refusal}
use Rattle.refusal.specs.declared.kinds.Fault.TheVariants.{Value, Count}
use Rattle.layout.specs.declared.kinds.Kind.{Kind}
use Rattle.layout.specs.declared.kinds.Kind.TheVariants as kind
use Rattle.layout.specs.declared.kinds.Lengths.{Lengths}
use Rattle.layout.specs.declared.kinds.Operand.{Operand}
use Rattle.layout.specs.declared.kinds.Operand.TheVariants as operand
use Rattle.layout.specs.Numbers.{number}
use Rattle.layout.specs.Fields.{between, refuse, then, unless, body_at}

-- 0 halt, 1 increment a, 2 decrement a, 3 jump to b if a is 0, 4 jump to b, 5 copy b into a, 6 add b to a
abbrev pub first_operand : ℕ → Operand
first_operand op = cond (op == 0) operand.Unused (cond (op == 4) operand.Unused operand.Register)

abbrev pub second_operand : ℕ → Operand
second_operand op = cond (nat_lt op 3) operand.Unused (cond (nat_lt op 5) operand.Target operand.Register)

abbrev pub fits : Operand → ℕ → Bool
fits operand.Unused x = x == 0
fits operand.Register x = nat_lt x 8
fits operand.Target x = true

-- the second operand of an instruction's body
abbrev pub second : List ℕ → ℕ
second b = number (take 2 (drop 2 b))

abbrev pub instruction_wrong : List ℕ → Option ℕ
instruction_wrong b =
    cond (nat_le (slice_index b 0) 6)
    (cond (fits (first_operand (slice_index b 0)) (slice_index b 1))
    (cond (fits (second_operand (slice_index b 0)) (second b)) None (Some 2))
    (Some 1))
    (Some 0)

unfoldable pub first_zero : List ℕ → Option ℕ
first_zero [] = None
first_zero (x ∷ xs) = cond (x == 0) (Some 0) (option_map suc (first_zero xs))

-- both sides have at most 8 bytes if the left one has l of n
abbrev pub sides_fit : ℕ → ℕ → Bool
sides_fit l n = nat_le l 8 && (nat_le l n && nat_le (n - l) 8)

abbrev pub rule_wrong : List ℕ → Option ℕ
rule_wrong b =
    cond (nat_le (slice_index b 0) 1)
    (cond (sides_fit (slice_index b 1) (length b - 2)) (option_map (λ i. 2 + i) (first_zero (drop 2 b))) (Some 1))
    (Some 0)

pub record Inner : Type 0 where
  pub tag : ℕ
  pub most : ℕ
  pub lengths : Option Lengths
  pub wrong : List ℕ → Option ℕ

abbrev pub inner : Kind → Inner
inner kind.Register = record { tag = 16; most = 256; lengths = between 4 4; wrong = instruction_wrong }
inner kind.Rewriting = record { tag = 17; most = 32; lengths = between 2 18; wrong = rule_wrong }

unfoldable pub entries : Inner → ℕ → ℕ → List ℕ → Result (List (List ℕ)) Refusal
entries i left place [] = Ok []
entries i zero place (x ∷ xs) = refuse Count place
entries i (suc left) place (x ∷ xs) =
    then (body_at i.tag i.lengths place (x ∷ xs)) (λ body.
    unless (i.wrong body) Value (3 + place) (
    then (entries i left (3 + length body + place) (drop (3 + length body) (x ∷ xs))) (λ bodies.
    Ok (body ∷ bodies))))

-- x is a target that no program of count instructions has
abbrev pub beyond : ℕ → Operand → ℕ → Bool
beyond count operand.Unused x = false
beyond count operand.Register x = false
beyond count operand.Target x = nat_lt count x

abbrev pub too_far : ℕ → List ℕ → Bool
too_far count b = beyond count (second_operand (slice_index b 0)) (second b)

-- a jump's target stands 5 bytes into its field
unfoldable pub first_far : ℕ → ℕ → List (List ℕ) → Option ℕ
first_far count offset [] = None
first_far count offset (b ∷ bs) = cond (too_far count b) (Some (5 + offset)) (first_far count (3 + length b + offset) bs)

abbrev pub far_jump : Kind → List (List ℕ) → Option ℕ
far_jump kind.Register bodies = first_far (length bodies) 0 bodies
far_jump kind.Rewriting bodies = None
