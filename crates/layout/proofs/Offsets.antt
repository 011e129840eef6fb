-- The offset of a wrong byte lies within what is judged.
use Rattle.std.proofs.Common.{◌≡◌, ℕ, suc, ◌+◌, ◌-◌, ◌<◌, ◌≤◌, Bool, true, false, cond, eqb, leb, List, [], ◌∷◌, length, get_or, drop, Some, None, Option, IfSome, option_map, refl, arith, length-append, length-drop}
use Rattle.std.specs.List.{AllByRecursion}
use Rattle.std.proofs.lemmas.Option.{IfSome_then}
use Rattle.schedule.specs.Sizes.{first_wrong, fan_out_legal, depth_legal, steps_legal, allowance_legal}
use Rattle.layout.specs.declared.kinds.Kind.{Kind}
use Rattle.layout.specs.declared.kinds.Kind.TheVariants.{Register, Rewriting}
use Rattle.layout.specs.Fields.{field, legal}
use Rattle.layout.specs.Programs.{inner, first_operand, second_operand, fits, second, instruction_wrong, first_zero, sides_fit, rule_wrong, too_far, first_far, far_jump}
use Rattle.layout.specs.Jobs.{fields, start_wrong}
use Rattle.layout.proofs.Fields.{between_parts, length_field}
use Rattle.layout.proofs.Programs.{Right}

-- what the value in a Some has, if each way to it has it
cond_some : (P : ℕ → Type 0) (b : Bool) (o : Option ℕ) (k : ℕ) → (b ≡ true → IfSome o P) → P k → IfSome (cond b o (Some k)) P
cond_some P true o k h here = h refl
cond_some P false o k h here = here

-- the same where the Some comes first
found_some : (P : ℕ → Type 0) (b : Bool) (o : Option ℕ) (k : ℕ) → P k → IfSome o P → IfSome (cond b (Some k) o) P
found_some P true o k here h = here
found_some P false o k here h = h

-- what a mapped value has, the value has through the map
map_some : (P : ℕ → Type 0) (f : ℕ → ℕ) (o : Option ℕ) → IfSome o (λ k. P (f k)) → IfSome (option_map f o) P
map_some P f None h = tt
map_some P f (Some k) h = h

-- the first 0 of a list lies in the list
pub first_zero_within : (xs : List ℕ) → IfSome (first_zero xs) (λ k. k < length xs)
unfolding first_zero
first_zero_within [] = tt
first_zero_within (x ∷ xs) =
    let P = λ (k : ℕ). k < suc (length xs) in
    found_some P (eqb x 0) (option_map suc (first_zero xs)) 0 (omega arith)
    (map_some P suc (first_zero xs) (IfSome_then (first_zero xs) (first_zero_within xs) (λ k h. omega arith)))

-- a wrong byte of an instruction lies in its four bytes
instruction_within : (b : List ℕ) → length b ≡ 4 → IfSome (instruction_wrong b) (λ k. k < length b)
instruction_within b e =
    let P = λ (k : ℕ). k < length b in
    let op = get_or b 0 0 in
    cond_some P (leb op 6) _ 0 (λ _.
    cond_some P (fits (first_operand op) (get_or b 1 0)) _ 1 (λ _.
    cond_some P (fits (second_operand op) (second b)) None 2 (λ _. tt) (omega arith)) (omega arith)) (omega arith)

-- a wrong byte of a rule lies in its body
rule_within : (b : List ℕ) → 2 ≤ length b → IfSome (rule_wrong b) (λ k. k < length b)
rule_within b h =
    let P = λ (k : ℕ). k < length b in
    let n = length b - 2 in
    cond_some P (leb (get_or b 0 0) 1) _ 0 (λ _.
    cond_some P (sides_fit (get_or b 1 0) n) (option_map (λ i. 2 + i) (first_zero (drop 2 b))) 1 (λ _.
    map_some P (λ i. 2 + i) (first_zero (drop 2 b))
    (IfSome_then (first_zero (drop 2 b)) (first_zero_within (drop 2 b)) (λ k g. omega (arith, length-drop 2 b)))) (omega arith)) (omega arith)

-- a wrong byte of an inner field's body lies in the body
pub wrong_within : (kind : Kind) (b : List ℕ) → legal (inner kind).lengths (length b) ≡ true → IfSome ((inner kind).wrong b) (λ k. k < length b)
wrong_within Register b e =
    let n = between_parts 4 4 (length b) e in
    instruction_within b (omega arith)
wrong_within Rewriting b e = rule_within b (between_parts 2 18 (length b) e).0

-- a target that is too far lies in the rows, if each body has four bytes
first_far_within : (tag count offset : ℕ) (bodies : List (List ℕ)) → AllByRecursion (λ b. length b ≡ 4) bodies → IfSome (first_far count offset bodies) (λ k. k < offset + length (fields tag bodies))
unfolding first_far fields
first_far_within tag count offset [] h = tt
first_far_within tag count offset (b ∷ bs) h =
    let P = λ (k : ℕ). k < offset + length (fields tag (b ∷ bs)) in
    let next = 3 + length b + offset in
    let long : length (fields tag (b ∷ bs)) ≡ 3 + length b + length (fields tag bs) = omega (arith, length-append (field tag b) (fields tag bs), length_field tag b) in
    found_some P (too_far count b) (first_far count next bs) (5 + offset) (omega (arith, h.0))
    (IfSome_then (first_far count next bs) (first_far_within tag count next bs h.1) (λ k g. omega arith))

-- the body of an instruction has four bytes
four_long : (bodies : List (List ℕ)) → AllByRecursion (Right (inner Register)) bodies → AllByRecursion (λ b. length b ≡ 4) bodies
four_long [] h = tt
four_long (b ∷ bs) h = let n = between_parts 4 4 (length b) h.0.0 in (omega arith, four_long bs h.1)

-- a target that is too far lies in the program
pub far_within : (kind : Kind) (bodies : List (List ℕ)) → AllByRecursion (Right (inner kind)) bodies → IfSome (far_jump kind bodies) (λ k. k < length (fields (inner kind).tag bodies))
far_within Register bodies h =
    IfSome_then (first_far (length bodies) 0 bodies) (first_far_within 16 (length bodies) 0 bodies (four_long bodies h)) (λ k g. omega arith)
far_within Rewriting bodies h = tt

-- a wrong byte of a start lies in the start
pub start_within : (kind : Kind) (start : List ℕ) → IfSome (start_wrong kind start) (λ k. k < length start)
start_within Register start = tt
start_within Rewriting start = first_zero_within start

-- a size that is out of its limits stands in the twelve bytes of the sizes
pub sizes_within : (k n m a : ℕ) → IfSome (first_wrong k n m a) (λ p. p < 12)
sizes_within k n m a =
    let P = λ (p : ℕ). p < 12 in
    cond_some P (fan_out_legal k) _ 0 (λ _.
    cond_some P (depth_legal k n) _ 1 (λ _.
    cond_some P (steps_legal m) _ 2 (λ _.
    cond_some P (allowance_legal a) None 4 (λ _. tt) (omega arith)) (omega arith)) (omega arith)) (omega arith)
