-- What the input line asks for.
--   unspaced   a text without the spaces that it begins with
--   Splits     behind its spaces the text begins with a word without a space and then a space, and `after` follows
--   Writes     the text is decimal digits alone, and writes the number n, of at most 32 bits
--   Asked      the line is three such texts with spaces between them, and none behind the last
--   Reads      what a line is read as: the sizes that it asks for, or an error where it asks for none
--   sizes_of   the sizes asked for as those of a plan, which may take as many ticks as a plan can
-- Assumes nothing.
use Rattle.std.specs.Prelude.{◌≡◌, ℕ, ◌^◌, ◌<◌, cond, List, [], ◌∷◌, ◌++◌, ◌==◌, length, get_or, Result, MatchResult}
use Rattle.std.specs.Str.Parse.{IsNumeral, digits_value}
use Rattle.schedule.specs.declared.sizes.Sizes.{Sizes as PlanSizes}
use Rattle.sizing.specs.declared.words.Sizes.{Sizes}

unfoldable pub unspaced : List ℕ → List ℕ
unspaced [] = []
unspaced (c ∷ cs) = cond (c == 32) (unspaced cs) (c ∷ cs)

pub record Splits (text word after : List ℕ) : Type 0 where
  pub begins : unspaced text ≡ word ++ (32 ∷ after)
  pub unbroken : (i : ℕ) → i < length word → get_or word i 0 ≡ 32 → ⊥

pub record Writes (ds : List ℕ) (n : ℕ) : Type 0 where
  pub digits : IsNumeral 10 ds
  pub is : digits_value 10 ds ≡ n
  pub fits : n < 2 ^ 32

pub record Asked (line : List ℕ) (s : Sizes) : Type 0 where
  pub first : List ℕ
  pub second : List ℕ
  pub third : List ℕ
  pub after_first : List ℕ
  pub after_second : List ℕ
  pub begins : unspaced line ≡ first ++ (32 ∷ after_first)
  pub goes_on : unspaced after_first ≡ second ++ (32 ∷ after_second)
  pub ends : unspaced after_second ≡ third
  pub fan_out : Writes first s.fan_out
  pub depth : Writes second s.depth
  pub steps : Writes third s.steps

abbrev pub Reads : {E : Type 0} → List ℕ → Result Sizes E → Type 0
Reads line r = MatchResult r (Asked line) (λ _. (s : Sizes) → Asked line s → ⊥)

abbrev pub sizes_of : Sizes → PlanSizes
sizes_of s =
    record { fan_out = s.fan_out; depth = s.depth; steps = s.steps; allowance = 1_000_000_000_000_000 }
