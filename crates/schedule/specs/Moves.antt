-- The moves of Bennett's nested schedule (1989).
--   rising f n    the lists f 0, f 1, .. f (n - 1), joined in this order
--   falling f n   the lists f (n - 1), .. f 1, f 0, joined in this order
--   moves         the two recursions: `moves k Place` is Build, `moves k Remove` is Unbuild
--   turned        the move that undoes a move
-- Assumes nothing.
use Rattle.std.specs.Prelude.{ℕ, zero, suc, pred, ◌+◌, ◌*◌, ◌^◌, List, [], ◌∷◌, ◌++◌}
use Rattle.schedule.specs.declared.moves.Move.{Move}
use Rattle.schedule.specs.declared.moves.Change.{Change}
use Rattle.schedule.specs.declared.moves.Change.TheVariants.{Place, Remove}

abbrev pub rising : {A : Type 0} → (ℕ → List A) → ℕ → List A
rising f zero = []
rising f (suc n) = rising f n ++ f n

abbrev pub falling : {A : Type 0} → (ℕ → List A) → ℕ → List A
falling f zero = []
falling f (suc n) = f n ++ falling f n

-- the moves that place (or remove) checkpoint a + k ^ l, starting from checkpoint a
unfoldable pub moves : ℕ → Change → ℕ → ℕ → List Move
moves k Place zero a = record { change = Place; segment = a } ∷ []
moves k Remove zero a = record { change = Remove; segment = a } ∷ []
moves k Place (suc l) a =
    rising (λ i. moves k Place l (a + i * k ^ l)) k ++ falling (λ i. moves k Remove l (a + i * k ^ l)) (pred k)
moves k Remove (suc l) a =
    rising (λ i. moves k Place l (a + i * k ^ l)) (pred k) ++ falling (λ i. moves k Remove l (a + i * k ^ l)) k

abbrev pub opposite : Change → Change
opposite Place = Remove
opposite Remove = Place

abbrev pub turned : Move → Move
turned m = record { change = opposite m.change; segment = m.segment }
