-- Which checkpoints are live, and which lists of moves are legal; nothing here is about one schedule.
--   moved        what is live after one move: its checkpoint if it places, not if it removes, all others as before
--   live         what is live after a list of moves that starts with nothing live
--   Allowed      a move works from the input or a live checkpoint, places what is not live, removes what is
--   Legal        every move of a list is allowed where it stands
--   live_count   how many of the checkpoints 1 .. n are live
-- Assumes nothing.
use Rattle.std.specs.Prelude.{◌≡◌, ℕ, suc, ◌<◌, Bool, true, false, cond, not, List, [], ◌∷◌, count_by, ◌==◌}
use Rattle.std.specs.List.{range_with_len}
use Rattle.schedule.specs.declared.moves.Move.{Move}
use Rattle.schedule.specs.declared.moves.Change.{Change}
use Rattle.schedule.specs.declared.moves.Change.TheVariants.{Place, Remove}

abbrev pub places : Change → Bool
places Place = true
places Remove = false

abbrev pub moved : (ℕ → Bool) → Move → ℕ → Bool
moved now m j = cond (j == suc m.segment) (places m.change) (now j)

abbrev pub live_from : (ℕ → Bool) → List Move → ℕ → Bool
live_from now [] = now
live_from now (m ∷ ms) = live_from (moved now m) ms

abbrev pub live : List Move → ℕ → Bool
live ms = live_from (λ _. false) ms

abbrev pub Allowed : (ℕ → Bool) → Move → Type 0
Allowed now m = (0 < m.segment → now m.segment ≡ true) × (now (suc m.segment) ≡ not (places m.change))

abbrev pub LegalFrom : (ℕ → Bool) → List Move → Type 0
LegalFrom now [] = Unit {0}
LegalFrom now (m ∷ ms) = Allowed now m × LegalFrom (moved now m) ms

abbrev pub Legal : List Move → Type 0
Legal ms = LegalFrom (λ _. false) ms

abbrev pub live_count : List Move → ℕ → ℕ
live_count ms n = count_by (live ms) (range_with_len 1 n)
