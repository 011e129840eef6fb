-- What holds of the whole schedule at every fan-out k of 2 or more and every depth n.
--   build    the moves that place the last checkpoint, k ^ n, from nothing
--   undone   a list of moves taken back: each turned, the last one first
--   Sound    the counts and laws by which a run is sized
-- `take t (build k n)` is what has been done after t moves.
-- Assumes nothing.
use Rattle.std.specs.Prelude.{◌≡◌, ℕ, ◌-◌, ◌^◌, ◌<◌, ◌≤◌, true, List, ◌++◌, map, reverse, length, take, ◌==◌}
use Rattle.schedule.specs.declared.moves.Move.{Move}
use Rattle.schedule.specs.declared.moves.Change.TheVariants.{Place, Remove}
use Rattle.schedule.specs.Sizes.{moves_count, slots_count}
use Rattle.schedule.specs.Moves.{moves, turned}
use Rattle.schedule.specs.Live.{live, Legal, live_count}
use Rattle.schedule.specs.Slots.{slot, Shelving}

abbrev pub build : ℕ → ℕ → List Move
build k n = moves k Place n 0

abbrev pub undone : List Move → List Move
undone ms = reverse (map turned ms)

pub record Sound (k n : ℕ) : Type 0 where
  pub counted : length (build k n) ≡ moves_count k n
  pub taken_back : moves k Remove n 0 ≡ undone (build k n)
  pub legal : Legal (build k n)
  pub last_alone : (j : ℕ) → live (build k n) j ≡ (j == k ^ n)
  pub in_range : (t j : ℕ) → live (take t (build k n)) j ≡ true → (0 < j) × (j ≤ k ^ n)
  pub shelved : Shelving k n
  pub on_shelf : (j : ℕ) → slot k n j < slots_count k n
  pub apart : (t i j : ℕ) → live (take t (build k n)) i ≡ true → live (take t (build k n)) j ≡ true → slot k n i ≡ slot k n j → i ≡ j
  pub never_more : (t : ℕ) → live_count (take t (build k n)) (k ^ n) ≤ slots_count k n
  pub full_once : (t : ℕ) × (t ≤ moves_count k n) × (live_count (take t (build k n)) (k ^ n) ≡ slots_count k n)
  pub undoing_legal : Legal (build k n ++ undone (build k n))
  pub undoing_front : (u j : ℕ) → u ≤ moves_count k n → live (build k n ++ take u (undone (build k n))) j ≡ live (take (moves_count k n - u) (build k n)) j
  pub never_empty : (t : ℕ) → 0 < t → (j : ℕ) × (live (take t (build k n)) j ≡ true)
