-- same_tableau                      tableaux are equal where they agree byte by byte
-- same_record                       records are equal where they agree byte by byte
-- mark_.., length_.., held_..       what each byte of a tableau is that tableau, marked or spelt made
-- Assumes nothing.
use Rattle.std.specs.Prelude.{◌≡◌, ℕ, ◌%◌, ◌<◌, List, length, slice_index, refl}
use Rattle.std.proofs.Common.{sym, ◌∙◌, zero-add, arith}
use mathlib.Core.HLevel.{is_prop→PathP}
use Rattle.std.proofs.Math.Bridge.{le_prop}
use Rattle.std.proofs.Math.Nat.{ℕ_set}
use Rattle.std.proofs.lemmas.List.{ext_get_or}
use Rattle.std.proofs.lemmas.List.FromFn.{get_or-map-range_with_len}
use Rattle.rewriting.specs.declared.tableau.RewritingTableau.{RewritingTableau}
use Rattle.rewriting.specs.declared.record.RewritingRecord.{RewritingRecord}
use Rattle.rewriting.specs.Ranges.{Ranged, TwoBytes}
use Rattle.rewriting.specs.Tableau.{held, tableau, marked, spelt}

-- what is in range is so in one way only
pub ranged_prop : (m n : ℕ) (xs : List ℕ) → IsProp (Ranged m n xs)
ranged_prop m n xs p q =
    λ i. (
      le_prop p.0 q.0 i,
      le_prop p.1 q.1 i,
      ℕ_set (length xs) 48 p.2 q.2 i,
      λ k h. le_prop (p.3 k h) (q.3 k h) i,
    )

pub two_bytes_prop : (a b : ℕ) → IsProp (TwoBytes a b)
two_bytes_prop a b p q = λ i. (le_prop p.0 q.0 i, le_prop p.1 q.1 i)

pub same_data : (a b : RewritingTableau) → a.mark ≡ b.mark → a.length ≡ b.length → a.text ≡ b.text → a ≡ b
same_data a b p q r =
    λ i. record {
      mark = p i;
      length = q i;
      text = r i;
      ranged = is_prop→PathP (λ j. Ranged (p j) (q j) (r j)) (λ j. ranged_prop (p j) (q j) (r j)) a.ranged b.ranged i;
    }

pub same_tableau : (a b : RewritingTableau) → a.mark ≡ b.mark → a.length ≡ b.length → ((k : ℕ) → k < 48 → held a k ≡ held b k) → a ≡ b
same_tableau a b p q r =
    same_data a b p q
    (ext_get_or 0 a.text b.text (a.ranged.2 ∙ sym b.ranged.2) (λ k h. r k (rw a.ranged.2 at h)))

pub same_record : (a b : RewritingRecord) → a.code ≡ b.code → a.place ≡ b.place → a ≡ b
same_record a b p q =
    λ i. record {
      code = p i;
      place = q i;
      ranged = is_prop→PathP (λ j. TwoBytes (p j) (q j)) (λ j. two_bytes_prop (p j) (q j)) a.ranged b.ranged i;
    }

pub mark_tableau : (m n : ℕ) (f : ℕ → ℕ) → (tableau m n f).mark ≡ m % 256
unfolding tableau
mark_tableau m n f = refl

pub length_tableau : (m n : ℕ) (f : ℕ → ℕ) → (tableau m n f).length ≡ n % 256
unfolding tableau
length_tableau m n f = refl

pub held_tableau : (m n : ℕ) (f : ℕ → ℕ) (k : ℕ) → k < 48 → held (tableau m n f) k ≡ f k % 256
unfolding tableau
held_tableau m n f k h = get_or-map-range_with_len (λ k. f k % 256) 0 48 k k 0 h (zero-add k)

pub mark_marked : (t : RewritingTableau) (m : ℕ) → (marked t m).mark ≡ m % 256
unfolding marked
mark_marked t m = mark_tableau m _ _

pub length_marked : (t : RewritingTableau) (m : ℕ) → (marked t m).length ≡ t.length
unfolding marked
length_marked t m = rw length_tableau (omega arith)

pub held_marked : (t : RewritingTableau) (m k : ℕ) → k < 48 → held (marked t m) k ≡ held t k
unfolding marked
held_marked t m k h = let r = t.ranged.3 k h in rw held_tableau (omega arith)

pub mark_spelt : (m : ℕ) (xs : List ℕ) → (spelt m xs).mark ≡ m % 256
unfolding spelt
mark_spelt m xs = mark_tableau m _ _

pub length_spelt : (m : ℕ) (xs : List ℕ) → (spelt m xs).length ≡ length xs % 256
unfolding spelt
length_spelt m xs = length_tableau m (length xs) _

pub held_spelt : (m : ℕ) (xs : List ℕ) (k : ℕ) → k < 48 → held (spelt m xs) k ≡ slice_index xs k % 256
unfolding spelt
held_spelt m xs k h = held_tableau m _ _ k h
