-- held t k        byte k of t
-- tableau m n f   the tableau with mark m, length n and f k as byte k, each modulo 256
-- zero            all 0
-- plus, minus     sum and difference, byte by byte, modulo 256
-- marked t m      t with mark m modulo 256
-- spelt m xs      the tableau with mark m and text xs, and 0 past it
-- written t       the text of t: its first `length` bytes
-- note i p        the record of code i and place p, each modulo 256
-- Assumes nothing.
use Rattle.std.specs.Prelude.{ℕ, ◌+◌, ◌-◌, ◌%◌, List, map, length, take, slice_index}
use Rattle.std.proofs.Common.{mod-lt, zero-add, lit<}
use Rattle.std.specs.List.{range_with_len}
use Rattle.std.proofs.lemmas.List.FromFn.{length-map-range_with_len, get_or-map-range_with_len}
use Rattle.rewriting.specs.declared.tableau.RewritingTableau.{RewritingTableau}
use Rattle.rewriting.specs.declared.record.RewritingRecord.{RewritingRecord}

abbrev pub held : RewritingTableau → ℕ → ℕ
held t k = slice_index t.text k

unfoldable pub tableau : ℕ → ℕ → (ℕ → ℕ) → RewritingTableau
tableau m n f = record {
  mark = m % 256;
  length = n % 256;
  text = map (λ k. f k % 256) (range_with_len 0 48);
  ranged = (
    mod-lt m (lit< tt),
    mod-lt n (lit< tt),
    length-map-range_with_len (λ k. f k % 256) 0 48,
    λ k h. rw (get_or-map-range_with_len (λ k. f k % 256) 0 48 k k 0 h (zero-add k)) (mod-lt (f k) (lit< tt)),
  );
}

abbrev pub zero : RewritingTableau
zero = tableau 0 0 (λ _. 0)

abbrev pub plus : RewritingTableau → RewritingTableau → RewritingTableau
plus a b = tableau (a.mark + b.mark) (a.length + b.length) (λ k. held a k + held b k)

abbrev pub minus : RewritingTableau → RewritingTableau → RewritingTableau
minus a b = tableau (a.mark + (256 - b.mark)) (a.length + (256 - b.length)) (λ k. held a k + (256 - held b k))

unfoldable pub marked : RewritingTableau → ℕ → RewritingTableau
marked t m = tableau m t.length (held t)

unfoldable pub spelt : ℕ → List ℕ → RewritingTableau
spelt m xs = tableau m (length xs) (λ k. slice_index xs k)

abbrev pub written : RewritingTableau → List ℕ
written t = take t.length t.text

abbrev pub note : ℕ → ℕ → RewritingRecord
note i p = record { code = i % 256; place = p % 256; ranged = (mod-lt i (lit< tt), mod-lt p (lit< tt)) }
