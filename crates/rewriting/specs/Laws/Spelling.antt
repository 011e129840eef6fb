-- length_written    how long a text is
-- written_spelt     the text of what was spelt
-- spelt_written     a well-shaped tableau is what its mark and text spell
-- shaped_spelt, shaped_marked   what is spelt or marked is well shaped
-- marked_back       a mark taken back
-- Assumes nothing.
use Rattle.std.specs.Prelude.{◌≡◌, ℕ, ◌<◌, ◌≤◌, List, length, slice_index_or}
use Rattle.std.proofs.Common.{◌∙◌, ⊎_elim, arith}
use Rattle.std.proofs.lemmas.List.{length-take, get_or-take, get_or_past, ext_get_or}
use Rattle.std.proofs.lemmas.Bool.{cases_lt}
use Rattle.rewriting.specs.declared.tableau.RewritingTableau.{RewritingTableau}
use Rattle.rewriting.specs.Ranges.{Bytes}
use Rattle.rewriting.specs.Tableau.{held, marked, spelt, written}
use Rattle.rewriting.specs.Shape.{WellShaped}
use Rattle.rewriting.specs.Laws.Bytewise.{same_tableau, mark_marked, length_marked, held_marked, mark_spelt, length_spelt, held_spelt}
use Rattle.rewriting.specs.Laws.Splicing.{bytes_take}

pub length_written : (t : RewritingTableau) → t.length ≤ 48 → length (written t) ≡ t.length
length_written t h = let cut = length-take t.length t.text in omega arith

pub bytes_written : (t : RewritingTableau) → Bytes (written t)
bytes_written t = bytes_take t.length t.text (λ k h. t.ranged.3 k (omega arith))

pub written_spelt : (m : ℕ) (xs : List ℕ) → length xs ≤ 48 → Bytes xs → written (spelt m xs) ≡ xs
written_spelt m xs h b =
    let t = spelt m xs in
    let size : t.length ≡ length xs = length_spelt m xs ∙ omega arith in
    let cut : length (written t) ≡ length xs = length_written t (omega arith) ∙ size in
    ext_get_or 0 (written t) xs cut
    (λ k lt.
    let small : k < t.length = omega arith in
    let here = b k (omega arith) in
    get_or-take t.length t.text k 0 small ∙ held_spelt m xs k (omega arith) ∙ omega arith)

pub spelt_written : (t : RewritingTableau) (m : ℕ) → WellShaped t → t.mark ≡ m → spelt m (written t) ≡ t
spelt_written t m w e =
    let xs = written t in
    let size : length xs ≡ t.length = length_written t w.1 in
    same_tableau _ _ (mark_spelt m xs ∙ omega arith) (length_spelt m xs ∙ omega arith)
    (λ k h. held_spelt m xs k h ∙ ⊎_elim
    (λ lt. let r = t.ranged.3 k h in let same : slice_index_or xs k 0 ≡ held t k = get_or-take t.length t.text k 0 lt in omega arith)
    (λ le. let past : slice_index_or xs k 0 ≡ 0 = get_or_past xs k 0 (omega arith) in let none = w.2 k le in omega arith)
    (cases_lt k t.length))

pub shaped_spelt : (m : ℕ) (xs : List ℕ) → m ≤ 2 → length xs ≤ 48 → WellShaped (spelt m xs)
shaped_spelt m xs small short =
    let t = spelt m xs in
    let mk = mark_spelt m xs in
    let size = length_spelt m xs in (
      omega arith,
      omega arith,
      λ k le. ⊎_elim
          (λ lt. let past : slice_index_or xs k 0 ≡ 0 = get_or_past xs k 0 (omega arith) in held_spelt m xs k lt ∙ omega arith)
          (λ out. get_or_past t.text k 0 (omega arith))
          (cases_lt k 48),
    )

pub shaped_marked : (t : RewritingTableau) (m : ℕ) → WellShaped t → m ≤ 2 → WellShaped (marked t m)
shaped_marked t m w small =
    let u = marked t m in
    let mk = mark_marked t m in
    let size = length_marked t m in (
      omega arith,
      omega arith,
      λ k le. ⊎_elim
          (λ lt. held_marked t m k lt ∙ w.2 k (omega arith))
          (λ out. get_or_past u.text k 0 (omega arith))
          (cases_lt k 48),
    )

pub marked_back : (t : RewritingTableau) (m n : ℕ) → t.mark ≡ n → marked (marked t m) n ≡ t
marked_back t m n e =
    let u = marked t m in
    same_tableau _ _ (mark_marked u n ∙ omega arith) (length_marked u n ∙ length_marked t m)
    (λ k h. held_marked u n k h ∙ held_marked t m k h)
