-- A side put in place of another: whether it can be, and what the tableau is then.
-- Assumes nothing.
use Rattle.std.proofs.Common.{◌≡◌, ℕ, ◌+◌, ◌-◌, ◌<◌, ◌≤◌, true, false, leb, List, length, get_or, take, sym, ap, ◌∙◌, arith}
use Rattle.std.proofs.lemmas.Bool.{cond-true, cond-false, and_from, and_right, le-leb, lt-leb}
use Rattle.std.proofs.lemmas.Grind.{common_steps}
use Rattle.rewriting.specs.declared.rule.Side.{Side}
use Rattle.rewriting.specs.declared.tableau.RewritingTableau.{RewritingTableau}
use Rattle.rewriting.specs.Ranges.{Bytes}
use Rattle.rewriting.specs.Tableau.{written}
use Rattle.rewriting.specs.Occurs.{side}
use Rattle.rewriting.specs.Splice.{padded, replaced, fits}
use Rattle.rewriting.specs.Step.{changed, can_substitute, substituted}
use Rattle.rewriting.specs.Laws.Splicing.{length_spliced, bytes_spliced}
use Rattle.rewriting.specs.Laws.Spelling.{bytes_written}
use Rattle.rewriting.specs.Laws.Undoing.{bytes_side}
use Rattle.rewriting.proofs.Padded.{get_or_padded, spelt_is}

byte_at : (xs : List ℕ) (k : ℕ) → Bytes xs → get_or xs k 0 < 256
byte_at xs k b = grind (arith, common_steps, b k)

take_written : (t : RewritingTableau) → take (length (written t)) t.text ≡ written t
take_written t = grind (arith, common_steps)

module _ (t : RewritingTableau) (p : ℕ) (old new : Side) (ws os ns : List ℕ) (text : ws ≡ written t) (gone : os ≡ side old) (added : ns ≡ side new) (inside : p + length os ≤ length ws) where
  length_changed : length (changed t p old new) ≡ length ws - length os + length ns
  unfolding changed
  length_changed =
      let used = ap length text in
      let out = ap length gone in
      let put = ap length added in
      omega (arith, length_spliced (written t) p (length (side old)) (side new) (omega arith))

  -- where the new text has no room nothing changes
  pub too_large : (m : ℕ) → 48 < length ws - length os + length ns → record { after : t ≡ substituted t p old new m; answer : false ≡ can_substitute t p old new }
  too_large m over =
      let size = length_changed in
      let cannot = and_right (leb (p + length (side old)) (length (written t))) _ (lt-leb _ 48 (omega arith)) in
      record { after = sym (cond-false (can_substitute t p old new) _ _ cannot); answer = sym cannot }

  can : length ws - length os + length ns ≤ 48 → true ≡ can_substitute t p old new
  can room =
      let size = length_changed in
      let used = ap length text in
      let out = ap length gone in
      sym (and_from (leb (p + length (side old)) (length (written t))) (fits (changed t p old new)) (le-leb _ _ (omega arith)) (le-leb _ 48 (omega arith)))

  module _ (ys : List ℕ) (put : ys ≡ replaced t.text (length ws) p (length os) ns) where
    padded_changed : ys ≡ padded (length t.text) (changed t p old new)
    unfolding changed
    padded_changed = rw (← gone, ← added, ← take_written t, ← text) put

    pub bytes_put : (k : ℕ) → get_or ys k 0 < 256
    unfolding changed
    bytes_put k =
        let here = ap (λ l. get_or l k 0) padded_changed ∙ get_or_padded (length t.text) (changed t p old new) k in
        let bytes = bytes_spliced (written t) p (length (side old)) (side new) (bytes_written t) (bytes_side new) in
        rw here (byte_at _ k bytes)

  pub put_is : (u : RewritingTableau) (m : ℕ) → length ws - length os + length ns ≤ 48 → u.mark ≡ m → u.length ≡ length ws - length os + length ns → u.text ≡ replaced t.text (length ws) p (length os) ns → record { after : u ≡ substituted t p old new m; answer : true ≡ can_substitute t p old new }
  put_is u m room mark size put =
      let spelt_so = spelt_is u m (length t.text) (changed t p old new) mark (size ∙ sym length_changed) (padded_changed u.text put) in
      record { after = spelt_so ∙ sym (cond-true (can_substitute t p old new) _ _ (sym (can room))); answer = can room }
