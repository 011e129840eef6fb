-- next_is, halted_is      next and halted answer what Next and Still say
-- rewriting_model rules   the rewriting machine with a table of rules, with its laws, for every table and every tableau
-- Assumes nothing.
use Rattle.std.specs.Prelude.{◌≡◌, ℕ, suc, ◌+◌, ◌%◌, ◌<◌, ◌≤◌, Bool, true, false, cond, not, ◌&&◌, List, length, is_some, Some, None, Decides, Option, ◌==◌, nat_le, nat_lt, slice_index_or, refl}
use Rattle.std.proofs.Common.{sym, ap, subst, ◌∙◌, arith}
use Rattle.std.proofs.lemmas.List.{length-take}
use Rattle.std.proofs.lemmas.Bool.{cond-true, cond-false, and_parts, and_from, eqb-true, eq-eqb, ne_eqb, lt-ltb, le-leb, leb-true, both_ways, false≢true}
use Rattle.machine.specs.Model.{Model}
use Rattle.rewriting.specs.declared.matching.Match.{Match}
use Rattle.rewriting.specs.declared.rule.Side.{Side}
use Rattle.rewriting.specs.declared.rule.Rule.{Rule}
use Rattle.rewriting.specs.declared.record.RewritingRecord.{RewritingRecord}
use Rattle.rewriting.specs.declared.tableau.RewritingTableau.{RewritingTableau}
use Rattle.rewriting.specs.Ranges.{Bytes}
use Rattle.rewriting.specs.Tableau.{marked, spelt, written, note}
use Rattle.rewriting.specs.Shape.{WellShaped, well_shaped}
use Rattle.rewriting.specs.Occurs.{side, program, no_rule, Occurs, Applies}
use Rattle.rewriting.specs.Search.{choose}
use Rattle.rewriting.specs.Splice.{spliced, fits}
use Rattle.rewriting.specs.Step.{next, changed, mark_after, substituted, after_by, trace_by, undone, back_by, halted, after, trace, back}
use Rattle.rewriting.specs.Relation.{Still, Used, Next}
use Rattle.rewriting.specs.Laws.Shaping.{well_shaped_is}
use Rattle.rewriting.specs.Laws.Searching.{choose_applies}
use Rattle.rewriting.specs.Laws.Splicing.{length_spliced, bytes_take, bytes_spliced, spliced_back}
use Rattle.rewriting.specs.Laws.Spelling.{length_written, bytes_written, written_spelt, spelt_written, shaped_spelt, shaped_marked, marked_back}

chosen_next : (rules : List Rule) (t : RewritingTableau) (o : Option Match) → WellShaped t → t.mark ≡ 0 → Applies rules (written t) o → Next rules t o
chosen_next rules t None w e a = λ _ _. a
chosen_next rules t (Some m) w e a = record { shaped = w; unmarked = e; chosen = a }

-- next answers the rule that a step uses
pub next_is : (rules : List Rule) (t : RewritingTableau) → Next rules t (next rules t)
next_is rules t = by (well_shaped t && t.mark == 0) refl
  where
    by : (b : Bool) → (well_shaped t && t.mark == 0) ≡ b → Next rules t (cond b (choose rules (written t)) None)
    by true e =
        let both = and_parts (well_shaped t) (t.mark == 0) e in
        chosen_next rules t (choose rules (written t)) ((well_shaped_is t).0 both.0) (eqb-true t.mark 0 both.1)
        (choose_applies rules (written t))
    by false e =
        λ w m. absurd (both_ways (well_shaped t && t.mark == 0) e
        (and_from (well_shaped t) (t.mark == 0) ((well_shaped_is t).1 w) (eq-eqb t.mark 0 m)))

none_still : (rules : List Rule) (t : RewritingTableau) (o : Option Match) → Next rules t o → Decides (not (is_some o)) (Still rules t)
none_still rules t None n = (λ _. n, λ _. refl)
none_still rules t (Some m) n = (
  λ e. absurd (false≢true e),
  λ s. absurd (s n.shaped n.unmarked m.rule n.chosen.within m.place n.chosen.leftmost.0),
)

-- halted answers whether the machine stands still
pub halted_is : (rules : List Rule) (t : RewritingTableau) → Decides (halted rules t) (Still (program rules) t)
halted_is rules t = none_still (program rules) t (next (program rules) t) (next_is (program rules) t)

pub bytes_side : (s : Side) → Bytes (side s)
bytes_side s = bytes_take s.length s.bytes (λ k h. s.short.2 k (omega arith))

pub length_program : (rules : List Rule) → length (program rules) ≤ 32
length_program rules = let cut = length-take 32 rules in omega arith

same_either_way : (b : Bool) (t : RewritingTableau) → cond b t t ≡ t
same_either_way true t = refl
same_either_way false t = refl

back_shaped : (rules : List Rule) (t : RewritingTableau) (r : RewritingRecord) → WellShaped t → back_by rules t r ≡ undone rules t r.code r.place
back_shaped rules t r w = cond-true (well_shaped t) _ _ ((well_shaped_is t).1 w)

undone_by_rule : (rules : List Rule) (t : RewritingTableau) (i p : ℕ) → i < length rules → length rules ≤ 32 → undone rules t (suc i) p ≡ substituted t p (slice_index_or rules i no_rule).right (slice_index_or rules i no_rule).left 0
undone_by_rule rules t i p h few =
    cond-false (suc i == 33) _ _ (ne_eqb (suc i) 33 (λ e. omega arith))
    ∙ cond-true (nat_lt 0 (suc i) && nat_le (suc i) (length rules)) _ _
    (and_from (nat_lt 0 (suc i)) (nat_le (suc i) (length rules)) (lt-ltb 0 (suc i) (omega arith)) (le-leb (suc i) (length rules) (omega arith)))

substituted_is : (t : RewritingTableau) (p : ℕ) (old new : Side) (m : ℕ) (xs : List ℕ) → changed t p old new ≡ xs → p + length (side old) ≤ length (written t) → length xs ≤ 48 → substituted t p old new m ≡ spelt m xs
substituted_is t p old new m xs e h short =
    let size : length (changed t p old new) ≡ length xs = ap length e in
    let inside = nat_le (p + length (side old)) (length (written t)) in
    cond-true (inside && fits (changed t p old new)) _ _
    (and_from inside (fits (changed t p old new)) (le-leb _ _ h) (le-leb (length (changed t p old new)) 48 (omega arith)))
    ∙ ap (spelt m) e

-- the text of what a change spells
written_changed : (t : RewritingTableau) (p : ℕ) (old new : Side) (m : ℕ) → length (changed t p old new) ≤ 48 → written (spelt m (changed t p old new)) ≡ changed t p old new
unfolding changed
written_changed t p old new m short =
    written_spelt m _ short (bytes_spliced (written t) p (length (side old)) (side new) (bytes_written t) (bytes_side new))

-- a change and the opposite change give the text as it was
changed_back : (t : RewritingTableau) (p : ℕ) (old new : Side) (m : ℕ) → Occurs (side old) (written t) p → length (changed t p old new) ≤ 48 → changed (spelt m (changed t p old new)) p new old ≡ written t
unfolding changed
changed_back t p old new m o short =
    ap (λ xs. spliced xs p (length (side new)) (side old)) (written_changed t p old new m short)
    ∙ spliced_back (side old) (written t) p (side new) o

inside_changed : (t : RewritingTableau) (p : ℕ) (old new : Side) (m : ℕ) → Occurs (side old) (written t) p → length (changed t p old new) ≤ 48 → p + length (side new) ≤ length (written (spelt m (changed t p old new)))
unfolding changed
inside_changed t p old new m o short =
    let long = length_spliced (written t) p (length (side old)) (side new) o.0 in
    rw (written_changed t p old new m short) (omega arith)

last_small : (b : Bool) → cond b 1 0 ≤ 2
last_small true = omega arith
last_small false = omega arith

applied_back : (rules : List Rule) (t : RewritingTableau) (m : Match) (r : Rule) (b : Bool) → length rules ≤ 32 → Used rules t m → r ≡ slice_index_or rules m.rule no_rule → fits (changed t m.place r.left r.right) ≡ b → back_by rules (cond b (spelt (mark_after r) (changed t m.place r.left r.right)) (marked t 2)) (cond b (note (suc m.rule) m.place) (note 33 0)) ≡ t
applied_back rules t m r true few u read e =
    let p = m.place in
    let k : ℕ = mark_after r in
    let ys = changed t p r.left r.right in
    let v = spelt k ys in
    let o : Occurs (side r.left) (written t) p =
    subst (λ (x : Rule). Occurs (side x.left) (written t) p) (sym read) u.chosen.leftmost.0 in
    let inside = u.chosen.within in
    let w = u.shaped in
    let size = length_written t w.1 in
    let short : length ys ≤ 48 = leb-true (length ys) 48 e in
    let code : suc m.rule % 256 ≡ suc m.rule = omega arith in
    let place : p % 256 ≡ p = omega (arith, o.0) in
    back_shaped rules v (note (suc m.rule) p) (shaped_spelt k ys (last_small r.last) short)
    ∙ ap (λ i. undone rules v i (p % 256)) code ∙ ap (undone rules v (suc m.rule)) place
    ∙ undone_by_rule rules v m.rule p inside few
    ∙ ap (λ (x : Rule). substituted v p x.right x.left 0) (sym read)
    ∙ substituted_is v p r.right r.left 0 (written t) (changed_back t p r.left r.right k o short)
    (inside_changed t p r.left r.right k o short) (omega arith)
    ∙ spelt_written t 0 w u.unmarked
applied_back rules t m r false few u read e =
    back_shaped rules (marked t 2) (note 33 0) (shaped_marked t 2 u.shaped (omega arith)) ∙ marked_back t 2 0 u.unmarked

next_back : (rules : List Rule) (t : RewritingTableau) (o : Option Match) → length rules ≤ 32 → Next rules t o → back_by rules (after_by rules t o) (trace_by rules t o) ≡ t
next_back rules t None few u = same_either_way (well_shaped t) t
next_back rules t (Some m) few u =
    let r = slice_index_or rules m.rule no_rule in
    applied_back rules t m r (fits (changed t m.place r.left r.right)) few u refl refl

pub back_after : (rules : List Rule) (t : RewritingTableau) → back rules (after rules t) (trace rules t) ≡ t
back_after rules t =
    next_back (program rules) t (next (program rules) t) (length_program rules) (next_is (program rules) t)

none_rests : (rules : List Rule) (t : RewritingTableau) (o : Option Match) → not (is_some o) ≡ true → after_by rules t o ≡ t
none_rests rules t None e = refl
none_rests rules t (Some m) e = absurd (false≢true e)

pub rest : (rules : List Rule) (t : RewritingTableau) → halted rules t ≡ true → after rules t ≡ t
rest rules t e = none_rests (program rules) t (next (program rules) t) e

abbrev pub rewriting_model : List Rule → Model RewritingTableau RewritingRecord
rewriting_model rules = record {
  after = after rules;
  trace = trace rules;
  back = back rules;
  halted = halted rules;
  back_after = back_after rules;
  rest = rest rules;
}
