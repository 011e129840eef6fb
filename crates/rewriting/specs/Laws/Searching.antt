-- find_found       find answers the leftmost place
-- found_once       there is only one leftmost place
-- choose_applies   choose answers the first rule that applies, and its leftmost place
-- applies_once     there is only one such rule and place
-- Assumes nothing.
use Rattle.std.specs.Prelude.{◌≡◌, ℕ, zero, suc, ◌<◌, min, Bool, true, false, cond, List, [], ◌∷◌, length, take, drop, Some, None, Decides, Option, refl}
use Rattle.std.proofs.Common.{sym, ap, subst, ◌∙◌, ⊎_elim, arith}
use Rattle.std.proofs.lemmas.Slice.Eq.{bytes_eq-Decides}
use Rattle.std.proofs.lemmas.List.{length-take}
use Rattle.std.proofs.lemmas.Bool.{cases_order, false≢true}
use Rattle.rewriting.specs.declared.matching.Match.{Match}
use Rattle.rewriting.specs.declared.rule.Rule.{Rule}
use Rattle.rewriting.specs.Occurs.{side, left_of, Occurs, Nowhere, Leftmost, Found, Chosen, Applies}
use Rattle.rewriting.specs.Search.{begins, one_on, find, first_or, choose}

-- a text begins with what occurs in it at 0
begins_is : (part text : List ℕ) → Decides (begins part text) (Occurs part text 0)
begins_is part text =
    let d = bytes_eq-Decides (take (length part) text) part in (
      λ e.
          let same = d.0 e in
          let cut : min (length part) (length text) ≡ length part = sym (length-take (length part) text) ∙ ap length same in
          (omega arith, same),
      λ o. d.1 o.1,
    )

found_none : (part : List ℕ) (b : Bool) → Decides b (Occurs part [] 0) → Found part [] (cond b (Some 0) None)
found_none part true d = (d.0 refl, λ q lt _. omega arith)
found_none part false d = λ p o. absurd (false≢true (d.1 (omega arith, nowhere p o.1)))
  where
    nowhere : (p : ℕ) → take (length part) (drop p []) ≡ part → take (length part) [] ≡ part
    nowhere zero e = e
    nowhere (suc p) e = e

later : (part xs : List ℕ) (x p : ℕ) → Occurs part xs p → Occurs part (x ∷ xs) (suc p)
later part xs x p o = (omega arith, o.1)

earlier : (part xs : List ℕ) (x p : ℕ) → Occurs part (x ∷ xs) (suc p) → Occurs part xs p
earlier part xs x p o = (omega arith, o.1)

found_more : (part xs : List ℕ) (x : ℕ) (b : Bool) (o : Option ℕ) → Decides b (Occurs part (x ∷ xs) 0) → Found part xs o → Found part (x ∷ xs) (cond b (Some 0) (one_on o))
found_more part xs x true o d f = (d.0 refl, λ q lt _. omega arith)
found_more part xs x false None d f = not_here
  where
    not_here : Nowhere part (x ∷ xs)
    not_here zero o = absurd (false≢true (d.1 o))
    not_here (suc p) o = f p (earlier part xs x p o)
found_more part xs x false (Some p) d f = (later part xs x p f.0, not_before)
  where
    not_before : (q : ℕ) → q < suc p → Occurs part (x ∷ xs) q → ⊥
    not_before zero lt o = absurd (false≢true (d.1 o))
    not_before (suc q) lt o = f.1 q (omega arith) (earlier part xs x q o)

pub find_found : (part text : List ℕ) → Found part text (find part text)
unfolding find
find_found part [] = found_none part (begins part []) (begins_is part [])
find_found part (x ∷ xs) = found_more part xs x (begins part (x ∷ xs)) (find part xs) (begins_is part (x ∷ xs)) (find_found part xs)

same_place : (part text : List ℕ) (p q : ℕ) → Leftmost part text p → Leftmost part text q → p ≡ q
same_place part text p q f g =
    ⊎_elim (λ e. e) (⊎_elim (λ lt. absurd (g.1 p lt f.0)) (λ lt. absurd (f.1 q lt g.0))) (cases_order p q)

pub found_once : (part text : List ℕ) (o u : Option ℕ) → Found part text o → Found part text u → o ≡ u
found_once part text None None f g = refl
found_once part text None (Some q) f g = absurd (f q g.0)
found_once part text (Some p) None f g = absurd (g p f.0)
found_once part text (Some p) (Some q) f g = ap Some (same_place part text p q f g)

applies_more : (r : Rule) (rs : List Rule) (text : List ℕ) (o : Option ℕ) (u : Option Match) → Found (side r.left) text o → Applies rs text u → Applies (r ∷ rs) text (first_or o u)
applies_more r rs text (Some p) u f g = record { within = omega arith; leftmost = f; first = λ j lt. omega arith }
applies_more r rs text None None f g = nowhere
  where
    nowhere : (i : ℕ) → i < suc (length rs) → Nowhere (left_of (r ∷ rs) i) text
    nowhere zero lt = f
    nowhere (suc i) lt = g i (omega arith)
applies_more r rs text None (Some m) f g = record { within = omega (arith, g.within); leftmost = g.leftmost; first = before }
  where
    before : (j : ℕ) → j < suc m.rule → Nowhere (left_of (r ∷ rs) j) text
    before zero lt = f
    before (suc j) lt = g.first j (omega arith)

pub choose_applies : (rules : List Rule) (text : List ℕ) → Applies rules text (choose rules text)
unfolding choose
choose_applies [] text = λ i lt. omega arith
choose_applies (r ∷ rs) text =
    applies_more r rs text (find (side r.left) text) (choose rs text) (find_found (side r.left) text) (choose_applies rs text)

same_match : (m n : Match) → m.rule ≡ n.rule → m.place ≡ n.place → m ≡ n
same_match m n p q = λ i. record { rule = p i; place = q i }

somewhere : (part text : List ℕ) (p : ℕ) → Leftmost part text p → Nowhere part text → ⊥
somewhere part text p f g = g p f.0

same_choice : (rules : List Rule) (text : List ℕ) (m n : Match) → Chosen rules text m → Chosen rules text n → m ≡ n
same_choice rules text m n f g =
    let same : m.rule ≡ n.rule = ⊎_elim (λ e. e)
    (⊎_elim (λ lt. absurd (somewhere _ text _ f.leftmost (g.first m.rule lt)))
    (λ lt. absurd (somewhere _ text _ g.leftmost (f.first n.rule lt))))
    (cases_order m.rule n.rule) in
    same_match m n same
    (same_place (left_of rules n.rule) text m.place n.place
    (subst (λ i. Leftmost (left_of rules i) text m.place) same f.leftmost) g.leftmost)

pub applies_once : (rules : List Rule) (text : List ℕ) (o u : Option Match) → Applies rules text o → Applies rules text u → o ≡ u
applies_once rules text None None f g = refl
applies_once rules text None (Some n) f g = absurd (somewhere _ text _ g.leftmost (f n.rule g.within))
applies_once rules text (Some m) None f g = absurd (somewhere _ text _ f.leftmost (g m.rule f.within))
applies_once rules text (Some m) (Some n) f g = ap Some (same_choice rules text m n f g)
