-- begins part text    whether text begins with part
-- find part text      the leftmost place of part in text
-- choose rules text   the first rule whose left side occurs in text, with its leftmost place
-- Found and Applies say in full what the last two answer; these are the same as functions.
-- Assumes nothing.
use Rattle.std.specs.Prelude.{ℕ, suc, Bool, cond, List, [], ◌∷◌, length, take, Some, None, Option}
use Rattle.std.specs.Str.{bytes_eq}
use Rattle.rewriting.specs.declared.matching.Match.{Match}
use Rattle.rewriting.specs.declared.rule.Rule.{Rule}
use Rattle.rewriting.specs.Occurs.{side}

abbrev pub begins : List ℕ → List ℕ → Bool
begins part text = bytes_eq (take (length part) text) part

-- one place on
abbrev pub one_on : Option ℕ → Option ℕ
one_on None = None
one_on (Some p) = Some (suc p)

unfoldable pub find : List ℕ → List ℕ → Option ℕ
find part [] = cond (begins part []) (Some 0) None
find part (x ∷ xs) = cond (begins part (x ∷ xs)) (Some 0) (one_on (find part xs))

-- the first rule if it applies, and else the one that was found among the others
abbrev pub first_or : Option ℕ → Option Match → Option Match
first_or (Some p) later = Some (record { rule = 0; place = p })
first_or None None = None
first_or None (Some m) = Some (record { rule = suc m.rule; place = m.place })

unfoldable pub choose : List Rule → List ℕ → Option Match
choose [] text = None
choose (r ∷ rs) text = first_or (find (side r.left) text) (choose rs text)
