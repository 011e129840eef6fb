-- What the pieces of a line say of the whole.
use Rattle.std.proofs.Common.{◌≡◌, ℕ, suc, ◌<◌, eqb, List, [], ◌∷◌, ◌++◌, length, get_or, Some, None, Option, sym, refl, ap, ◌∙◌, subst, arith, Bor, IfSome, MatchResult}
use Rattle.std.specs.Option.{ok_or}
use Rattle.std.specs.Str.Pattern.{FindsCharPrefix, CutsPrefixes, IsTrimStartMatches}
use Rattle.std.proofs.lemmas.Option.{MatchOption-at_some, MatchOption-at_none}
use Rattle.std.proofs.lemmas.Str.Parse.{digit_at}
use Rattle.std.proofs.lemmas.Str.Pattern.{drop_at_char, strip_prefix_char, IsSplitOnceResult, split_after, split_parts}
use Rattle.std.proofs.lemmas.Bool.{cond-false, ne_eqb}
use Rattle.sizing.specs.declared.words.Sizes.{Sizes}
use Rattle.sizing.specs.Words.{unspaced, Splits, Writes, Asked}

-- ---- the spaces in front

pub unspaced_more : (bs rest : List ℕ) → bs ≡ 32 ∷ rest → unspaced bs ≡ unspaced rest
unfolding unspaced
unspaced_more bs rest e = ap unspaced e

pub unspaced_same : (bs : List ℕ) → ((rest : List ℕ) → bs ≡ 32 ∷ rest → ⊥) → bs ≡ unspaced bs
unfolding unspaced
unspaced_same [] h = refl
unspaced_same (c ∷ cs) h = sym (cond-false (eqb c 32) (unspaced cs) (c ∷ cs) (ne_eqb c 32 (λ e. h cs (ap (λ x. x ∷ cs) e))))

unspaced_cut : (ns bs r : List ℕ) → CutsPrefixes (FindsCharPrefix 32) bs ns r → unspaced bs ≡ unspaced r
unspaced_cut [] bs r e = ap unspaced (sym e)
unspaced_cut (n ∷ ns) bs r (m, cuts, found, is) =
    unspaced_cut ns bs m cuts ∙ unspaced_more m r (drop_at_char 32 m 0 n found (omega arith) ∙ ap (λ x. 32 ∷ x) (sym is))

uncut : (r : List ℕ) (o : Option ℕ) → FindsCharPrefix 32 r o → IfSome o (λ n. n ≡ 0) → (rest : List ℕ) → r ≡ 32 ∷ rest → ⊥
uncut r None h z = strip_prefix_char 32 r None h (omega arith)
uncut r (Some n) h z = absurd (omega (arith, h.ends, z))

-- what `trim_start_matches(' ')` leaves
pub unspaced_is : {bs r : List ℕ} → IsTrimStartMatches (FindsCharPrefix 32) bs r → r ≡ unspaced bs
unspaced_is {bs} {r} ((ns, cuts), (o, h, z)) = unspaced_same r (uncut r o h z) ∙ sym (unspaced_cut ns bs r cuts)

-- ---- a word and the space behind it

abbrev HasNoSpace : List ℕ → Type 0
HasNoSpace ds = (i : ℕ) → i < length ds → get_or ds i 0 ≡ 32 → ⊥

no_space : {ds : List ℕ} {n : ℕ} → Writes ds n → HasNoSpace ds
no_space {ds} w i h e = omega (arith, digit_at ds i w.digits.1 h)

module _ {text left : List ℕ} (e : left ≡ unspaced text) {r : Option (Bor (List ℕ) × Bor (List ℕ))} (h : IsSplitOnceResult 32 left r) where
  no_space_there : r ≡ None → (word after : List ℕ) → Splits text word after → ⊥
  no_space_there is word after l =
      MatchOption-at_none ⊥ (λ x. (x.0.now ≡ word) × (x.1.now ≡ after)) is (split_after 32 left word after r h (omega arith) (e ∙ l.begins) l.unbroken)

  splits : (x : Bor (List ℕ) × Bor (List ℕ)) → r ≡ Some x → Splits text x.0.now x.1.now
  splits x is =
      let parts = MatchOption-at_some (HasNoSpace left) (λ x. (left ≡ x.0.now ++ (32 ∷ x.1.now)) × HasNoSpace x.0.now) x is (split_parts 32 left r h (omega arith)) in
      record { begins = sym e ∙ parts.0; unbroken = parts.1 }

-- the first cut of the text, or none
pub first_cut : {E : Type 0} (text : List ℕ) {left : List ℕ} (e : left ≡ unspaced text) (y : E) (r : Option (Bor (List ℕ) × Bor (List ℕ))) → IsSplitOnceResult 32 left r → MatchResult (ok_or r y) (λ x. Splits text x.0.now x.1.now) (λ _. (word after : List ℕ) → Splits text word after → ⊥)
first_cut text e y None h = no_space_there e h refl
first_cut text e y (Some x) h = splits e h x refl

-- two words with no space and what follows a space behind them are the same where the whole is
same_cut : (xs ys us vs : List ℕ) → HasNoSpace xs → HasNoSpace ys → xs ++ (32 ∷ us) ≡ ys ++ (32 ∷ vs) → (xs ≡ ys) × (us ≡ vs)
same_cut [] [] us vs hx hy e = (refl, cc)
same_cut [] (y ∷ ys) us vs hx hy e = absurd (hy 0 (omega arith) cc)
same_cut (x ∷ xs) [] us vs hx hy e = absurd (hx 0 (omega arith) cc)
same_cut (x ∷ xs) (y ∷ ys) us vs hx hy e =
    let (words, rest) = same_cut xs ys us vs (λ i h. hx (suc i) (omega arith)) (λ i h. hy (suc i) (omega arith)) cc in (cc, rest)

splits_once : {text ws vs us ts : List ℕ} → Splits text ws us → Splits text vs ts → (ws ≡ vs) × (us ≡ ts)
splits_once {ws = ws} {vs = vs} {us = us} {ts = ts} l k = same_cut ws vs us ts l.unbroken k.unbroken (sym l.begins ∙ k.begins)

-- ---- the line

splits_first : {line : List ℕ} {s : Sizes} (q : Asked line s) → Splits line q.first q.after_first
splits_first q = record { begins = q.begins; unbroken = no_space q.fan_out }

splits_second : {line : List ℕ} {s : Sizes} (q : Asked line s) → Splits q.after_first q.second q.after_second
splits_second q = record { begins = q.goes_on; unbroken = no_space q.depth }

pub none_first : {line : List ℕ} → ((word after : List ℕ) → Splits line word after → ⊥) → (s : Sizes) → Asked line s → ⊥
none_first never s q = never q.first q.after_first (splits_first q)

module _ {line first rest : List ℕ} (one : Splits line first rest) where
  splits_next : {s : Sizes} (q : Asked line s) → Splits rest q.second q.after_second
  splits_next q = subst (λ t. Splits t q.second q.after_second) (splits_once (splits_first q) one).1 (splits_second q)

  pub none_second : ((word after : List ℕ) → Splits rest word after → ⊥) → (s : Sizes) → Asked line s → ⊥
  none_second never s q = never q.second q.after_second (splits_next q)

  pub no_fan_out : ((n : ℕ) → Writes first n → ⊥) → (s : Sizes) → Asked line s → ⊥
  no_fan_out never s q = never s.fan_out (subst (λ t. Writes t s.fan_out) (splits_once (splits_first q) one).0 q.fan_out)

  module _ {second behind : List ℕ} (two : Splits rest second behind) where
    pub no_depth : ((n : ℕ) → Writes second n → ⊥) → (s : Sizes) → Asked line s → ⊥
    no_depth never s q = never s.depth (subst (λ t. Writes t s.depth) (splits_once (splits_next q) two).0 q.depth)

    module _ {third : List ℕ} (is : third ≡ unspaced behind) where
      pub no_steps : ((n : ℕ) → Writes third n → ⊥) → (s : Sizes) → Asked line s → ⊥
      no_steps never s q =
          let ends = is ∙ ap unspaced (sym (splits_once (splits_next q) two).1) ∙ q.ends in
          never s.steps (subst (λ t. Writes t s.steps) (sym ends) q.steps)

      pub asked : {k n m : ℕ} → Writes first k → Writes second n → Writes third m → Asked line (record { fan_out = k; depth = n; steps = m })
      asked fan_out depth steps =
          record {
            first = first;
            second = second;
            third = third;
            after_first = rest;
            after_second = behind;
            begins = one.begins;
            goes_on = two.begins;
            ends = sym is;
            fan_out = fan_out;
            depth = depth;
            steps = steps;
          }
