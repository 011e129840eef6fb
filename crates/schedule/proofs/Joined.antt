-- Lists joined in rising and in falling order.
use Rattle.std.proofs.Common.{◌≡◌, ℕ, zero, suc, ◌+◌, ◌*◌, ◌<◌, ◌≤◌, List, ◌++◌, map, reverse, length, get_or, sym, refl, ap, ◌∙◌, ⊎_elim, mul-le-mul_right, suc-mul, arith, length-append}
use mathlib.Core.Path.{fun_ext}
use Rattle.std.proofs.lemmas.List.{map-append, reverse-append, get_or_append_left, get_or-append_right}
use Rattle.std.proofs.lemmas.Bool.{cases_lt}
use Rattle.std.proofs.ByRecursion.{All-append}
use Rattle.std.specs.List.{AllByRecursion}
use Rattle.schedule.specs.Moves.{rising, falling}

module _ {A : Type 0} where
  pub rising_same : (f g : ℕ → List A) → ((i : ℕ) → f i ≡ g i) → (n : ℕ) → rising f n ≡ rising g n
  rising_same f g e n = ap (λ h. rising h n) (fun_ext e)

  pub falling_same : (f g : ℕ → List A) → ((i : ℕ) → f i ≡ g i) → (n : ℕ) → falling f n ≡ falling g n
  falling_same f g e n = ap (λ h. falling h n) (fun_ext e)

  pub map_rising : {B : Type 0} (g : A → B) (f : ℕ → List A) (n : ℕ) → map g (rising f n) ≡ rising (λ i. map g (f i)) n
  map_rising g f zero = refl
  map_rising g f (suc n) = map-append g (rising f n) (f n) ∙ ap (λ xs. xs ++ map g (f n)) (map_rising g f n)

  pub map_falling : {B : Type 0} (g : A → B) (f : ℕ → List A) (n : ℕ) → map g (falling f n) ≡ falling (λ i. map g (f i)) n
  map_falling g f zero = refl
  map_falling g f (suc n) = map-append g (f n) (falling f n) ∙ ap (λ xs. map g (f n) ++ xs) (map_falling g f n)

  pub reverse_rising : (f : ℕ → List A) (n : ℕ) → reverse (rising f n) ≡ falling (λ i. reverse (f i)) n
  reverse_rising f zero = refl
  reverse_rising f (suc n) = reverse-append (rising f n) (f n) ∙ ap (λ xs. reverse (f n) ++ xs) (reverse_rising f n)

  pub reverse_falling : (f : ℕ → List A) (n : ℕ) → reverse (falling f n) ≡ rising (λ i. reverse (f i)) n
  reverse_falling f zero = refl
  reverse_falling f (suc n) = reverse-append (f n) (falling f n) ∙ ap (λ xs. xs ++ reverse (f n)) (reverse_falling f n)

  pub all_rising : (P : A → Type 0) (f : ℕ → List A) (n : ℕ) → ((i : ℕ) → i < n → AllByRecursion P (f i)) → AllByRecursion P (rising f n)
  all_rising P f zero h = tt
  all_rising P f (suc n) h =
      All-append P (rising f n) (f n) (all_rising P f n (λ i l. h i (omega arith))) (h n (omega arith))

  pub all_falling : (P : A → Type 0) (f : ℕ → List A) (n : ℕ) → ((i : ℕ) → i < n → AllByRecursion P (f i)) → AllByRecursion P (falling f n)
  all_falling P f zero h = tt
  all_falling P f (suc n) h =
      All-append P (f n) (falling f n) (h n (omega arith)) (all_falling P f n (λ i l. h i (omega arith)))

  module _ (f : ℕ → List A) (size : ℕ) (each : (i : ℕ) → length (f i) ≡ size) where
    pub length_rising : (n : ℕ) → length (rising f n) ≡ n * size
    length_rising zero = omega arith
    length_rising (suc n) = omega (arith, length-append (rising f n) (f n), length_rising n, each n, suc-mul n size)

    pub length_falling : (n : ℕ) → length (falling f n) ≡ n * size
    length_falling zero = omega arith
    length_falling (suc n) = omega (arith, length-append (f n) (falling f n), length_falling n, each n, suc-mul n size)

    pub get_or_rising : (n i t : ℕ) (d : A) → i < n → t < size → get_or (rising f n) (i * size + t) d ≡ get_or (f i) t d
    get_or_rising zero i t d l h = absurd (omega arith)
    get_or_rising (suc n) i t d l h =
        ⊎_elim
        (λ (lt : i < n).
        get_or_append_left (rising f n) (f n) d (i * size + t)
        (omega (arith, length_rising n, mul-le-mul_right {m = suc i} {n = n} size lt, suc-mul i size))
        ∙ get_or_rising n i t d lt h)
        (λ (ge : n ≤ i).
        let e : i ≡ n = omega arith in
        get_or-append_right (rising f n) (f n) (n * size) (i * size + t) d (length_rising n)
        (omega (arith, ap (λ x. x * size) e))
        ∙ ap (λ x. get_or (f n) x d) (omega (arith, ap (λ x. x * size) e))
        ∙ ap (λ x. get_or (f x) t d) (sym e))
        (cases_lt i n)

    -- the list at place i from the front is the one of index n - 1 - i
    pub get_or_falling : (n i j t : ℕ) (d : A) → suc (i + j) ≡ n → t < size → get_or (falling f n) (i * size + t) d ≡ get_or (f j) t d
    get_or_falling zero i j t d l h = absurd (omega arith)
    get_or_falling (suc n) zero j t d l h =
        let e : j ≡ n = omega arith in
        let z : 0 * size + t ≡ t = omega arith in
        rw (z, e) (get_or_append_left (f n) (falling f n) d t (omega (arith, each n)))
    get_or_falling (suc n) (suc i) j t d l h =
        get_or-append_right (f n) (falling f n) size (suc i * size + t) d (each n) (omega (arith, suc-mul i size))
        ∙ ap (λ x. get_or (falling f n) x d) (omega (arith, suc-mul i size))
        ∙ get_or_falling n i j t d (omega arith) h
