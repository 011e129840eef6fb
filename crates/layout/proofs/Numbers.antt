-- Numbers as bytes, and back.
use Rattle.std.proofs.Common.{◌≡◌, ℕ, zero, suc, ◌+◌, ◌*◌, ◌/◌, ◌%◌, ◌^◌, ◌<◌, List, [], ◌∷◌, length, take, drop, sym, refl, ap, ◌∙◌, ap₂, subst, div-add-mod', arith}
use Rattle.std.proofs.Math.Nat.{pow-suc, div-one}
use Rattle.std.proofs.lemmas.Nat.{mul-add-lt, div-mul-add, mod-mul-add}
use Rattle.layout.specs.Numbers.{number, spelling}
use Rattle.layout.specs.Judging.{Bytes}

-- a number spelt in w bytes has w of them
pub length_spelling : (w n : ℕ) → length (spelling w n) ≡ w
unfolding spelling
length_spelling zero n = refl
length_spelling (suc w) n = ap suc (length_spelling w (n % 256 ^ w))

-- what is spelt is the number, whatever its size: the first byte carries what the others do not hold
pub number_spelling : (w n : ℕ) → number (spelling (suc w) n) ≡ n
unfolding number spelling
number_spelling zero n = omega (arith, div-one n)
number_spelling (suc v) n =
    ap₂ (λ x y. n / 256 ^ suc v * 256 ^ x + y) (length_spelling (suc v) (n % 256 ^ suc v)) (number_spelling v (n % 256 ^ suc v))
    ∙ div-add-mod' n (256 ^ suc v)

-- bytes spell a number below 256 to the power of how many they are
pub number_below : (xs : List ℕ) → Bytes xs → number xs < 256 ^ length xs
unfolding number
number_below [] b = omega arith
number_below (x ∷ xs) b =
    subst (λ n. x * 256 ^ length xs + number xs < n) (sym (pow-suc 256 (length xs)))
    (mul-add-lt x (256 ^ length xs) (number xs) 256 b.0 (number_below xs b.1))

-- bytes are what their number is spelt as
pub spelling_number : (xs : List ℕ) → Bytes xs → spelling (length xs) (number xs) ≡ xs
unfolding number spelling
spelling_number [] b = refl
spelling_number (x ∷ xs) b =
    let small = number_below xs b.1 in
    ap₂ (λ y ys. y ∷ ys) (div-mul-add x (256 ^ length xs) (number xs) small)
    (ap (spelling (length xs)) (mod-mul-add x (256 ^ length xs) (number xs) small) ∙ spelling_number xs b.1)

-- a part of bytes is bytes
pub bytes_take : (n : ℕ) (xs : List ℕ) → Bytes xs → Bytes (take n xs)
bytes_take zero xs b = tt
bytes_take (suc n) [] b = tt
bytes_take (suc n) (x ∷ xs) b = (b.0, bytes_take n xs b.1)

pub bytes_drop : (n : ℕ) (xs : List ℕ) → Bytes xs → Bytes (drop n xs)
bytes_drop zero xs b = b
bytes_drop (suc n) [] b = tt
bytes_drop (suc n) (x ∷ xs) b = bytes_drop n xs b.1
