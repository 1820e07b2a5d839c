-- What holds of the elements of a list and their numbers.
use Rattle.std.proofs.Common.{◌≡◌, ℕ, zero, suc, ◌+◌, ◌<◌, List, [], ◌∷◌, ◌++◌, length, get_or, refl, subst, arith, add-one}
use Rattle.std.specs.List.{AllZip}
use Rattle.fp_base_lists.specs.Numbered.{AllFrom, AllZipFrom}

-- the element after the first has the next number
get_or-next : {X : Type 0} (x : X) (xs : List X) (k : ℕ) (d : X) → get_or (x ∷ xs) (k + 1) d ≡ get_or xs k d
get_or-next x xs k d = rw add-one refl

-- what holds at each number
pub AllFrom-from_get_or : {X : Type 0} (P : ℕ → X → Type 0) (xs : List X) (d : X) (i : ℕ) →
    ((k : ℕ) → k < length xs → P (i + k) (get_or xs k d)) → AllFrom P i xs
AllFrom-from_get_or P [] d i h = tt
AllFrom-from_get_or {X} P (x ∷ xs) d i h =
    let first : P (i + 0) x = h 0 (omega arith) in
    let same : i + 0 ≡ i = omega arith in (
      subst (λ (n : ℕ). P n x) same first,
      AllFrom-from_get_or P xs d (i + 1) (λ k lt.
          let there : P (i + (k + 1)) (get_or (x ∷ xs) (k + 1) d) = h (k + 1) (omega (arith, lt)) in
          let on : i + (k + 1) ≡ i + 1 + k = omega arith in
          subst (λ (n : ℕ). P n (get_or xs k d)) on (subst (λ (y : X). P (i + (k + 1)) y) (get_or-next x xs k d) there)),
    )

-- and back
AllFrom-get_or : {X : Type 0} (P : ℕ → X → Type 0) (xs : List X) (d : X) (i k : ℕ) → AllFrom P i xs → k < length xs →
    P (i + k) (get_or xs k d)
AllFrom-get_or P [] d i k all lt = absurd (omega (arith, lt))
AllFrom-get_or {X} P (x ∷ xs) d i zero all lt =
    let same : i ≡ i + 0 = omega arith in
    subst (λ (n : ℕ). P n x) same all.0
AllFrom-get_or {X} P (x ∷ xs) d i (suc k) all lt =
    let there : P (i + 1 + k) (get_or xs k d) = AllFrom-get_or P xs d (i + 1) k all.1 (omega (arith, lt)) in
    let on : i + 1 + k ≡ i + suc k = omega arith in
    subst (λ (n : ℕ). P n (get_or xs k d)) on there

-- in a list that is numbered from 0
pub AllFrom-get_or_zero : {X : Type 0} (P : ℕ → X → Type 0) (xs : List X) (d : X) (k : ℕ) → AllFrom P 0 xs → k < length xs →
    P k (get_or xs k d)
AllFrom-get_or_zero {X} P xs d k all lt =
    let same : 0 + k ≡ k = omega arith in
    subst (λ (n : ℕ). P n (get_or xs k d)) same (AllFrom-get_or P xs d 0 k all lt)

-- what holds of the elements of two lists at a place and its number
pub AllZipFrom-get_or : {X Y : Type 0} (Q : ℕ → X → Y → Type 0) (xs : List X) (ys : List Y) (d : X) (e : Y) (i k : ℕ) →
    AllZipFrom Q i xs ys → k < length xs → Q (i + k) (get_or xs k d) (get_or ys k e)
AllZipFrom-get_or Q [] ys d e i k all lt = absurd (omega (arith, lt))
AllZipFrom-get_or Q (x ∷ xs) [] d e i k all lt = absurd all
AllZipFrom-get_or Q (x ∷ xs) (y ∷ ys) d e i zero all lt =
    let same : i ≡ i + 0 = omega arith in
    subst (λ (n : ℕ). Q n x y) same all.0
AllZipFrom-get_or Q (x ∷ xs) (y ∷ ys) d e i (suc k) all lt =
    let there : Q (i + 1 + k) (get_or xs k d) (get_or ys k e) = AllZipFrom-get_or Q xs ys d e (i + 1) k all.1 (omega (arith, lt)) in
    let on : i + 1 + k ≡ i + suc k = omega arith in
    subst (λ (n : ℕ). Q n (get_or xs k d) (get_or ys k e)) on there

-- one more element at the end of both lists
pub AllZipFrom-push : {X Y : Type 0} (Q : ℕ → X → Y → Type 0) (i : ℕ) (xs : List X) (ys : List Y) (x : X) (y : Y) →
    AllZipFrom Q i xs ys → Q (i + length xs) x y → AllZipFrom Q i (xs ++ x ∷ []) (ys ++ y ∷ [])
AllZipFrom-push Q i [] [] x y all one = let e : i + 0 ≡ i = omega arith in (subst (λ (n : ℕ). Q n x y) e one, tt)
AllZipFrom-push Q i [] (z ∷ ys) x y all one = absurd all
AllZipFrom-push Q i (z ∷ xs) [] x y all one = absurd all
AllZipFrom-push Q i (z ∷ xs) (w ∷ ys) x y all one =
    let e : i + suc (length xs) ≡ i + 1 + length xs = omega arith in
    (all.0, AllZipFrom-push Q (i + 1) xs ys x y all.1 (subst (λ (n : ℕ). Q n x y) e one))

-- Q of two lists, weakened
pub AllZipFrom-weaker : {X Y : Type 0} (Q R : ℕ → X → Y → Type 0) → ((k : ℕ) (x : X) (y : Y) → Q k x y → R k x y) → (i : ℕ) (xs : List X) (ys : List Y) →
    AllZipFrom Q i xs ys → AllZipFrom R i xs ys
AllZipFrom-weaker Q R weaker i [] [] all = tt
AllZipFrom-weaker Q R weaker i [] (y ∷ ys) all = absurd all
AllZipFrom-weaker Q R weaker i (x ∷ xs) [] all = absurd all
AllZipFrom-weaker Q R weaker i (x ∷ xs) (y ∷ ys) all = (weaker i x y all.0, AllZipFrom-weaker Q R weaker (i + 1) xs ys all.1)

-- what holds of two lists of one length at each place
pub AllZip-from_get_or : {X Y : Type 0} (Q : X → Y → Type 0) (xs : List X) (ys : List Y) (d : X) (e : Y) → length ys ≡ length xs →
    ((k : ℕ) → k < length xs → Q (get_or xs k d) (get_or ys k e)) → AllZip Q xs ys
AllZip-from_get_or Q [] [] d e long each = tt
AllZip-from_get_or Q [] (y ∷ ys) d e long each = absurd (omega (arith, long))
AllZip-from_get_or Q (x ∷ xs) [] d e long each = absurd (omega (arith, long))
AllZip-from_get_or Q (x ∷ xs) (y ∷ ys) d e long each =
    (each 0 (omega arith), AllZip-from_get_or Q xs ys d e (omega (arith, long)) (λ k lt. each (suc k) (omega (arith, lt))))

-- and back: std's lemma of this name is for lists of one type
pub AllZip-get_or : {X Y : Type 0} (Q : X → Y → Type 0) (xs : List X) (ys : List Y) (i : ℕ) (d : X) (e : Y) → AllZip Q xs ys → i < length xs →
    Q (get_or xs i d) (get_or ys i e)
AllZip-get_or Q [] ys i d e all lt = absurd (omega (arith, lt))
AllZip-get_or Q (x ∷ xs) [] i d e all lt = absurd all
AllZip-get_or Q (x ∷ xs) (y ∷ ys) zero d e all lt = all.0
AllZip-get_or Q (x ∷ xs) (y ∷ ys) (suc i) d e all lt = AllZip-get_or Q xs ys i d e all.1 (omega (arith, lt))
