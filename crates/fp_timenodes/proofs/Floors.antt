-- The greatest point that is not after a moment: what it is, and that only which points there are
-- decides it.
use Rattle.std.proofs.Common.{◌≡◌, ℕ, ◌*◌, ◌/◌, ◌<◌, ◌≤◌, true, max, List, [], ◌∷◌, ◌⊎◌, ⊎_elim, inl, inr, refl, sym, ap, ◌∙◌, subst, arith}
use Rattle.std.specs.Prelude.{nat_le}
use Rattle.std.proofs.Math.Nat.{mul-le-mul_left, le-div_iff_mul-le}
use Rattle.std.proofs.lemmas.Bool.{cases_lt, cond-true, cond-false, le-leb, lt-leb}
use Rattle.fp_timenodes.specs.Floor.{floor_point, IsFloorPoint, HaveSamePoints}
use Rattle.fp_base_lists.specs.Membership.{list_has}
use Rattle.fp_base_lists.proofs.Membership.{list_has-rest, list_has-first, list_has-cons_cases}

-- the first point counts where it is not after the moment
floor-early : (q : ℕ) (qs : List ℕ) (d n : ℕ) → d * q ≤ n → floor_point (q ∷ qs) d n ≡ max q (floor_point qs d n)
floor-early q qs d n h = ap (λ (m : ℕ). max m (floor_point qs d n)) (cond-true (nat_le (d * q) n) q 0 (le-leb (d * q) n h))

-- and else it does not
floor-late : (q : ℕ) (qs : List ℕ) (d n : ℕ) → n < d * q → floor_point (q ∷ qs) d n ≡ floor_point qs d n
floor-late q qs d n h =
    let skipped = ap (λ (m : ℕ). max m (floor_point qs d n)) (cond-false (nat_le (d * q) n) q 0 (lt-leb (d * q) n h)) in
    omega (arith, skipped)

-- what holds of two numbers holds of the greater
max-has : (P : ℕ → Type 0) (a b : ℕ) → P a → P b → P (max a b)
max-has P a b p q =
    ⊎_elim
    (λ (h : a < b). let e : b ≡ max a b = omega arith in subst P e q)
    (λ (h : b ≤ a). let e : a ≡ max a b = omega arith in subst P e p)
    (cases_lt a b)

-- the greatest point not after a moment is not after it
pub floor_le : (qs : List ℕ) (d n : ℕ) → d * floor_point qs d n ≤ n
floor_le [] d n = omega arith
floor_le (q ∷ qs) d n =
    let rest : d * floor_point qs d n ≤ n = floor_le qs d n in
    ⊎_elim
    (λ (h : n < d * q). rw (floor-late q qs d n h) rest)
    (λ (h : d * q ≤ n). rw (floor-early q qs d n h) (max-has (λ (m : ℕ). d * m ≤ n) q (floor_point qs d n) h rest))
    (cases_lt n (d * q))

-- it is one of the points, or 0
floor_reached : (qs : List ℕ) (d n : ℕ) → (floor_point qs d n ≡ 0) ⊎ (list_has qs (floor_point qs d n) ≡ true)
floor_reached [] d n = inl refl
floor_reached (q ∷ qs) d n =
    let Reached : ℕ → Type 0 = λ m. (m ≡ 0) ⊎ (list_has (q ∷ qs) m ≡ true) in
    let rest : Reached (floor_point qs d n) =
    ⊎_elim (λ (e : floor_point qs d n ≡ 0). inl e) (λ (h : list_has qs (floor_point qs d n) ≡ true). inr (list_has-rest q qs (floor_point qs d n) h)) (floor_reached qs d n) in
    ⊎_elim
    (λ (h : n < d * q). subst Reached (sym (floor-late q qs d n h)) rest)
    (λ (h : d * q ≤ n). subst Reached (sym (floor-early q qs d n h)) (max-has Reached q (floor_point qs d n) (inr (list_has-first q qs)) rest))
    (cases_lt n (d * q))

-- no point that is not after the moment is greater
pub floor_greatest : (qs : List ℕ) (d n q : ℕ) → list_has qs q ≡ true → d * q ≤ n → q ≤ floor_point qs d n
floor_greatest [] d n q there h = cc
floor_greatest (p ∷ qs) d n q there h =
    ⊎_elim
    (λ (e : p ≡ q). let early : d * p ≤ n = rw e h in omega (arith, floor-early p qs d n early))
    (λ (r : list_has qs q ≡ true). omega (arith, floor_greatest qs d n q r h))
    (list_has-cons_cases p qs q there)

-- what is at least each point that is not after the moment is at least the greatest
pub floor_below : (qs : List ℕ) (d n m : ℕ) → ((q : ℕ) → list_has qs q ≡ true → d * q ≤ n → q ≤ m) → floor_point qs d n ≤ m
floor_below [] d n m above = omega arith
floor_below (q ∷ qs) d n m above =
    let rest : floor_point qs d n ≤ m = floor_below qs d n m (λ p there. above p (list_has-rest q qs p there)) in
    ⊎_elim
    (λ (h : n < d * q). omega (arith, floor-late q qs d n h))
    (λ (h : d * q ≤ n). omega (arith, floor-early q qs d n h, above q (list_has-first q qs) h))
    (cases_lt n (d * q))

-- so a point that is not after the moment, and that no such point exceeds, is the greatest
pub floor_is : (qs : List ℕ) (d n m : ℕ) → list_has qs m ≡ true → d * m ≤ n → ((q : ℕ) → list_has qs q ≡ true → d * q ≤ n → q ≤ m) → floor_point qs d n ≡ m
floor_is qs d n m there h above = omega (arith, floor_greatest qs d n m there h, floor_below qs d n m above)

-- where 0 is one of the points, the greatest is one too
pub IsFloorPoint-floor_point : (qs : List ℕ) (at : ℕ) → list_has qs 0 ≡ true → IsFloorPoint qs at (floor_point qs 1 at)
IsFloorPoint-floor_point qs at zero = (
  ⊎_elim
      (λ (e : floor_point qs 1 at ≡ 0). subst (λ (m : ℕ). list_has qs m ≡ true) (sym e) zero)
      (λ (h : list_has qs (floor_point qs 1 at) ≡ true). h)
      (floor_reached qs 1 at),
  omega (arith, floor_le qs 1 at),
  λ q there le. floor_greatest qs 1 at q there (omega (arith, le)),
)

-- a point is its own greatest
pub floor_itself : (qs : List ℕ) (q : ℕ) → list_has qs q ≡ true → floor_point qs 1 q ≡ q
floor_itself qs q there = floor_is qs 1 q q there (omega arith) (λ p h le. omega (arith, le))

-- with more points the greatest is no earlier
floor_more : (ps qs : List ℕ) (d n : ℕ) → ((q : ℕ) → list_has ps q ≡ true → list_has qs q ≡ true) → floor_point ps d n ≤ floor_point qs d n
floor_more ps qs d n more = floor_below ps d n (floor_point qs d n) (λ q there h. floor_greatest qs d n q (more q there) h)

-- lists with the same points have the same greatest
pub floor_same : (ps qs : List ℕ) (d n : ℕ) → HaveSamePoints ps qs → floor_point ps d n ≡ floor_point qs d n
floor_same ps qs d n same =
    omega (arith, floor_more ps qs d n (λ q h. sym (same q) ∙ h), floor_more qs ps d n (λ q h. same q ∙ h))

-- a later moment, over whatever denominator, has no earlier point
pub floor_mono : (qs : List ℕ) (d a n : ℕ) → d * a ≤ n → floor_point qs 1 a ≤ floor_point qs d n
floor_mono qs d a n h =
    floor_below qs 1 a (floor_point qs d n)
    (λ q there le. let whole : q ≤ a = omega (arith, le) in
    let scaled : d * q ≤ d * a = mul-le-mul_left d whole in floor_greatest qs d n q there (omega (arith, scaled)))

-- the greatest whole moment not after a moment has the same point
pub floor_whole : (qs : List ℕ) (d n : ℕ) → 0 < d → floor_point qs 1 (n / d) ≡ floor_point qs d n
floor_whole qs d n h =
    omega (
      arith,
      floor_below qs 1 (n / d) (floor_point qs d n) (λ q there le. floor_greatest qs d n q there (scaled q (omega (arith, le)))),
      floor_below qs d n (floor_point qs 1 (n / d)) (λ q there le. floor_greatest qs 1 (n / d) q there (omega (arith, whole q le))),
    )
  where
    scaled : (q : ℕ) → q ≤ n / d → d * q ≤ n
    scaled q le = omega (arith, (le-div_iff_mul-le h).0 le)

    whole : (q : ℕ) → d * q ≤ n → q ≤ n / d
    whole q le = (le-div_iff_mul-le h).1 (let e : q * d ≤ n = omega (arith, le) in e)
