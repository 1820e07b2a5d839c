-- The least point after a time: what it is, and that only which points there are decides it.
use Rattle.std.proofs.Common.{◌≡◌, ℕ, ◌<◌, ◌≤◌, true, min, List, [], ◌∷◌, ⊎_elim, refl, sym, ap, ◌∙◌, subst, Option, Some, None, arith}
use Rattle.std.proofs.lemmas.Bool.{cases_lt, lt-ltb, le-ltb}
use Rattle.fp_timenodes.specs.Floor.{next_point, earlier, IsNextPoint, HaveSamePoints}
use Rattle.fp_base_lists.specs.Membership.{list_has}
use Rattle.fp_base_lists.proofs.Membership.{list_has-rest, list_has-first, list_has-cons_cases}

-- what holds of two numbers holds of the lesser
min-has : (P : ℕ → Type 0) (a b : ℕ) → P a → P b → P (min a b)
min-has P a b p q =
    ⊎_elim
    (λ (h : a < b). let e : a ≡ min a b = omega arith in subst P e p)
    (λ (h : b ≤ a). let e : b ≡ min a b = omega arith in subst P e q)
    (cases_lt a b)

-- one more point, which is after the time
step-after : (q : ℕ) (qs : List ℕ) (at : ℕ) (o : Option ℕ) → at < q → IsNextPoint qs at o → IsNextPoint (q ∷ qs) at (earlier (Some q) o)
step-after q qs at None h none = (
  list_has-first q qs,
  h,
  λ p there after. ⊎_elim (λ (e : q ≡ p). omega arith) (λ (r : list_has qs p ≡ true). absurd (omega (arith, none p r))) (list_has-cons_cases q qs p there),
)
step-after q qs at (Some m) h next = (
  min-has (λ p. list_has (q ∷ qs) p ≡ true) q m (list_has-first q qs) (list_has-rest q qs m next.0),
  omega (arith, next.1),
  λ p there after. ⊎_elim (λ (e : q ≡ p). omega arith) (λ (r : list_has qs p ≡ true). omega (arith, next.2 p r after)) (list_has-cons_cases q qs p there),
)

-- one more point, which is not after the time
step-until : (q : ℕ) (qs : List ℕ) (at : ℕ) (o : Option ℕ) → q ≤ at → IsNextPoint qs at o → IsNextPoint (q ∷ qs) at o
step-until q qs at None h none = λ p there. ⊎_elim (λ (e : q ≡ p). omega arith) (λ (r : list_has qs p ≡ true). none p r) (list_has-cons_cases q qs p there)
step-until q qs at (Some m) h next = (
  list_has-rest q qs m next.0,
  next.1,
  λ p there after. ⊎_elim (λ (e : q ≡ p). omega arith) (λ (r : list_has qs p ≡ true). next.2 p r after) (list_has-cons_cases q qs p there),
)

-- the definition gives the next point
pub IsNextPoint-next_point : (qs : List ℕ) (at : ℕ) → IsNextPoint qs at (next_point qs at)
IsNextPoint-next_point [] at = λ p there. cc
IsNextPoint-next_point (q ∷ qs) at =
    ⊎_elim
    (λ (h : at < q). rw (lt-ltb at q h) (step-after q qs at (next_point qs at) h (IsNextPoint-next_point qs at)))
    (λ (h : q ≤ at). rw (le-ltb at q h) (step-until q qs at (next_point qs at) h (IsNextPoint-next_point qs at)))
    (cases_lt at q)

-- and there is no other
next-unique : (qs : List ℕ) (at : ℕ) (o p : Option ℕ) → IsNextPoint qs at o → IsNextPoint qs at p → o ≡ p
next-unique qs at None None h k = refl
next-unique qs at None (Some m) h k = absurd (omega (arith, h m k.0, k.1))
next-unique qs at (Some m) None h k = absurd (omega (arith, k m h.0, h.1))
next-unique qs at (Some m) (Some n) h k = let e : m ≡ n = omega (arith, h.2 n k.0 k.1, k.2 m h.0 h.1) in ap Some e

pub next_is : (qs : List ℕ) (at : ℕ) (o : Option ℕ) → IsNextPoint qs at o → o ≡ next_point qs at
next_is qs at o h = next-unique qs at o (next_point qs at) h (IsNextPoint-next_point qs at)

-- lists with the same points have the same next point
pub next_same : (ps qs : List ℕ) (at : ℕ) → HaveSamePoints ps qs → next_point ps at ≡ next_point qs at
next_same ps qs at same = next_is qs at (next_point ps at) (moved (next_point ps at) (IsNextPoint-next_point ps at))
  where
    moved : (o : Option ℕ) → IsNextPoint ps at o → IsNextPoint qs at o
    moved None h = λ q there. h q (same q ∙ there)
    moved (Some m) h = (sym (same m) ∙ h.0, h.1, λ q there after. h.2 q (same q ∙ there) after)
