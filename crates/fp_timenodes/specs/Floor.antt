-- Looking up points in a list of them, whatever its order. A moment over the denominator d is n /
-- d.
use Rattle.std.specs.Prelude.{ℕ, ◌*◌, ◌≡◌, ◌<◌, ◌≤◌, true, List, [], ◌∷◌, Option, Some, None, MatchOption, cond, nat_le, nat_lt, max, min}
use Rattle.fp_base_lists.specs.Membership.{list_has}

-- the greatest of the points that is not after the moment n / d, and 0 where there is none
abbrev pub floor_point : List ℕ → ℕ → ℕ → ℕ
floor_point [] d n = 0
floor_point (q ∷ qs) d n = max (cond (nat_le (d * q) n) q 0) (floor_point qs d n)

-- a point that is not after the time, with no other point in between
abbrev pub IsFloorPoint : List ℕ → ℕ → ℕ → Type 0
IsFloorPoint qs at m = (list_has qs m ≡ true) × (m ≤ at) × ((q : ℕ) → list_has qs q ≡ true → q ≤ at → q ≤ m)

-- the lesser of two times, of which either may be missing
abbrev pub earlier : Option ℕ → Option ℕ → Option ℕ
earlier None o = o
earlier (Some q) None = Some q
earlier (Some q) (Some r) = Some (min q r)

-- the least of the points that is after the time, if there is one
abbrev pub next_point : List ℕ → ℕ → Option ℕ
next_point [] at = None
next_point (q ∷ qs) at = earlier (cond (nat_lt at q) (Some q) None) (next_point qs at)

-- a point after the time with no other point in between, or, where there is none, no point is after
-- the time
abbrev pub IsNextPoint : List ℕ → ℕ → Option ℕ → Type 0
IsNextPoint qs at o =
    MatchOption o ((q : ℕ) → list_has qs q ≡ true → q ≤ at)
    (λ m. (list_has qs m ≡ true) × (at < m) × ((q : ℕ) → list_has qs q ≡ true → at < q → m ≤ q))

-- two lists have the same points
abbrev pub HaveSamePoints : List ℕ → List ℕ → Type 0
HaveSamePoints ps qs = (at : ℕ) → list_has ps at ≡ list_has qs at
