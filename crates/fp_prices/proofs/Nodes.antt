-- The nodes of a network's points: each is the node of one point of one terminal.
use Rattle.std.proofs.Common.{◌≡◌, ℕ, zero, suc, ◌+◌, ◌-◌, ◌<◌, ◌≤◌, ◌⊎◌, ⊎_elim, List, [], length, get_or, ap, subst, arith}
use Rattle.std.proofs.lemmas.Bool.{cases_order}
use Rattle.std.proofs.lemmas.List.Sums.{sum_by_more, sum_by-take-le}
use Rattle.fp_longestarcs.specs.Ascending.{ArePoints}
use Rattle.fp_base_lists.specs.Ascending.{place_in}
use Rattle.fp_longestarcs.specs.Networks.{TimedNetwork, point_count, points_in}
use Rattle.fp_base_lists.proofs.Places.{get_or-place_in, place_in-unique}
use Rattle.fp_prices.specs.Points.{first_node}

-- a terminal has as many nodes as it has points
pub nodes-more : (net : TimedNetwork) (t : ℕ) → t < length net.points → first_node net (t + 1) ≡ first_node net t + length (points_in net t)
nodes-more net t h = sum_by_more (λ (qs : List ℕ). length qs) net.points t [] h

-- the nodes of the first terminals are nodes
pub nodes-within : (net : TimedNetwork) (t : ℕ) → first_node net t ≤ point_count net
nodes-within net t = sum_by-take-le (λ (qs : List ℕ). length qs) net.points t

-- later terminals begin later
nodes-mono : (net : TimedNetwork) (n t : ℕ) → t + n ≤ length net.points → first_node net t ≤ first_node net (t + n)
nodes-mono net zero t h = let e : t + 0 ≡ t = omega arith in rw e (omega arith)
nodes-mono net (suc n) t h =
    let rest : first_node net (t + 1) ≤ first_node net (t + 1 + n) = nodes-mono net n (t + 1) (omega arith) in
    let e : t + suc n ≡ t + 1 + n = omega arith in
    rw e (omega (arith, rest, nodes-more net t (omega arith)))

-- all nodes of a terminal come before those of a later one
nodes-before : (net : TimedNetwork) (t u : ℕ) → t < u → u < length net.points → first_node net t + length (points_in net t) ≤ first_node net u
nodes-before net t u less h =
    let e : t + 1 + (u - (t + 1)) ≡ u = omega arith in
    let mono : first_node net (t + 1) ≤ first_node net u = subst (λ (n : ℕ). first_node net (t + 1) ≤ first_node net n) e (nodes-mono net (u - (t + 1)) (t + 1) (omega arith)) in
    omega (arith, mono, nodes-more net t (omega arith))

-- what stands at a place of a terminal's points has a node
pub node-within : (net : TimedNetwork) (t i : ℕ) → t < length net.points → i < length (points_in net t) → first_node net t + i < point_count net
node-within net t i h within = omega (arith, nodes-more net t h, nodes-within net (t + 1), within)

-- a node tells its terminal and its place there
pub node-unique : (net : TimedNetwork) (t u i j : ℕ) → t < length net.points → u < length net.points → i < length (points_in net t) → j < length (points_in net u) →
    first_node net t + i ≡ first_node net u + j → (t ≡ u) × (i ≡ j)
node-unique net t u i j h k within inside same =
    ⊎_elim
    (λ (e : t ≡ u). (e, omega (arith, same, ap (λ (n : ℕ). first_node net n) e)))
    (λ (apart : (t < u) ⊎ (u < t)).
    absurd
    (⊎_elim
    (λ (less : t < u). omega (arith, same, nodes-before net t u less k))
    (λ (more : u < t). omega (arith, same, nodes-before net u t more h))
    apart))
    (cases_order t u)

-- the first point of a terminal is 0
pub first-point : (qs : List ℕ) → ArePoints qs → (place_in qs 0 ≡ 0) × (0 < length qs) × (get_or qs 0 0 ≡ 0)
first-point qs are =
    let none : place_in qs 0 ≡ 0 = place_in-unique qs 0 0 (record { within = omega arith; below = λ k d h. absurd (omega arith); above = λ k d from h. omega arith }) in
    let there = get_or-place_in qs 0 are.ascending are.zero in
    (none, omega (arith, there.0, none), subst (λ (n : ℕ). get_or qs n 0 ≡ 0) none (there.1 0))
