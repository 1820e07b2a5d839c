-- The edges of the graph of a network's points, by their numbers.
use Rattle.std.proofs.Common.{◌≡◌, ℕ, zero, suc, ◌+◌, ◌-◌, ◌<◌, ◌≤◌, ◌⊎◌, ⊎_elim, inl, inr, List, ◌++◌, length, get_or, sym, ap, ◌∙◌, subst, arith, length-append}
use Rattle.std.specs.Prelude.{Option, true}
use Rattle.std.proofs.lemmas.Bool.{cases_lt}
use Rattle.std.proofs.lemmas.List.{get_or_append_left, get_or-append_right, get_or-append-add, get_or_default, take_all}
use Rattle.std.proofs.lemmas.List.FromFn.{length-map-range_with_len, get_or-map-range_with_len}
use Rattle.fp_labels.specs.declared.graphs.Edge.{Edge}
use Rattle.fp_labels.specs.Graphs.{edge_at, no_edge, HasEnds}
use Rattle.fp_model.specs.declared.parts.Leg.{Leg}
use Rattle.fp_model.specs.Problem.{Problem, arc_at, IsValid}
use Rattle.fp_model.specs.Routes.{step}
use Rattle.fp_flatnet.specs.declared.window_tables.Window.{Window}
use Rattle.fp_base_lists.specs.Membership.{list_has}
use Rattle.fp_timenodes.proofs.Floors.{IsFloorPoint-floor_point}
use Rattle.fp_base_lists.specs.Ascending.{place_in}
use Rattle.fp_longestarcs.specs.Classes.{head_of}
use Rattle.fp_longestarcs.specs.Networks.{TimedNetwork, IsArcOfClass, IsClass, IsNetwork, class_count, class_number, copy_count, first_class, point_count, points_in, tail_in}
use Rattle.fp_longestarcs.specs.Whole.{IsWholeNetwork}
use Rattle.fp_longestarcs.proofs.ClassNumbers.{class-place, few-classes, first-more, number-within}
use Rattle.fp_longestarcs.proofs.NewPoints.{points-of}
use Rattle.fp_longestarcs.proofs.HeadLists.{arc-count, tail-of}
use Rattle.fp_base_lists.proofs.Places.{get_or-place_in}
use Rattle.fp_longestarcs.proofs.ShortCopies.{head-within}
use Rattle.fp_allowed.specs.Listing.{class_at}
use Rattle.fp_allowed.specs.Heads.{heads_within}
use Rattle.fp_allowed.proofs.Heads.{head_within-point}
use Rattle.fp_allowed.proofs.ListedClasses.{class_at-number, class_by, class_by-number, IsClass-class_by}
use Rattle.fp_prices.specs.Points.{AreHeads, class_edge_by, class_edges_by, edges_by, edges_of, first_node, holding_at, holding_below, next_edge}
use Rattle.fp_prices.proofs.Nodes.{nodes-more, nodes-within, node-within}

-- a class has each number below their count
arc-of : (net : TimedNetwork) (k n : ℕ) → k ≤ length net.tails → n < first_class net k → (arc : ℕ) × IsArcOfClass net n arc
arc-of net zero n h below = absurd (omega (arith, below))
arc-of net (suc k) n h below =
    ⊎_elim
    (λ (less : n < first_class net k). arc-of net k n (omega arith) less)
    (λ (more : first_class net k ≤ n).
    let last : first_class net (suc k) ≡ first_class net k + length (points_in net (tail_in net k)) =
    ap (λ (m : ℕ). first_class net m) (let e : suc k ≡ k + 1 = omega arith in e) ∙ first-more net k (omega arith) in
    (k, record { exists = omega arith; from = more; before = omega (arith, below, last) }))
    (cases_lt n (first_class net k))

pub class-numbered : (net : TimedNetwork) (n : ℕ) → IsNetwork net → n < class_count net → (c : Leg) × IsClass net c × (class_number net c ≡ n)
class-numbered net n valid h =
    let all : first_class net (length net.tails) ≡ class_count net = ap (λ (l : List ℕ). copy_count net.points l) (take_all (length net.tails) net.tails (omega arith)) in
    let found = arc-of net (length net.tails) n (omega arith) (omega (arith, h, all)) in
    let arc : ℕ = found.0 in
    let place : ℕ = n - first_class net arc in
    let within : place < length (points_in net (tail_in net arc)) = omega (arith, found.1.from, found.1.before) in (
      class_by net arc place,
      IsClass-class_by net arc place found.1.exists within,
      omega (arith, class_by-number net arc place valid found.1.exists within, found.1.from),
    )

-- the classes' edges are as many as the classes
length-class_edges : (p : Problem) (net : TimedNetwork) (heads : Leg → ℕ) → length (class_edges_by p net heads) ≡ class_count net
length-class_edges p net heads = length-map-range_with_len (λ n. class_edge_by p net heads (class_at net n)) 0 (class_count net)

-- and there are as many more edges as holding edges
pub length-edges_by : (p : Problem) (net : TimedNetwork) (heads : Leg → ℕ) → length (edges_by p net heads) ≡ class_count net + length (holding_below net (length net.points))
length-edges_by p net heads = omega (arith, length-append (class_edges_by p net heads) (holding_below net (length net.points)), length-class_edges p net heads)

-- whatever the heads, there are as many edges
pub length-edges : (p : Problem) (net : TimedNetwork) → length (edges_of p net) ≡ class_count net + length (holding_below net (length net.points))
length-edges p net = length-edges_by p net (head_of p (points_in net))

-- so edges of the classes to which the holding edges were added are all edges
pub edges-joined : (p : Problem) (net : TimedNetwork) (heads : Leg → ℕ) (edges old new : List Edge) → edges ≡ new → new ≡ old ++ holding_below net (length net.points) →
    old ≡ class_edges_by p net heads → edges ≡ edges_by p net heads
edges-joined p net heads edges old new is more classes = is ∙ more ∙ ap (λ (l : List Edge). l ++ holding_below net (length net.points)) classes

-- a class's edge has its number
pub edge-of-class : (p : Problem) (net : TimedNetwork) (heads : Leg → ℕ) (c : Leg) → IsNetwork net → IsClass net c → edge_at (edges_by p net heads) (class_number net c) ≡ class_edge_by p net heads c
edge-of-class p net heads c valid is =
    let n : ℕ = class_number net c in
    let below : n < class_count net = number-within net c valid is in
    get_or_append_left (class_edges_by p net heads) (holding_below net (length net.points)) no_edge n (omega (arith, below, length-class_edges p net heads)) ∙
    get_or-map-range_with_len (λ m. class_edge_by p net heads (class_at net m)) 0 (class_count net) n n no_edge below (omega arith) ∙
    ap (class_edge_by p net heads) (class_at-number net c valid is)

-- an edge from a point of a terminal to the next one
pub record IsHolding (net : TimedNetwork) (e : Edge) : Type 0 where
  pub terminal : ℕ
  pub place : ℕ
  pub exists : terminal < length net.points
  pub within : place + 1 < length (points_in net terminal)
  pub is : e ≡ next_edge (first_node net terminal + place)

-- how many holding edges a terminal has
length-holding_at : (net : TimedNetwork) (t : ℕ) → length (holding_at net t) ≡ length (points_in net t) - 1
length-holding_at net t = length-map-range_with_len next_edge (first_node net t) (length (points_in net t) - 1)

-- the holding edge at a place of a terminal
at-holding : (net : TimedNetwork) (t i : ℕ) → i + 1 < length (points_in net t) → get_or (holding_at net t) i no_edge ≡ next_edge (first_node net t + i)
at-holding net t i h = get_or-map-range_with_len next_edge (first_node net t) (length (points_in net t) - 1) i (first_node net t + i) no_edge (omega arith) (omega arith)

-- each holding edge is one
are-holding : (net : TimedNetwork) (n k : ℕ) → n ≤ length net.points → k < length (holding_below net n) → IsHolding net (get_or (holding_below net n) k no_edge)
are-holding net zero k h below = absurd (omega (arith, below))
are-holding net (suc n) k h below =
    let before : List Edge = holding_below net n in
    ⊎_elim
    (λ (early : k < length before). subst (IsHolding net) (sym (get_or_append_left before (holding_at net n) no_edge k early)) (are-holding net n k (omega arith) early))
    (λ (late : length before ≤ k).
    let i : ℕ = k - length before in
    let within : i + 1 < length (points_in net n) = omega (arith, below, late, length-append before (holding_at net n), length-holding_at net n) in
    record {
      terminal = n;
      place = i;
      exists = omega arith;
      within = within;
      is = get_or-append_right before (holding_at net n) (length before) k no_edge (let e : length before ≡ length before = omega arith in e) late ∙ at-holding net n i within;
    })
    (cases_lt k (length before))

-- and each point but the last of its terminal has one
has-holding : (net : TimedNetwork) (n t i : ℕ) → t < n → i + 1 < length (points_in net t) →
    (k : ℕ) × (k < length (holding_below net n)) × (get_or (holding_below net n) k no_edge ≡ next_edge (first_node net t + i))
has-holding net zero t i h within = absurd (omega arith)
has-holding net (suc n) t i h within =
    let before : List Edge = holding_below net n in
    let all : length (before ++ holding_at net n) ≡ length before + length (holding_at net n) = length-append before (holding_at net n) in
    ⊎_elim
    (λ (early : t < n).
    let there = has-holding net n t i early within in
    (there.0, omega (arith, there.1, all), get_or_append_left before (holding_at net n) no_edge there.0 there.1 ∙ there.2))
    (λ (late : n ≤ t).
    let same : t ≡ n = omega arith in
    let inside : i + 1 < length (points_in net n) = subst (λ (m : ℕ). i + 1 < length (points_in net m)) same within in (
      length before + i,
      omega (arith, all, inside, length-holding_at net n),
      get_or-append-add before (holding_at net n) i no_edge ∙ at-holding net n i inside ∙ ap (λ (m : ℕ). next_edge (first_node net m + i)) (sym same),
    ))
    (cases_lt t n)

-- there are no more holding edges than points
holding-few : (net : TimedNetwork) (n : ℕ) → n ≤ length net.points → length (holding_below net n) ≤ first_node net n
holding-few net zero h = omega arith
holding-few net (suc n) h =
    let e : suc n ≡ n + 1 = omega arith in
    rw e (omega (arith, length-append (holding_below net n) (holding_at net n), length-holding_at net n, holding-few net n (omega arith), nodes-more net n (omega arith)))

-- so there are few edges
pub few-edges : (p : Problem) (net : TimedNetwork) (heads : Leg → ℕ) → IsNetwork net → length (edges_by p net heads) ≤ 100001000 + point_count net
few-edges p net heads valid =
    omega (arith, length-edges_by p net heads, few-classes net valid, holding-few net (length net.points) (omega arith), nodes-within net (length net.points))

-- each edge is a class's or a holding edge
pub edge-cases : (p : Problem) (net : TimedNetwork) (heads : Leg → ℕ) (e : ℕ) → IsNetwork net → e < length (edges_by p net heads) →
    ((c : Leg) × IsClass net c × (class_number net c ≡ e)) ⊎ ((class_count net ≤ e) × IsHolding net (edge_at (edges_by p net heads) e))
edge-cases p net heads e valid h =
    let holding : List Edge = holding_below net (length net.points) in
    ⊎_elim
    (λ (early : e < class_count net). inl (class-numbered net e valid early))
    (λ (late : class_count net ≤ e).
    inr (
      late,
      subst (IsHolding net) (sym (get_or-append_right (class_edges_by p net heads) holding (class_count net) e no_edge (length-class_edges p net heads) late))
          (are-holding net (length net.points) (e - class_count net) (omega arith) (omega (arith, h, late, length-edges_by p net heads))),
    ))
    (cases_lt e (class_count net))

-- each point but the last of its terminal has an edge to the next one
pub holding-edge : (p : Problem) (net : TimedNetwork) (heads : Leg → ℕ) (t i : ℕ) → t < length net.points → i + 1 < length (points_in net t) →
    (e : ℕ) × (class_count net ≤ e) × (e < length (edges_by p net heads)) × (edge_at (edges_by p net heads) e ≡ next_edge (first_node net t + i))
holding-edge p net heads t i h within =
    let holding : List Edge = holding_below net (length net.points) in
    let there = has-holding net (length net.points) t i h within in
    let long : length (class_edges_by p net heads) ≡ class_count net = length-class_edges p net heads in (
      length (class_edges_by p net heads) + there.0,
      omega (arith, long),
      omega (arith, long, there.1, length-edges_by p net heads),
      get_or-append-add (class_edges_by p net heads) holding there.0 no_edge ∙ there.2,
    )

-- a class leaves the terminal of its arc's tail at one of its points, and its head by such heads is one of those of the arc's head
pub record Joins (p : Problem) (net : TimedNetwork) (heads : Leg → ℕ) (c : Leg) : Type 0 where
  pub exists : c.arc < length p.arcs
  pub tail : (arc_at p c.arc).from < length net.points
  pub head : (arc_at p c.arc).to < length net.points
  pub leaves : place_in (points_in net (arc_at p c.arc).from) c.depart < length (points_in net (arc_at p c.arc).from)
  pub departs : get_or (points_in net (arc_at p c.arc).from) (place_in (points_in net (arc_at p c.arc).from) c.depart) 0 ≡ c.depart
  pub enters : place_in (points_in net (arc_at p c.arc).to) (heads c) < length (points_in net (arc_at p c.arc).to)
  pub arrives : get_or (points_in net (arc_at p c.arc).to) (place_in (points_in net (arc_at p c.arc).to) (heads c)) 0 ≡ heads c

pub class-joins : (p : Problem) (net : TimedNetwork) (heads : Leg → ℕ) (c : Leg) → IsValid p → IsWholeNetwork p net → AreHeads p net heads → IsClass net c → Joins p net heads c
class-joins p net heads c valid whole are is =
    let exists : c.arc < length p.arcs = omega (arith, is.0, arc-count p net whole.arcs) in
    let tail : tail_in net c.arc ≡ (arc_at p c.arc).from = tail-of p net c.arc whole.arcs exists in
    let there = class-place net c whole.valid is in
    let head : (arc_at p c.arc).to < length net.points = head-within p net c.arc valid whole is.0 in
    let enters = get_or-place_in (points_in net (arc_at p c.arc).to) (heads c) (points-of net (arc_at p c.arc).to whole.valid head).ascending (are c is) in
    record {
      exists = exists;
      tail = subst (λ (t : ℕ). t < length net.points) tail (whole.valid.tails c.arc 0 is.0);
      head = head;
      leaves = subst (λ (t : ℕ). place_in (points_in net t) c.depart < length (points_in net t)) tail there.0;
      departs = subst (λ (t : ℕ). get_or (points_in net t) (place_in (points_in net t) c.depart) 0 ≡ c.depart) tail there.1;
      enters = enters.0;
      arrives = enters.1 0;
    }

-- the heads of the classes are such points
pub are-heads : (p : Problem) (net : TimedNetwork) → IsValid p → IsWholeNetwork p net → AreHeads p net (head_of p (points_in net))
are-heads p net valid whole c is =
    let zero : list_has (points_in net (arc_at p c.arc).to) 0 ≡ true = (points-of net (arc_at p c.arc).to whole.valid (head-within p net c.arc valid whole is.0)).zero in
    (IsFloorPoint-floor_point (points_in net (arc_at p c.arc).to) (c.depart + step p c.arc) zero).0

-- and so are those for a shipment
pub are-heads_within : (p : Problem) (net : TimedNetwork) (windows : ℕ → ℕ → Option Window) (k : ℕ) → IsValid p → IsWholeNetwork p net → AreHeads p net (heads_within p windows (points_in net) k)
are-heads_within p net windows k valid whole c is =
    head_within-point p (points_in net) (windows k c.arc) c (points-of net (arc_at p c.arc).to whole.valid (head-within p net c.arc valid whole is.0)).zero

-- both ends of each edge are nodes
pub has-ends : (p : Problem) (net : TimedNetwork) (heads : Leg → ℕ) → IsValid p → IsWholeNetwork p net → AreHeads p net heads → HasEnds (point_count net) (edges_by p net heads)
has-ends p net heads valid whole are k d h =
    subst (λ (e : Edge). (e.from < point_count net) × (e.to < point_count net)) (get_or_default (edges_by p net heads) k no_edge d h)
    (⊎_elim class holding (edge-cases p net heads k whole.valid h))
  where
    Ends : Edge → Type 0
    Ends e = (e.from < point_count net) × (e.to < point_count net)

    class : ((c : Leg) × IsClass net c × (class_number net c ≡ k)) → Ends (edge_at (edges_by p net heads) k)
    class (c, is, number) =
        let joins = class-joins p net heads c valid whole are is in
        subst Ends (sym (edge-of-class p net heads c whole.valid is) ∙ ap (edge_at (edges_by p net heads)) number) (
          node-within net (arc_at p c.arc).from (place_in (points_in net (arc_at p c.arc).from) c.depart) joins.tail joins.leaves,
          node-within net (arc_at p c.arc).to (place_in (points_in net (arc_at p c.arc).to) (heads c)) joins.head joins.enters,
        )

    holding : ((class_count net ≤ k) × IsHolding net (edge_at (edges_by p net heads) k)) → Ends (edge_at (edges_by p net heads) k)
    holding (late, is) =
        subst Ends (sym is.is) (
          node-within net is.terminal is.place is.exists (omega (arith, is.within)),
          omega (arith, node-within net is.terminal (is.place + 1) is.exists is.within),
        )
