-- Over the same points, in whatever lists, the same classes are allowed, with the same heads and
-- the same timed walks.
use Rattle.std.proofs.Common.{◌≡◌, ℕ, ◌+◌, ◌<◌, ◌≤◌, Bool, false, ◌&&◌, List, [], ◌∷◌, length, ⊎_elim, refl, sym, ap, ◌∙◌, subst}
use Rattle.std.specs.Prelude.{Option, Some, None, nat_eq, nat_le, nat_lt}
use Rattle.std.proofs.lemmas.Bool.{and_left, cases_lt, le-ltb}
use Rattle.fp_base_lists.proofs.CountsBelow.{some_below-same}
use Rattle.fp_model.specs.declared.parts.Leg.{Leg}
use Rattle.fp_model.specs.declared.parts.Shipment.{Shipment}
use Rattle.fp_model.specs.Problem.{IsValid, Problem, arc_at, no_arc}
use Rattle.fp_model.specs.Routes.{Leads, arcs_of, step}
use Rattle.fp_timenodes.proofs.Floors.{floor_same}
use Rattle.fp_flatnet.specs.declared.window_tables.Window.{Window}
use Rattle.fp_longestarcs.specs.Classes.{class_of, head_of}
use Rattle.fp_tree.specs.declared.sides.Side.{Side}
use Rattle.fp_allowed.specs.Allowed.{exit_of, has_moment, is_allowed, is_moment, meets_all, tails_of}
use Rattle.fp_allowed.specs.SamePoints.{AgreeOnPoints}
use Rattle.fp_allowed.specs.Heads.{head_within, heads_within, not_before}
use Rattle.fp_allowed.specs.Walks.{FollowsHeads, IsTimedWalk, IsWalkBy}

-- agreement goes both ways
pub AgreeOnPoints_sym : (p : Problem) (points others : ℕ → List ℕ) → AgreeOnPoints p points others → AgreeOnPoints p others points
AgreeOnPoints_sym p points others same = λ terminal h at. sym (same terminal h at)

-- a walk follows other heads where they agree on the arcs that exist
FollowsHeads_same : (p : Problem) (heads others : Leg → ℕ) → ((c : Leg) → c.arc < length p.arcs → heads c ≡ others c) → (here there ready : ℕ) (walk : List Leg) →
    Leads p here (arcs_of walk) there → FollowsHeads heads ready walk → FollowsHeads others ready walk
FollowsHeads_same p heads others same here there ready [] leads follows = tt
FollowsHeads_same p heads others same here there ready (c ∷ walk) leads follows = (
  follows.0,
  subst (λ (n : ℕ). FollowsHeads others n walk) (same c leads.0) (FollowsHeads_same p heads others same (arc_at p c.arc).to there (heads c) walk leads.2 follows.1),
)

-- so a walk by heads is one by those
pub IsWalkBy_same : (p : Problem) (heads others : Leg → ℕ) (allowed : Leg → Bool) (s : Shipment) (walk : List Leg) → ((c : Leg) → c.arc < length p.arcs → heads c ≡ others c) →
    IsWalkBy p heads allowed s walk → IsWalkBy p others allowed s walk
IsWalkBy_same p heads others allowed s walk same goes = record {
  leads = goes.leads;
  allowed_all = goes.allowed_all;
  follows = FollowsHeads_same p heads others same s.from s.to 0 walk goes.leads goes.follows;
}

module _ (p : Problem) (valid : IsValid p) (points others : ℕ → List ℕ) (same : AgreeOnPoints p points others) where
  -- the same class has the same moments
  has_moment_same : (sides : List Side) (k : ℕ) (c : Leg) (o : Option Window) → c.arc < length p.arcs → has_moment p points sides k c o ≡ has_moment p others sides k c o
  has_moment_same sides k c None h = refl
  has_moment_same sides k c (Some w) h =
      some_below-same (w.hi + 1) (is_moment p points sides k c w) (is_moment p others sides k c w) (λ m.
      ap (λ (n : ℕ). nat_eq n c.depart && nat_le w.lo m && nat_le m w.hi && meets_all k sides (exit_of p (record { arc = c.arc; depart = m })))
      (floor_same (points (tails_of p c.arc)) (others (tails_of p c.arc)) 1 m (same (tails_of p c.arc) (valid.parts.arcs c.arc no_arc h).from)))

  one_allowed : (windows : ℕ → ℕ → Option Window) (sides : List Side) (k : ℕ) (c : Leg) → is_allowed p windows points sides k c ≡ is_allowed p windows others sides k c
  one_allowed windows sides k c =
      ⊎_elim
      (λ (h : c.arc < length p.arcs). ap (λ (b : Bool). nat_lt c.arc (length p.arcs) && b) (has_moment_same sides k c (windows k c.arc) h))
      (λ (h : length p.arcs ≤ c.arc).
      let none : nat_lt c.arc (length p.arcs) ≡ false = le-ltb c.arc (length p.arcs) h in
      and_left (nat_lt c.arc (length p.arcs)) (has_moment p points sides k c (windows k c.arc)) none ∙ sym (and_left (nat_lt c.arc (length p.arcs)) (has_moment p others sides k c (windows k c.arc)) none))
      (cases_lt c.arc (length p.arcs))

  -- the same classes are allowed for each shipment
  pub is_allowed_same : (windows : ℕ → ℕ → Option Window) (sides : List Side) → is_allowed p windows points sides ≡ is_allowed p windows others sides
  is_allowed_same windows sides = λ i k c. one_allowed windows sides k c i

  -- a leg over any denominator has the same class
  pub class_of_same : (d : ℕ) (l : Leg) → l.arc < length p.arcs → class_of p points d l ≡ class_of p others d l
  class_of_same d l h =
      ap (λ (n : ℕ). let c : Leg = record { arc = l.arc; depart = n } in c)
      (floor_same (points (arc_at p l.arc).from) (others (arc_at p l.arc).from) d l.depart (same (arc_at p l.arc).from (valid.parts.arcs l.arc no_arc h).from))

  -- a class has the same head
  pub head_of_same : (c : Leg) → c.arc < length p.arcs → head_of p points c ≡ head_of p others c
  head_of_same c h = floor_same (points (arc_at p c.arc).to) (others (arc_at p c.arc).to) 1 (c.depart + step p c.arc) (same (arc_at p c.arc).to (valid.parts.arcs c.arc no_arc h).to)

  -- also for a shipment
  pub head_within_same : (o : Option Window) (c : Leg) → c.arc < length p.arcs → head_within p points o c ≡ head_within p others o c
  head_within_same None c h = head_of_same c h
  head_within_same (Some w) c h = head_of_same (not_before w c) h

  -- so a timed walk is one over the other points
  pub IsTimedWalk_same : (allowed : Leg → Bool) (s : Shipment) (walk : List Leg) → IsTimedWalk p points allowed s walk → IsTimedWalk p others allowed s walk
  IsTimedWalk_same allowed s walk = IsWalkBy_same p (head_of p points) (head_of p others) allowed s walk head_of_same

  -- also where it is of the allowed classes
  pub allowed_walk_same : (windows : ℕ → ℕ → Option Window) (sides : List Side) (k : ℕ) (s : Shipment) (walk : List Leg) → IsTimedWalk p points (is_allowed p windows points sides k) s walk →
      IsTimedWalk p others (is_allowed p windows others sides k) s walk
  allowed_walk_same windows sides k s walk timed =
      subst (λ (allowed : ℕ → Leg → Bool). IsTimedWalk p others (allowed k) s walk) (is_allowed_same windows sides) (IsTimedWalk_same (is_allowed p windows points sides k) s walk timed)

  -- and so is a walk of allowed classes by the heads for the shipment
  pub shipment_walk_same : (windows : ℕ → ℕ → Option Window) (sides : List Side) (k : ℕ) (s : Shipment) (walk : List Leg) →
      IsWalkBy p (heads_within p windows points k) (is_allowed p windows points sides k) s walk → IsWalkBy p (heads_within p windows others k) (is_allowed p windows others sides k) s walk
  shipment_walk_same windows sides k s walk goes =
      subst (λ (allowed : ℕ → Leg → Bool). IsWalkBy p (heads_within p windows others k) (allowed k) s walk) (is_allowed_same windows sides)
      (IsWalkBy_same p (heads_within p windows points k) (heads_within p windows others k) (is_allowed p windows points sides k) s walk (λ c. head_within_same (windows k c.arc) c) goes)
