-- Kept legs: legs that shipments go by in any case. Those of one shipment, in their order, begin its
-- route. A plan over the denominator d leaves at `depart / d`.
use Rattle.std.specs.Prelude.{ℕ, ◌*◌, ◌<◌, ◌≡◌, List, [], ◌∷◌, ◌++◌, length, map, filter, take, Bool, true, ◌==◌, ◌&&◌, not, slice_index_or}
use Rattle.fp_base_lists.specs.Membership.{list_has}
use Rattle.fp_base_lists.specs.Numbered.{AllFrom}
use Rattle.fp_model.specs.declared.parts.Leg.{Leg}
use Rattle.fp_model.specs.declared.parts.Shipment.{Shipment}
use Rattle.fp_model.specs.Numbered.{shipment_at}
use Rattle.fp_model.specs.Problem.{Problem, arc_at}
use Rattle.fp_model.specs.Routes.{arcs_of, ends_of}
use Rattle.fp_replan.specs.declared.kept.Kept.{Kept}

-- the leg that is kept
abbrev pub leg_of : Kept → Leg
leg_of x = record { arc = x.arc; depart = x.depart }

-- the kept legs of the shipment with a number, in their order
abbrev pub kept_of : List Kept → ℕ → List Leg
kept_of kept k = map leg_of (filter (λ (x : Kept). x.shipment == k) kept)

-- the leg with its time as a number over the denominator d
abbrev pub scaled : ℕ → Leg → Leg
scaled d l = record { arc = l.arc; depart = d * l.depart }

-- over the denominator d, legs begin with those that are kept
abbrev pub BeginWith : ℕ → List Leg → List Leg → Type 0
BeginWith d front legs = (rest : List Leg) × (legs ≡ map (scaled d) front ++ rest)

-- a plan over the denominator d keeps the legs: each shipment's list begins with its kept legs
abbrev pub Keeps : List Kept → ℕ → List (List Leg) → Type 0
Keeps kept d routes = AllFrom (λ k legs. BeginWith d (kept_of kept k) legs) 0 routes

-- where a shipment is after legs: at the end of the last one, or at its origin where there is none
abbrev pub place_after : Problem → (origin : ℕ) → List Leg → ℕ
place_after p origin [] = origin
place_after p origin (l ∷ legs) = place_after p (arc_at p l.arc).to legs

-- the terminals where a shipment was that went by legs: its origin, and the end of each leg
abbrev pub places_seen : Problem → (origin : ℕ) → List Leg → List ℕ
places_seen p origin legs = origin ∷ ends_of p (arcs_of legs)

-- whether an arc goes on from legs of a shipment: it leaves where they end, which isn't the
-- destination, and it enters no terminal where the shipment was
abbrev pub goes_on : Problem → Shipment → List Leg → ℕ → Bool
goes_on p s legs a =
    ((arc_at p a).from == place_after p s.from legs)
    && not (place_after p s.from legs == s.to)
    && not (list_has (places_seen p s.from legs) (arc_at p a).to)

-- a leg can be kept after those before it: its shipment and its arc exist, and the arc goes on from
-- the shipment's kept legs
pub record CanKeep (p : Problem) (before : List Kept) (x : Kept) : Type 0 where
  pub shipment : x.shipment < length p.shipments
  pub arc : x.arc < length p.arcs
  pub on : goes_on p (shipment_at p x.shipment) (kept_of before x.shipment) x.arc ≡ true

-- stands for the kept leg of a number that none has
abbrev pub no_kept : Kept
no_kept = record { shipment = 0; arc = 0; depart = 0 }

-- each kept leg can be kept after those before it
abbrev pub AreKept : Problem → List Kept → Type 0
AreKept p kept = (i : ℕ) → i < length kept → CanKeep p (take i kept) (slice_index_or kept i no_kept)
