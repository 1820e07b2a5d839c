-- The windows in which exactly those plans lie that keep legs.
use Rattle.std.specs.Prelude.{ℕ, ◌≡◌, ◌≢◌, ◌<◌, ◌≤◌, false, List, length, map, Option, Some, None, Bool, ◌&&◌, ◌||◌, ◌==◌, not, ◌↔◌, slice_index_or}
use Rattle.std.specs.List.{AllByRecursion, list_any}
use Rattle.fp_base_lists.specs.Membership.{list_has}
use Rattle.fp_model.specs.declared.parts.Leg.{Leg}
use Rattle.fp_model.specs.declared.parts.Shipment.{Shipment}
use Rattle.fp_model.specs.Numbered.{shipment_at}
use Rattle.fp_model.specs.Plans.{IsPlan}
use Rattle.fp_model.specs.Problem.{Problem, arc_at}
use Rattle.fp_model.specs.Routes.{arcs_of}
use Rattle.fp_timenodes.specs.declared.places.Place.{Place}
use Rattle.fp_flatnet.specs.declared.window_tables.Window.{Window}
use Rattle.fp_flatnet.specs.Windows.{IsWindowOrNone, PlanLiesWithin}
use Rattle.fp_replan.specs.declared.kept.Kept.{Kept}
use Rattle.fp_replan.specs.KeptLegs.{Keeps, kept_of, no_kept}
use Rattle.fp_flatnet.specs.Tables.{CanNarrow, WindowTable}

-- the window of one moment
abbrev pub window_at : ℕ → Window
window_at time = record { lo = time; hi = time }

-- an arc neither leaves nor enters the tail of a leg
abbrev pub StaysOff : Problem → ℕ → Leg → Type 0
StaysOff p a l = ((arc_at p a).from ≢ (arc_at p l.arc).from) × ((arc_at p a).to ≢ (arc_at p l.arc).from)

-- whether an arc leaves or enters the tail of a leg
abbrev pub touches : Problem → ℕ → Leg → Bool
touches p a l = ((arc_at p a).from == (arc_at p l.arc).from) || ((arc_at p a).to == (arc_at p l.arc).from)

-- whether legs of a shipment leave an arc that they do not go by without a window: it leaves or
-- enters the tail of one of them
abbrev pub shut_off : Problem → List Leg → ℕ → Bool
shut_off p legs a = not (list_has (arcs_of legs) a) && list_any (touches p a) legs

-- the windows of a shipment with these kept legs. A kept leg's arc has the moment at which it
-- leaves; no other arc that leaves its tail has a window; no arc that enters its tail has one,
-- unless it is itself kept; each other arc has its window of the problem, if it has one
pub record IsKeptRow (p : Problem) (s : Shipment) (legs : List Leg) (windows : ℕ → Option Window) : Type 0 where
  pub kept : AllByRecursion (λ (l : Leg). windows l.arc ≡ Some (window_at l.depart)) legs
  pub leaving : (a : ℕ) → a < length p.arcs → AllByRecursion (λ (l : Leg). (arc_at p a).from ≡ (arc_at p l.arc).from → a ≢ l.arc → windows a ≡ None) legs
  pub entering : (a : ℕ) → a < length p.arcs → list_has (arcs_of legs) a ≡ false →
      AllByRecursion (λ (l : Leg). (arc_at p a).to ≡ (arc_at p l.arc).from → windows a ≡ None) legs
  pub other : (a : ℕ) → a < length p.arcs → AllByRecursion (StaysOff p a) legs → IsWindowOrNone p s a (windows a)

-- each shipment has such windows
abbrev pub AreKeptWindows : Problem → List Kept → (ℕ → ℕ → Option Window) → Type 0
AreKeptWindows p kept windows = (k : ℕ) → k < length p.shipments → IsKeptRow p (shipment_at p k) (kept_of kept k) (windows k)

-- the tail of a kept leg and the time at which it leaves
abbrev pub kept_place : Problem → Kept → Place
kept_place p x = record { terminal = (arc_at p x.arc).from; at = x.depart }

-- the anchors are the kept legs' tails with their departures, in their order
abbrev pub AreKeptAnchors : Problem → List Kept → List Place → Type 0
AreKeptAnchors p kept anchors = anchors ≡ map (kept_place p) kept

-- some plan over some denominator keeps the legs
abbrev pub CanBeKept : Problem → List Kept → Type 0
CanBeKept p kept = (d : ℕ) × (routes : List (List Leg)) × (1 ≤ d) × IsPlan p d routes × Keeps kept d routes

-- every plan, over whatever denominator, lies within the windows exactly where it keeps the legs
abbrev pub TellKept : Problem → List Kept → (ℕ → ℕ → Option Window) → Type 0
TellKept p kept windows = (d : ℕ) (routes : List (List Leg)) → 1 ≤ d → IsPlan p d routes → (PlanLiesWithin windows d routes ↔ Keeps kept d routes)

-- each kept leg leaves within its window
abbrev pub CanNarrowAll : List Kept → WindowTable → Type 0
CanNarrowAll kept table = (i : ℕ) → i < length kept →
    CanNarrow table (slice_index_or kept i no_kept).shipment (slice_index_or kept i no_kept).arc (slice_index_or kept i no_kept).depart (slice_index_or kept i no_kept).depart

-- each kept leg has the window of its moment, and each other shipment and arc has the window that
-- it had
pub record AreNarrow (kept : List Kept) (before after : ℕ → ℕ → Option Window) : Type 0 where
  pub narrow : (k : ℕ) → AllByRecursion (λ (l : Leg). after k l.arc ≡ Some (window_at l.depart)) (kept_of kept k)
  pub same : (k a : ℕ) → list_has (arcs_of (kept_of kept k)) a ≡ false → after k a ≡ before k a
