-- What a yard runs: the truck lines of a plan by their numbers, and for each shipment the lines of
-- its legs in order, which are its journey.
use Rattle.std.specs.Prelude.{ℕ, suc, ◌-◌, ◌<◌, ◌≡◌, ◌≢◌, List, [], length, map, slice_index, slice_index_or, All, AllPairs, Contains}
use Rattle.fp_model.specs.declared.parts.Leg.{Leg}
use Rattle.fp_model.specs.declared.parts.Member.{Member}
use Rattle.fp_model.specs.Numbered.{shipment_at}
use Rattle.fp_model.specs.Problem.{Problem, arc_at}
use Rattle.fp_timetable.specs.declared.lines.TruckLine.{TruckLine}
use Rattle.fp_timetable.specs.Lines.{AreTruckLines, departure}
use Rattle.fp_timetable.specs.Order.{no_line}

-- the terminal that each line leaves, the one that it enters, and the journey of each shipment
pub record Schedule : Type 0 where
  pub tails : List ℕ
  pub heads : List ℕ
  pub journeys : List (List ℕ)

-- the terminal that the line with a number leaves
abbrev pub tail_at : Schedule → ℕ → ℕ
tail_at s line = slice_index s.tails line

-- the terminal that it enters
abbrev pub head_at : Schedule → ℕ → ℕ
head_at s line = slice_index s.heads line

-- the journey of the shipment with a number, and no lines where there is none
abbrev pub journey_at : Schedule → ℕ → List ℕ
journey_at s shipment = slice_index_or s.journeys shipment []

-- the terminal where a journey begins
abbrev pub start_of : Schedule → List ℕ → ℕ
start_of s journey = tail_at s (slice_index journey 0)

-- the terminal where it ends
abbrev pub end_of : Schedule → List ℕ → ℕ
end_of s journey = head_at s (slice_index journey (length journey - 1))

-- a shipment is of the freight of a line: one of its legs is the line's
abbrev pub IsFreight : Schedule → (line shipment : ℕ) → Type 0
IsFreight s line shipment = Contains (journey_at s shipment) line

-- a leg goes by a line
pub record GoesBy (s : Schedule) (line : ℕ) (m : Member) : Type 0 where
  pub shipment : m.shipment < length s.journeys
  pub leg : m.leg < length (journey_at s m.shipment)
  pub goes : slice_index (journey_at s m.shipment) m.leg ≡ line

-- legs are exactly those that go by a line, by shipment
pub record IsFreightOf (s : Schedule) (line : ℕ) (members : List Member) : Type 0 where
  pub rising : AllPairs (λ (m n : Member). m.shipment < n.shipment) members
  pub own : All (GoesBy s line) members
  pub every : (m : Member) → GoesBy s line m → Contains members m

-- the truck line with a number
abbrev pub line_at : List TruckLine → ℕ → TruckLine
line_at lines line = slice_index_or lines line no_line

-- the leg of the truck line with a number
abbrev pub leg_of : List TruckLine → ℕ → Leg
leg_of lines line = departure (line_at lines line)

-- the terminals that truck lines leave, and those that they enter
abbrev pub tails_of : Problem → List TruckLine → List ℕ
tails_of p lines = map (λ (t : TruckLine). (arc_at p t.arc).from) lines

abbrev pub heads_of : Problem → List TruckLine → List ℕ
heads_of p lines = map (λ (t : TruckLine). (arc_at p t.arc).to) lines

-- the lines of the schedule are truck lines, with the ends of their arcs, and the legs of the
-- journeys' lines are the legs of the routes
pub record IsScheduleOf (p : Problem) (routes : List (List Leg)) (lines : List TruckLine) (s : Schedule) : Type 0 where
  pub tails : s.tails ≡ tails_of p lines
  pub heads : s.heads ≡ heads_of p lines
  pub legs : map (map (leg_of lines)) s.journeys ≡ routes
  pub exist : All (All (λ line. line < length lines)) s.journeys

-- the schedule of a plan: over its truck lines
abbrev pub IsPlanSchedule : Problem → List (List Leg) → Schedule → Type 0
IsPlanSchedule p routes s = (lines : List TruckLine) × AreTruckLines p routes lines × IsScheduleOf p routes lines s

-- each shipment's journey begins at its origin and ends at its destination
abbrev pub HasEnds : Problem → Schedule → Type 0
HasEnds p s = (k : ℕ) → k < length p.shipments →
    (start_of s (journey_at s k) ≡ (shipment_at p k).from) × (end_of s (journey_at s k) ≡ (shipment_at p k).to)

-- a journey has lines, of rising numbers, each of which leaves the terminal where the one before it
-- ended, and it leaves no terminal twice
pub record IsJourney (s : Schedule) (journey : List ℕ) : Type 0 where
  pub some : 0 < length journey
  pub exist : (i : ℕ) → i < length journey → slice_index journey i < length s.tails
  pub rising : (i j : ℕ) → i < j → j < length journey → slice_index journey i < slice_index journey j
  pub joined : (i : ℕ) → suc i < length journey → tail_at s (slice_index journey (suc i)) ≡ head_at s (slice_index journey i)
  pub apart : (i j : ℕ) → i < j → j < length journey → tail_at s (slice_index journey i) ≢ tail_at s (slice_index journey j)

-- each journey is one over lines that exist
pub record IsSound (s : Schedule) : Type 0 where
  pub ends : length s.heads ≡ length s.tails
  pub journeys : (k : ℕ) → k < length s.journeys → IsJourney s (journey_at s k)
