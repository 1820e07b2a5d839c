-- Which classes a shipment may use under sides, and which it must. A class is an arc and a point of
-- its tail, written as a leg that leaves at that point. The source of classes, as timed arcs:
-- Boland, Hewitt, Marshall and Savelsbergh, "The Continuous-Time Service Network Design Problem",
-- Operations Research 65, 2017. Sides and forced chains are this project's own.
use Rattle.std.specs.Prelude.{ℕ, ◌+◌, ◌≡◌, ◌≢◌, List, [], ◌∷◌, ◌++◌, length, Bool, true, false, ◌&&◌, ◌||◌, not, nat_eq, nat_lt, nat_le, Option, Some, None, All, Contains, map}
use Rattle.std.specs.List.{AllByRecursion, list_all}
use Rattle.fp_base_lists.specs.Below.{some_below}
use Rattle.fp_model.specs.declared.parts.Leg.{Leg}
use Rattle.fp_model.specs.declared.parts.Shipment.{Shipment}
use Rattle.fp_base_lists.specs.Numbered.{AllFrom}
use Rattle.fp_model.specs.Problem.{Problem, arc_at}
use Rattle.fp_model.specs.TruckCounts.{trucks_between}
use Rattle.fp_timenodes.specs.Floor.{floor_point}
use Rattle.fp_flatnet.specs.declared.window_tables.Window.{Window}
use Rattle.fp_tree.specs.declared.sides.Side.{Side}
use Rattle.fp_tree.specs.declared.sides.Side.TheVariants.{Without, Only, Before, From, AtMost, MoreThan, Through, Outside}
use Rattle.fp_tree.specs.Sides.{Exit, HasCounts, HasWays, MeetsAll}

-- the terminal that an arc leaves
abbrev pub tails_of : Problem → ℕ → ℕ
tails_of p a = (arc_at p a).from

-- whether an arc is a rival of another: not that arc, but one that leaves the same terminal, or enters
-- the same one
abbrev pub is_rival : Problem → ℕ → ℕ → Bool
is_rival p arc other = not (nat_eq arc other) && (nat_eq (arc_at p arc).from (arc_at p other).from || nat_eq (arc_at p arc).to (arc_at p other).to)

-- a leg as a tree sees it
abbrev pub exit_of : Problem → Leg → Exit
exit_of p l = record { arc = l.arc; tail = tails_of p l.arc; moment = l.depart; is_rival = is_rival p l.arc }

-- whether a leg of the shipment with the number k that leaves at a whole moment meets a side
abbrev pub meets : ℕ → Exit → Side → Bool
meets k e (Without shipment arc) = not (nat_eq k shipment && nat_eq e.arc arc)
meets k e (Only shipment arc tail) = not (nat_eq k shipment && nat_eq e.tail tail) || nat_eq e.arc arc
meets k e (Before shipment terminal at) = not (nat_eq k shipment && nat_eq e.tail terminal) || nat_lt e.moment at
meets k e (From shipment terminal at) = not (nat_eq k shipment && nat_eq e.tail terminal) || nat_le at e.moment
meets k e (AtMost arc point until trucks) = not (nat_eq trucks 0 && nat_eq e.arc arc && nat_le point e.moment && nat_lt e.moment until)
meets k e (MoreThan arc point until trucks) = true
meets k e (Through shipment arc) = not (nat_eq k shipment && e.is_rival arc)
meets k e (Outside shipment arc point until) = not (nat_eq k shipment && nat_eq e.arc arc && nat_le point e.moment && nat_lt e.moment until)

-- whether it meets all of the sides
abbrev pub meets_all : ℕ → List Side → Exit → Bool
meets_all k sides e = list_all (meets k e) sides

-- each of some sides is one of others
abbrev pub AreAmong : List Side → List Side → Type 0
AreAmong fewer sides = All (λ side. Contains sides side) fewer

-- whether m is a moment of the class that lies in the window and meets the sides
abbrev pub is_moment : Problem → (ℕ → List ℕ) → List Side → ℕ → Leg → Window → ℕ → Bool
is_moment p points sides k c w m =
    nat_eq (floor_point (points (tails_of p c.arc)) 1 m) c.depart && nat_le w.lo m && nat_le m w.hi
    && meets_all k sides (exit_of p (record { arc = c.arc; depart = m }))

-- whether a class has such a moment in a window, if there is one
abbrev pub has_moment : Problem → (ℕ → List ℕ) → List Side → ℕ → Leg → Option Window → Bool
has_moment p points sides k c None = false
has_moment p points sides k c (Some w) = some_below (w.hi + 1) (is_moment p points sides k c w)

-- whether a class is allowed for the shipment with the number k: a whole moment of it lies in the
-- shipment's window for the arc and meets the sides
abbrev pub is_allowed : Problem → (ℕ → ℕ → Option Window) → (ℕ → List ℕ) → List Side → ℕ → Leg → Bool
is_allowed p windows points sides k c = nat_lt c.arc (length p.arcs) && has_moment p points sides k c (windows k c.arc)

-- the class is the only allowed one that leaves here
pub record IsOnly (p : Problem) (allowed : Leg → Bool) (here : ℕ) (c : Leg) : Type 0 where
  pub is_allowed : allowed c ≡ true
  pub leaves : tails_of p c.arc ≡ here
  pub alone : (other : Leg) → allowed other ≡ true → tails_of p other.arc ≡ here → other ≡ c

-- the classes are forced one after the other on the way from here to there: each is the only one
-- that leaves where it does, which is not there and was not met before
abbrev pub AreForced : Problem → (Leg → Bool) → (there : ℕ) → (met : List ℕ) → (here : ℕ) → List Leg → Type 0
AreForced p allowed there met here [] = Unit {0}
AreForced p allowed there met here (c ∷ chain) =
    (here ≢ there) × AllByRecursion (λ t. t ≢ here) met × IsOnly p allowed here c × AreForced p allowed there (here ∷ met) (arc_at p c.arc).to chain

-- the forced chain of a shipment, after which no more class is forced
pub record IsForcedChain (p : Problem) (allowed : Leg → Bool) (s : Shipment) (chain : List Leg) : Type 0 where
  pub forced : AreForced p allowed s.to [] s.from chain
  pub whole : (c : Leg) → AreForced p allowed s.to [] s.from (chain ++ (c ∷ [])) → ⊥

-- over the denominator d, each leg of each shipment meets the sides, so many trucks leave as they ask, and
-- each shipment goes by the arcs that they ask it to go by
pub record PlanObeys (p : Problem) (d : ℕ) (sides : List Side) (routes : List (List Leg)) : Type 0 where
  pub legs : AllFrom (λ k r. AllByRecursion (λ (l : Leg). MeetsAll d k sides (exit_of p l)) r) 0 routes
  pub trucks : HasCounts (trucks_between p d routes) sides
  pub ways : HasWays (map (map (exit_of p)) routes) sides
