-- The moments at which a leg by an arc can leave under sides.
use Rattle.std.specs.Prelude.{ℕ, ◌≡◌, List, Bool, true, false, ◌&&◌, nat_eq, nat_lt, nat_le, not, Option, Some, None, filter, length, slice_index_or, ◌<◌}
use Rattle.std.specs.List.{list_all, list_any}
use Rattle.fp_base_lists.specs.Below.{some_below}
use Rattle.std.specs.declared.alloc.Global.{Global}
use Rattle.std.specs.declared.vec.Vec.{Vec}
use Rattle.fp_model.specs.Problem.{Problem}
use Rattle.fp_timenodes.specs.Floor.{floor_point}
use Rattle.fp_flatnet.specs.declared.window_tables.Window.{Window}
use Rattle.fp_tree.specs.declared.sides.Side.{Side}
use Rattle.fp_tree.specs.declared.sides.Side.TheVariants.{Without, Only, Before, From, AtMost, MoreThan, Through, Outside}
use Rattle.fp_allowed.specs.Allowed.{is_rival, tails_of}

-- whether a side asks something of when and by which arc legs of the shipment with the number k leave one
-- terminal
abbrev pub speaks_of : ℕ → Side → Bool
speaks_of k (Without shipment arc) = nat_eq k shipment
speaks_of k (Only shipment arc tail) = nat_eq k shipment
speaks_of k (Before shipment terminal at) = nat_eq k shipment
speaks_of k (From shipment terminal at) = nat_eq k shipment
speaks_of k (AtMost arc point until trucks) = nat_eq trucks 0
speaks_of k (MoreThan arc point until trucks) = false
speaks_of k (Through shipment arc) = false
speaks_of k (Outside shipment arc point until) = nat_eq k shipment

-- the terminal whose departures a side restricts
abbrev pub terminal_of : Problem → Side → ℕ
terminal_of p (Without shipment arc) = tails_of p arc
terminal_of p (Only shipment arc tail) = tail
terminal_of p (Before shipment terminal at) = terminal
terminal_of p (From shipment terminal at) = terminal
terminal_of p (AtMost arc point until trucks) = tails_of p arc
terminal_of p (MoreThan arc point until trucks) = tails_of p arc
terminal_of p (Through shipment arc) = tails_of p arc
terminal_of p (Outside shipment arc point until) = tails_of p arc

-- whether a side restricts the departures from a terminal of the shipment with the number k
abbrev pub concerns : Problem → ℕ → ℕ → Side → Bool
concerns p k terminal side = speaks_of k side && nat_eq terminal (terminal_of p side)

-- the sides that do
abbrev pub concerned : Problem → ℕ → ℕ → List Side → List Side
concerned p k terminal sides = filter (concerns p k terminal) sides

-- whether a moment is in the range from one up to and without another
abbrev pub in_range : ℕ → ℕ → ℕ → Bool
in_range from to m = nat_le from m && nat_lt m to

-- whether a side lets a leg by an arc leave at a moment, where the side restricts the departures
-- from the arc's tail
abbrev pub lets : ℕ → ℕ → Side → Bool
lets arc m (Without shipment other) = not (nat_eq arc other)
lets arc m (Only shipment other tail) = nat_eq arc other
lets arc m (Before shipment terminal at) = nat_lt m at
lets arc m (From shipment terminal at) = nat_le at m
lets arc m (AtMost other point until trucks) = not (nat_eq arc other && in_range point until m)
lets arc m (MoreThan other point until trucks) = true
lets arc m (Through shipment other) = true
lets arc m (Outside shipment other point until) = not (nat_eq arc other && in_range point until m)

-- whether a side bars an arc for the shipment with the number k, whenever it would leave by it
abbrev pub bars : Problem → ℕ → ℕ → Side → Bool
bars p k arc (Without shipment other) = false
bars p k arc (Only shipment other tail) = false
bars p k arc (Before shipment terminal at) = false
bars p k arc (From shipment terminal at) = false
bars p k arc (AtMost other point until trucks) = false
bars p k arc (MoreThan other point until trucks) = false
bars p k arc (Through shipment other) = nat_eq k shipment && is_rival p arc other
bars p k arc (Outside shipment other point until) = false

-- whether one of the sides does
abbrev pub is_barred : Problem → ℕ → ℕ → List Side → Bool
is_barred p k arc sides = list_any (bars p k arc) sides

-- whether a side may bar arcs for the shipment with the number k
abbrev pub is_barring : ℕ → Side → Bool
is_barring k (Without shipment other) = false
is_barring k (Only shipment other tail) = false
is_barring k (Before shipment terminal at) = false
is_barring k (From shipment terminal at) = false
is_barring k (AtMost other point until trucks) = false
is_barring k (MoreThan other point until trucks) = false
is_barring k (Through shipment other) = nat_eq k shipment
is_barring k (Outside shipment other point until) = false

-- the sides that may
abbrev pub barring : ℕ → List Side → List Side
barring k sides = filter (is_barring k) sides

-- whether all of the sides let it
abbrev pub all_let : ℕ → ℕ → List Side → Bool
all_let arc m sides = list_all (lets arc m) sides

-- whether the class of a point has a moment from one up to and without another at which all of the
-- sides let a leg by an arc leave
abbrev pub has_open : List ℕ → ℕ → List Side → ℕ → ℕ → ℕ → Bool
has_open points arc sides from to q = some_below to (λ m. nat_eq (floor_point points 1 m) q && nat_le from m && all_let arc m sides)

-- whether a moment lies in a window, if there is one
abbrev pub is_open : Option Window → ℕ → Bool
is_open None m = false
is_open (Some w) m = nat_le w.lo m && nat_le m w.hi

-- whether a point is between the points of the first and the last moment of a window, if there is
-- one
abbrev pub is_between : List ℕ → Option Window → ℕ → Bool
is_between points None q = false
is_between points (Some w) q = nat_le (floor_point points 1 w.lo) q && nat_le q (floor_point points 1 w.hi)

-- for each terminal the sides that restrict the departures from it of the shipment with the number
-- k
pub record AreByTerminal (p : Problem) (k : ℕ) (sides : List Side) (lists : List (Vec Side Global)) : Type 0 where
  pub one_each : length lists ≡ length p.terminals
  pub exact : (terminal : ℕ) (d : Vec Side Global) → terminal < length lists → (slice_index_or lists terminal d).items ≡ concerned p k terminal sides
