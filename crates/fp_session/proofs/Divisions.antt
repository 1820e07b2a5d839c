-- A split by which a leaf may be divided divides it.
use Rattle.std.proofs.Common.{◌≡◌, ℕ, ◌+◌, ◌<◌, ◌≤◌, Bool, List, get_or, inl, inr, length, refl, sym, ap, subst, arith}
use Rattle.std.specs.Prelude.{All, IsSomeAnd, Option, ⊤}
use Rattle.std.proofs.lemmas.List.Elements.{All-get_or}
use Rattle.fp_model.specs.declared.parts.Leg.{Leg}
use Rattle.fp_model.specs.Problem.{Problem}
use Rattle.fp_relaxmodel.proofs.MetTerminals.{arc-within}
use Rattle.fp_flatnet.specs.declared.window_tables.Window.{Window}
use Rattle.fp_flatnet.specs.Tables.{WindowTable, windows_in}
use Rattle.fp_timenodes.specs.declared.places.TheConstants.{LATEST}
use Rattle.fp_longestarcs.specs.Networks.{TimedNetwork, points_in}
use Rattle.fp_tree.specs.declared.sides.Side.{Side}
use Rattle.fp_tree.specs.declared.sides.Split.{Split}
use Rattle.fp_tree.specs.declared.sides.Split.TheVariants.{ByArc, ByTime, ByTrucks, ByWay}
use Rattle.fp_tree.specs.Sides.{HasTail}
use Rattle.fp_allowed.specs.Allowed.{tails_of}
use Rattle.fp_allowed.specs.Bits.{allowed_in}
use Rattle.fp_allowed.specs.Chains.{SeveralLeave}
use Rattle.fp_allowed.specs.Choices.{IsTaken}
use Rattle.fp_allowed.proofs.ClassTimes.{allowed_exists}
use Rattle.fp_session_branching.specs.declared.leaf_candidates.Candidate.{Candidate}
use Rattle.fp_session_branching.specs.declared.way_splits.WayCandidate.{WayCandidate}
use Rattle.fp_session_branching.specs.Ways.{IsWayCandidate}
use Rattle.fp_session_branching.specs.Candidates.{EndsInSeveral, IsCandidate}
use Rattle.fp_allowed.specs.Departures.{DividesDepartures, IsSplitAt}
use Rattle.fp_allowed.specs.Slack.{DividesSome}
use Rattle.fp_certificate_lines.specs.Ranges.{IsSplitInRange, largest_count}
use Rattle.fp_prices.specs.declared.leaf_prices.Kind.{Kind}
use Rattle.fp_prices.specs.Tables.{HasKind}
use Rattle.fp_prices.proofs.TableAppends.{HasKind-append}
use Rattle.fp_duals_leaves.specs.Prices.{HaveGrown, PriceLists}
use Rattle.fp_session_history.specs.Divisions.{DividesTrucks, MaySplit}
use Rattle.fp_session.specs.declared.searches.Search.{Search}
use Rattle.fp_session.specs.Choices.{IsBranching}
use Rattle.fp_session.specs.Searches.{IsSearch, history, setting_of}

-- what holds of each element of a list holds of the one at a place
pub All-at : {X : Type 0} (P : X → Type 0) (xs ys : List X) (k : ℕ) (x : X) → ys ≡ xs → x ≡ get_or ys k x → k < length ys → All P xs → P x
All-at P xs ys k x same is within all = subst P (sym is) (All-get_or P ys k x within (subst (All P) (sym same) all))

module _ (p : Problem) (k terminal : ℕ) where
  -- a split at a terminal is in range
  pub IsSplitInRange-at : (split : Split) → k < length p.shipments → terminal < length p.terminals → IsSplitAt p k terminal split → IsSplitInRange p split
  IsSplitInRange-at (ByArc shipment arc) exists within at = (omega (arith, exists, at.0), at.1)
  IsSplitInRange-at (ByTime shipment place time) exists within at = (omega (arith, exists, at.0), omega (arith, within, at.1), omega (arith, at.2))
  IsSplitInRange-at (ByTrucks arc point until most) exists within at = absurd at
  IsSplitInRange-at (ByWay shipment arc) exists within at = (omega (arith, exists, at.0), at.1)

  -- its arc's tail is the terminal
  pub HasTail-at : (split : Split) → IsSplitAt p k terminal split → HasTail (tails_of p) (record { split = split; tail = terminal })
  HasTail-at (ByArc shipment arc) at = sym at.2
  HasTail-at (ByTime shipment place time) at = tt
  HasTail-at (ByTrucks arc point until most) at = absurd at
  HasTail-at (ByWay shipment arc) at = tt

  -- and it divides departures
  pub DividesSome-at : (windows : ℕ → ℕ → Option Window) (sides : List Side) (split : Split) → k < length p.shipments → DividesDepartures p windows sides k terminal split →
      DividesSome p windows sides (record { split = split; tail = terminal })
  DividesSome-at windows sides split exists divides = record { shipment = k; terminal = terminal; exists = exists; tail = refl; divides = divides }

-- a split that is taken where a chain ends may be one of any search
MaySplit-taken : (p : Problem) (windows : ℕ → ℕ → Option Window) (net : TimedNetwork) (allowed : Leg → Bool) (k terminal : ℕ) (split : Split) (unit : Option ℕ) → IsTaken p windows net allowed k terminal split → MaySplit unit split
MaySplit-taken p windows net allowed k terminal (ByArc shipment arc) unit taken = tt
MaySplit-taken p windows net allowed k terminal (ByTime shipment place time) unit taken = tt
MaySplit-taken p windows net allowed k terminal (ByTrucks arc point until most) unit taken = absurd taken
MaySplit-taken p windows net allowed k terminal (ByWay shipment arc) unit taken = absurd taken

-- a split by trucks over an arc's whole time is in range, where the arc exists
pub IsSplitInRange-trucks : (p : Problem) (arc trucks : ℕ) → arc < length p.arcs → trucks ≤ largest_count → IsSplitInRange p (ByTrucks arc 0 (LATEST + 1) trucks)
IsSplitInRange-trucks p arc trucks exists count =
    record { arc = exists; point = omega arith; some = omega arith; until = omega arith; most = count }

-- the arc of a split, if it is one by an arc or by trucks
arc_in : Split → ℕ
arc_in (ByArc shipment arc) = arc
arc_in (ByTime shipment place time) = 0
arc_in (ByTrucks arc point until most) = arc
arc_in (ByWay shipment arc) = arc

-- prices that have grown have the kinds that they had
pub HasKind-grown : (p : Problem) (table : WindowTable) (before after : PriceLists) (kind : Kind) → HaveGrown p table before after → HasKind before.tables kind → HasKind after.tables kind
HasKind-grown p table before after kind grown has = subst (λ (x : PriceLists). HasKind x.tables kind) (sym grown.is) (HasKind-append before.tables grown.tables kind has)

-- a terminal where a forced chain of a leaf ends with several ways to go exists
pub terminal-exists : (s : Search) (prices : PriceLists) (sides : List Side) (k terminal : ℕ) → IsSearch s prices → EndsInSeveral (record { setting = setting_of s; sides = sides }) k terminal →
    terminal < length s.instance.terminals
terminal-exists s prices sides k terminal is ends =
    let leave : SeveralLeave s.instance (allowed_in (setting_of s) sides k) terminal = ends.ends.3 in
    let exists : leave.one.arc < length s.instance.arcs =
    allowed_exists s.instance (windows_in s.windows) (points_in s.network) sides k leave.one leave.one_allowed in
    subst (λ (t : ℕ). t < length s.instance.terminals) leave.one_leaves (arc-within s.instance leave.one.arc is.belongs.valid exists).0

module _ (s : Search) (prices : PriceLists) (sides : List Side) where
  -- a candidate is a branching by a shipment
  pub IsBranching-shipment : (c : Candidate) → IsSearch s prices → IsCandidate (record { setting = setting_of s; sides = sides }) c →
      IsBranching (history s prices) sides (record { split = c.split; tail = c.terminal })
  IsBranching-shipment c is candidate = record {
    range =
        IsSplitInRange-at s.instance c.shipment c.terminal c.split candidate.ends.exists
        (terminal-exists s prices sides c.shipment c.terminal is candidate.ends) candidate.at;
    tail = HasTail-at s.instance c.shipment c.terminal c.split candidate.at;
    divides = (
      MaySplit-taken s.instance (windows_in s.windows) s.network (allowed_in (setting_of s) sides c.shipment) c.shipment c.terminal c.split prices.unit candidate.taken,
      inl (DividesSome-at s.instance c.shipment c.terminal (windows_in s.windows) sides c.split candidate.ends.exists candidate.divides),
    );
  }

  -- and what divides the trucks of an arc is one by trucks, where spans are sought
  pub IsBranching-trucks : (arc trucks : ℕ) → IsSomeAnd prices.unit (λ (u : ℕ). ⊤) → DividesTrucks s.instance sides (record { split = ByTrucks arc 0 (LATEST + 1) trucks; tail = 0 }) → trucks ≤ largest_count →
      IsBranching (history s prices) sides (record { split = ByTrucks arc 0 (LATEST + 1) trucks; tail = 0 })
  unfolding arc_in
  IsBranching-trucks arc trucks spans divides count = record {
    range = IsSplitInRange-trucks s.instance arc trucks (subst (λ (a : ℕ). a < length s.instance.arcs) (sym (ap arc_in divides.split)) divides.exists) count;
    tail = tt;
    divides = (spans, inr (spans, divides));
  }

  -- so is a way of a shipment that divides the departures that it has left
  pub IsBranching-way : (c : WayCandidate) → IsSomeAnd prices.unit (λ (u : ℕ). ⊤) → IsWayCandidate (record { setting = setting_of s; sides = sides }) c →
      IsBranching (history s prices) sides (record { split = ByWay c.shipment c.arc; tail = 0 })
  IsBranching-way c spans candidate = record {
    range = (candidate.exists, candidate.at.1);
    tail = tt;
    divides = (spans, inl (record { shipment = c.shipment; terminal = tails_of s.instance c.arc; exists = candidate.exists; tail = refl; divides = candidate.divides }));
  }
