-- What a search knows depends on what it has in hand alone.
use Rattle.std.proofs.Common.{◌≡◌, ℕ, ◌≤◌, List, length, sym, ap, ◌∙◌, subst, arith}
use Rattle.std.specs.Prelude.{All, IfSome, None, Option, Some, ⊤}
use Rattle.std.specs.declared.alloc.Global.{Global}
use Rattle.std.specs.declared.vec.Vec.{Vec}
use Rattle.fp_longestarcs.specs.Whole.{IsNetworkOf}
use Rattle.fp_tree.specs.Nodes.{fork_of, split_count}
use Rattle.fp_tree.specs.Trees.{tree_branches, tree_leaves}
use Rattle.fp_flatnet.specs.Tables.{WindowTable}
use Rattle.fp_session_history.specs.declared.endings.Left.{Left}
use Rattle.fp_session_history.specs.declared.endings.Left.TheVariants.{Nothing, Several, Timing, Unsettled}
use Rattle.fp_session_history.specs.Clashes.{ClashesBelow}
use Rattle.fp_session_history.specs.Notes.{History, Refinement, added_of, last_round, points_of}
use Rattle.fp_session_history.specs.Solutions.{AreWalksUnder, HasSeveral}
use Rattle.fp_session_history.specs.Traces.{IsEarnedTrace}
use Rattle.fp_session.specs.declared.searches.Search.{Search}
use Rattle.fp_session.specs.Nodes.{IsLeafOf, IsSplitOf}
use Rattle.fp_duals_leaves.specs.Prices.{ArePrices, HaveGrown, PriceLists, first_prices}
use Rattle.fp_duals_leaves.proofs.GrownPrices.{HaveGrown-cut, HaveGrown-long}
use Rattle.fp_session.specs.Searches.{InHand, IsLeft, IsLeftOpen, IsSearch, history, in_hand}
use Rattle.fp_session.proofs.SearchChanges.{IsSearch-with_more}

module _ (s : Search) (prices : PriceLists) where
  module _ (trace : Vec Refinement Global) (same : trace.items ≡ s.trace.items) where
    -- the history with the same notes
    at : (P : History → Type 0) → P (history s prices) → P (history (record s { trace = trace }) prices)
    at P = subst (λ (ns : List Refinement). P (record { problem = s.instance; windows = s.windows; trace = ns; tables = prices.tables; spans = prices.spans; gifts = prices.gifts; unit = prices.unit })) (sym same)

    -- what it left is so
    left-trace : (o : Option Left) → IfSome o (IsLeft s prices) → IfSome o (IsLeft (record s { trace = trace }) prices)
    left-trace None is = tt
    left-trace (Some Nothing) is = is
    left-trace (Some (Timing leaf relaxed)) is =
        at
        (λ h.
        (last_round h ≡ s.budget.rounds) × ClashesBelow s.instance s.windows (points_of h (last_round h)) s.cost relaxed
        × IsLeftOpen h s.cost s.tree leaf (λ sides. AreWalksUnder s.instance s.windows (points_of h (last_round h)) sides relaxed))
        is
    left-trace (Some (Several leaf shipment)) is =
        at (λ h. (split_count s.tree ≡ s.budget.branches) × IsLeftOpen h s.cost s.tree leaf (λ sides. HasSeveral s.instance s.windows (points_of h (last_round h)) sides shipment)) is
    left-trace (Some (Unsettled leaf)) is = at (λ h. IsLeftOpen h s.cost s.tree leaf (λ sides. ⊤)) is

    -- a search with the same notes
    pub IsSearch-trace : IsSearch s prices → IsSearch (record s { trace = trace }) prices
    IsSearch-trace is = record {
      belongs = is.belongs;
      budget = is.budget;
      incumbent = is.incumbent;
      cheaper = is.cheaper;
      reserve = is.reserve;
      trace = at (λ h. IsEarnedTrace h s.started s.cost) is.trace;
      rounds = at (λ h. last_round h ≤ s.budget.rounds) is.rounds;
      points = is.points;
      added = is.added ∙ sym (ap added_of same);
      network = at (λ h. IsNetworkOf s.instance s.points (last_round h) s.network) is.network;
      prices = is.prices;
      tails = is.tails;
      few = is.few;
      splits = at (λ h. All (IsSplitOf h s.started s.cost) (tree_branches fork_of s.tree)) is.splits;
      leaves = at (λ h. All (IsLeafOf h s.cost) (tree_leaves fork_of s.tree)) is.leaves;
      left = left-trace s.left is.left;
      ended = is.ended;
    }

  -- what it left is taken out of it
  pub IsSearch-taken : IsSearch s prices → IsSearch (record s { left = None }) prices
  IsSearch-taken is = record {
    belongs = is.belongs;
    budget = is.budget;
    incumbent = is.incumbent;
    cheaper = is.cheaper;
    reserve = is.reserve;
    trace = is.trace;
    rounds = is.rounds;
    points = is.points;
    added = is.added;
    network = is.network;
    prices = is.prices;
    tails = is.tails;
    few = is.few;
    splits = is.splits;
    leaves = is.leaves;
    left = tt;
    ended = tt;
  }

  pub IsLeft-taken : (left : Left) → IsLeft s prices left → IsLeft (record s { left = None }) prices left
  IsLeft-taken Nothing is = is
  IsLeft-taken (Timing leaf relaxed) is = is
  IsLeft-taken (Several leaf shipment) is = is
  IsLeft-taken (Unsettled leaf) is = is

-- a search of what is in hand, with a vector of its notes
abbrev rebuild : InHand → Vec Refinement Global → Search
rebuild h trace = record {
  instance = h.instance;
  windows = h.windows;
  budget = h.budget;
  started = h.started;
  incumbent = h.incumbent;
  cost = h.cost;
  reserve = h.reserve;
  preparation = h.preparation;
  points = h.points;
  network = h.network;
  tree = h.tree;
  trace = trace;
  left = h.left;
}

-- a search with the same in hand
pub IsSearch-hand : (s t : Search) (prices : PriceLists) → in_hand t ≡ in_hand s → IsSearch s prices → IsSearch t prices
IsSearch-hand s t prices same is =
    subst (λ (h : InHand). IsSearch (rebuild h t.trace) prices) (sym same) (IsSearch-trace s prices t.trace (ap (λ (h : InHand). h.trace) same) is)

-- a search with prices that have grown
pub IsSearch-grown : (s : Search) (before after : PriceLists) → HaveGrown s.instance s.windows before after → s.left ≡ None → IsSearch s before → IsSearch s after
IsSearch-grown s before after grown going is =
    subst (IsSearch s) (sym grown.is) (IsSearch-with_more s before is going grown.tables grown.spans grown.gifts (subst (ArePrices s.instance s.windows) grown.is grown.prices))

-- prices that have grown, cut to as many as they were
pub cut-back : (p : Rattle.fp_model.specs.Problem.Problem) (table : WindowTable) (before after cut : PriceLists) (count : ℕ) → ArePrices p table before → HaveGrown p table before after → count ≡ length before.tables → cut ≡ first_prices count after → cut ≡ before
cut-back p table before after cut count are grown is made = made ∙ HaveGrown-cut p table before after count are grown is

pub cut-few : (p : Rattle.fp_model.specs.Problem.Problem) (table : WindowTable) (before after : PriceLists) (count : ℕ) → HaveGrown p table before after → count ≡ length before.tables → count ≤ length after.tables
cut-few p table before after count grown is = omega (arith, is, HaveGrown-long p table before after grown)

-- with prices that are as they were
pub IsSearch-back : (s t : Search) (before cut : PriceLists) → in_hand t ≡ in_hand s → cut ≡ before → IsSearch s before → IsSearch t cut
IsSearch-back s t before cut same prices is = subst (IsSearch t) (sym prices) (IsSearch-hand s t before same is)
