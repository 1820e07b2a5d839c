-- What a search knows stays true with each of its changes.
use Rattle.std.proofs.Common.{◌≡◌, ℕ, ◌+◌, ◌<◌, ◌≤◌, ⊎_elim, inl, inr, Bool, true, false, List, [], ◌∷◌, ◌++◌, length, sym, ap, ◌∙◌, subst, arith}
use Rattle.std.specs.Prelude.{All, IfSome, MatchBool, None, Option, Some}
use Rattle.std.specs.declared.alloc.Global.{Global}
use Rattle.std.specs.declared.vec.Vec.{Vec}
use Rattle.std.proofs.lemmas.Bool.{false≢true}
use Rattle.std.proofs.lemmas.List.{length-append}
use Rattle.std.proofs.lemmas.List.Elements.{All-weaker}
use Rattle.fp_prices.specs.declared.leaf_prices.LeafPrice.{LeafPrice}
use Rattle.fp_prices.proofs.TableAppends.{HasKind-append}
use Rattle.fp_model.specs.Problem.{Problem}
use Rattle.fp_timenodes.specs.declared.places.AddedPoint.{AddedPoint}
use Rattle.fp_timenodes.specs.Floor.{HaveSamePoints}
use Rattle.fp_timenodes.specs.Points.{TimePoints, times_at}
use Rattle.fp_flatnet.specs.Initial.{initial_points}
use Rattle.fp_flatnet.specs.Tables.{WindowTable}
use Rattle.fp_longestarcs.specs.Whole.{IsNetworkOf}
use Rattle.fp_tree.specs.Nodes.{Node, close_leaf, closed_of, divide_leaf, fork_of, leaf_at, open_leaf, put_leaf, split_count, value_of}
use Rattle.fp_tree.specs.Trees.{Branch, Leaf, tree_branches, tree_leaves, with_leaf}
use Rattle.fp_allowed.specs.Allowed.{tails_of}
use Rattle.fp_prices.specs.Shares.{ClassShare}
use Rattle.fp_prices_gifts.specs.declared.gifts.Gift.{Gift}
use Rattle.fp_prices_spans.specs.Spans.{ClassSpan}
use Rattle.fp_session_history.specs.declared.endings.Left.{Left}
use Rattle.fp_session_history.specs.declared.endings.Left.TheVariants.{Nothing, Several, Timing, Unsettled}
use Rattle.fp_session_history.specs.Notes.{History, Refinement, added_of, last_round, points_added, with_note, with_tables, worth_of}
use Rattle.fp_session_history.specs.PrintedLeaves.{IsEmptyAt}
use Rattle.fp_session_history.specs.Splits.{IsEarnedSplit}
use Rattle.fp_session_history.specs.Traces.{IsEarnedTrace}
use Rattle.fp_session_history.proofs.PointsKept.{added_of_push}
use Rattle.fp_session_history.proofs.Stays.{IsEarnedAt-with_note, IsEarnedSplit-cheaper, IsEarnedSplit-with_note, IsEarnedSplit-with_tables, IsEarnedTrace-cheaper, IsEarnedTrace-with_note, IsEarnedTrace-with_tables, IsEmptyAt-with_note}
use Rattle.fp_session_looks.specs.declared.cheaper.Cheaper.{Cheaper}
use Rattle.fp_session_looks.specs.Plans.{IsBelow}
use Rattle.fp_session.specs.declared.moves.Division.{Division}
use Rattle.fp_session_clashes.specs.declared.refining.RefinedNetwork.{RefinedNetwork}
use Rattle.fp_session.specs.declared.payloads.Payload.{Payload}
use Rattle.fp_session.specs.declared.preparations.Preparation.{Preparation}
use Rattle.fp_session.specs.declared.searches.Search.{Search}
use Rattle.fp_session.specs.Moves.{IsDivision, IsNextRound, fork_in}
use Rattle.fp_session.specs.Nodes.{IsEarnedAs, IsKept, IsLeafOf, IsPriceOf, IsSettled, IsSplitOf, split_note}
use Rattle.fp_duals_leaves.specs.Prices.{ArePrices, PriceLists, with_more}
use Rattle.fp_duals_leaves.proofs.SpansBeside.{given-length}
use Rattle.fp_session.specs.Searches.{IsCheaper, IsLeft, IsSearch, history}
use Rattle.fp_session.specs.StepCauses.{with_incumbent, with_reserve}
use Rattle.fp_session.proofs.ImprovedLeaves.{IsKept-with_tables}
use Rattle.fp_session.proofs.TreeChanges.{branches-close, branches-divide, branches-put, leaves-close, leaves-divide, leaves-put, tails-close, tails-divide, tails-put}

-- nothing is left where the search hasn't ended
pub none-left : (o : Option Left) (P : Left → Type 0) → o ≡ None → IfSome o P
none-left o P none = subst (λ (p : Option Left). IfSome p P) (sym none) tt

nothing-left : (s : Search) (prices : PriceLists) → s.left ≡ None → IfSome s.left (IsLeft s prices)
nothing-left s prices none = none-left s.left (IsLeft s prices) none

module _ (h : History) (started cost : ℕ) where
  -- a leaf and a split with more prices
  module _ (more : List (List ClassShare)) (spans : List (List ClassSpan)) (gifts : List (List Gift)) (beside : length h.spans ≡ length h.tables) (given : length h.gifts ≡ length h.tables) where
    pub IsLeafOf-with_tables : (l : Leaf (Node Payload)) → IsLeafOf h cost l → IsLeafOf (with_tables h more spans gifts) cost l
    IsLeafOf-with_tables l is = record { kept = IsKept-with_tables h more spans gifts l.sides l.node.payload (value_of l.node) beside given is.kept; closed = is.closed }

    pub IsSplitOf-with_tables : (b : Branch (Node Payload)) → IsSplitOf h started cost b → IsSplitOf (with_tables h more spans gifts) started cost b
    IsSplitOf-with_tables b is = record {
      price = record { round = is.price.round; kind = HasKind-append h.tables more b.node.payload.valuation.price.kind is.price.kind };
      earned = IsEarnedSplit-with_tables h started cost b.sides (split_note b.node.payload) is.earned more spans gifts beside given is.price.kind;
      range = is.range;
      divides = is.divides;
    }

  -- under a cheaper incumbent
  pub IsLeafOf-cheaper : (cheaper : ℕ) → cheaper ≤ cost → (l : Leaf (Node Payload)) → IsLeafOf h cost l → IsLeafOf h cheaper l
  IsLeafOf-cheaper cheaper le l is = record {
    kept = is.kept;
    closed = λ shut.
        ⊎_elim
        (λ (empty : l.node.payload.empty ≡ true). let e : IsSettled h cheaper l.node.payload (value_of l.node) = inl empty in e)
        (λ (worth : cost ≤ worth_of h (value_of l.node)). let e : IsSettled h cheaper l.node.payload (value_of l.node) = inr (omega (arith, le, worth)) in e)
        (is.closed shut);
  }

  pub IsSplitOf-cheaper : (cheaper : ℕ) → cheaper ≤ cost → (b : Branch (Node Payload)) → IsSplitOf h started cost b → IsSplitOf h started cheaper b
  IsSplitOf-cheaper cheaper le b is = record {
    price = is.price;
    earned = IsEarnedSplit-cheaper h started cost b.sides (split_note b.node.payload) is.earned cheaper le;
    range = is.range;
    divides = is.divides;
  }

  -- and with one more note
  IsPriceOf-with_note : (n : Refinement) (price : LeafPrice) → IsPriceOf h price → IsPriceOf (with_note h n) price
  IsPriceOf-with_note n price is = record { round = omega (arith, is.round, length-append h.trace (n ∷ [])); kind = is.kind }

  pub IsLeafOf-with_note : (n : Refinement) → n.round ≡ last_round h + 1 → (l : Leaf (Node Payload)) → IsLeafOf h cost l → IsLeafOf (with_note h n) cost l
  IsLeafOf-with_note n next l is = record {
    kept = record {
      price = IsPriceOf-with_note n l.node.payload.valuation.price is.kept.price;
      under = record { few = is.kept.under.few; whole = is.kept.under.whole };
      worth = by_mark l.node.payload.empty is.kept.worth;
    };
    closed = is.closed;
  }
    where
      by_mark : (b : Bool) → MatchBool b (IsEmptyAt h l.sides l.node.payload.valuation) (IsEarnedAs h l.sides l.node.payload.valuation (value_of l.node)) →
          MatchBool b (IsEmptyAt (with_note h n) l.sides l.node.payload.valuation) (IsEarnedAs (with_note h n) l.sides l.node.payload.valuation (value_of l.node))
      by_mark true own = IsEmptyAt-with_note h n l.sides l.node.payload.valuation (omega (arith, next, is.kept.price.round)) own
      by_mark false own = record { earned = IsEarnedAt-with_note h n l.sides l.node.payload.valuation (omega (arith, next, is.kept.price.round)) own.earned; is = own.is }

  pub IsSplitOf-with_note : (n : Refinement) → n.round ≡ last_round h + 1 → (b : Branch (Node Payload)) → IsSplitOf h started cost b → IsSplitOf (with_note h n) started cost b
  IsSplitOf-with_note n next b is = record {
    price = IsPriceOf-with_note n b.node.payload.valuation.price is.price;
    earned = IsEarnedSplit-with_note h started cost b.sides (split_note b.node.payload) is.earned n (omega (arith, next, is.price.round));
    range = is.range;
    divides = is.divides;
  }

module _ (s : Search) (prices : PriceLists) (is : IsSearch s prices) (going : s.left ≡ None) where
  -- more prices
  pub IsSearch-with_more : (more : List (List ClassShare)) (spans : List (List ClassSpan)) (gifts : List (List Gift)) → ArePrices s.instance s.windows (with_more prices more spans gifts) → IsSearch s (with_more prices more spans gifts)
  IsSearch-with_more more spans gifts grown = record {
    belongs = is.belongs;
    budget = is.budget;
    incumbent = is.incumbent;
    cheaper = is.cheaper;
    reserve = is.reserve;
    trace = IsEarnedTrace-with_tables (history s prices) s.started s.cost is.trace more spans gifts;
    rounds = is.rounds;
    points = is.points;
    added = is.added;
    network = is.network;
    prices = grown;
    tails = is.tails;
    few = is.few;
    splits = All-weaker (IsSplitOf (history s prices) s.started s.cost) (IsSplitOf (history s (with_more prices more spans gifts)) s.started s.cost)
        (IsSplitOf-with_tables (history s prices) s.started s.cost more spans gifts is.prices.beside (given-length s.instance s.windows prices is.prices)) (tree_branches fork_of s.tree) is.splits;
    leaves = All-weaker (IsLeafOf (history s prices) s.cost) (IsLeafOf (history s (with_more prices more spans gifts)) s.cost)
        (IsLeafOf-with_tables (history s prices) s.started s.cost more spans gifts is.prices.beside (given-length s.instance s.windows prices is.prices)) (tree_leaves fork_of s.tree) is.leaves;
    left = nothing-left s (with_more prices more spans gifts) going;
    ended = none-left s.left (λ left. s.reserve ≡ None) going;
  }

  -- a cheaper incumbent, with a plan in reserve only where it is cheaper still
  pub IsSearch-better : (c : Cheaper) (reserve : Option Cheaper) (preparation : Preparation) → IsCheaper s c → IfSome reserve (IsCheaper (with_incumbent s c reserve preparation)) →
      IsSearch (with_incumbent s c reserve preparation) prices
  IsSearch-better c reserve preparation better still = record {
    belongs = is.belongs;
    budget = is.budget;
    incumbent = better.incumbent;
    cheaper = omega (arith, better.less, is.cheaper);
    reserve = still;
    trace = IsEarnedTrace-cheaper (history s prices) s.started s.cost is.trace c.cost (omega (arith, better.less));
    rounds = is.rounds;
    points = is.points;
    added = is.added;
    network = is.network;
    prices = is.prices;
    tails = is.tails;
    few = is.few;
    splits = All-weaker (IsSplitOf (history s prices) s.started s.cost) (IsSplitOf (history s prices) s.started c.cost)
        (IsSplitOf-cheaper (history s prices) s.started s.cost c.cost (omega (arith, better.less))) (tree_branches fork_of s.tree) is.splits;
    leaves = All-weaker (IsLeafOf (history s prices) s.cost) (IsLeafOf (history s prices) c.cost)
        (IsLeafOf-cheaper (history s prices) s.started s.cost c.cost (omega (arith, better.less))) (tree_leaves fork_of s.tree) is.leaves;
    left = nothing-left (with_incumbent s c reserve preparation) prices going;
    ended = none-left s.left (λ left. reserve ≡ None) going;
  }

  module _ (k : ℕ) (l : Leaf (Node Payload)) (at : leaf_at s.tree k ≡ Some l) where
    -- what was found of an open leaf
    pub IsSearch-put : (payload : Payload) (value : ℕ) → IsKept (history s prices) l.sides payload value → closed_of l.node ≡ false →
        split_count (with_leaf fork_of (put_leaf payload value) k s.tree) ≡ split_count s.tree → IsSearch (record s { tree = with_leaf fork_of (put_leaf payload value) k s.tree }) prices
    IsSearch-put payload value kept still count = record {
      belongs = is.belongs;
      budget = is.budget;
      incumbent = is.incumbent;
      cheaper = is.cheaper;
      reserve = is.reserve;
      trace = is.trace;
      rounds = is.rounds;
      points = is.points;
      added = is.added;
      network = is.network;
      prices = is.prices;
      tails = tails-put (tails_of s.instance) payload value s.tree k is.tails;
      few = omega (arith, count, is.few);
      splits = subst (All (IsSplitOf (history s prices) s.started s.cost)) (sym (branches-put s.tree k l at payload value)) is.splits;
      leaves = leaves-put s.tree k l at (IsLeafOf (history s prices) s.cost) payload value is.leaves
          (record { kept = kept; closed = λ shut. absurd (false≢true (sym still ∙ shut)) });
      left = nothing-left (record s { tree = with_leaf fork_of (put_leaf payload value) k s.tree }) prices going;
      ended = none-left s.left (λ left. s.reserve ≡ None) going;
    }

    -- a leaf that is settled is closed
    pub IsSearch-close : IsKept (history s prices) l.sides l.node.payload (value_of l.node) → IsSettled (history s prices) s.cost l.node.payload (value_of l.node) →
        split_count (with_leaf fork_of close_leaf k s.tree) ≡ split_count s.tree → IsSearch (record s { tree = with_leaf fork_of close_leaf k s.tree }) prices
    IsSearch-close kept settled count = record {
      belongs = is.belongs;
      budget = is.budget;
      incumbent = is.incumbent;
      cheaper = is.cheaper;
      reserve = is.reserve;
      trace = is.trace;
      rounds = is.rounds;
      points = is.points;
      added = is.added;
      network = is.network;
      prices = is.prices;
      tails = tails-close (tails_of s.instance) s.tree k is.tails;
      few = omega (arith, count, is.few);
      splits = subst (All (IsSplitOf (history s prices) s.started s.cost)) (sym (branches-close s.tree k l at)) is.splits;
      leaves = leaves-close s.tree k l at (IsLeafOf (history s prices) s.cost) is.leaves (record { kept = kept; closed = λ shut. settled });
      left = nothing-left (record s { tree = with_leaf fork_of close_leaf k s.tree }) prices going;
      ended = none-left s.left (λ left. s.reserve ≡ None) going;
    }

    -- a leaf is divided that was earned and worth less than the incumbent costs, with that cost in its
    -- payload
    pub IsSearch-divide : (d : Division) → IsDivision (history s prices) l.sides d → IsEarnedSplit (history s prices) s.started s.cost l.sides (split_note l.node.payload) →
        IsPriceOf (history s prices) l.node.payload.valuation.price →
        split_count (with_leaf fork_of (divide_leaf (fork_in d) (open_leaf d.first.payload d.first.value) (open_leaf d.second.payload d.second.value)) k s.tree) ≤ s.budget.branches →
        IsSearch (record s { tree = with_leaf fork_of (divide_leaf (fork_in d) (open_leaf d.first.payload d.first.value) (open_leaf d.second.payload d.second.value)) k s.tree }) prices
    IsSearch-divide d division earned price count = record {
      belongs = is.belongs;
      budget = is.budget;
      incumbent = is.incumbent;
      cheaper = is.cheaper;
      reserve = is.reserve;
      trace = is.trace;
      rounds = is.rounds;
      points = is.points;
      added = is.added;
      network = is.network;
      prices = is.prices;
      tails = tails-divide (tails_of s.instance) (fork_in d) d.first.payload d.second.payload d.first.value d.second.value s.tree k division.tail is.tails;
      few = count;
      splits = branches-divide s.tree k l at (IsSplitOf (history s prices) s.started s.cost) (fork_in d) d.first.payload d.second.payload d.first.value d.second.value is.splits
          (record { price = price; earned = earned; range = division.range; divides = division.divides });
      leaves = leaves-divide s.tree k l at (IsLeafOf (history s prices) s.cost) (fork_in d) d.first.payload d.second.payload d.first.value d.second.value is.leaves
          (record { kept = division.first; closed = λ shut. absurd (false≢true shut) }) (record { kept = division.second; closed = λ shut. absurd (false≢true shut) });
      left = nothing-left (record s { tree = with_leaf fork_of (divide_leaf (fork_in d) (open_leaf d.first.payload d.first.value) (open_leaf d.second.payload d.second.value)) k s.tree }) prices going;
      ended = none-left s.left (λ left. s.reserve ≡ None) going;
    }

  -- one more round
  pub IsSearch-refine : (note : Refinement) (r : RefinedNetwork) (trace : Vec Refinement Global) → trace.items ≡ s.trace.items ++ (note ∷ []) → IsNextRound s prices.unit note r →
      IsSearch (record s { points = r.points; network = r.network; trace = trace }) prices
  IsSearch-refine note r trace grown next = record {
    belongs = is.belongs;
    budget = is.budget;
    incumbent = is.incumbent;
    cheaper = is.cheaper;
    reserve = is.reserve;
    trace = at (λ h. IsEarnedTrace h s.started s.cost)
        (IsEarnedTrace-with_note (history s prices) s.started s.cost is.trace note next.round next.incumbent is.cheaper next.earned);
    rounds = omega (arith, next.left, long);
    points = record {
      terminals = ap (λ (v : TimePoints). v.terminals) next.refined.points ∙ is.points.terminals;
      few = omega (arith, is.points.few, ap (λ (v : TimePoints). length v.first) next.refined.points);
      first = subst (λ (v : TimePoints). (terminal : ℕ) → terminal < length s.instance.terminals → HaveSamePoints (times_at v.first terminal ++ 0 ∷ []) (initial_points s.instance s.windows.anchors terminal))
          (sym next.refined.points) is.points.first;
    };
    added = ap (λ (v : TimePoints). v.added) next.refined.points ∙ ap (λ (qs : List AddedPoint). qs ++ points_added note.round note.added) is.added
        ∙ sym (added_of_push s.trace.items note) ∙ ap added_of (sym grown);
    network = subst (λ (k : ℕ). IsNetworkOf s.instance r.points k r.network) (omega (arith, next.round, long)) next.refined.network;
    prices = is.prices;
    tails = is.tails;
    few = is.few;
    splits = at (λ h. All (IsSplitOf h s.started s.cost) (tree_branches fork_of s.tree))
        (All-weaker (IsSplitOf (history s prices) s.started s.cost) (IsSplitOf (with_note (history s prices) note) s.started s.cost)
        (IsSplitOf-with_note (history s prices) s.started s.cost note next.round) (tree_branches fork_of s.tree) is.splits);
    leaves = at (λ h. All (IsLeafOf h s.cost) (tree_leaves fork_of s.tree))
        (All-weaker (IsLeafOf (history s prices) s.cost) (IsLeafOf (with_note (history s prices) note) s.cost)
        (IsLeafOf-with_note (history s prices) s.started s.cost note next.round) (tree_leaves fork_of s.tree) is.leaves);
    left = nothing-left (record s { points = r.points; network = r.network; trace = trace }) prices going;
    ended = none-left s.left (λ left. s.reserve ≡ None) going;
  }
    where
      long : length trace.items ≡ length s.trace.items + 1
      long = omega (arith, ap (λ (ns : List Refinement). length ns) grown, length-append s.trace.items (note ∷ []))

      at : (P : History → Type 0) → P (with_note (history s prices) note) → P (record { problem = s.instance; windows = s.windows; trace = trace.items; tables = prices.tables; spans = prices.spans; gifts = prices.gifts; unit = prices.unit })
      at P = subst (λ (ns : List Refinement). P (record { problem = s.instance; windows = s.windows; trace = ns; tables = prices.tables; spans = prices.spans; gifts = prices.gifts; unit = prices.unit })) (sym grown)

  -- and its end
  pub IsSearch-stop : (left : Left) → IsLeft s prices left → s.reserve ≡ None → IsSearch (record s { left = Some left }) prices
  IsSearch-stop left why none = record {
    belongs = is.belongs;
    budget = is.budget;
    incumbent = is.incumbent;
    cheaper = is.cheaper;
    reserve = is.reserve;
    trace = is.trace;
    rounds = is.rounds;
    points = is.points;
    added = is.added;
    network = is.network;
    prices = is.prices;
    tails = is.tails;
    few = is.few;
    splits = is.splits;
    leaves = is.leaves;
    left = by_left left why;
    ended = none;
  }
    where
      by_left : (what : Left) → IsLeft s prices what → IsLeft (record s { left = Some left }) prices what
      by_left Nothing all = all
      by_left (Timing leaf relaxed) all = all
      by_left (Several leaf shipment) all = all
      by_left (Unsettled leaf) all = all

-- a plan that waits while the incumbent gets cheaper, where it is cheaper still
pub still-below : (p : Problem) (table : WindowTable) (before after : ℕ) (was now : Option Cheaper) → IfSome was (IsBelow p table before) →
    IfSome now (λ c. (was ≡ Some c) × (c.cost < after)) → IfSome now (IsBelow p table after)
still-below p table before after was None is less = tt
still-below p table before after was (Some c) is less =
    let own : IsBelow p table before c = subst (λ (o : Option Cheaper). IfSome o (IsBelow p table before)) less.0 is in record { incumbent = own.incumbent; less = less.1 }

-- another plan in reserve, which is cheaper than the incumbent
pub IsSearch-reserve : (s : Search) (prices : PriceLists) (reserve : Option Cheaper) (preparation : Preparation) → IsSearch s prices → IfSome reserve (IsCheaper s) → IfSome s.left (λ left. reserve ≡ None) →
    IsSearch (with_reserve s reserve preparation) prices
IsSearch-reserve s prices reserve preparation is cheaper none = record {
  belongs = is.belongs;
  budget = is.budget;
  incumbent = is.incumbent;
  cheaper = is.cheaper;
  reserve = cheaper;
  trace = is.trace;
  rounds = is.rounds;
  points = is.points;
  added = is.added;
  network = is.network;
  prices = is.prices;
  tails = is.tails;
  few = is.few;
  splits = is.splits;
  leaves = is.leaves;
  left = by_left s.left is.left;
  ended = none;
}
  where
    by_left : (o : Option Left) → IfSome o (IsLeft s prices) → IfSome o (IsLeft (with_reserve s reserve preparation) prices)
    by_left None all = tt
    by_left (Some Nothing) all = all
    by_left (Some (Timing leaf relaxed)) all = all
    by_left (Some (Several leaf shipment)) all = all
    by_left (Some (Unsettled leaf)) all = all
