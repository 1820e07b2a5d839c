-- What a step may do at an open leaf.
use Rattle.std.proofs.Common.{◌≡◌, ℕ, ◌+◌, ◌<◌, ◌≤◌, ⊎_elim, inl, inr, Bool, true, false, List, [], ◌∷◌, length, refl, sym, ap, ◌∙◌, subst, arith}
use Rattle.std.specs.Prelude.{All, IsSomeAnd, None, Option, Some}
use Rattle.std.proofs.lemmas.Bool.{cases_lt, false≢true}
use Rattle.std.proofs.lemmas.List.Elements.{All-cons, All-nil}
use Rattle.fp_base_lists.specs.Distinct.{AreDistinct}
use Rattle.fp_base_lists.specs.Numbered.{AllZipFrom}
use Rattle.fp_base_lists.proofs.Numbered.{AllZipFrom-weaker}
use Rattle.fp_model.specs.declared.parts.Leg.{Leg}
use Rattle.fp_model.specs.declared.parts.Shipment.{Shipment}
use Rattle.fp_model.specs.Costs.{cost}
use Rattle.fp_model.specs.Numbered.{shipment_at}
use Rattle.fp_model.specs.Problem.{Problem}
use Rattle.fp_model.specs.Routes.{ArcsExist, arcs_of}
use Rattle.fp_model.proofs.Bounds.{Leads-exist, legs-exist}
use Rattle.fp_flatnet.specs.Tables.{windows_in}
use Rattle.fp_longestarcs.specs.Networks.{points_in}
use Rattle.fp_tree.specs.declared.sides.Side.{Side}
use Rattle.fp_tree.specs.Nodes.{Node, closed_of, fork_of, leaf_at, value_of}
use Rattle.fp_tree.specs.Trees.{Leaf, tree_leaves}
use Rattle.fp_allowed.specs.declared.chain_ends.ChainEnd.TheVariants as end
use Rattle.fp_allowed.specs.Allowed.{IsForcedChain, is_allowed}
use Rattle.fp_allowed.specs.Chains.{EndsAs}
use Rattle.fp_allowed.specs.Settings.{Setting}
use Rattle.fp_allowed.specs.Walks.{IsTimedWalk}
use Rattle.fp_allowed.proofs.FewerSides.{IsTimedWalk_without_sides}
use Rattle.fp_allowed.proofs.SamePoints.{is_allowed_same}
use Rattle.fp_relaxmodel.specs.Relaxed.{AreTimedWalks, IsRelaxedPlan}
use Rattle.fp_relaxmodel.specs.Terminals.{terminals_on}
use Rattle.fp_relaxmodel.proofs.RelaxedWalks.{IsRelaxedPlan-timed}
use Rattle.fp_prices.specs.Rounds.{LeafModel}
use Rattle.fp_session_history.specs.declared.endings.Left.{Left}
use Rattle.fp_session_history.specs.declared.endings.Left.TheVariants as left
use Rattle.fp_session_history.specs.Notes.{Refinement, last_round, worth_of}
use Rattle.fp_session_history.specs.Solutions.{AreWalksUnder, HasSeveral}
use Rattle.fp_session.specs.declared.dividing.Several.{Several}
use Rattle.fp_session.specs.declared.kept.Kept.{Kept}
use Rattle.fp_session.specs.declared.moves.Move.{Move}
use Rattle.fp_session.specs.declared.moves.Move.TheVariants as move
use Rattle.fp_session_clashes.specs.declared.refining.RefinedNetwork.{RefinedNetwork}
use Rattle.fp_session.specs.declared.payloads.Payload.{Payload}
use Rattle.fp_session.specs.declared.searches.Search.{Search}
use Rattle.fp_session.specs.Dividing.{IsSeveral, NoneSeveral}
use Rattle.fp_session.specs.Moves.{AtOpenLeaf, HasReserve, IsLate, IsLeftAt, IsMove, IsMoveAt, IsNextRound, IsOpenMove, IsStopAt, IsUnsettled, LeavesNoLess, points_now}
use Rattle.fp_session.specs.Nodes.{HasNoMore, IsKept, IsKeptAs, IsLeafOf, IsSettled}
use Rattle.fp_session.specs.Order.{AreWalksHad}
use Rattle.fp_session.specs.Outcomes.{IsFound, noted_kept}
use Rattle.fp_session.specs.Preparations.{IsRaised}
use Rattle.fp_duals_leaves.specs.Prices.{ArePrices, HaveGrown, PriceLists}
use Rattle.fp_session_looks.specs.declared.cheaper.Cheaper.{Cheaper}
use Rattle.fp_session.specs.Searches.{IsCheaper, IsSearch, history, in_hand, setting_of}
use Rattle.fp_session.proofs.Applied.{of-value, some-value}
use Rattle.fp_session.proofs.GrownWorths.{worth-grown}
use Rattle.fp_duals_leaves.proofs.GrownPrices.{unit-some}
use Rattle.fp_session.proofs.Improvements.{IsKept-grown}
use Rattle.fp_session.proofs.KeptStarts.{kept-starts}
use Rattle.fp_session.proofs.NextRounds.{agree-now}
use Rattle.fp_session.proofs.ReachedWalks.{NoneSeveral-cheaper, NoneSeveral-routes}
use Rattle.fp_session.proofs.WholeTrees.{all-at}

-- the arcs of timed walks exist
walks-exist : (p : Problem) (points : ℕ → List ℕ) (allowed : ℕ → Leg → Bool) (i : ℕ) (ss : List Shipment) (walks : List (List Leg)) →
    AllZipFrom (λ k (s : Shipment) walk. IsTimedWalk p points (allowed k) s walk) i ss walks → All (ArcsExist p) walks
walks-exist p points allowed i [] [] timed = All-nil (ArcsExist p)
walks-exist p points allowed i [] (w ∷ walks) timed = absurd timed
walks-exist p points allowed i (s ∷ ss) [] timed = absurd timed
walks-exist p points allowed i (s ∷ ss) (w ∷ walks) timed =
    All-cons (ArcsExist p) w walks (legs-exist p w (Leads-exist p s.from (arcs_of w) s.to timed.0.leads)) (walks-exist p points allowed (i + 1) ss walks timed.1)

module _ (s : Search) (sides : List Side) (walks : List (List Leg)) (under : AreWalksUnder s.instance s.windows (points_now s) sides walks) where
  pub under-exist : All (ArcsExist s.instance) walks
  under-exist = walks-exist s.instance (points_now s) (is_allowed s.instance (windows_in s.windows) (points_now s) sides) 0 s.instance.shipments walks under

  -- walks under sides are timed walks
  under-timed : AreTimedWalks s.instance (windows_in s.windows) (points_now s) walks
  under-timed =
      AllZipFrom-weaker (λ k (t : Shipment) walk. IsTimedWalk s.instance (points_now s) (is_allowed s.instance (windows_in s.windows) (points_now s) sides k) t walk)
      (λ k (t : Shipment) walk. IsTimedWalk s.instance (points_now s) (is_allowed s.instance (windows_in s.windows) (points_now s) [] k) t walk)
      (λ k t walk timed. IsTimedWalk_without_sides s.instance (windows_in s.windows) (points_now s) sides k t walk timed) 0 s.instance.shipments walks under

  -- so they are a relaxed plan where no terminal stands twice on one
  pub under-relaxed : (prices : PriceLists) → IsSearch s prices → All (λ walk. AreDistinct (terminals_on s.instance walk)) walks →
      IsRelaxedPlan s.instance (windows_in s.windows) (points_now s) walks
  under-relaxed prices is apart = IsRelaxedPlan-timed s.instance (windows_in s.windows) (points_now s) walks is.belongs.valid under-timed apart

-- a shipment that has several ways to go at a leaf has them over the points as of the last round
pub IsSeveral-now : (s : Search) (prices : PriceLists) (leaf : LeafModel) (sides : List Side) (several : Several) → IsSearch s prices → leaf.setting ≡ setting_of s → leaf.sides ≡ sides →
    IsSeveral leaf several → HasSeveral s.instance s.windows (points_now s) sides several.shipment
IsSeveral-now s prices leaf sides several is setting are has =
    over (subst (λ (l : List Side). IsSeveral (record { setting = setting_of s; sides = l }) several) are
    (subst (λ (x : Setting). IsSeveral (record { setting = x; sides = leaf.sides }) several) setting has))
  where
    same : is_allowed s.instance (windows_in s.windows) (points_in s.network) sides ≡ is_allowed s.instance (windows_in s.windows) (points_now s) sides
    same = is_allowed_same s.instance is.belongs.valid (points_in s.network) (points_now s) (agree-now s prices is) (windows_in s.windows) sides

    over : IsSeveral (record { setting = setting_of s; sides = sides }) several → HasSeveral s.instance s.windows (points_now s) sides several.shipment
    over own = record {
      exists = own.exists;
      chain = own.chain;
      terminal = several.terminal;
      forced = subst (λ (a : ℕ → Leg → Bool). IsForcedChain s.instance (a several.shipment) (shipment_at s.instance several.shipment) own.chain) same own.forced;
      ends = subst (λ (a : ℕ → Leg → Bool). EndsAs s.instance (a several.shipment) (shipment_at s.instance several.shipment) own.chain (end.Several several.terminal)) same own.ends;
    }

-- a leaf that isn't dear is worth less than the incumbent costs
pub below-cost : (worth cost : ℕ) (dear : Bool) → dear ≡ false → (cost ≤ worth → dear ≡ true) → worth < cost
below-cost worth cost dear not_dear is =
    ⊎_elim (λ (less : worth < cost). less) (λ (more : cost ≤ worth). absurd (false≢true (sym not_dear ∙ is more))) (cases_lt worth cost)

-- what may be left at a leaf whatever the time may be left there
IsStopAt-left : (s : Search) (leaf : ℕ) (sides : List Side) (what : Left) → IsLeftAt s leaf sides what → IsStopAt s leaf sides what
IsStopAt-left s leaf sides left.Nothing is = absurd is
IsStopAt-left s leaf sides (left.Timing at relaxed) is = is
IsStopAt-left s leaf sides (left.Several at shipment) is = is
IsStopAt-left s leaf sides (left.Unsettled at) is = absurd is

-- what may be done at a leaf that has something to search for may be done at it
pub IsMoveAt-open : (s : Search) (prices : PriceLists) (leaf : ℕ) (sides : List Side) (kept : Kept) (m : Move) → IsUnsettled (history s prices) s.cost sides kept →
    IsOpenMove s prices leaf sides m → IsMoveAt s prices leaf sides kept m
IsMoveAt-open s prices leaf sides kept move.Close unsettled is = absurd is
IsMoveAt-open s prices leaf sides kept (move.Better cheaper) unsettled is = is
IsMoveAt-open s prices leaf sides kept move.TakeReserve unsettled is = is
IsMoveAt-open s prices leaf sides kept (move.Refine note refined) unsettled is = (record { some = unsettled.some; below = unsettled.below }, is.0, is.1)
IsMoveAt-open s prices leaf sides kept (move.Divide division) unsettled is = (unsettled, is.0, is.1, is.2)
IsMoveAt-open s prices leaf sides kept (move.Stop left) unsettled is = (unsettled, IsStopAt-left s leaf sides left is.0, is.1)

-- and what is done where the time is over
IsMoveAt-late : (s : Search) (prices : PriceLists) (leaf : ℕ) (sides : List Side) (kept : Kept) (m : Move) → IsUnsettled (history s prices) s.cost sides kept → IsLate s leaf m → IsMoveAt s prices leaf sides kept m
IsMoveAt-late s prices leaf sides kept m unsettled is =
    ⊎_elim
    (λ (takes : (m ≡ move.TakeReserve) × HasReserve s). subst (IsMoveAt s prices leaf sides kept) (sym takes.0) takes.1)
    (λ (stops : (m ≡ move.Stop (left.Unsettled leaf)) × (s.reserve ≡ None)). subst (IsMoveAt s prices leaf sides kept) (sym stops.0) (unsettled, refl, stops.1))
    is

-- and no leaf is left that is worth less
LeavesNoLess-late : (s : Search) (unit : Option ℕ) (above : Kept) (leaf : ℕ) (m : Move) → IsLate s leaf m → LeavesNoLess unit above m
LeavesNoLess-late s unit above leaf m is =
    ⊎_elim
    (λ (takes : (m ≡ move.TakeReserve) × HasReserve s). subst (LeavesNoLess unit above) (sym takes.0) tt)
    (λ (stops : (m ≡ move.Stop (left.Unsettled leaf)) × (s.reserve ≡ None)). subst (LeavesNoLess unit above) (sym stops.0) tt)
    is

-- a leaf of which something is found has something to search for, where it is worth less than the cost
pub IsUnsettled-found : (s : Search) (before after : PriceLists) (sides : List Side) (kept : Kept) (walks : List (List Leg)) → IsFound (history s before) sides kept walks →
    worth_of (history s after) kept.value < s.cost → IsUnsettled (history s after) s.cost sides kept
IsUnsettled-found s before after sides kept walks found below = record {
  some = found.some;
  below = below;
  starts = record { linear = found.starts.linear; even = found.starts.even };
}

-- a move at an open leaf, by what is kept of it
pub IsMove-at : (s : Search) (prices : PriceLists) (k : ℕ) (l : Leaf (Node Payload)) (kept : Kept) (m : Move) → leaf_at s.tree k ≡ Some l → closed_of l.node ≡ false →
    IsKept (history s prices) l.sides kept.payload kept.value → (kept.payload.empty ≡ false → HasNoMore l kept) → IsMoveAt s prices k l.sides kept m → LeavesNoLess prices.unit kept m → IsMove s prices k kept m
IsMove-at s prices k l kept m at still keeps no_less may less = record {
  kept = here (λ x. IsKept (history s prices) x.sides kept.payload kept.value) keeps;
  no_less = here (λ x. kept.payload.empty ≡ false → HasNoMore x kept) no_less;
  planned = here (λ x. IsMoveAt s prices k x.sides kept m) may;
  below = less;
}
  where
    here : (P : Leaf (Node Payload) → Type 0) → P l → AtOpenLeaf s.tree k P
    here P holds = subst (λ (o : Option (Leaf (Node Payload))). IsSomeAnd o (λ (x : Leaf (Node Payload)). (closed_of x.node ≡ false) × P x)) (sym at) (still, holds)

module _ (s : Search) (before after : PriceLists) (k : ℕ) (sides : List Side) (old : Kept) (was : AtOpenLeaf s.tree k (λ l. IsKeptAs l old))
    (on : IsSomeAnd (leaf_at s.tree k) (λ (l : Leaf (Node Payload)). l.sides ≡ sides)) where
  -- the leaf with the number
  chosen : (l : Leaf (Node Payload)) × (leaf_at s.tree k ≡ Some l) × ((closed_of l.node ≡ false) × IsKeptAs l old)
  chosen = some-value (leaf_at s.tree k) (λ (l : Leaf (Node Payload)). (closed_of l.node ≡ false) × IsKeptAs l old) was

  way : chosen.0.sides ≡ sides
  way = of-value (leaf_at s.tree k) chosen.0 (λ (l : Leaf (Node Payload)). l.sides ≡ sides) chosen.1 on

  -- what was kept of it is true
  pub was-kept : IsSearch s before → IsKept (history s before) sides old.payload old.value
  was-kept is =
      subst (λ (ss : List Side). IsKept (history s before) ss old.payload old.value) way
      (subst (λ (p : Payload). IsKept (history s before) chosen.0.sides p old.value) chosen.2.1.payload
      (subst (λ (v : ℕ). IsKept (history s before) chosen.0.sides chosen.0.node.payload v) chosen.2.1.value
      (all-at (IsLeafOf (history s before) s.cost) (tree_leaves fork_of s.tree) k chosen.0 is.leaves chosen.1).kept))

  -- a move there, by what is kept of it now
  pub chosen-move : (kept : Kept) (m : Move) → IsKept (history s after) sides kept.payload kept.value → (kept.payload.empty ≡ false → (old.payload.empty ≡ false) × (old.value ≤ kept.value)) → IsMoveAt s after k sides kept m →
      LeavesNoLess after.unit kept m → IsMove s after k kept m
  chosen-move kept m keeps no_less may less =
      IsMove-at s after k chosen.0 kept m chosen.1 chosen.2.0 (subst (λ (ss : List Side). IsKept (history s after) ss kept.payload kept.value) (sym way) keeps)
      (λ some. record { some = ap (λ (p : Payload). p.empty) chosen.2.1.payload ∙ (no_less some).0; value = omega (arith, (no_less some).1, chosen.2.1.value) }) (subst (λ (ss : List Side). IsMoveAt s after k ss kept m) (sym way) may) less

  -- an empty leaf is closed
  pub empty-move : (kept : Kept) → IsKept (history s after) sides kept.payload kept.value → kept.payload.empty ≡ true → IsMove s after k kept move.Close
  empty-move kept keeps empty =
      let settled : IsSettled (history s after) s.cost kept.payload kept.value = inl empty in
      chosen-move kept move.Close keeps (λ some. absurd (false≢true (sym some ∙ empty))) settled tt

  -- and a leaf that is worth at least the cost
  pub dear-move : (kept : Kept) (walks : List (List Leg)) → IsFound (history s after) sides kept walks → old.payload.empty ≡ false → old.value ≤ kept.value → s.cost ≤ worth_of (history s after) kept.value → IsMove s after k kept move.Close
  dear-move kept walks found known no_less dear =
      let settled : IsSettled (history s after) s.cost kept.payload kept.value = inr dear in chosen-move kept move.Close found.kept (λ some. (known, no_less)) settled tt

  -- at another this is done where the time is over
  pub late-move : (kept : Kept) (walks : List (List Leg)) (m : Move) → IsFound (history s after) sides kept walks → old.payload.empty ≡ false → old.value ≤ kept.value → worth_of (history s after) kept.value < s.cost →
      IsLate s k m → IsMove s after k kept m
  late-move kept walks m found known no_less below late =
      chosen-move kept m found.kept (λ some. (known, no_less)) (IsMoveAt-late s after k sides kept m (IsUnsettled-found s after after sides kept walks found below) late)
      (LeavesNoLess-late s after.unit kept k m late)

  -- and so it is after work by which the prices have grown
  pub late-move-grown : (between : PriceLists) (kept : Kept) (walks : List (List Leg)) (m : Move) → IsFound (history s between) sides kept walks → ArePrices s.instance s.windows between → HaveGrown s.instance s.windows between after →
      old.payload.empty ≡ false → old.value ≤ kept.value → worth_of (history s between) kept.value < s.cost → IsLate s k m → IsMove s after k kept m
  late-move-grown between kept walks m found are grown known no_less below late =
      chosen-move kept m (IsKept-grown s between after sides kept are grown found.kept) (λ some. (known, no_less))
      (IsMoveAt-late s after k sides kept m (IsUnsettled-found s between after sides kept walks found (omega (arith, worth-grown s between after kept.value grown, below))) late)
      (LeavesNoLess-late s after.unit kept k m late)

  -- at another the move is one that may be made there
  pub found-move : (between : PriceLists) (kept : Kept) (walks : List (List Leg)) (m : Move) → IsFound (history s between) sides kept walks → ArePrices s.instance s.windows between → HaveGrown s.instance s.windows between after →
      old.payload.empty ≡ false → old.value ≤ kept.value → worth_of (history s between) kept.value < s.cost → IsOpenMove s after k sides m → LeavesNoLess between.unit kept m → IsMove s after k kept m
  found-move between kept walks m found are grown known no_less below may less =
      chosen-move kept m (IsKept-grown s between after sides kept are grown found.kept) (λ some. (known, no_less))
      (IsMoveAt-open s after k sides kept m (IsUnsettled-found s between after sides kept walks found (omega (arith, worth-grown s between after kept.value grown, below))) may)
      (subst (λ (unit : Option ℕ). LeavesNoLess unit kept m) (sym (ap (λ (x : PriceLists). x.unit) grown.is)) less)

  -- the leaf may be kept so, with a note as of which round its price was improved
  pub raised-there : (kept : Kept) (improved : Option ℕ) → IsKept (history s after) sides kept.payload kept.value → old.value ≤ kept.value → IsRaised s after (record { number = k; kept = noted_kept improved kept })
  raised-there kept improved keeps no_less = record {
    kept = here (λ x. IsKept (history s after) x.sides (noted_kept improved kept).payload kept.value) (record { price = own.price; under = own.under; worth = own.worth });
    no_less = here (λ x. value_of x.node ≤ kept.value) (omega (arith, no_less, chosen.2.1.value));
  }
    where
      own : IsKept (history s after) chosen.0.sides kept.payload kept.value
      own = subst (λ (ss : List Side). IsKept (history s after) ss kept.payload kept.value) (sym way) keeps

      here : (P : Leaf (Node Payload) → Type 0) → P chosen.0 → AtOpenLeaf s.tree k P
      here P holds = subst (λ (o : Option (Leaf (Node Payload))). IsSomeAnd o (λ (x : Leaf (Node Payload)). (closed_of x.node ≡ false) × P x)) (sym chosen.1) (chosen.2.0, holds)

-- where no shipment of a leaf has several ways to go, the walks that were found are routes and cost
-- less than the incumbent
pub NoneSeveral-found : (s : Search) (prices : PriceLists) (leaf : LeafModel) (sides : List Side) (kept : Kept) (walks : List (List Leg)) (n : ℕ) → IsSearch s prices → leaf.setting ≡ setting_of s →
    leaf.sides ≡ sides → IsFound (history s prices) sides kept walks → worth_of (history s prices) kept.value < s.cost → n ≡ length s.instance.shipments → NoneSeveral leaf n →
    All (λ walk. AreDistinct (terminals_on s.instance walk)) walks × (cost s.instance walks < s.cost)
NoneSeveral-found s prices leaf sides kept walks n is setting are found below long none = (
  NoneSeveral-routes (history s prices) s.network sides is.belongs (agree-now s prices is) kept walks found own,
  NoneSeveral-cheaper (history s prices) s.network sides is.belongs (agree-now s prices is) kept walks found own s.cost (unit-some s.instance s.windows prices is.prices) below,
)
  where
    own : NoneSeveral (record { setting = setting_of s; sides = sides }) (length s.instance.shipments)
    own = subst (λ (m : ℕ). NoneSeveral (record { setting = setting_of s; sides = sides }) m) long
        (subst (λ (l : List Side). NoneSeveral (record { setting = setting_of s; sides = l }) n) are
        (subst (λ (x : Setting). NoneSeveral (record { setting = x; sides = leaf.sides }) n) setting none))

-- an open leaf is open
pub still-open : (nodes : List (Node Payload)) (k : ℕ) (P : Leaf (Node Payload) → Type 0) → AtOpenLeaf nodes k P → IsSomeAnd (leaf_at nodes k) (λ (l : Leaf (Node Payload)). closed_of l.node ≡ false)
still-open nodes k P at = by_leaf (leaf_at nodes k) at
  where
    by_leaf : (o : Option (Leaf (Node Payload))) → IsSomeAnd o (λ (l : Leaf (Node Payload)). (closed_of l.node ≡ false) × P l) → IsSomeAnd o (λ (l : Leaf (Node Payload)). closed_of l.node ≡ false)
    by_leaf None is = absurd is
    by_leaf (Some l) is = is.0

-- what is so of a leaf that is open is so at an open leaf
pub AtOpenLeaf-both : (nodes : List (Node Payload)) (k : ℕ) (P : Leaf (Node Payload) → Type 0) → IsSomeAnd (leaf_at nodes k) (λ (l : Leaf (Node Payload)). closed_of l.node ≡ false) → IsSomeAnd (leaf_at nodes k) P →
    AtOpenLeaf nodes k P
AtOpenLeaf-both nodes k P still holds = both (leaf_at nodes k) still holds
  where
    both : (o : Option (Leaf (Node Payload))) → IsSomeAnd o (λ (l : Leaf (Node Payload)). closed_of l.node ≡ false) → IsSomeAnd o P → IsSomeAnd o (λ (l : Leaf (Node Payload)). (closed_of l.node ≡ false) × P l)
    both None one other = absurd one
    both (Some l) one other = (one, other)

-- at an open leaf, of which what was kept stays
module _ (s : Search) (prices : PriceLists) (k : ℕ) (old : Kept) (is : IsSearch s prices) (was : AtOpenLeaf s.tree k (λ l. IsKeptAs l old)) where
  found : (l : Leaf (Node Payload)) × (leaf_at s.tree k ≡ Some l) × ((closed_of l.node ≡ false) × IsKeptAs l old)
  found = some-value (leaf_at s.tree k) (λ (l : Leaf (Node Payload)). (closed_of l.node ≡ false) × IsKeptAs l old) was

  on : IsSomeAnd (leaf_at s.tree k) (λ (l : Leaf (Node Payload)). l.sides ≡ found.0.sides)
  on = subst (λ (o : Option (Leaf (Node Payload))). IsSomeAnd o (λ (l : Leaf (Node Payload)). l.sides ≡ found.0.sides)) (sym found.1) refl

  keeps : IsKept (history s prices) found.0.sides old.payload old.value
  keeps = was-kept s prices prices k found.0.sides old was on is

  stays : (m : Move) → IsMoveAt s prices k found.0.sides old m → LeavesNoLess prices.unit old m → IsMove s prices k old m
  stays m may less = chosen-move s prices prices k found.0.sides old was on old m keeps (λ some. (some, omega arith)) may less

  -- it is closed where it is settled
  pub settled-stays : IsSettled (history s prices) s.cost old.payload old.value → IsMove s prices k old move.Close
  settled-stays settled = stays move.Close settled tt

  -- the plan in reserve is taken where there is one
  pub reserve-stays : HasReserve s → IsMove s prices k old move.TakeReserve
  reserve-stays some = stays move.TakeReserve some tt

  -- a cheaper plan is taken
  pub better-stays : (c : Cheaper) → IsCheaper s c → IsMove s prices k old (move.Better c)
  better-stays c cheaper = stays (move.Better c) cheaper tt

  -- a round is added that is called for by walks under its sides
  pub round-stays : (sides : List Side) (note : Refinement) (refined : RefinedNetwork) → IsSomeAnd (leaf_at s.tree k) (λ (l : Leaf (Node Payload)). l.sides ≡ sides) → old.payload.empty ≡ false →
      worth_of (history s prices) old.value < s.cost → IsNextRound s prices.unit note refined → AreWalksHad (in_hand s) sides note.relaxed → IsMove s prices k old (move.Refine note refined)
  round-stays sides note refined there some below next under =
      stays (move.Refine note refined) (
        record { some = some; below = below },
        next,
        subst (λ (ss : List Side). AreWalksHad (in_hand s) ss note.relaxed) (sym (of-value (leaf_at s.tree k) found.0 (λ (l : Leaf (Node Payload)). l.sides ≡ sides) found.1 there)) under,
      ) tt

  -- and this is done where the time is over, and it was priced as of the last round
  pub late-stays : (m : Move) → old.payload.empty ≡ false → worth_of (history s prices) old.value < s.cost → last_round (history s prices) ≤ old.payload.valuation.price.round → IsLate s k m → IsMove s prices k old m
  late-stays m some below last late =
      stays m
      (IsMoveAt-late s prices k found.0.sides old m (record { some = some; below = below; starts = kept-starts (history s prices) found.0.sides old.payload old.value keeps some last }) late)
      (LeavesNoLess-late s prices.unit old k m late)
