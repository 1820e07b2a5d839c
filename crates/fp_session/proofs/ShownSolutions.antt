-- All that is shown of a search that has ended.
use Rattle.std.proofs.Common.{◌≡◌, ℕ, ◌<◌, ◌≤◌, Bool, true, false, cond, List, [], ◌∷◌, length, replicate, refl, sym, ap, ◌∙◌, subst, arith}
use Rattle.std.specs.Prelude.{◌==◌, All, IfSome, Option, Some, None, slice_index_or}
use Rattle.std.specs.List.{AllByRecursion}
use Rattle.std.proofs.lemmas.List.{length-replicate}
use Rattle.std.proofs.lemmas.List.Elements.{All-from_recursion, All-weaker, recursion_from_All}
use Rattle.std.proofs.lemmas.Option.{IfSome_then}
use Rattle.fp_model.specs.declared.limits.TheConstants.{LAST_ROUND, SCALE}
use Rattle.fp_model.specs.declared.parts.Leg.{Leg}
use Rattle.fp_model.specs.Costs.{cost}
use Rattle.fp_model.specs.Plans.{IsPlan}
use Rattle.fp_model.specs.Problem.{IsValid, Problem}
use Rattle.fp_flatnet.specs.Tables.{windows_in}
use Rattle.fp_flatnet.specs.Windows.{PlanLiesWithin}
use Rattle.fp_timenodes.specs.declared.places.AddedPoint.{AddedPoint}
use Rattle.fp_tree.specs.declared.layout.TheConstants.{MOST_SPLITS}
use Rattle.fp_tree.specs.Nodes.{Node, fork_of as fork_at, leaf_at, value_of}
use Rattle.fp_tree.specs.Sides.{Fork}
use Rattle.fp_tree.specs.Trees.{Branch, IsTree, Leaf, tree_branches, tree_leaves}
use Rattle.fp_timetable.specs.declared.lines.LegLine.{LegLine}
use Rattle.fp_timetable.specs.declared.lines.TruckLine.{TruckLine}
use Rattle.fp_timetable.specs.Lines.{AreLegLines, AreTruckLines, LegExists, TruckExists, routes_from}
use Rattle.fp_prices.specs.Shares.{ClassShare}
use Rattle.fp_prices_spans.specs.Spans.{ClassSpan}
use Rattle.fp_prices_gifts.specs.declared.gifts.Gift.{Gift}
use Rattle.fp_certificate_lines.specs.declared.certificates.Answer.{Answer}
use Rattle.fp_certificate_lines.specs.declared.certificates.Answer.TheVariants.{Direct, Infeasible, Optimal, Unfinished}
use Rattle.fp_certificate_lines.specs.declared.certificates.Node.{Node as Line}
use Rattle.fp_certificate_lines.specs.declared.certificates.Node.TheVariants as line
use Rattle.fp_certificate_lines.specs.declared.certificates.Spent.TheVariants.{Branches, Rounds, Time}
use Rattle.fp_certificate_lines.specs.Ranges.{IsAnswerInRange, IsInRange, IsLeafInRange, IsNodeInRange, IsScaleInRange, IsSplitInRange, largest_figure}
use Rattle.fp_certificate_lines.specs.Statements.{Statement}
use Rattle.fp_certificate_rules.specs.Accepted.{Applies, Holds, Part, claim_of}
use Rattle.fp_certificate_rules.specs.Leaves.{AreLeavesWorth, IsLeafWorth}
use Rattle.fp_certificate_rules.specs.Plans.{stated_cost}
use Rattle.fp_certificate_rules.proofs.BareTrees.{AreLeavesWorth-plain, HasTree-plain}
use Rattle.fp_duals.specs.PriceLines.{AreWithinLimits}
use Rattle.fp_session_history.specs.declared.endings.Left.{Left}
use Rattle.fp_session_history.specs.declared.endings.Left.TheVariants.{Nothing, Several, Timing, Unsettled}
use Rattle.fp_session_history.specs.declared.notes.SplitNote.{SplitNote}
use Rattle.fp_session_history.specs.Divisions.{Divides}
use Rattle.fp_session_history.specs.Notes.{History, added_of, last_round, points_of, worth_of}
use Rattle.fp_session_history.specs.PrintedLeaves.{IsOpenBelow}
use Rattle.fp_session_history.specs.Solutions.{AreWalksUnder, HasCause, HasSeveral, IsEarnedSolution, Solution, branches_shown, leaves_shown}
use Rattle.fp_session_history.specs.Splits.{IsEarnedSplit}
use Rattle.fp_session_history.specs.Traces.{IsEarnedTrace}
use Rattle.fp_session_history.proofs.AddedPoints.{AreAddedPoints-IsEarnedTrace}
use Rattle.fp_session.specs.declared.payloads.Payload.{Payload}
use Rattle.fp_session.specs.declared.searches.Search.{Search}
use Rattle.fp_session.specs.Certificates.{IsAnswer, IsCertificate, IsShown, IsWhole, named_scale}
use Rattle.fp_session.specs.Nodes.{IsLeafOf, IsSplitOf, split_note}
use Rattle.fp_duals_leaves.specs.PriceLines.{AreFewLines}
use Rattle.fp_duals_leaves.specs.Prices.{PriceLists}
use Rattle.fp_duals_leaves.proofs.SpansBeside.{given-length}
use Rattle.fp_session.specs.Searches.{IsLeft, IsSearch, history}
use Rattle.fp_session.specs.TreeLines.{lines_of, notes_of}
use Rattle.fp_session.proofs.DeepLeaves.{IsNear, near-tree}
use Rattle.fp_session.proofs.LeafWorths.{bound-le, bound-lt, leaf-of, least-worth, leaves-shown, left-shown, settled-worth, worth-kept}
use Rattle.fp_session.proofs.LineRanges.{legs-in_range, trucks-in_range}
use Rattle.fp_session.proofs.PlanCosts.{cost-in_range}
use Rattle.fp_session.proofs.PointRanges.{points-in_range}
use Rattle.fp_session.proofs.PrintedTree.{AllDivide-lines, IsTree-lines, branches-noted, leaves-printed, length-branches, lines-nodes, splits-lines}
use Rattle.fp_session.proofs.PriceRanges.{gifts-in_range, prices-hold, spans-few, spans-in_range, unit-in_range}
use Rattle.fp_session.proofs.TableRanges.{tables-countable, tables-in_range}
use Rattle.fp_session.proofs.WholeTrees.{all-at, tree-fits}

-- a named scale is in range
scale-in_range : (p : Problem) → IsValid p → (b : Bool) → IfSome (cond b None (Some p.scale)) (IsScaleInRange p)
scale-in_range p valid true = tt
scale-in_range p valid false = record { least = valid.scale.0; most = valid.scale.1; fits = valid.fits }

module _ (s : Search) (prices : PriceLists) (search : IsSearch s prices) (whole : IsTree fork_at s.tree) (within : AreWithinLimits prices.tables) (lines : AreFewLines prices.tables prices.spans prices.gifts)
    (legs : List LegLine) (trucks : List TruckLine) (are_legs : AreLegLines s.instance s.incumbent legs) (routes : routes_from legs 0 s.instance.shipments ≡ s.incumbent)
    (legs_exist : All (LegExists s.instance) legs) (are_trucks : AreTruckLines s.instance s.incumbent trucks) (trucks_exist : All (TruckExists s.instance) trucks) where
  -- the history of the search
  abbrev h : History
  h = history s prices

  -- the certificate with an answer
  abbrev statement : Answer → Statement
  statement stated = record {
    answer = stated;
    scale = named_scale s.instance.scale;
    unit = prices.unit;
    legs = legs;
    trucks = trucks;
    points = added_of s.trace.items;
    tables = prices.tables;
    spans = prices.spans;
    gifts = prices.gifts;
    moments = replicate (length prices.tables) false;
    tree = lines_of s.tree;
  }

  -- what is shown with it
  abbrev solution : Answer → Left → Solution
  solution stated kept = record { certificate = statement stated; trace = s.trace.items; splits = notes_of s.tree; left = kept }

  -- where the leaves are worth the claim, each part holds that applies to a plan
  part-holds : (stated : Answer) → stated_cost stated ≡ s.cost → AreLeavesWorth s.instance s.windows (statement stated) (claim_of stated) → (Applies stated Part.Blocked → ⊥) → (part : Part) →
      Applies stated part → Holds s.instance s.windows (statement stated) part
  part-holds stated costs worth carried Part.Plan applies = record {
    ascending = are_legs.ascending;
    arrivals = λ i d lt. (are_legs.legs i d lt).arrive;
    plan = subst (IsPlan s.instance 1) (sym routes) search.incumbent.plan;
    within = subst (PlanLiesWithin (windows_in s.windows) 1) (sym routes) search.incumbent.within;
  }
  part-holds stated costs worth carried Part.Cost applies = costs ∙ search.incumbent.costs ∙ ap (cost s.instance) (sym routes)
  part-holds stated costs worth carried Part.Trucks applies = subst (λ (R : List (List Leg)). AreTruckLines s.instance R trucks) (sym routes) are_trucks
  part-holds stated costs worth carried Part.Points applies = AreAddedPoints-IsEarnedTrace h s.started s.cost search.trace
  part-holds stated costs worth carried Part.Prices applies =
      let held = prices-hold s.instance s.windows prices search.prices in
      record { tables = held.tables; spans = held.spans; unit = held.unit }
  part-holds stated costs worth carried Part.Tree applies =
      HasTree-plain s.instance (statement stated) (lines-nodes s.tree) (IsTree-lines s.instance s.tree search.tails whole)
      (omega (arith, splits-lines s.instance s.tree search.tails whole, search.few, search.budget.branches))
  part-holds stated costs worth carried Part.Leaves applies = worth
  part-holds stated costs worth carried Part.Blocked applies = absurd (carried applies)

  -- the leaves are worth what each of them is that isn't empty
  leaves-worth : (stated : Answer) (claim : ℕ) →
      ((k : ℕ) (l : Leaf (Node Payload)) → leaf_at s.tree k ≡ Some l → l.node.payload.empty ≡ false → claim ≤ worth_of h (value_of l.node)) →
      AreLeavesWorth s.instance s.windows (statement stated) claim
  leaves-worth stated claim unmarked =
      AreLeavesWorth-plain s.instance (statement stated) (lines-nodes s.tree) s.windows claim
      (leaves-printed s.instance s.tree search.tails whole (λ (l : Leaf Line). IsLeafWorth s.instance s.windows (statement stated) claim [] l.node l.sides)
      (λ k l at. worth-kept h (length prices.tables) claim l.sides l.node.payload (value_of l.node) (leaf-of h s.cost s.tree search.tails whole search.leaves k l at).kept (unmarked k l at)))

  -- where the answer is in range, so is the certificate
  statement-in_range : (stated : Answer) → IsAnswerInRange s.instance stated → IsInRange s.instance (statement stated)
  statement-in_range stated range = record {
    answer = range;
    scale = scale-in_range s.instance search.belongs.valid (s.instance.scale == SCALE);
    unit = unit-in_range s.instance s.windows prices search.prices;
    legs = legs-in_range s.instance s.incumbent legs search.belongs.valid search.incumbent.plan are_legs legs_exist;
    trucks = trucks-in_range s.instance s.incumbent trucks search.belongs.valid search.incumbent.plan are_trucks trucks_exist;
    points = points-in_range h s.started s.cost search.belongs search.trace few;
    tables = tables-in_range s.instance prices.tables search.belongs.valid search.prices.tables within;
    spans = spans-in_range s.instance s.windows prices search.prices;
    beside = search.prices.beside;
    gifts = gifts-in_range s.instance s.windows prices search.prices;
    given = given-length s.instance s.windows prices search.prices;
    timed = length-replicate (length prices.tables) false;
    tree = tree-fits (IsNodeInRange s.instance prices.tables) s.tree whole
        (All-weaker (IsSplitOf h s.started s.cost) (λ (b : Branch (Node Payload)). IfSome (fork_at b.node) (λ (f : Fork). IsSplitInRange s.instance f.split)) (λ b split. split.range) (tree_branches fork_at s.tree) search.splits)
        (All-from_recursion (λ (l : Leaf (Node Payload)). IsLeafInRange prices.tables l.node.payload.valuation) (tree_leaves fork_at s.tree)
        (leaves-in_range (tree_leaves fork_at s.tree) (recursion_from_All (IsLeafOf h s.cost) (tree_leaves fork_at s.tree) search.leaves)
        (near-tree fork_at MOST_SPLITS s.tree (omega (arith, search.few, search.budget.branches)))));
  }
    where
      few : last_round h ≤ LAST_ROUND
      few = omega (arith, search.rounds, search.budget.rounds)

      -- the leaves are in range, which have no more sides than there may be splits
      leaves-in_range : (leaves : List (Leaf (Node Payload))) → AllByRecursion (IsLeafOf h s.cost) leaves → AllByRecursion (IsNear fork_at MOST_SPLITS) leaves →
          AllByRecursion (λ (l : Leaf (Node Payload)). IsLeafInRange prices.tables l.node.payload.valuation) leaves
      leaves-in_range [] own near = tt
      leaves-in_range (l ∷ leaves) own near = (
        record {
          kind = own.0.kept.price.kind;
          round = omega (arith, own.0.kept.price.round, few);
          sides = IfSome_then l.node.payload.valuation.sides own.0.kept.under.few (λ count le. omega (arith, le, near.0));
        },
        leaves-in_range leaves own.1 near.1,
      )

  -- with its cause, the solution is earned
  solution-earned : (stated : Answer) (kept : Left) → stated_cost stated ≡ s.cost → HasCause h s.budget (leaves_shown s.instance (solution stated kept)) (branches_shown s.instance (solution stated kept)) kept stated →
      IsEarnedSolution s.instance s.windows s.budget s.started (solution stated kept)
  solution-earned stated kept costs cause = record {
    points = refl;
    trace = subst (IsEarnedTrace h s.started) (sym costs) search.trace;
    splits = branches-noted s.instance s.tree search.tails whole (λ (n : Node Payload). split_note n.payload) (λ sides n. IsEarnedSplit h s.started (stated_cost stated) sides n)
        (All-weaker (IsSplitOf h s.started s.cost) (λ (b : Branch (Node Payload)). IsEarnedSplit h s.started (stated_cost stated) b.sides (split_note b.node.payload))
        (λ b split. subst (λ (n : ℕ). IsEarnedSplit h s.started n b.sides (split_note b.node.payload)) (sym costs) split.earned) (tree_branches fork_at s.tree) search.splits);
    divide = AllDivide-lines s.instance s.tree search.tails whole prices.unit (windows_in s.windows)
        (All-weaker (IsSplitOf h s.started s.cost) (λ (b : Branch (Node Payload)). IfSome (fork_at b.node) (Divides prices.unit s.instance (windows_in s.windows) b.sides)) (λ b split. split.divides) (tree_branches fork_at s.tree) search.splits);
    leaves = leaves-shown h s.cost s.tree search.tails whole search.leaves;
    cause = cause;
    cheaper = subst (λ (n : ℕ). n ≤ s.started) (sym costs) search.cheaper;
  }

  -- without a unit each leaf is valued under all its sides
  leaves-whole : prices.unit ≡ None → All IsWhole (lines_of s.tree)
  leaves-whole none =
      tree-fits IsWhole s.tree whole (λ k d lt. of-any (fork_at (slice_index_or (tree_branches fork_at s.tree) k d).node))
      (All-weaker (IsLeafOf h s.cost) (λ (l : Leaf (Node Payload)). IsWhole (line.Leaf l.node.payload.valuation)) (λ l leaf. leaf.kept.under.whole none) (tree_leaves fork_at s.tree) search.leaves)
    where
      of-any : (o : Option Fork) → IfSome o (λ (f : Fork). IsWhole (line.Branch f.split))
      of-any None = tt
      of-any (Some f) = tt

  -- all of it
  shown-of : (stated : Answer) (kept : Left) → stated_cost stated ≡ s.cost → (Applies stated Part.Blocked → ⊥) → IsAnswerInRange s.instance stated →
      AreLeavesWorth s.instance s.windows (statement stated) (claim_of stated) →
      HasCause h s.budget (leaves_shown s.instance (solution stated kept)) (branches_shown s.instance (solution stated kept)) kept stated → IsShown s prices.unit kept (solution stated kept)
  shown-of stated kept costs carried range worth cause = record {
    accepted = part-holds stated costs worth carried;
    range = statement-in_range stated range;
    countable = tables-countable s.instance prices.tables search.prices.tables within;
    few = spans-few s.instance s.windows prices search.prices;
    lines = lines;
    priced = record { unit = refl; without = search.prices.without; given = search.prices.ungiven; whole = leaves-whole };
    scale = refl;
    plan = routes;
    cost = costs;
    earned = solution-earned stated kept costs cause;
    trace = refl;
    splits = refl;
    left = refl;
  }

  -- the cost is no larger than a field may be
  cost-small : s.cost ≤ largest_figure
  cost-small = omega (arith, search.incumbent.costs, cost-in_range s.instance 1 s.incumbent search.belongs.valid search.incumbent.plan)

  -- with the answer by what was left
  pub shown-answer : (stated : Answer) (kept : Left) → IsLeft s prices kept → IsAnswer s prices kept stated → IsShown s prices.unit kept (solution stated kept)
  shown-answer (Optimal n) Nothing closed is =
      shown-of (Optimal n) Nothing is (λ none. none) (omega (arith, is, cost-small))
      (leaves-worth (Optimal n) n
      (λ k l at unmarked.
      let leaf = leaf-of h s.cost s.tree search.tails whole search.leaves k l at in
      let shut = all-at (λ (m : Leaf (Node Payload)). Rattle.fp_tree.specs.Nodes.closed_of m.node ≡ true) (tree_leaves fork_at s.tree) k l closed at in
      subst (λ (m : ℕ). m ≤ worth_of h (value_of l.node)) (sym is) (settled-worth h s.cost l.node.payload (value_of l.node) (leaf.closed shut) unmarked)))
      tt
  shown-answer (Unfinished n bound Rounds) (Timing leaf relaxed) left is =
      let lt : bound < s.cost = bound-lt h s.cost s.tree search.tails whole search.leaves bound is.1 leaf left.2.open_at in
      shown-of (Unfinished n bound Rounds) (Timing leaf relaxed) is.0 (λ none. none) (omega (arith, is.0, cost-small), omega (arith, lt, cost-small))
      (leaves-worth (Unfinished n bound Rounds) bound (bound-le h s.cost s.tree search.tails whole search.leaves bound is.1)) (
        subst (λ (m : ℕ). Rattle.fp_session_history.specs.Solutions.HasUsedRounds h s.budget (leaves_shown s.instance (solution (Unfinished n bound Rounds) (Timing leaf relaxed))) m leaf relaxed) (sym is.0)
            (record {
              spent = left.0;
              leaf_left = left-shown h s.cost s.tree search.tails whole search.leaves (λ price sides. IsOpenBelow h s.cost sides price) leaf left.2.open_at;
              under = left-shown h s.cost s.tree search.tails whole search.leaves (λ price sides. AreWalksUnder s.instance s.windows (points_of h (last_round h)) sides relaxed) leaf left.2.holds;
              clashes = left.1;
            }),
        least-worth h s.cost s.tree search.tails whole search.leaves bound is.1 lt,
        omega (arith, lt, is.0),
      )
  shown-answer (Unfinished n bound Branches) (Several leaf shipment) left is =
      let lt : bound < s.cost = bound-lt h s.cost s.tree search.tails whole search.leaves bound is.1 leaf left.1.open_at in
      shown-of (Unfinished n bound Branches) (Several leaf shipment) is.0 (λ none. none) (omega (arith, is.0, cost-small), omega (arith, lt, cost-small))
      (leaves-worth (Unfinished n bound Branches) bound (bound-le h s.cost s.tree search.tails whole search.leaves bound is.1)) (
        subst (λ (m : ℕ). Rattle.fp_session_history.specs.Solutions.HasUsedBranches h s.budget (leaves_shown s.instance (solution (Unfinished n bound Branches) (Several leaf shipment)))
            (branches_shown s.instance (solution (Unfinished n bound Branches) (Several leaf shipment))) m leaf shipment) (sym is.0)
            (record {
              spent = length-branches s.instance s.tree search.tails whole ∙ left.0;
              leaf_left = left-shown h s.cost s.tree search.tails whole search.leaves (λ price sides. IsOpenBelow h s.cost sides price) leaf left.1.open_at;
              several = left-shown h s.cost s.tree search.tails whole search.leaves (λ price sides. HasSeveral s.instance s.windows (points_of h (last_round h)) sides shipment) leaf left.1.holds;
            }),
        least-worth h s.cost s.tree search.tails whole search.leaves bound is.1 lt,
        omega (arith, lt, is.0),
      )
  shown-answer (Unfinished n bound Time) (Unsettled leaf) left is =
      let lt : bound < s.cost = bound-lt h s.cost s.tree search.tails whole search.leaves bound is.1 leaf left.open_at in
      shown-of (Unfinished n bound Time) (Unsettled leaf) is.0 (λ none. none) (omega (arith, is.0, cost-small), omega (arith, lt, cost-small))
      (leaves-worth (Unfinished n bound Time) bound (bound-le h s.cost s.tree search.tails whole search.leaves bound is.1)) (
        subst (λ (m : ℕ). Rattle.fp_session_history.specs.Solutions.HasUsedTime h (leaves_shown s.instance (solution (Unfinished n bound Time) (Unsettled leaf))) m leaf) (sym is.0)
            (record { leaf_left = left-shown h s.cost s.tree search.tails whole search.leaves (λ price sides. IsOpenBelow h s.cost sides price) leaf left.open_at }),
        least-worth h s.cost s.tree search.tails whole search.leaves bound is.1 lt,
        omega (arith, lt, is.0),
      )
  shown-answer (Optimal n) (Timing leaf relaxed) left is = absurd is
  shown-answer (Optimal n) (Several leaf shipment) left is = absurd is
  shown-answer (Optimal n) (Unsettled leaf) left is = absurd is
  shown-answer (Unfinished n bound Rounds) Nothing left is = absurd is
  shown-answer (Unfinished n bound Rounds) (Several leaf shipment) left is = absurd is
  shown-answer (Unfinished n bound Rounds) (Unsettled leaf) left is = absurd is
  shown-answer (Unfinished n bound Branches) Nothing left is = absurd is
  shown-answer (Unfinished n bound Branches) (Timing leaf relaxed) left is = absurd is
  shown-answer (Unfinished n bound Branches) (Unsettled leaf) left is = absurd is
  shown-answer (Unfinished n bound Time) Nothing left is = absurd is
  shown-answer (Unfinished n bound Time) (Timing leaf relaxed) left is = absurd is
  shown-answer (Unfinished n bound Time) (Several leaf shipment) left is = absurd is
  shown-answer (Direct n) Nothing left is = absurd is
  shown-answer (Direct n) (Timing leaf relaxed) left is = absurd is
  shown-answer (Direct n) (Several leaf shipment) left is = absurd is
  shown-answer (Direct n) (Unsettled leaf) left is = absurd is
  shown-answer (Infeasible shipment time) Nothing left is = absurd is
  shown-answer (Infeasible shipment time) (Timing leaf relaxed) left is = absurd is
  shown-answer (Infeasible shipment time) (Several leaf at) left is = absurd is
  shown-answer (Infeasible shipment time) (Unsettled leaf) left is = absurd is

-- a certificate of a search is the one with its parts
pub IsShown-certificate : (s : Search) (prices : PriceLists) (kept : Left) (stated : Answer) (c : Statement) (splits : List SplitNote) → IsSearch s prices → IsLeft s prices kept →
    IsTree fork_at s.tree → IsAnswer s prices kept stated → IsCertificate s prices stated c → splits ≡ notes_of s.tree →
    IsShown s prices.unit kept (record { certificate = c; trace = s.trace.items; splits = splits; left = kept })
IsShown-certificate s prices kept stated c splits search left whole answered is noted =
    let made : Answer → Option ℕ → List AddedPoint → PriceLists → List Bool → List Line → Statement =
    λ a n points x moments tree. record { answer = a; scale = n; unit = x.unit; legs = c.legs; trucks = c.trucks; points = points; tables = x.tables; spans = x.spans; gifts = x.gifts; moments = moments; tree = tree } in
    let shown : PriceLists = record { tables = c.tables; spans = c.spans; gifts = c.gifts; unit = c.unit } in
    let priced : shown ≡ prices =
    ap (λ (ts : List (List ClassShare)). record { tables = ts; spans = c.spans; gifts = c.gifts; unit = c.unit }) is.tables
    ∙ ap (λ (ss : List (List ClassSpan)). record { tables = prices.tables; spans = ss; gifts = c.gifts; unit = c.unit }) is.spans
    ∙ ap (λ (gs : List (List Gift)). record { tables = prices.tables; spans = prices.spans; gifts = gs; unit = c.unit }) is.gifts
    ∙ ap (λ (u : Option ℕ). record { tables = prices.tables; spans = prices.spans; gifts = prices.gifts; unit = u }) is.unit in
    let none_timed : List Bool = replicate (length prices.tables) false in
    let same : c ≡ made stated (named_scale s.instance.scale) (added_of s.trace.items) prices none_timed (lines_of s.tree) =
    ap (λ (a : Answer). made a c.scale c.points shown c.moments c.tree) is.answer
    ∙ ap (λ (n : Option ℕ). made stated n c.points shown c.moments c.tree) is.scale
    ∙ ap (λ (points : List AddedPoint). made stated (named_scale s.instance.scale) points shown c.moments c.tree) (is.points ∙ search.added)
    ∙ ap (λ (x : PriceLists). made stated (named_scale s.instance.scale) (added_of s.trace.items) x c.moments c.tree) priced
    ∙ ap (λ (moments : List Bool). made stated (named_scale s.instance.scale) (added_of s.trace.items) prices moments c.tree) is.moments
    ∙ ap (λ (tree : List Line). made stated (named_scale s.instance.scale) (added_of s.trace.items) prices none_timed tree) is.tree in
    subst (λ (x : Statement). IsShown s prices.unit kept (record { certificate = x; trace = s.trace.items; splits = splits; left = kept })) (sym same)
    (subst (λ (notes : List SplitNote). IsShown s prices.unit kept (record { certificate = made stated (named_scale s.instance.scale) (added_of s.trace.items) prices none_timed (lines_of s.tree); trace = s.trace.items; splits = notes; left = kept })) (sym noted)
    (shown-answer s prices search whole is.within is.few c.legs c.trucks is.legs is.routes is.legs_exist is.trucks is.trucks_exist stated kept left answered))
