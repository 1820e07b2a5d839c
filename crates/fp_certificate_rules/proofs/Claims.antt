-- What an accepted certificate claims is true.
use Rattle.std.proofs.Common.{◌≡◌, ℕ, ◌+◌, ◌*◌, ◌<◌, ◌≤◌, Bool, true, false, List, [], ◌∷◌, ◌++◌, length, map, ⊎_elim, inl, inr, refl, sym, subst, arith}
use Rattle.std.specs.Prelude.{Option, Some, None, slice_index_or}
use Rattle.std.specs.Int.{div_ceil}
use Rattle.std.proofs.lemmas.Bool.{cases_lt}
use Rattle.fp_base_lists.specs.Elements.{AnyByRecursion}
use Rattle.fp_base_lists.proofs.Elements.{AllByRecursion-both, AnyByRecursion-all}
use Rattle.fp_model.specs.declared.parts.Leg.{Leg}
use Rattle.fp_model.specs.declared.parts.Shipment.{Shipment}
use Rattle.fp_model.specs.Costs.{cost}
use Rattle.fp_model.specs.Numbered.{no_shipment, shipment_at}
use Rattle.fp_model.specs.Plans.{IsPlan, PlanExists}
use Rattle.fp_model.specs.Problem.{Problem, IsValid, arc_at}
use Rattle.fp_model.specs.Routes.{Carries, arcs_of}
use Rattle.fp_base_lists.proofs.Ceilings.{div_ceil-least}
use Rattle.fp_base_lists.proofs.Numbered.{AllZip-get_or}
use Rattle.fp_flatnet.specs.declared.window_tables.Window.{Window}
use Rattle.fp_flatnet.specs.Initial.{initial_points}
use Rattle.fp_flatnet.specs.Tables.{WindowTable, windows_in}
use Rattle.fp_flatnet.specs.Windows.{AreWindows, CoverPlans}
use Rattle.fp_flatnet.proofs.PlanExistence.{carried_time}
use Rattle.fp_flatnet.proofs.PlansInWindows.{CoverPlans-from_windows}
use Rattle.fp_allowed.specs.Allowed.{PlanObeys}
use Rattle.fp_tree.specs.declared.sides.Side.{Side}
use Rattle.fp_tree.specs.declared.sides.Split.{Split}
use Rattle.fp_tree.specs.declared.sides.Split.TheVariants.{ByArc, ByTime, ByTrucks, ByWay}
use Rattle.fp_tree.specs.Sides.{IsTailOfSplit}
use Rattle.fp_tree.specs.Trees.{HaveTails, Leaf}
use Rattle.fp_prices.specs.declared.leaf_prices.Kind.{Kind}
use Rattle.fp_prices.specs.declared.leaf_prices.LeafPrice.{LeafPrice}
use Rattle.fp_prices.specs.Leaves.{IsPlanOfLeaf}
use Rattle.fp_prices.specs.Prices.{AllKeepRule}
use Rattle.fp_prices.specs.Shares.{ClassShare}
use Rattle.fp_prices.proofs.LeafPlans.{IsPlanOfLeaf-within}
use Rattle.fp_prices.proofs.PlanLeaves.{plan-obeys-leaf}
use Rattle.fp_prices_gifts.specs.declared.gifts.Gift.{Gift}
use Rattle.fp_prices_gifts.specs.GiftKinds.{gifts_beside}
use Rattle.fp_prices_gifts.proofs.GiftBounds.{gift_leaf-bounds}
use Rattle.fp_prices_gifts.proofs.MomentLeaves.{moment_leaves-bound-plans, span_leaf-empty}
use Rattle.fp_prices_spans.specs.MomentRuns.{AreAmong}
use Rattle.fp_prices_spans.specs.SpanKinds.{spans_beside}
use Rattle.fp_prices_spans.specs.Spans.{ClassSpan}
use Rattle.fp_certificate_lines.specs.declared.certificates.Answer.{Answer}
use Rattle.fp_certificate_lines.specs.declared.certificates.Answer.TheVariants.{Direct, Optimal, Unfinished, Infeasible}
use Rattle.fp_certificate_lines.specs.declared.certificates.Node.{Node}
use Rattle.fp_certificate_lines.specs.declared.certificates.Node.TheVariants as node
use Rattle.fp_certificate_lines.specs.Moments.{by_moments}
use Rattle.fp_certificate_lines.specs.Ranges.{IsAnswerInRange, IsInRange}
use Rattle.fp_certificate_lines.specs.Statements.{Statement}
use Rattle.fp_certificate_lines.specs.Valuations.{sides_valued}
use Rattle.fp_certificate_rules.specs.Accepted.{Applies, IsAccepted, IsBlockedAs, IsTooLate, Part, claim_of}
use Rattle.fp_certificate_rules.specs.Claims.{AcceptedClaims, Claims, ClaimsWithin, NoPlanWithinCheaper}
use Rattle.fp_certificate_rules.specs.Leaves.{AreLeavesWorth, AreNarrowedTrees, HasTree, IsLeafEmptyBy, IsLeafValueBy, IsLeafWorth, IsNarrowedLeafWorth, NarrowedLeaf, bare_nodes, fork_of, leaves_among, root_tree, split_tail}
use Rattle.fp_certificate_rules.specs.Points.{points_as_of}
use Rattle.fp_certificate_rules.specs.Units.{rounded_up}
use Rattle.fp_certificate_rules.proofs.BareTrees.{AreOnWay, bare-leaves, bare-trees, bare_leaf, narrowed-on_way}
use Rattle.fp_certificate_rules.proofs.BarredPlans.{leaf_bars-obeyed}
use Rattle.fp_certificate_rules.proofs.FirstPoints.{initial-among}
use Rattle.fp_certificate_rules.proofs.KeptPrices.{AreKept, AreKeptBeside, HasPrices-kept}
use Rattle.fp_certificate_rules.proofs.PlanSides.{obeys-append, obeys-valued}
use Rattle.fp_certificate_rules.proofs.UnitCosts.{rounded_up-cost}

-- a plan of a leaf that obeys bars is one of the leaf under these, also of those sides under which it is valued
of-more-sides : (p : Problem) (windows : ℕ → ℕ → Option Window) (d : ℕ) (plan : List (List Leg)) (bars sides valued : List Side) → PlanObeys p d bars plan → PlanObeys p d valued plan → IsPlanOfLeaf p windows sides d plan →
    IsPlanOfLeaf p windows (bars ++ valued) d plan
of-more-sides p windows d plan bars sides valued barred obeys of_leaf = record { denominator = of_leaf.denominator; plan = of_leaf.plan; within = of_leaf.within; obeys = obeys-append p d bars valued plan barred obeys }

-- a leaf that is empty has no plan: the classes of a plan's route are a walk by its heads and ways
leaf_empty-none : (timed : Bool) (p : Problem) (windows : ℕ → ℕ → Option Window) (points : ℕ → List ℕ) (sides : List Side) (spans : List ClassSpan) → IsLeafEmptyBy timed p windows points sides spans → (d : ℕ) (plan : List (List Leg)) →
    IsPlanOfLeaf p windows sides d plan → ⊥
leaf_empty-none false p windows points sides spans empty d plan of_leaf = span_leaf-empty p windows points sides spans empty d plan of_leaf
leaf_empty-none true p windows points sides spans empty d plan of_leaf = moment_leaves-bound-plans.empties p windows points sides spans empty d plan of_leaf

-- no plan of a leaf costs less than its value, also by moments
leaf_value-bounds : (timed : Bool) (p : Problem) (windows : ℕ → ℕ → Option Window) (first points : ℕ → List ℕ) (sides : List Side) (tables : List (List ClassShare)) (spans : List ClassSpan) (gifts : List Gift) (kind : Kind) (forced : Bool) (value : ℕ) → IsValid p →
    AreAmong p first points → AllKeepRule p tables → AreKeptBeside timed p windows first spans gifts → IsLeafValueBy timed p windows points sides tables spans gifts kind forced value → (d : ℕ) (plan : List (List Leg)) →
    IsPlanOfLeaf p windows sides d plan → value ≤ p.scale * cost p plan
leaf_value-bounds false p windows first points sides tables spans gifts kind forced value valid among rule keep leaf d plan of_leaf =
    gift_leaf-bounds p windows first points sides tables spans gifts kind forced value valid among rule keep leaf d plan of_leaf
leaf_value-bounds true p windows first points sides tables spans gifts kind forced value valid among rule keep leaf d plan of_leaf =
    moment_leaves-bound-plans.values p windows points sides tables spans gifts kind forced value valid rule keep.exist keep.ordered keep.money leaf d plan of_leaf

-- a plan of a leaf that obeys bars costs at least what the leaf is worth under these
IsLeafWorth-cost : (p : Problem) (table : WindowTable) (c : Statement) (claim d : ℕ) (plan : List (List Leg)) (bars : List Side) (x : Node) (sides : List Side) → IsValid p → AreKept p table c →
    IsPlanOfLeaf p (windows_in table) sides d plan → PlanObeys p d bars plan → IsLeafWorth p table c claim bars x sides → claim ≤ cost p plan
IsLeafWorth-cost p table c claim d plan bars (node.Branch split) sides valid keep of_leaf barred worth = absurd worth
IsLeafWorth-cost p table c claim d plan bars (node.Narrow narrowing) sides valid keep of_leaf barred worth = absurd worth
IsLeafWorth-cost p table c claim d plan bars (node.Leaf v) sides valid keep of_leaf barred worth =
    let price : LeafPrice = v.price in
    let windows : ℕ → ℕ → Option Window = windows_in table in
    let points : ℕ → List ℕ = points_as_of p table.anchors c price.round in
    let timed : Bool = by_moments c.moments price.kind in
    let spans : List ClassSpan = spans_beside c.spans price.kind in
    let gifts : List Gift = gifts_beside c.gifts price.kind in
    let valued : List Side = bars ++ sides_valued v sides in
    let under : (others : List Side) → PlanObeys p d others plan → IsPlanOfLeaf p windows (bars ++ others) d plan = λ others obeys. of-more-sides p windows d plan bars sides others barred obeys of_leaf in
    ⊎_elim
    (λ (empty : IsLeafEmptyBy timed p windows points (bars ++ sides) spans). absurd (leaf_empty-none timed p windows points (bars ++ sides) spans empty d plan (under sides of_leaf.obeys)))
    (λ (leaf : (value : ℕ) × IsLeafValueBy timed p windows points valued c.tables spans gifts price.kind price.forced value × (claim ≤ rounded_up c.unit (div_ceil value p.scale))).
    let le : leaf.0 ≤ p.scale * cost p plan = leaf_value-bounds timed p windows (initial_points p table.anchors) points valued c.tables spans gifts price.kind price.forced leaf.0 valid
    (initial-among p table.anchors c.points price.round) keep.tables (keep.spans price.kind) leaf.1 d plan (under (sides_valued v sides) (obeys-valued p d v.sides sides plan of_leaf.obeys)) in
    let few : div_ceil leaf.0 p.scale ≤ cost p plan = div_ceil-least leaf.0 p.scale (cost p plan) (omega (arith, valid.scale.0)) (omega (arith, le)) in
    let rounded : rounded_up c.unit (div_ceil leaf.0 p.scale) ≤ cost p plan = rounded_up-cost p c.unit (div_ceil leaf.0 p.scale) plan keep.range keep.unit few in
    omega (arith, rounded, leaf.2))
    worth

-- the terminal that an arc leaves
abbrev tails : Problem → ℕ → ℕ
tails p a = (arc_at p a).from

-- the splits of a certificate have the tails of their arcs
IsTailOfSplit-split_tail : (p : Problem) (split : Split) → IsTailOfSplit (tails p) split (split_tail p split)
IsTailOfSplit-split_tail p (ByArc shipment arc) = refl
IsTailOfSplit-split_tail p (ByTime shipment terminal at) = tt
IsTailOfSplit-split_tail p (ByTrucks arc point until most) = tt
IsTailOfSplit-split_tail p (ByWay shipment arc) = tt

HaveTails-fork_of : (p : Problem) (nodes : List Node) → HaveTails (tails p) (fork_of p) nodes
HaveTails-fork_of p [] = tt
HaveTails-fork_of p (node.Branch split ∷ nodes) = (IsTailOfSplit-split_tail p split, HaveTails-fork_of p nodes)
HaveTails-fork_of p (node.Leaf valuation ∷ nodes) = (tt, HaveTails-fork_of p nodes)
HaveTails-fork_of p (node.Narrow narrowing ∷ nodes) = (tt, HaveTails-fork_of p nodes)

-- what holds of some value of a function holds of a value of it at some element
AnyByRecursion-from_map : {X Y : Type 0} (P : Y → Type 0) (f : X → Y) (xs : List X) → AnyByRecursion P (map f xs) → AnyByRecursion (λ x. P (f x)) xs
AnyByRecursion-from_map P f [] any = any
AnyByRecursion-from_map P f (x ∷ xs) any = ⊎_elim (λ (here : P (f x)). inl here) (λ (later : AnyByRecursion P (map f xs)). inr (AnyByRecursion-from_map P f xs later)) any

-- some leaf with narrowings has sides that a plan obeys
obeys-narrowed : (p : Problem) (nodes : List Node) (d : ℕ) (plan : List (List Leg)) → AreNarrowedTrees 1 nodes → IsValid p → IsPlan p d plan → AnyByRecursion (λ (l : NarrowedLeaf). PlanObeys p d l.sides plan) (leaves_among p nodes)
obeys-narrowed p nodes d plan tree valid is =
    AnyByRecursion-from_map (λ (l : Leaf Node). PlanObeys p d l.sides plan) bare_leaf (leaves_among p nodes)
    (subst (λ (leaves : List (Leaf Node)). AnyByRecursion (λ (l : Leaf Node). PlanObeys p d l.sides plan) leaves) (sym (bare-leaves p (root_tree ∷ []) nodes))
    (plan-obeys-leaf p (fork_of p) (bare_nodes nodes) d plan (HaveTails-fork_of p (bare_nodes nodes)) (bare-trees p 1 nodes tree) valid is))

-- where each leaf is worth the claim, no plan within the windows costs less: one that does obeys the bars too
pub AreLeavesWorth-NoPlanWithinCheaper : (p : Problem) (table : WindowTable) (c : Statement) (claim : ℕ) → IsValid p → AreKept p table c → HasTree p c → AreLeavesWorth p table c claim →
    NoPlanWithinCheaper p (windows_in table) claim
AreLeavesWorth-NoPlanWithinCheaper p table c claim valid keep tree worth d plan some is within =
    ⊎_elim
    (λ (less : cost p plan < claim).
    AnyByRecursion-all (λ (l : NarrowedLeaf). PlanObeys p d l.sides plan) (λ (l : NarrowedLeaf). IsNarrowedLeafWorth p table c claim l × AreOnWay l.sides l.narrowings) (claim ≤ cost p plan)
    (λ l obeys both.
    let here : IsNarrowedLeafWorth p table c claim l = both.0 in
    IsLeafWorth-cost p table c claim d plan here.bars l.node l.sides valid keep (IsPlanOfLeaf-within p (windows_in table) l.sides d plan some is within obeys)
    (leaf_bars-obeyed p table c claim d plan valid keep some is within less l.sides l.narrowings here.bars obeys both.1 here.are) here.worth)
    (leaves_among p c.tree)
    (obeys-narrowed p c.tree d plan tree.tree valid is)
    (AllByRecursion-both (IsNarrowedLeafWorth p table c claim) (λ (l : NarrowedLeaf). AreOnWay l.sides l.narrowings) (leaves_among p c.tree) worth (narrowed-on_way p (root_tree ∷ []) c.tree (tt, tt))))
    (λ (le : claim ≤ cost p plan). le)
    (cases_lt (cost p plan) claim)

-- a shipment that is too late isn't carried by any plan
IsTooLate-Carries : (p : Problem) (s : Shipment) (time : Option ℕ) (d : ℕ) (legs : List Leg) → IsTooLate p s time → 1 ≤ d → Carries p d s legs → ⊥
IsTooLate-Carries p s None d legs is some carries = is.fastest (arcs_of legs) carries.route.leads
IsTooLate-Carries p s (Some t) d legs is some carries =
    absurd (omega (arith, is.late, carried_time p d s legs some carries, is.fastest.least (arcs_of legs) carries.route.leads))

IsTooLate-PlanExists : (p : Problem) (k : ℕ) (time : Option ℕ) → k < length p.shipments → IsTooLate p (shipment_at p k) time → PlanExists p → ⊥
IsTooLate-PlanExists p k time exists is plan =
    IsTooLate-Carries p (shipment_at p k) time plan.0 (slice_index_or plan.1 k []) is plan.2
    (AllZip-get_or (Carries p plan.0) p.shipments plan.1 k no_shipment [] plan.3 exists)

-- what the parts that bound plans make true
IsAccepted-NoPlanWithinCheaper : (p : Problem) (table : WindowTable) (c : Statement) (claim : ℕ) → IsValid p → IsInRange p c → IsAccepted p table c → Applies c.answer Part.Prices → Applies c.answer Part.Tree →
    Applies c.answer Part.Leaves → claim_of c.answer ≡ claim → NoPlanWithinCheaper p (windows_in table) claim
IsAccepted-NoPlanWithinCheaper p table c claim valid range accepted prices tree leaves claimed =
    AreLeavesWorth-NoPlanWithinCheaper p table c claim valid (HasPrices-kept p table c valid range.spans range.unit (accepted Part.Prices prices)) (accepted Part.Tree tree)
    (subst (λ (n : ℕ). AreLeavesWorth p table c n) claimed (accepted Part.Leaves leaves))

ClaimsWithin_answer : (p : Problem) (table : WindowTable) (c : Statement) (answer : Answer) → c.answer ≡ answer → IsValid p → IsInRange p c → IsAnswerInRange p answer → IsAccepted p table c →
    ClaimsWithin p (windows_in table) answer
ClaimsWithin_answer p table c (Direct cost) same valid whole range accepted = tt
ClaimsWithin_answer p table c (Optimal cost) same valid whole range accepted =
    let applies : (part : Part) → Applies (Optimal cost) part → Applies c.answer part = λ part h. subst (λ (a : Answer). Applies a part) (sym same) h in
    IsAccepted-NoPlanWithinCheaper p table c cost valid whole accepted (applies Part.Prices tt) (applies Part.Tree tt) (applies Part.Leaves tt) (rw same refl)
ClaimsWithin_answer p table c (Unfinished cost bound spent) same valid whole range accepted =
    let applies : (part : Part) → Applies (Unfinished cost bound spent) part → Applies c.answer part = λ part h. subst (λ (a : Answer). Applies a part) (sym same) h in
    IsAccepted-NoPlanWithinCheaper p table c bound valid whole accepted (applies Part.Prices tt) (applies Part.Tree tt) (applies Part.Leaves tt) (rw same refl)
ClaimsWithin_answer p table c (Infeasible shipment time) same valid whole range accepted =
    IsTooLate-PlanExists p shipment time range.0
    (subst (λ (a : Answer). IsBlockedAs p a) same (accepted Part.Blocked (subst (λ (a : Answer). Applies a Part.Blocked) (sym same) tt)))

-- claims on the plans within windows that all plans lie within are claims on all plans
ClaimsWithin-Claims : (p : Problem) (windows : WindowTable) (answer : Answer) → CoverPlans p (windows_in windows) → ClaimsWithin p (windows_in windows) answer → Claims p answer
ClaimsWithin-Claims p windows (Direct cost) cover within = tt
ClaimsWithin-Claims p windows (Optimal cost) cover within = λ d plan some is. within d plan some is (cover d plan some is)
ClaimsWithin-Claims p windows (Unfinished cost bound spent) cover within = λ d plan some is. within d plan some is (cover d plan some is)
ClaimsWithin-Claims p windows (Infeasible shipment time) cover within = within

-- what an accepted certificate claims of the plans within the windows is true
pub IsAccepted-ClaimsWithin : (p : Problem) (table : WindowTable) (c : Statement) → IsValid p → IsInRange p c → IsAccepted p table c → ClaimsWithin p (windows_in table) c.answer
IsAccepted-ClaimsWithin p table c valid range accepted = ClaimsWithin_answer p table c c.answer refl valid range range.answer accepted

-- and where the windows are the instance's own, so is what it claims of all plans
pub IsAccepted-Claims : (p : Problem) (table : WindowTable) (c : Statement) → IsValid p → IsInRange p c → IsAccepted p table c → AreWindows p (windows_in table) → Claims p c.answer
IsAccepted-Claims p table c valid range accepted are =
    ClaimsWithin-Claims p table c.answer (CoverPlans-from_windows p (windows_in table) are) (IsAccepted-ClaimsWithin p table c valid range accepted)

pub AcceptedClaims_hold : AcceptedClaims
AcceptedClaims_hold = record { within = IsAccepted-ClaimsWithin; whole = IsAccepted-Claims }
