-- Plans of a leaf: those that lie within its windows, ends and all, lie within them by their whole moments; and they lie so
-- within the windows that the leaf's sides narrow.
use Rattle.std.proofs.Common.{◌≡◌, ℕ, ◌+◌, ◌<◌, ◌≤◌, List, [], get_or, length, map, sym, subst, arith}
use Rattle.std.specs.Prelude.{Option}
use Rattle.std.proofs.lemmas.List.{length-map}
use Rattle.std.proofs.lemmas.Slice.Zip.{AllZip-long}
use Rattle.fp_base_lists.proofs.Maps.{get_or-map_default}
use Rattle.fp_base_lists.proofs.Numbered.{AllFrom-from_get_or}
use Rattle.fp_model.specs.declared.parts.Leg.{Leg}
use Rattle.fp_model.specs.Numbered.{route_at}
use Rattle.fp_model.specs.Plans.{IsPlan}
use Rattle.fp_model.specs.Problem.{Problem}
use Rattle.fp_model.specs.Routes.{Carries}
use Rattle.fp_flatnet.specs.declared.window_tables.Window.{Window}
use Rattle.fp_flatnet.specs.Tables.{WindowTable, windows_in}
use Rattle.fp_flatnet.specs.Windows.{LiesWithin, PlanLiesWithin, whole_legs}
use Rattle.fp_flatnet.proofs.WholeMoments.{PlanLiesWithin-whole}
use Rattle.fp_tree.specs.declared.sides.Side.{Side}
use Rattle.fp_allowed.specs.Allowed.{PlanObeys}
use Rattle.fp_allowed.specs.WindowsUnder.{AreWindowRowsUnder}
use Rattle.fp_allowed.proofs.WindowsUnder.{row_keeps-plans}
use Rattle.fp_prices.specs.Leaves.{IsPlanOfLeaf, LeafWindowsKeepPlans}

-- a plan that lies within the windows and obeys the sides is one of the leaf
pub IsPlanOfLeaf-within : (p : Problem) (windows : ℕ → ℕ → Option Window) (sides : List Side) (d : ℕ) (routes : List (List Leg)) → 1 ≤ d → IsPlan p d routes → PlanLiesWithin windows d routes →
    PlanObeys p d sides routes → IsPlanOfLeaf p windows sides d routes
IsPlanOfLeaf-within p windows sides d routes some plan within obeys =
    record { denominator = some; plan = plan; within = PlanLiesWithin-whole windows d routes some within; obeys = obeys }

-- each route of a plan of a leaf lies, by its whole moments, within the row of its shipment under the leaf's sides
route-keeps : (p : Problem) (windows : ℕ → ℕ → Option Window) (sides : List Side) (narrower : WindowTable) → AreWindowRowsUnder p windows sides narrower.rows → (d : ℕ) (routes : List (List Leg)) →
    IsPlanOfLeaf p windows sides d routes → (k : ℕ) → k < length (map (whole_legs d) routes) → LiesWithin (windows_in narrower) 1 (0 + k) (get_or (map (whole_legs d) routes) k [])
route-keeps p windows sides narrower are d routes of_leaf k lt =
    let each : length routes ≡ length p.shipments = AllZip-long (Carries p d) p.shipments routes of_leaf.plan in
    let shipment : k < length p.shipments = omega (arith, lt, length-map routes (whole_legs d), each) in
    let own : LiesWithin (windows_in narrower) 1 k (whole_legs d (route_at routes k)) =
    row_keeps-plans p windows sides k (get_or narrower.rows k []) shipment (are.exact k shipment) d routes of_leaf.denominator of_leaf.plan of_leaf.within of_leaf.obeys in
    let number : k ≡ 0 + k = omega arith in
    subst (λ (n : ℕ). LiesWithin (windows_in narrower) 1 n (get_or (map (whole_legs d) routes) k [])) number
    (subst (λ (r : List Leg). LiesWithin (windows_in narrower) 1 k r) (sym (get_or-map_default (whole_legs d) routes k [])) own)

-- so it is a plan of the leaf over the windows that the sides narrow
pub leaf_windows-keep_plans : LeafWindowsKeepPlans
leaf_windows-keep_plans p windows sides narrower are d routes of_leaf = record {
  denominator = of_leaf.denominator;
  plan = of_leaf.plan;
  within = AllFrom-from_get_or (LiesWithin (windows_in narrower) 1) (map (whole_legs d) routes) [] 0 (route-keeps p windows sides narrower are d routes of_leaf);
  obeys = of_leaf.obeys;
}
