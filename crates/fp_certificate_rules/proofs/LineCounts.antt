-- An accepted certificate has few lines, and so few bytes beside those of its prices.
use Rattle.std.proofs.Common.{◌≡◌, ◌+◌, ◌*◌, ◌<◌, ◌≤◌, List, [], ◌∷◌, length, refl, sym, ap, subst, arith}
use Rattle.std.proofs.lemmas.List.Elements.{All-get_or, recursion_from_All}
use Rattle.fp_base_lists.proofs.Elements.{AllByRecursion-weaker}
use Rattle.fp_model.specs.Costs.{all_legs}
use Rattle.fp_model.specs.Problem.{IsValid, Problem}
use Rattle.fp_flatnet.specs.Tables.{WindowTable, windows_in}
use Rattle.fp_timetable.specs.declared.lines.LegLine.{LegLine}
use Rattle.fp_certificate_lines.specs.declared.certificates.Answer.{Answer}
use Rattle.fp_certificate_lines.specs.declared.certificates.Answer.TheVariants.{Direct, Infeasible, Optimal, Unfinished}
use Rattle.fp_certificate_lines.specs.declared.certificates.Node.{Node}
use Rattle.fp_certificate_lines.specs.Lengths.{most_bytes, price_rows}
use Rattle.fp_certificate_lines.specs.Ranges.{IsInRange, IsLegInRange, IsPointInRange}
use Rattle.fp_certificate_lines.specs.Statements.{Statement}
use Rattle.fp_certificate_rules.specs.Accepted.{Applies, Holds, IsAccepted, Part}
use Rattle.fp_certificate_rules.specs.Leaves.{HasTree, bare_nodes}
use Rattle.fp_certificate_rules.specs.LineCounts.{AcceptedAreFew, HasFewLines}
use Rattle.fp_certificate_rules.specs.Plans.{HasPlan, HasTrucks, routes_of}
use Rattle.fp_certificate_rules.specs.Points.{HasPoints}
use Rattle.fp_certificate_rules.proofs.BareTrees.{bare-splits, bare-trees}
use Rattle.fp_certificate_rules.proofs.LegCounts.{departures-few, length-all_legs, plan-few}
use Rattle.fp_certificate_rules.proofs.RoundCounts.{length-rounds}
use Rattle.fp_certificate_rules.proofs.TreeCounts.{leaves-splits, tree-bytes}

module _ (p : Problem) (table : WindowTable) (c : Statement) (valid : IsValid p) (range : IsInRange p c) (accepted : IsAccepted p table c) where
  -- what rests on a tree has a plan with its departures, points and that tree
  part-holds : (a : Answer) (part : Part) → c.answer ≡ a → Applies a part → Holds p table c part
  part-holds a part is applies = accepted part (subst (λ (b : Answer). Applies b part) (sym is) applies)

  few-lines : HasPlan p (windows_in table) c → HasTrucks p c → HasPoints p table.anchors c → HasTree p c → HasFewLines p c
  few-lines plan trucks points tree =
      let same : length (all_legs (routes_of p c)) ≡ length c.legs =
      length-all_legs c.legs p.shipments
      (AllByRecursion-weaker (IsLegInRange p) (λ (l : LegLine). l.shipment < length p.shipments) (λ l r. r.exists.0) c.legs (recursion_from_All (IsLegInRange p) c.legs range.legs)) in
      record {
        legs = omega (arith, same, plan-few p valid 1 (routes_of p c) plan.plan);
        trucks = omega (arith, same, departures-few p (routes_of p c) c.trucks trucks);
        points = length-rounds 4000 c.points points.few (λ k d lt. let r = All-get_or (IsPointInRange p) c.points k d lt range.points in (r.round.0, r.round.1));
        splits = tree.few;
        leaves = omega (arith, leaves-splits p (bare_nodes c.tree) ([] ∷ []) (bare-trees p 1 c.tree tree.tree), ap (λ (nodes : List Node). length nodes) (bare-splits p c.tree));
        narrowings = tree.narrowings;
      }

  pub IsAccepted-few : Applies c.answer Part.Tree → HasFewLines p c
  IsAccepted-few = by c.answer refl
    where
      by : (a : Answer) → c.answer ≡ a → Applies a Part.Tree → HasFewLines p c
      by (Direct cost) is applies = absurd applies
      by (Infeasible shipment time) is applies = absurd applies
      by (Optimal cost) is applies =
          few-lines (part-holds (Optimal cost) Part.Plan is tt) (part-holds (Optimal cost) Part.Trucks is tt) (part-holds (Optimal cost) Part.Points is tt) (part-holds (Optimal cost) Part.Tree is tt)
      by (Unfinished cost bound spent) is applies =
          let answer : Answer = Unfinished cost bound spent in
          few-lines (part-holds answer Part.Plan is tt) (part-holds answer Part.Trucks is tt) (part-holds answer Part.Points is tt) (part-holds answer Part.Tree is tt)

pub AcceptedAreFew_hold : AcceptedAreFew
AcceptedAreFew_hold p table c valid range accepted applies = IsAccepted-few p table c valid range accepted applies

-- so its text has at most so many bytes, and those of its prices
pub few-bytes : (p : Problem) (c : Statement) → HasFewLines p c → HasTree p c → most_bytes p c ≤ 33194208 + 165 * length (price_rows p c)
few-bytes p c few tree = omega (arith, few.legs, few.trucks, few.points, few.splits, few.narrowings, tree-bytes p c.tree 1 tree.tree)
