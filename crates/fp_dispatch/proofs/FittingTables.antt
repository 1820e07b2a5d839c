-- The tables that are made fit the routes and the groups.
use Rattle.std.proofs.Common.{◌≡◌, ℕ, ◌*◌, ◌≤◌, List, length, sym, ap, subst, arith}
use Rattle.std.specs.List.{AllZip}
use Rattle.fp_model.specs.declared.limits.TheConstants.{MOST_TERMINALS}
use Rattle.fp_model.specs.declared.parts.Member.{Member}
use Rattle.fp_model.specs.Members.{AreGroupsOf}
use Rattle.fp_model.specs.Problem.{Problem}
use Rattle.fp_model.specs.Routes.{IsRoute}
use Rattle.fp_flatnet.specs.Belonging.{BelongsTo}
use Rattle.fp_flatnet.specs.Tables.{WindowTable, windows_in}
use Rattle.fp_dispatch.specs.declared.group_numbers.Numbers.{Numbers}
use Rattle.fp_dispatch.specs.Rising.{AreGroupNumbers, HaveWindows, IsTask, IsWide}
use Rattle.fp_dispatch.proofs.FixedRoutes.{rows-long, routes-exist, tables-small, tails-long}

pub IsTask-tables : (p : Problem) (table : WindowTable) (routes : List (List ℕ)) (groups : List (List Member)) (numbers : Numbers) (width : ℕ) →
    BelongsTo p table → AllZip (IsRoute p) p.shipments routes → AreGroupsOf routes groups → IsWide routes width → width ≤ MOST_TERMINALS → HaveWindows (windows_in table) routes →
    numbers.width ≡ width → AreGroupNumbers routes groups width (length groups) numbers.table.items → length numbers.table.items ≡ length routes * width →
    IsTask p table routes groups numbers
IsTask-tables p table routes groups numbers width belongs are of wide narrow windows same numbered long =
    let rows : length routes * numbers.width ≡ length routes * width = ap (λ (w : ℕ). length routes * w) same in
    record {
      rows = rows-long p table routes belongs are;
      tails = tails-long p table routes belongs are;
      arcs = routes-exist p table routes belongs are;
      wide = subst (IsWide routes) (sym same) wide;
      few = omega (arith, rows, tables-small p table routes belongs are width narrow);
      windows = windows;
      members = of.members;
      apart = of.apart;
      numbered = subst (λ (w : ℕ). AreGroupNumbers routes groups w (length groups) numbers.table.items) (sym same) numbered;
      long = omega (arith, rows, long);
    }
