-- Tables whose shares keep the price rule, or of which one is the first to break it.
use Rattle.std.proofs.Common.{◌≡◌, ◌-◌, List, [], refl, arith}
use Rattle.std.specs.Prelude.{Result, Ok, Err, IfErr, OnOk, ◌↔◌, is_ok, true}
use Rattle.std.specs.List.{AllByRecursion}
use Rattle.fp_model.specs.Problem.{Problem, arc_at}
use Rattle.fp_base_lists.proofs.Elements.{AllByRecursion-get_or}
use Rattle.fp_prices.specs.declared.tables.TableFault.{TableFault}
use Rattle.fp_prices.specs.Prices.{AllKeepRule, KeepsRule, table_at}
use Rattle.fp_prices.specs.Shares.{ClassShare}
use Rattle.fp_prices.specs.Tables.{IsFirstBroken, no_share}

-- tables of which a share breaks the rule don't all keep it
broken-rule : (p : Problem) (tables : List (List ClassShare)) (fault : TableFault) → IsFirstBroken p tables fault → AllKeepRule p tables → ⊥
broken-rule p tables fault first keep =
    let table : AllByRecursion (λ (s : ClassShare). KeepsRule p.scale (arc_at p s.arc) s) (table_at tables fault.table) =
    AllByRecursion-get_or (λ (t : List ClassShare). AllByRecursion (λ (s : ClassShare). KeepsRule p.scale (arc_at p s.arc) s) t) tables (fault.table - 1) [] keep (omega (arith, first.table.0, first.table.1)) in
    first.broken (AllByRecursion-get_or (λ (s : ClassShare). KeepsRule p.scale (arc_at p s.arc) s) (table_at tables fault.table) fault.share no_share table first.share)

-- a test of the tables tells whether they keep the rule
pub tells-rule : (p : Problem) (tables : List (List ClassShare)) (r : Result (Unit {0}) TableFault) → OnOk r (AllKeepRule p tables) → IfErr r (IsFirstBroken p tables) → (is_ok r ≡ true ↔ AllKeepRule p tables)
tells-rule p tables (Ok done) keep broken = (λ _. keep, λ _. refl)
tells-rule p tables (Err fault) keep broken = (λ h. cc, λ all. absurd (broken-rule p tables fault broken all))
