use Rattle.std.proofs.Common.{ℕ, ◌+◌, ◌-◌, ◌<◌, ◌≡◌, List, [], length, get_or, take, subst, ap, ◌∙◌, arith}
use Rattle.std.specs.Prelude.{All}
use Rattle.std.specs.List.{AllByRecursion}
use Rattle.std.proofs.lemmas.List.{get_or_read, take_all}
use Rattle.std.proofs.lemmas.List.Elements.{All-more, recursion_from_All}
use Rattle.fp_model.specs.Problem.{Problem, arc_at}
use Rattle.fp_prices.specs.Prices.{KeepsRule, table_at}
use Rattle.fp_prices.specs.Shares.{ClassShare}
use Rattle.fp_prices.specs.Tables.{BreaksRule, IsFirstBroken}
use Rattle.fp_prices.proofs.price_rule.check_tables.Goals as goal

-- a table's shares keep the rule
abbrev TableKeeps : Problem → List ClassShare → Type 0
TableKeeps p table = AllByRecursion (λ (s : ClassShare). KeepsRule p.scale (arc_at p s.arc) s) table

-- a share that breaks the rule in the table at a place, after tables that keep it, is the first one
first-at : (p : Problem) (tables : List (List ClassShare)) (place share : ℕ) (table : List ClassShare) → place < length tables → table ≡ get_or tables place table → All (TableKeeps p) (take place tables) →
    BreaksRule p table share → IsFirstBroken p tables (record { table = place + 1; share = share })
first-at p tables place share table inside is before breaks =
    let at : table ≡ table_at tables (place + 1) = get_or_read tables place table inside is [] ∙ ap (λ (n : ℕ). get_or tables n []) (let e : place ≡ place + 1 - 1 = omega arith in e) in
    let moved : BreaksRule p (table_at tables (place + 1)) share = subst (λ (t : List ClassShare). BreaksRule p t share) at breaks in
    record {
      table = (omega arith, omega arith);
      share = moved.exists;
      broken = moved.broken;
      tables_before = recursion_from_All (TableKeeps p) (take (place + 1 - 1) tables)
          (subst (λ (n : ℕ). All (TableKeeps p) (take n tables)) (let e : place ≡ place + 1 - 1 = omega arith in e) before);
      shares_before = moved.before;
    }

pub returns-in-Some-clause-err : goal.returns-in-Some-clause-err
returns-in-Some-clause-err c =
    let p = c.args.instance.now in
    let is : c.deref.result.now ≡ c.index-tables-place.result = c.deref.ensures.value ∙ c.table.view_is in
    first-at p c.args.tables.now c.loop-place.place c.in-Some.share c.index-tables-place.result (omega arith) c.index-tables-place.is c.loop-place.invariant
    (subst (λ (t : List ClassShare). BreaksRule p t c.in-Some.share) is c.in-Some.ensures.broken)

pub loop-place-preserved : goal.loop-place-preserved
loop-place-preserved c =
    let p = c.args.instance.now in
    let is : c.deref.result.now ≡ c.index-tables-place.result = c.deref.ensures.value ∙ c.table.view_is in
    let keeps = recursion_from_All (λ (s : ClassShare). KeepsRule p.scale (arc_at p s.arc) s) c.deref.result.now c.in_default.ensures.none in
    let here : c.loop-place.place < length c.args.tables.now = omega arith in
    All-more (TableKeeps p) c.args.tables.now c.loop-place.place c.index-tables-place.result here c.loop-place.invariant
    (subst (TableKeeps p) (is ∙ c.index-tables-place.is) keeps)

pub returns-clause-ok : goal.returns-clause-ok
returns-clause-ok c =
    let p = c.args.instance.now in
    let all : take c.loop-place.place c.args.tables.now ≡ c.args.tables.now = take_all c.loop-place.place c.args.tables.now (omega arith) in
    recursion_from_All (TableKeeps p) c.args.tables.now (subst (λ (l : List (List ClassShare)). All (TableKeeps p) l) all c.loop-place.invariant)
