use Rattle.std.proofs.Common.{◌≡◌, List, [], ◌∷◌, ◌++◌, sym, ap, ◌∙◌, subst}
use Rattle.fp_prices.specs.Shares.{ClassShare}
use Rattle.fp_duals.specs.Candidates.{IsBetter}
use Rattle.fp_duals.specs.PriceTables.{ArePriceTables}
use Rattle.fp_duals.proofs.ChosenPrices.{better-choice, better-lines, better-told}
use Rattle.fp_duals.proofs.PriceTables.{ArePriceTables-append}
use Rattle.fp_duals.proofs.improving.choice.Goals as goal

pub returns-in_ok-push-in-Some-clause-tables : goal.returns-in_ok-push-in-Some-clause-tables
returns-in_ok-push-in-Some-clause-tables g c =
    let p = c.args.leaf.now.setting.problem in
    let better : IsBetter c.args.leaf.now c.args.tables.now c.args.room c.args.start c.in-Some.found = better-told c.args.leaf.now c.args.tables.now c.args.room c.args.start c.in_ok-found.field-0 c.in-Some.found c.in-Some.is c.in_ok-found.ensures.better in
    let last : c.push.new.self ≡ c.args.tables.now ++ (c.in-Some.found.table ∷ []) = c.in_ok-push-in-Some.ensures.ok ∙ ap (λ (tables : List (List ClassShare)). tables ++ (c.in-Some.found.table ∷ [])) c.better_table.ensures.same in
    subst (ArePriceTables p) (sym last) (ArePriceTables-append p c.args.tables.now (c.in-Some.found.table ∷ []) c.requires.tables better.candidate.prices)

pub returns-in_ok-push-in-Some-clause-choice : goal.returns-in_ok-push-in-Some-clause-choice
returns-in_ok-push-in-Some-clause-choice g c =
    let better : IsBetter c.args.leaf.now c.args.tables.now c.args.room c.args.start c.in-Some.found = better-told c.args.leaf.now c.args.tables.now c.args.room c.args.start c.in_ok-found.field-0 c.in-Some.found c.in-Some.is c.in_ok-found.ensures.better in
    let last : c.push.new.self ≡ c.args.tables.now ++ (c.in-Some.found.table ∷ []) = c.in_ok-push-in-Some.ensures.ok ∙ ap (λ (tables : List (List ClassShare)). tables ++ (c.in-Some.found.table ∷ [])) c.better_table.ensures.same in
    better-choice c.args.leaf.now c.args.tables.now c.push.new.self c.args.inherited c.args.room c.args.start c.in-Some.found c.requires.best better last

pub returns-in_ok-push-in-Some-clause-lines : goal.returns-in_ok-push-in-Some-clause-lines
returns-in_ok-push-in-Some-clause-lines g c =
    let better : IsBetter c.args.leaf.now c.args.tables.now c.args.room c.args.start c.in-Some.found = better-told c.args.leaf.now c.args.tables.now c.args.room c.args.start c.in_ok-found.field-0 c.in-Some.found c.in-Some.is c.in_ok-found.ensures.better in
    let last : c.push.new.self ≡ c.args.tables.now ++ (c.in-Some.found.table ∷ []) = c.in_ok-push-in-Some.ensures.ok ∙ ap (λ (tables : List (List ClassShare)). tables ++ (c.in-Some.found.table ∷ [])) c.better_table.ensures.same in
    better-lines c.args.leaf.now c.args.tables.now c.push.new.self c.args.room c.args.start c.in-Some.found better last
