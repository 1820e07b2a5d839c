use Rattle.std.proofs.Common.{◌≡◌, ◌∙◌, ℕ, ◌-◌, ◌≤◌, List, refl, ap, subst}
use Rattle.fp_ends.specs.Deadlines.{has_shown}
use Rattle.fp_model.specs.Costs.{cost}
use Rattle.fp_model.specs.Plans.{NoPlanCheaper}
use Rattle.fp_model.specs.declared.parts.Leg.{Leg}
use Rattle.fp_model.specs.Problem.{Problem}
use Rattle.fp_certificate_rules.specs.Plans.{routes_of}
use Rattle.fp_session_history.specs.Solutions.{Solution}
use Rattle.fp_replan.specs.Quotes.{without_last}
use Rattle.fp_replan_quotes.specs.NamedQuotes.{IsAdded}
use Rattle.fp_replan_quotes.specs.Starts.{start_of}
use Rattle.fp_app.specs.declared.commands.options.SearchOptions.{SearchOptions}
use Rattle.fp_app.specs.Searches.{IsSearched, within}
use Rattle.fp_app.specs.Wanted.{every, every_from}
use Rattle.fp_app.proofs.NamedClaims.{last-can_be_quoted, last-quoted, tells-every, tells-from}
use Rattle.fp_app.proofs.TwoSearches.{first-over, over, second-over}
use Rattle.fp_app.proofs.commands.named_quotes.quote_moved.Goals as goal

pub searched_plan-requires-clause-tells : goal.searched_plan-requires-clause-tells
searched_plan-requires-clause-tells g c =
    tells-from c.args.instance c.in_ok-start.start (within c.args.options.budget (has_shown c.args.options.seconds (g.C.Clock.moment c.solve_from.new.clock) (g.C.Clock.faults c.solve_without_last.new.clock) (g.C.Clock.faults c.solve_from.new.clock)) c.args.options.spans) c.in_ok-after.after c.in_ok-after.ensures.searched

pub plan_without_last-requires-clause-tells : goal.plan_without_last-requires-clause-tells
plan_without_last-requires-clause-tells g c =
    let half : SearchOptions = c.first_half.result in
    tells-every (without_last c.args.instance) (within half.budget (has_shown half.seconds (g.C.Clock.moment c.solve_without_last.new.clock) (g.C.Clock.faults c.args.clock.now) (g.C.Clock.faults c.solve_without_last.new.clock)) half.spans) c.in_ok-before.before c.in_ok-before.ensures.searched

pub returns-clause-shown : goal.returns-clause-shown
returns-clause-shown g c =
    let q : Problem = c.args.instance in
    let before : Solution = c.in_ok-before.before in
    let after : Solution = c.in_ok-after.after in
    let fastest : List (List Leg) = c.in_ok-fastest.fastest in
    let m1 : ℕ = g.C.Clock.moment c.solve_without_last.new.clock in
    let m2 : ℕ = g.C.Clock.moment c.solve_from.new.clock in
    let b0 : ℕ = g.C.Clock.faults c.args.clock.now in
    let n1 : ℕ = g.C.Clock.faults c.solve_without_last.new.clock in
    let n2 : ℕ = g.C.Clock.faults c.solve_from.new.clock in
    let start : c.in_ok-start.start ≡ start_of q (routes_of (without_last q) before.certificate) fastest =
    c.in_ok-start.ensures.start ∙ ap (λ (r : List (List Leg)). start_of q r fastest) (c.in_ok-copy.ensures ∙ c.in_ok-earlier.ensures.routes) in
    let one = first-over c.args.options m1 m2 b0 n1 n2 c.first_half.result c.first_half.ensures c.solve_from.ensures.later.moment c.solve_from.ensures.later.faults (without_last q) every before c.in_ok-before.ensures.searched in
    let two =
    second-over c.args.options m1 m2 b0 n1 n2 c.solve_without_last.ensures.later.faults q (every_from (start_of q (routes_of (without_last q) before.certificate) fastest)) after
    (subst (λ (plan : List (List Leg)). IsSearched q (every_from plan) (within c.args.options.budget (has_shown c.args.options.seconds m2 n1 n2) c.args.options.spans) after) start c.in_ok-after.ensures.searched) in
    let cheaper : cost q (start_of q (routes_of (without_last q) before.certificate) fastest) ≤ cost q fastest = subst (λ (plan : List (List Leg)). cost q plan ≤ cost q fastest) start c.in_ok-start.ensures.no_dearer in
    let added = subst (λ (plan : List (List Leg)). IsAdded q plan (routes_of q after.certificate) c.in_ok-more.more) c.in_ok-earlier.ensures.routes (subst (λ (plan : List (List Leg)). IsAdded q c.in_ok-earlier.earlier plan c.in_ok-more.more) c.in_ok-plan.ensures.routes c.in_ok-more.ensures.added) in
    let least : (low : ℕ) → NoPlanCheaper q low → low - cost (without_last q) (routes_of (without_last q) before.certificate) ≤ c.in_ok-more.more = λ low none. subst (λ (plan : List (List Leg)). low - cost (without_last q) plan ≤ c.in_ok-more.more) c.in_ok-earlier.ensures.routes (c.in_ok-more.ensures.least low none) in
    let most : (low : ℕ) → NoPlanCheaper (without_last q) low → c.in_ok-more.more ≤ cost q (routes_of q after.certificate) - low = λ low none. subst (λ (plan : List (List Leg)). c.in_ok-more.more ≤ cost q plan - low) c.in_ok-plan.ensures.routes (c.in_ok-more.ensures.most low none) in
    (refl, last-quoted q (within c.args.options.budget (over c.args.options m1 m2 b0 n1 n2) c.args.options.spans) before after fastest one two c.in_ok-more.more c.in_ok-fastest.ensures.exact cheaper added least most)

pub returns-clause-printable : goal.returns-clause-printable
returns-clause-printable g c =
    let q : Problem = c.args.instance in
    let before : Solution = c.in_ok-before.before in
    let after : Solution = c.in_ok-after.after in
    let fastest : List (List Leg) = c.in_ok-fastest.fastest in
    let m1 : ℕ = g.C.Clock.moment c.solve_without_last.new.clock in
    let m2 : ℕ = g.C.Clock.moment c.solve_from.new.clock in
    let b0 : ℕ = g.C.Clock.faults c.args.clock.now in
    let n1 : ℕ = g.C.Clock.faults c.solve_without_last.new.clock in
    let n2 : ℕ = g.C.Clock.faults c.solve_from.new.clock in
    let start : c.in_ok-start.start ≡ start_of q (routes_of (without_last q) before.certificate) fastest =
    c.in_ok-start.ensures.start ∙ ap (λ (r : List (List Leg)). start_of q r fastest) (c.in_ok-copy.ensures ∙ c.in_ok-earlier.ensures.routes) in
    let one = first-over c.args.options m1 m2 b0 n1 n2 c.first_half.result c.first_half.ensures c.solve_from.ensures.later.moment c.solve_from.ensures.later.faults (without_last q) every before c.in_ok-before.ensures.searched in
    let two =
    second-over c.args.options m1 m2 b0 n1 n2 c.solve_without_last.ensures.later.faults q (every_from (start_of q (routes_of (without_last q) before.certificate) fastest)) after
    (subst (λ (plan : List (List Leg)). IsSearched q (every_from plan) (within c.args.options.budget (has_shown c.args.options.seconds m2 n1 n2) c.args.options.spans) after) start c.in_ok-after.ensures.searched) in
    last-can_be_quoted q (within c.args.options.budget (over c.args.options m1 m2 b0 n1 n2) c.args.options.spans) before after fastest one two c.requires.shipment
