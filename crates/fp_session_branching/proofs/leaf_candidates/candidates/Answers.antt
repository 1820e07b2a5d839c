use Rattle.std.proofs.Common.{◌≡◌, List, length, map, sym, ap, ◌∙◌, subst}
use Rattle.std.proofs.lemmas.List.{take_all}
use Rattle.fp_prices.specs.LeafPricings.{PricingModel}
use Rattle.fp_prices.specs.Rounds.{LeafModel}
use Rattle.fp_session_branching.specs.declared.ranks.Ranked.{Ranked}
use Rattle.fp_session_branching.specs.Best.{AreBest, candidate_in}
use Rattle.fp_session_branching.proofs.BestCandidates.{AreListed, best_listed}
use Rattle.fp_session_branching.proofs.leaf_candidates.candidates.Goals as goal

pub returns-clause-each : goal.returns-clause-each
returns-clause-each c =
    let l : LeafModel = c.args.leaf.now in
    let ranked : List Ranked = c.deref-one-items.result.now in
    let best = subst (λ (m : LeafModel). AreBest m (length m.setting.problem.shipments) c.args.most ranked) (ap (λ (m : PricingModel). m.leaf) c.in_ok-pricing.ensures.is)
    (subst (AreBest c.in_ok-pricing.pricing.leaf (length c.in_ok-pricing.pricing.leaf.setting.problem.shipments) c.args.most) (sym c.deref-one-items.ensures.value) c.in_ok-ranked.ensures) in
    let list_is : c.loop-one.list.items ≡ map candidate_in ranked = c.loop-one.invariant ∙ ap (λ (rs : List Ranked). map candidate_in rs) (take_all c.loop-one.one-index ranked c.loop-one-test.false) in
    let listed = subst (AreListed l (length l.setting.problem.shipments) c.args.most) (sym list_is) (best_listed l (length l.setting.problem.shipments) c.args.most ranked best) in
    listed.each

pub returns-clause-apart : goal.returns-clause-apart
returns-clause-apart c =
    let l : LeafModel = c.args.leaf.now in
    let ranked : List Ranked = c.deref-one-items.result.now in
    let best = subst (λ (m : LeafModel). AreBest m (length m.setting.problem.shipments) c.args.most ranked) (ap (λ (m : PricingModel). m.leaf) c.in_ok-pricing.ensures.is)
    (subst (AreBest c.in_ok-pricing.pricing.leaf (length c.in_ok-pricing.pricing.leaf.setting.problem.shipments) c.args.most) (sym c.deref-one-items.ensures.value) c.in_ok-ranked.ensures) in
    let list_is : c.loop-one.list.items ≡ map candidate_in ranked = c.loop-one.invariant ∙ ap (λ (rs : List Ranked). map candidate_in rs) (take_all c.loop-one.one-index ranked c.loop-one-test.false) in
    let listed = subst (AreListed l (length l.setting.problem.shipments) c.args.most) (sym list_is) (best_listed l (length l.setting.problem.shipments) c.args.most ranked best) in
    listed.apart

pub returns-clause-some : goal.returns-clause-some
returns-clause-some c =
    let l : LeafModel = c.args.leaf.now in
    let ranked : List Ranked = c.deref-one-items.result.now in
    let best = subst (λ (m : LeafModel). AreBest m (length m.setting.problem.shipments) c.args.most ranked) (ap (λ (m : PricingModel). m.leaf) c.in_ok-pricing.ensures.is)
    (subst (AreBest c.in_ok-pricing.pricing.leaf (length c.in_ok-pricing.pricing.leaf.setting.problem.shipments) c.args.most) (sym c.deref-one-items.ensures.value) c.in_ok-ranked.ensures) in
    let list_is : c.loop-one.list.items ≡ map candidate_in ranked = c.loop-one.invariant ∙ ap (λ (rs : List Ranked). map candidate_in rs) (take_all c.loop-one.one-index ranked c.loop-one-test.false) in
    let listed = subst (AreListed l (length l.setting.problem.shipments) c.args.most) (sym list_is) (best_listed l (length l.setting.problem.shipments) c.args.most ranked best) in
    λ room k terminal ends. listed.some room k terminal ends.exists ends
