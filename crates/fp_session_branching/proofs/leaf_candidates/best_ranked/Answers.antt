use Rattle.std.proofs.Common.{ℕ, subst}
use Rattle.std.specs.Prelude.{IfNone, IfSome, Option}
use Rattle.fp_prices.specs.Rounds.{LeafModel}
use Rattle.fp_session_branching.specs.declared.leaf_candidates.Candidate.{Candidate}
use Rattle.fp_session_branching.specs.Candidates.{EndsInSeveral, IsCandidateFor}
use Rattle.fp_session_branching.proofs.BestCandidates.{best_more, best_same}
use Rattle.fp_session_branching.proofs.leaf_candidates.best_ranked.Goals as goal

pub loop-shipment-preserved-in-None : goal.loop-shipment-preserved-in-None
loop-shipment-preserved-in-None c =
    let k : ℕ = c.loop-shipment.shipment in
    let found = subst (λ (o : Option Candidate). IfNone o ((terminal : ℕ) → EndsInSeveral c.leaf-leaf.result.now k terminal → ⊥)) c.in-None.is c.in_ok-candidate.ensures.none in
    let none = subst (λ (l : LeafModel). (terminal : ℕ) → EndsInSeveral l k terminal → ⊥) c.leaf-leaf.ensures found in
    best_same c.args.pricing.now.leaf k c.args.most c.loop-shipment.ranked.items none c.loop-shipment.invariant

pub loop-shipment-preserved : goal.loop-shipment-preserved
loop-shipment-preserved c =
    let k : ℕ = c.loop-shipment.shipment in
    let found = subst (λ (o : Option Candidate). IfSome o (IsCandidateFor c.leaf-leaf.result.now k)) c.in-Some.is c.in_ok-candidate.ensures.is in
    let is = subst (λ (l : LeafModel). IsCandidateFor l k c.in-Some.candidate) c.leaf-leaf.ensures found in
    let put = c.in_ok-put_in.ensures in
    best_more c.args.pricing.now.leaf k c.args.most put.0 c.loop-shipment.ranked.items c.put_in.new.ranked.items _ put.1 put.2 is.0 is.1 c.loop-shipment.invariant
