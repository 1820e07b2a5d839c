-- The next round is earned by the relaxed plan that calls for it.
use Rattle.std.proofs.Common.{◌≡◌, ◌≢◌, ◌+◌, ◌≤◌, ◌∙◌, true, List, [], length, refl, sym, ap, subst, arith}
use Rattle.std.specs.Prelude.{All, Option, ℕ, is_some}
use Rattle.fp_timenodes.specs.declared.places.Place.{Place}
use Rattle.fp_timenodes.specs.Points.{TimePoints, greatest_round}
use Rattle.fp_longestarcs.specs.Networks.{TimedNetwork}
use Rattle.fp_longestarcs.specs.Whole.{IsNetworkOf}
use Rattle.fp_shortarcs.specs.declared.shorts.Short.{Short}
use Rattle.fp_relaxmodel.proofs.UniqueGroups.{groups-met}
use Rattle.fp_session_history.specs.Notes.{Refinement, last_round}
use Rattle.fp_session.specs.declared.searches.Search.{Search}
use Rattle.fp_session_clashes.specs.Places.{ArePlacesFound}
use Rattle.fp_session_clashes.specs.Refining.{CanAdd, IsRefined}
use Rattle.fp_session.specs.Searches.{history}
use Rattle.fp_session.proofs.NextRounds.{greatest-now, network-next, places-can, relaxed-now, round-earned}
use Rattle.fp_session.proofs.timing.next_round.Goals as goal

pub too_short-requires-clause-relaxed : goal.too_short-requires-clause-relaxed
too_short-requires-clause-relaxed c = relaxed-now c.args.search.now c.args.prices.now c.requires.search c.args.relaxed c.requires.clashes.is

pub refined-requires-clause-last : goal.refined-requires-clause-last
refined-requires-clause-last c =
    omega (
      arith,
      ap (λ (v : TimePoints). greatest_round v.added) c.in_ok-points.ensures,
      greatest-now c.args.search.now c.args.prices.now c.requires.search,
      c.len.ensures,
      c.args.search.now.trace.ok,
    )

pub refined-requires-clause-network : goal.refined-requires-clause-network
refined-requires-clause-network c =
    subst (λ (v : TimePoints). IsNetworkOf c.args.search.now.instance v (c.len.result + 1) c.in_ok-network.network) (sym c.in_ok-points.ensures)
    (subst (λ (net : TimedNetwork). IsNetworkOf c.args.search.now.instance c.args.search.now.points (c.len.result + 1) net) (sym c.in_ok-network.ensures)
    (network-next c.args.search.now c.args.prices.now c.requires.search (c.len.result + 1) (omega (arith, c.len.ensures, c.args.search.now.trace.ok))))

pub refined-requires-clause-places : goal.refined-requires-clause-places
refined-requires-clause-places c =
    subst (λ (qs : List Place). All (CanAdd c.args.search.now.instance c.in_ok-points.points (c.len.result + 1)) qs) (sym c.deref-2.ensures.value)
    (subst (λ (v : TimePoints). All (CanAdd c.args.search.now.instance v (c.len.result + 1)) c.in_ok-added.added.items) (sym c.in_ok-points.ensures)
    (places-can c.args.search.now c.args.prices.now c.requires.search c.args.relaxed c.in_ok-shorts.shorts.items c.in_ok-added.added.items c.in_ok-shorts.ensures.exact c.in_ok-shorts.ensures.places
    c.is_some-has_spans.result (λ sought. sym (c.is_some-has_spans.ensures ∙ ap (λ (unit : Option ℕ). is_some unit) c.unit.ensures) ∙ sought)
    (subst (λ (ss : List Short). ArePlacesFound c.args.search.now.instance c.args.search.now.network c.is_some-has_spans.result ss c.in_ok-added.added.items) c.deref.ensures.value c.in_ok-added.ensures.places) (c.len.result + 1) (omega (arith, c.len.ensures, c.args.search.now.trace.ok))))

pub returns-clause-next : goal.returns-clause-next
returns-clause-next c =
    let s : Search = c.args.search.now in
    let note : Refinement = record { round = c.len.result + 1; incumbent = s.cost; relaxed = c.args.relaxed; added = c.in_ok-added.added.items } in
    let next : c.len.result + 1 ≡ last_round (history s c.args.prices.now) + 1 = omega (arith, c.len.ensures, s.trace.ok) in
    let told : c.is_some-has_spans.result ≡ true → is_some c.args.prices.now.unit ≡ true = λ sought. sym (c.is_some-has_spans.ensures ∙ ap (λ (unit : Option ℕ). is_some unit) c.unit.ensures) ∙ sought in
    let are : ArePlacesFound s.instance s.network c.is_some-has_spans.result c.in_ok-shorts.shorts.items c.in_ok-added.added.items =
    subst (λ (ss : List Short). ArePlacesFound s.instance s.network c.is_some-has_spans.result ss c.in_ok-added.added.items) c.deref.ensures.value c.in_ok-added.ensures.places in
    let some : c.in_ok-shorts.shorts.items ≢ [] = c.in_ok-shorts.ensures.clash _ (groups-met c.args.relaxed) (c.requires.clashes.clash _ (groups-met c.args.relaxed)) in
    let many : 1 ≤ length c.in_ok-added.added.items = c.in_ok-added.ensures.some (subst (λ (ss : List Short). ss ≢ []) (sym c.deref.ensures.value) some) in
    record {
      left = c.requires.left;
      round = next;
      incumbent = refl;
      earned = round-earned s c.args.prices.now c.requires.search c.args.relaxed c.in_ok-shorts.shorts.items c.in_ok-added.added.items c.in_ok-shorts.ensures.exact c.in_ok-shorts.ensures.places c.is_some-has_spans.result told are note refl refl c.requires.clashes many;
      refined = subst (λ (v : TimePoints). IsRefined s.instance v (c.len.result + 1) c.in_ok-added.added.items c.in_ok-refined.refined) c.in_ok-points.ensures
          (subst (λ (qs : List Place). IsRefined s.instance c.in_ok-points.points (c.len.result + 1) qs c.in_ok-refined.refined) c.deref-2.ensures.value c.in_ok-refined.ensures);
    }
