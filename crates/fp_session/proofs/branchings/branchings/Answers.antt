-- There is a candidate, since a shipment has several ways to go, and each is a branching.
use Rattle.std.proofs.Common.{◌≤◌, List, length, sym, subst, arith}
use Rattle.std.specs.Prelude.{All}
use Rattle.std.proofs.lemmas.List.Elements.{All-push}
use Rattle.fp_allowed.specs.Settings.{Setting}
use Rattle.fp_prices.specs.Rounds.{LeafModel}
use Rattle.fp_prices.specs.Tables.{AreTables}
use Rattle.fp_session_branching.specs.declared.leaf_candidates.Candidate.{Candidate}
use Rattle.fp_session_branching.specs.Candidates.{EndsInSeveral, IsCandidate}
use Rattle.fp_session.specs.declared.branchings.Branching.{Branching}
use Rattle.fp_session.specs.declared.dividing.Several.{Several}
use Rattle.fp_session.specs.Choices.{IsBranching}
use Rattle.fp_session.specs.Dividing.{IsSeveral}
use Rattle.fp_session.specs.Searches.{history}
use Rattle.fp_session.proofs.Divisions.{IsBranching-shipment}
use Rattle.fp_session.proofs.branchings.branchings.Goals as goal

-- its chain ends where several allowed classes leave
EndsInSeveral-several : (l : LeafModel) (several : Several) → IsSeveral l several → EndsInSeveral l several.shipment several.terminal
EndsInSeveral-several l several is = record { exists = is.exists; chain = is.chain; forced = is.forced; ends = is.ends }

pub candidates-requires-clause-tables : goal.candidates-requires-clause-tables
candidates-requires-clause-tables g c =
    subst (AreTables c.args.leaf.now.setting.problem) (sym c.tables.ensures.same)
    (subst (λ (x : Setting). AreTables x.problem c.args.prices.now.tables) (sym c.requires.setting) c.requires.search.prices.tables.in_order)

pub loop-place-preserved : goal.loop-place-preserved
loop-place-preserved g c =
    let one : Candidate = c.index.result.now in
    let P : Branching → Type 0 = IsBranching (history c.args.search.now c.args.prices.now) c.args.leaf.now.sides in
    let candidate : IsCandidate c.args.leaf.now one =
    subst (IsCandidate c.args.leaf.now) (sym c.index.ensures) (c.in_ok-by_shipments.ensures.each c.loop-place.place one (omega (arith, c.loop-place-test.true))) in
    record {
      each =
          subst (λ (bs : List Branching). All P bs) (sym c.in_ok-push.ensures.items)
          (All-push P c.loop-place.list.items c.by_shipment.result c.loop-place.invariant.each
          (subst P (sym c.by_shipment.ensures)
          (IsBranching-shipment c.args.search.now c.args.prices.now c.args.leaf.now.sides one c.requires.search
          (subst (λ (x : Setting). IsCandidate (record { setting = x; sides = c.args.leaf.now.sides }) one) c.requires.setting candidate))));
      some = omega (arith, c.in_ok-push.ensures.len, c.loop-place.invariant.some);
    }

pub returns-clause-some : goal.returns-clause-some
returns-clause-some g c =
    let several = c.requires.several in
    let some : 1 ≤ length c.in_ok-by_shipments.by_shipments.items =
    c.in_ok-by_shipments.ensures.some (omega (arith)) several.0.shipment several.0.terminal (EndsInSeveral-several c.args.leaf.now several.0 several.1) in
    omega (arith, some, c.loop-place-test.false, c.loop-place.invariant.some)
