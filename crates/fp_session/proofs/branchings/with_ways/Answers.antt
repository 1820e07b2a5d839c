-- Each split by a way that is listed is a branching.
use Rattle.std.proofs.Common.{List, sym, subst, arith}
use Rattle.std.specs.Prelude.{All}
use Rattle.std.proofs.lemmas.List.Elements.{All-push}
use Rattle.fp_allowed.specs.Settings.{Setting}
use Rattle.fp_session_branching.specs.declared.way_splits.WayCandidate.{WayCandidate}
use Rattle.fp_session_branching.specs.Ways.{IsWayCandidate}
use Rattle.fp_session.specs.declared.branchings.Branching.{Branching}
use Rattle.fp_session.specs.Choices.{IsBranching}
use Rattle.fp_session.specs.Searches.{history}
use Rattle.fp_session.proofs.Divisions.{IsBranching-way}
use Rattle.fp_session.proofs.branchings.with_ways.Goals as goal

pub loop-place-preserved : goal.loop-place-preserved
loop-place-preserved c =
    let w : WayCandidate = c.index.result.now in
    let P : Branching → Type 0 = IsBranching (history c.args.search.now c.args.prices.now) c.args.leaf.now.sides in
    let candidate : IsWayCandidate c.args.leaf.now w =
    subst (IsWayCandidate c.args.leaf.now) (sym c.index.ensures) (c.in_ok-by_ways.ensures.each c.loop-place.place w (omega (arith, c.loop-place-test.true))) in
    subst (λ (bs : List Branching). All P bs) (sym c.in_ok-push.ensures.items)
    (All-push P c.loop-place.list.items c.by_way.result c.loop-place.invariant
    (subst P (sym c.by_way.ensures)
    (IsBranching-way c.args.search.now c.args.prices.now c.args.leaf.now.sides w c.requires.spans
    (subst (λ (x : Setting). IsWayCandidate (record { setting = x; sides = c.args.leaf.now.sides }) w) c.requires.setting candidate))))
