-- The stamp of the point is put in between the earlier and the later ones.
use Rattle.std.proofs.Common.{◌≡◌, List}
use Rattle.std.specs.Prelude.{insert}
use Rattle.fp_timenodes.specs.declared.timelines.Stamp.{Stamp}
use Rattle.fp_timenodes.specs.Stamps.{IsStampCut}
use Rattle.fp_timenodes.proofs.OneMoreStamp.{IsAscending-insert, IncludesPoint-insert, IsStampCut-absent}
use Rattle.fp_timenodes.proofs.timelines.Timeline.insert.Goals as goal

pub invariant_of-self-2 : goal.invariant_of-self-2
invariant_of-self-2 c =
    let old : List Stamp = c.args.self.now in
    let searched : c.deref.result.now ≡ old = cc in
    let cut : IsStampCut old c.args.at c.count_until-end.result = rw searched at c.count_until-end.ensures in
    let before = IsStampCut-absent old c.args.at c.args.round c.count_until-end.result cut c.requires.rounds c.requires.absent in
    let s : Stamp = record { at = c.args.at; round = c.args.round } in
    let is : c.insert.new.self.items ≡ insert old c.count_until-end.result s = cc c.in_ok-insert.ensures.items in
    rw is (IsAscending-insert old c.count_until-end.result s cut before)

pub returns-clause-points : goal.returns-clause-points
returns-clause-points c =
    let old : List Stamp = c.args.self.now in
    let s : Stamp = record { at = c.args.at; round = c.args.round } in
    let is : c.insert.new.self.items ≡ insert old c.count_until-end.result s = cc c.in_ok-insert.ensures.items in
    rw is (IncludesPoint-insert old c.count_until-end.result s)
