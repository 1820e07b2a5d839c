use Rattle.std.proofs.Common.{◌≡◌, ◌<◌, false, true, length, get_or, sym, ap, ◌∙◌, arith, rules}
use Rattle.std.specs.Prelude.{Option, Some}
use Rattle.std.proofs.lemmas.List.{get_or_read}
use Rattle.std.proofs.lemmas.List.Sorted.{IsPartitionPoint-from_clause}
use Rattle.fp_model.specs.declared.parts.Leg.{Leg}
use Rattle.fp_prices.specs.Searches.{is_share, precedes}
use Rattle.fp_prices.specs.Shares.{ClassShare}
use Rattle.fp_prices.specs.Tables.{no_share}
use Rattle.fp_prices.proofs.ShareSearches.{AreParted, share-found, share-missing, shares-parted}
use Rattle.fp_prices.proofs.classes.share_searches.share_of.Goals as goal
use Rattle.fp_prices.proofs.classes.share_searches.share_of.Goals.{else-place-shares-via-then-place-shares+else-is_of, else-place-shares-via-else-place-shares}

pub returns-then-is_of : goal.returns-then-is_of
returns-then-is_of c =
    let table = c.args.shares.now in
    let place = c.partition_point-place.result in
    let class : Leg = record { arc = c.args.arc; depart = c.args.point } in
    let parted : AreParted class table place = IsPartitionPoint-from_clause (precedes class) table place c.partition_point-place.ensures.partitioned (shares-parted class table c.requires.shares)
    (λ a r q k. search rules) in
    let inside = c.if-place-shares.true in
    let here : is_share class (get_or table place no_share) ≡ true =
    ap (is_share class) (sym (get_or_read table place c.index-shares-place.result inside c.index-shares-place.is no_share)) ∙ sym c.is_of.ensures ∙ c.if-is_of.true in
    let found = c.index-shares-place-then-is_of in
    ap {B = Option ClassShare} Some (get_or_read table place found.result inside found.is no_share) ∙ sym (share-found class table place no_share inside parted here)

pub returns-else-place-shares : goal.returns-else-place-shares
returns-else-place-shares c =
    let table = c.args.shares.now in
    let place = c.partition_point-place.result in
    let class : Leg = record { arc = c.args.arc; depart = c.args.point } in
    let parted : AreParted class table place = IsPartitionPoint-from_clause (precedes class) table place c.partition_point-place.ensures.partitioned (shares-parted class table c.requires.shares)
    (λ a r q k. search rules) in
    sym (share-missing class table place no_share c.requires.shares parted
    (elim c.else-place-shares.branch as (λ _. place < length table → is_share class (get_or table place no_share) ≡ false) [
      | else-place-shares-via-then-place-shares+else-is_of w ↦ λ h.
          ap (is_share class) (sym (get_or_read table place w.index-shares-place.result h w.index-shares-place.is no_share)) ∙ sym w.is_of.ensures ∙ w.if-is_of.false
      | else-place-shares-via-else-place-shares w ↦ λ h. absurd (omega arith)
    ]))
