use Rattle.std.proofs.Common.{◌∙◌, ◌-◌, List, length, ap}
use Rattle.std.proofs.Math.ListN.{set}
use Rattle.fp_prices.specs.declared.tables.Weight.{Weight}
use Rattle.fp_prices.specs.Shares.{ClassShare}
use Rattle.fp_certificate.specs.Tables.{and_weight}
use Rattle.fp_certificate.proofs.LastElements.{with_last-set}
use Rattle.fp_certificate.proofs.open_tables.push_to_shares.Goals as goal

pub returns : goal.returns
returns c =
    let shares = c.args.shares.now in
    let inside = c.share.inside in
    let old : ClassShare = record { arc = inside.arc; point = inside.point; v = inside.v; weights = inside.weights.items } in
    ap (λ (x : ClassShare). set shares (length shares - 1) x)
    (ap (λ (ws : List Weight). record old { weights = ws }) c.in_ok-push.ensures.items ∙ ap (λ (x : ClassShare). and_weight c.args.weight x) c.share.view_is)
    ∙ with_last-set (and_weight c.args.weight) shares c.index-shares-last.result c.requires
