use Rattle.std.proofs.Common.{◌∙◌, ◌-◌, List, [], ◌∷◌, ◌++◌, length, ap}
use Rattle.std.proofs.Math.ListN.{set}
use Rattle.fp_prices.specs.Shares.{ClassShare}
use Rattle.fp_certificate.specs.Tables.{and_share}
use Rattle.fp_certificate.proofs.LastElements.{with_last-set}
use Rattle.fp_certificate.proofs.open_tables.push_share.Goals as goal

pub returns : goal.returns
returns c =
    let tables = c.args.tables.now in
    ap (λ (t : List ClassShare). set tables (length tables - 1) t) (c.in_ok-push.ensures.items ∙ ap (λ (t : List ClassShare). t ++ (c.args.share ∷ [])) c.table.view_is)
    ∙ with_last-set (and_share c.args.share) tables c.index-tables-last.result c.requires
