use Rattle.std.proofs.Common.{◌∙◌, ◌-◌, List, [], ◌∷◌, ◌++◌, length, ap}
use Rattle.std.proofs.Math.ListN.{set}
use Rattle.fp_prices_gifts.specs.declared.gifts.Gift.{Gift}
use Rattle.fp_certificate.specs.Gifts.{and_gift}
use Rattle.fp_certificate.proofs.LastElements.{with_last-set}
use Rattle.fp_certificate.proofs.open_gifts.push_gift.Goals as goal

pub returns : goal.returns
returns c =
    let gifts = c.args.gifts.now in
    ap (λ (t : List Gift). set gifts (length gifts - 1) t) (c.in_ok-push.ensures.items ∙ ap (λ (t : List Gift). t ++ (c.args.gift ∷ [])) c.beside.view_is)
    ∙ with_last-set (and_gift c.args.gift) gifts c.index-gifts-last.result c.requires
