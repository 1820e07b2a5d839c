-- Tests by which shares and weights in order are looked up.
use Rattle.std.specs.Prelude.{Bool, ◌&&◌, ◌||◌, nat_eq, nat_lt}
use Rattle.fp_model.specs.declared.parts.Leg.{Leg}
use Rattle.fp_prices.specs.Shares.{ClassShare}

-- whether a share's class is before a class: by the arc, and where the arcs are equal by the point
abbrev pub precedes : Leg → ClassShare → Bool
precedes c share = nat_lt share.arc c.arc || (nat_eq share.arc c.arc && nat_lt share.point c.depart)

-- whether a share is that of a class
abbrev pub is_share : Leg → ClassShare → Bool
is_share c share = nat_eq share.arc c.arc && nat_eq share.point c.depart
