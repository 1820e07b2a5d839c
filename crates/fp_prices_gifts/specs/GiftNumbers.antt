-- For how many trucks a gift is given at a leaf, as its sides tell.
use Rattle.std.specs.Prelude.{ℕ, ◌+◌, List, [], ◌∷◌, Bool, true, false, ◌&&◌, not, nat_eq, Option, Some, None, max, min, if◌then◌else◌}
use Rattle.fp_tree.specs.declared.sides.Side.{Side}
use Rattle.fp_tree.specs.declared.sides.Side.TheVariants.{Without, Only, Before, From, AtMost, MoreThan, Through, Outside}
use Rattle.fp_prices_gifts.specs.declared.gifts.Gift.{Gift}

-- whether a gift is of exactly this arc and these times
abbrev pub is_of : Gift → ℕ → ℕ → ℕ → Bool
is_of gift arc point until = nat_eq gift.arc arc && nat_eq gift.point point && nat_eq gift.until until

-- how many trucks a side tells a gift, if it is of the gift's arc and times, and of its kind: at least one more than those that more are
-- to leave than, or at most those that it names
abbrev pub number_by : Gift → Side → Option ℕ
number_by gift (Without shipment arc) = None
number_by gift (Only shipment arc tail) = None
number_by gift (Before shipment terminal at) = None
number_by gift (From shipment terminal at) = None
number_by gift (AtMost arc point until trucks) = if not gift.least && is_of gift arc point until then Some trucks else None
number_by gift (MoreThan arc point until trucks) = if gift.least && is_of gift arc point until then Some (trucks + 1) else None
number_by gift (Through shipment arc) = None
number_by gift (Outside shipment arc point until) = None

-- of two numbers the greater one, where at least so many are to leave, and else the less; the one that there is, where there is one
abbrev pub better : Bool → Option ℕ → Option ℕ → Option ℕ
better least None o = o
better least (Some a) None = Some a
better true (Some a) (Some b) = Some (max a b)
better false (Some a) (Some b) = Some (min a b)

-- for how many trucks a gift is given: the best number that a side tells
abbrev pub gift_number : List Side → Gift → Option ℕ
gift_number [] gift = None
gift_number (side ∷ sides) gift = better gift.least (number_by gift side) (gift_number sides gift)
