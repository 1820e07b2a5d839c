-- Tables by hand: how many lines they have, and where their numbers stand.
use Rattle.std.proofs.Common.{◌≡◌, [], ◌∷◌, refl}
use Rattle.fp_prices.specs.Shares.{ClassShare}
use Rattle.fp_duals.specs.PriceLines.{line_count, line_total}

-- a share of two shipments' weights
shared : ClassShare
shared = record { arc = 0; point = 0; v = 7; weights = record { shipment = 0; w = 30 } ∷ (record { shipment = 1; w = 70 } ∷ []) }

-- a share by size alone
by_size : ClassShare
by_size = record { arc = 0; point = 4; v = 10; weights = [] }

-- the table's own line, that of the first share and those of its weights, and that of the second
five_lines : line_count (shared ∷ (by_size ∷ [])) ≡ 5
unfolding shared by_size
five_lines = refl

no_lines : line_total [] ≡ 0
no_lines = refl

-- two tables
eight_lines : line_total ((shared ∷ (by_size ∷ [])) ∷ ((by_size ∷ (by_size ∷ [])) ∷ [])) ≡ 8
unfolding shared by_size
eight_lines = refl
