use Rattle.fp_prices.proofs.CountedUsers.{UsersOf}
use Rattle.fp_prices.proofs.classes.class_users.class_users.Given as goal

-- the users among the shipments so far
abbrev pub invariant-loop-shipment : goal.invariant-loop-shipment
invariant-loop-shipment l = UsersOf l.instance l.rows l.classes l.shipment l.counts.items l.sizes.items
