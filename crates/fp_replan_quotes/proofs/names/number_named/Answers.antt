use Rattle.std.proofs.Common.{◌≡◌, ℕ, ◌<◌, length, sym}
use Rattle.std.specs.Prelude.{Option, Some, None, IfSome}
use Rattle.fp_model.specs.Numbered.{shipment_at}
use Rattle.fp_replan_quotes.proofs.NamedShipments.{IsNamed, each-named}
use Rattle.fp_replan_quotes.proofs.names.number_named.Goals as goal

if-some : {P Q : ℕ → Type 0} → ((k : ℕ) → P k → Q k) → (o : Option ℕ) → IfSome o P → IfSome o Q
if-some more None is = tt
if-some more (Some k) is = more k is

pub returns-clause-exists : goal.returns-clause-exists
returns-clause-exists c =
    if-some {P = IsNamed c.args.instance.now c.args.name.now} {Q = λ k. k < length c.args.instance.now.shipments} (λ k is. is.exists) c.number_among.result
    (each-named c.args.instance.now c.args.name.now c.number_among.result (sym c.number_among.ensures))

pub returns-clause-name : goal.returns-clause-name
returns-clause-name c =
    if-some {P = IsNamed c.args.instance.now c.args.name.now} {Q = λ k. (shipment_at c.args.instance.now k).name ≡ c.args.name.now} (λ k is. is.name_is) c.number_among.result
    (each-named c.args.instance.now c.args.name.now c.number_among.result (sym c.number_among.ensures))
