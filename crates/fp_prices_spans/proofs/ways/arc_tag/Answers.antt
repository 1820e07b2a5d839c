use Rattle.std.proofs.Common.{◌≡◌, ℕ, ◌<◌, sym, ap, ◌∙◌, arith}
use Rattle.std.specs.Prelude.{nat_lt, None, Some}
use Rattle.std.proofs.lemmas.Bool.{cond-true, lt-ltb}
use Rattle.fp_model.specs.declared.parts.Leg.{Leg}
use Rattle.fp_longestarcs.specs.Networks.{TimedNetwork, class_count, class_number}
use Rattle.fp_allowed.specs.Listing.{class_at}
use Rattle.fp_allowed.proofs.ListedClasses.{class_at-number}
use Rattle.fp_prices_spans.proofs.ways.arc_tag.Goals as goal

pub returns-then-number-classes : goal.returns-then-number-classes
returns-then-number-classes c =
    let net : TimedNetwork = c.args.network.now in
    let e : ℕ = c.args.edge in
    let class : Leg = record { arc = c.of_class.result.0; depart = c.of_class.result.1 } in
    let number : e ≡ class_number net class = omega (arith, c.of_class.ensures.number, c.requires) in
    let below : e < class_count net = omega (arith, c.if-number-classes.true, c.classes.ensures.count, c.requires) in
    let at : class_at net e ≡ class = ap (class_at net) number ∙ class_at-number net class c.classes.ensures.valid c.of_class.ensures.is in
    sym (cond-true (nat_lt e (class_count net)) (Some (class_at net e).arc) None (lt-ltb e (class_count net) below) ∙ ap (λ (l : Leg). Some l.arc) at)
