-- A shipment by its name.
use Rattle.std.proofs.Common.{◌≡◌, ◌∙◌, ℕ, ◌<◌, List, [], length, get_or, sym, arith}
use Rattle.std.specs.Prelude.{Option, Some, None, IfSome}
use Rattle.std.specs.Str.{bytes_eq}
use Rattle.std.proofs.lemmas.List.{get_or-map, length-map}
use Rattle.std.proofs.lemmas.List.Quantifiers.{position-Some}
use Rattle.std.proofs.lemmas.Slice.Eq.{bytes_eq-Decides}
use Rattle.fp_model.specs.declared.parts.Shipment.{Shipment}
use Rattle.fp_model.specs.Numbered.{no_shipment, shipment_at}
use Rattle.fp_model.specs.Problem.{Problem}
use Rattle.fp_records_fields.specs.Indexes.{shipment_names}
use Rattle.fp_records_fields.specs.NamedParts.{shipment_named}

-- the number that a name has is that of a shipment of the name
pub record IsNamed (p : Problem) (name : List ℕ) (k : ℕ) : Type 0 where
  pub exists : k < length p.shipments
  pub name_is : (shipment_at p k).name ≡ name

pub IsNamed-named : (p : Problem) (name : List ℕ) (k : ℕ) → shipment_named p name ≡ Some k → IsNamed p name k
IsNamed-named p name k found =
    let at = position-Some (bytes_eq name) (shipment_names p.shipments) k [] found in
    let within : k < length p.shipments = omega (arith, at.0, length-map p.shipments (λ (s : Shipment). s.name)) in
    record {
      exists = within;
      name_is = sym (get_or-map (λ (s : Shipment). s.name) p.shipments k no_shipment [] within) ∙ sym ((bytes_eq-Decides name (get_or (shipment_names p.shipments) k [])).0 at.1);
    }

pub each-named : (p : Problem) (name : List ℕ) (o : Option ℕ) → shipment_named p name ≡ o → IfSome o (IsNamed p name)
each-named p name None is = tt
each-named p name (Some k) is = IsNamed-named p name k is
