-- Names that are written are those of what they were written for, and they are plain.
use Rattle.std.proofs.Common.{◌≡◌, ◌≢◌, ℕ, ◌<◌, Bool, true, false, eqb, List, [], length, get_or, refl, sym, arith}
use Rattle.std.specs.Prelude.{Some, AllPairs, position}
use Rattle.std.specs.Str.{bytes_eq}
use Rattle.std.proofs.Math.ListN.{get_or-map}
use Rattle.std.proofs.lemmas.Bool.{and_from, and_parts, eq-eqb, eqb-true, false_from_ne_true, lt-ltb}
use Rattle.std.proofs.lemmas.List.{length-map}
use Rattle.std.proofs.lemmas.List.Sums.{position_or_len_is}
use Rattle.std.proofs.lemmas.Slice.Eq.{bytes_eq-Decides}
use Rattle.fp_model.specs.declared.parts.Shipment.{Shipment}
use Rattle.fp_model.specs.Numbered.{no_shipment}
use Rattle.fp_model.specs.Problem.{IsValid, Problem, arc_at, no_arc}
use Rattle.fp_records_fields.specs.Indexes.{shipment_names}
use Rattle.fp_records_fields.specs.NamedParts.{joins}
use Rattle.fp_records_fields.specs.Names.{number_of}
use Rattle.fp_records_fields.specs.NamedParts.{arc_named, shipment_named, terminal_named}
use Rattle.fp_certificate_lines.specs.Rows.{head_name, shipment_name, tail_name, terminal_name}
use Rattle.fp_model.proofs.Validity.{IsArc-valid}

-- the first place that passes
first-place : {X : Type 0} (test : X → Bool) (xs : List X) (i : ℕ) (d : X) → i < length xs → test (get_or xs i d) ≡ true
    → ((k : ℕ) → k < i → test (get_or xs k d) ≡ false) → position test xs ≡ Some i
first-place test xs i d within passes fails =
    let place = position_or_len_is test xs i d (omega arith) fails (λ _. passes) in
    rw (place, lt-ltb i (length xs) within) refl

-- a name among names that differ
name-back : (names : List (List ℕ)) (i : ℕ) → AllPairs (λ m n. m ≢ n) names → i < length names → number_of names (get_or names i []) ≡ Some i
name-back names i differ within =
    let name = get_or names i [] in
    first-place (bytes_eq name) names i [] within ((bytes_eq-Decides name name).1 refl)
    (λ k before. false_from_ne_true (bytes_eq name (get_or names k [])) (λ same. differ k i [] before within (sym ((bytes_eq-Decides name (get_or names k [])).0 same))))

pub terminal-back : (p : Problem) (terminal : ℕ) → IsValid p → terminal < length p.terminals → terminal_named p (terminal_name p terminal) ≡ Some terminal
terminal-back p terminal v within = name-back p.terminals terminal v.parts.terminals_differ within

-- the name of a shipment, in the list of names
name-at : (p : Problem) (k : ℕ) → get_or (shipment_names p.shipments) k [] ≡ shipment_name p k
name-at p k = get_or-map (λ (s : Shipment). s.name) p.shipments k no_shipment

pub shipment-back : (p : Problem) (shipment : ℕ) → IsValid p → shipment < length p.shipments → shipment_named p (shipment_name p shipment) ≡ Some shipment
shipment-back p shipment v within =
    let name = shipment_name p shipment in
    let there : shipment < length (shipment_names p.shipments) = rw length-map within in
    first-place (bytes_eq name) (shipment_names p.shipments) shipment [] there (rw (name-at p shipment) ((bytes_eq-Decides name name).1 refl))
    (λ k before. rw (name-at p k) (false_from_ne_true (bytes_eq name (shipment_name p k)) (λ same.
    v.parts.shipments_differ k shipment no_shipment before within (sym ((bytes_eq-Decides name (shipment_name p k)).0 same)))))

pub arc-back : (p : Problem) (arc : ℕ) → IsValid p → arc < length p.arcs → arc_named p (tail_name p arc) (head_name p arc) ≡ Some arc
arc-back p arc v within =
    let a = arc_at p arc in
    let is = IsArc-valid p arc v within in
    let passes : joins a.from a.to a ≡ true = and_from (eqb a.from a.from) (eqb a.to a.to) (eq-eqb a.from a.from refl) (eq-eqb a.to a.to refl) in
    let fails : (k : ℕ) → k < arc → joins a.from a.to (arc_at p k) ≡ false = λ k before. false_from_ne_true (joins a.from a.to (arc_at p k)) (λ same.
    let b = arc_at p k in
    let parts = and_parts (eqb a.from b.from) (eqb a.to b.to) same in
    v.parts.arcs_differ k arc no_arc before within (sym (eqb-true a.from b.from parts.0)) (sym (eqb-true a.to b.to parts.1))) in
    rw (terminal-back p a.from v is.from, terminal-back p a.to v is.to) (first-place (joins a.from a.to) p.arcs arc no_arc within passes fails)
