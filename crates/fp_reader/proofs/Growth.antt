-- Sound parts stay sound with one more of them.
use Rattle.std.proofs.Common.{◌≡◌, ◌∙◌, ℕ, ◌+◌, ◌<◌, ◌≤◌, ◌≢◌, false, List, [], ◌∷◌, ◌++◌, length, get_or, eqb, sym, arith}
use Rattle.std.specs.Str.{bytes_eq}
use Rattle.std.proofs.lemmas.Bool.{and_from, both_ways, eq-eqb}
use Rattle.std.proofs.lemmas.List.{length-append}
use Rattle.std.proofs.lemmas.List.Elements.{All-push, All-weaker}
use Rattle.std.proofs.lemmas.List.Folds.{list_any_at}
use Rattle.std.proofs.lemmas.List.Quantifiers.{all_pairs_push}
use Rattle.std.proofs.lemmas.Slice.Eq.{bytes_eq-Decides}
use Rattle.fp_model.specs.declared.limits.TheConstants.{GREATEST_HOLD, MOST_ARCS, MOST_SHIPMENTS, MOST_TERMINALS}
use Rattle.fp_model.specs.declared.parts.Arc.{Arc}
use Rattle.fp_model.specs.declared.parts.Shipment.{Shipment}
use Rattle.fp_model.specs.Names.{IsName}
use Rattle.fp_model.specs.Problem.{Problem, HasSoundParts, IsArc, IsShipment, EndsDiffer}
use Rattle.fp_records_fields.specs.Indexes.{shipment_names}
use Rattle.fp_records_fields.specs.NamedParts.{joins}
use Rattle.fp_reader.specs.Faults.{has_arc}
use Rattle.fp_records_fields.specs.Names.{is_taken}
use Rattle.fp_reader.specs.Parts.{with_arc, with_shipment, with_terminal}
use Rattle.fp_records_fields.proofs.MappedLists.{list_any-map}

-- a name that is not taken differs from each of the names
fresh-name : (names : List (List ℕ)) (name : List ℕ) → is_taken names name ≡ false
    → (k : ℕ) (d : List ℕ) → k < length names → get_or names k d ≢ name
fresh-name names name h k d lt same =
    both_ways (is_taken names name) h (list_any_at (bytes_eq name) names k d lt ((bytes_eq-Decides name (get_or names k d)).1 (sym same)))

-- an arc that is not there has other ends than each of the arcs
fresh-ends : (p : Problem) (arc : Arc) → has_arc p arc.from arc.to ≡ false
    → (k : ℕ) (d : Arc) → k < length p.arcs → EndsDiffer (get_or p.arcs k d) arc
fresh-ends p arc h k d lt from to =
    let there = get_or p.arcs k d in
    both_ways (has_arc p arc.from arc.to) h
    (list_any_at (joins arc.from arc.to) p.arcs k d lt
    (and_from (eqb arc.from there.from) (eqb arc.to there.to) (eq-eqb arc.from there.from (sym from)) (eq-eqb arc.to there.to (sym to))))

-- an arc between two of some terminals is one between two of more
arc-of-more : (n : ℕ) (arc : Arc) → IsArc n arc → IsArc (n + 1) arc
arc-of-more n arc h = record { within = h.within; from = omega (arith, h.from); to = omega (arith, h.to); ends = h.ends }

-- and so is a shipment
shipment-of-more : (n : ℕ) (s : Shipment) → IsShipment n s → IsShipment (n + 1) s
shipment-of-more n s h =
    record { within = h.within; from = omega (arith, h.from); to = omega (arith, h.to); ends = h.ends; window = h.window }

-- one more terminal
pub more-terminals : (p : Problem) (name : List ℕ) (hold : ℕ) → HasSoundParts p → IsName name → is_taken p.terminals name ≡ false
    → length p.terminals < MOST_TERMINALS → hold ≤ GREATEST_HOLD → HasSoundParts (with_terminal p name hold)
more-terminals p name hold s form fresh room fits =
    let more : length (p.terminals ++ (name ∷ [])) ≡ length p.terminals + 1 = length-append p.terminals (name ∷ []) in
    let held : length (p.holds ++ (hold ∷ [])) ≡ length p.holds + 1 = length-append p.holds (hold ∷ []) in
    record {
      few_terminals = omega arith;
      few_arcs = s.few_arcs;
      few_shipments = s.few_shipments;
      names = All-push IsName p.terminals name s.names form;
      arcs = rw more (All-weaker (IsArc (length p.terminals)) (IsArc (length p.terminals + 1)) (arc-of-more (length p.terminals)) p.arcs s.arcs);
      shipments = rw more (All-weaker (IsShipment (length p.terminals)) (IsShipment (length p.terminals + 1)) (shipment-of-more (length p.terminals)) p.shipments s.shipments);
      terminals_differ = all_pairs_push (λ m n. m ≢ n) p.terminals name s.terminals_differ (fresh-name p.terminals name fresh);
      arcs_differ = s.arcs_differ;
      shipments_differ = s.shipments_differ;
      one_each = omega (arith, s.one_each);
      holds = All-push (λ h. h ≤ GREATEST_HOLD) p.holds hold s.holds fits;
    }

-- one more arc
pub more-arcs : (p : Problem) (arc : Arc) → HasSoundParts p → IsArc (length p.terminals) arc → has_arc p arc.from arc.to ≡ false
    → length p.arcs < MOST_ARCS → HasSoundParts (with_arc p arc)
more-arcs p arc s within fresh room =
    let more : length (p.arcs ++ (arc ∷ [])) ≡ length p.arcs + 1 = length-append p.arcs (arc ∷ []) in
    record {
      few_terminals = s.few_terminals;
      few_arcs = omega arith;
      few_shipments = s.few_shipments;
      names = s.names;
      arcs = All-push (IsArc (length p.terminals)) p.arcs arc s.arcs within;
      shipments = s.shipments;
      terminals_differ = s.terminals_differ;
      arcs_differ = all_pairs_push EndsDiffer p.arcs arc s.arcs_differ (fresh-ends p arc fresh);
      shipments_differ = s.shipments_differ;
      one_each = s.one_each;
      holds = s.holds;
    }

-- a shipment whose name is not taken differs from each of the shipments by its name
fresh-shipment : (shipments : List Shipment) (s : Shipment) → is_taken (shipment_names shipments) s.name ≡ false
    → (k : ℕ) (d : Shipment) → k < length shipments → (get_or shipments k d).name ≢ s.name
fresh-shipment shipments s h k d lt same =
    both_ways (is_taken (shipment_names shipments) s.name) h
    (sym (list_any-map (bytes_eq s.name) (λ (t : Shipment). t.name) shipments)
    ∙ list_any_at (λ (t : Shipment). bytes_eq s.name t.name) shipments k d lt ((bytes_eq-Decides s.name (get_or shipments k d).name).1 (sym same)))

-- one more shipment
pub more-shipments : (p : Problem) (t : Shipment) → HasSoundParts p → IsShipment (length p.terminals) t → is_taken (shipment_names p.shipments) t.name ≡ false
    → length p.shipments < MOST_SHIPMENTS → HasSoundParts (with_shipment p t)
more-shipments p t s within fresh room =
    let more : length (p.shipments ++ (t ∷ [])) ≡ length p.shipments + 1 = length-append p.shipments (t ∷ []) in
    record {
      few_terminals = s.few_terminals;
      few_arcs = s.few_arcs;
      few_shipments = omega arith;
      names = s.names;
      arcs = s.arcs;
      shipments = All-push (IsShipment (length p.terminals)) p.shipments t s.shipments within;
      terminals_differ = s.terminals_differ;
      arcs_differ = s.arcs_differ;
      shipments_differ = all_pairs_push (λ (a b : Shipment). a.name ≢ b.name) p.shipments t s.shipments_differ (fresh-shipment p.shipments t fresh);
      one_each = s.one_each;
      holds = s.holds;
    }
