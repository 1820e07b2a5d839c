-- Each name, and each pair of ends, is new among those before it.
use Rattle.std.proofs.Common.{◌≡◌, ◌≢◌, ◌∙◌, ℕ, ◌+◌, ◌<◌, Bool, false, eqb, List, length, get_or, take, sym, arith}
use Rattle.std.specs.Prelude.{AllPairs}
use Rattle.std.specs.List.{list_any}
use Rattle.std.specs.Str.{bytes_eq}
use Rattle.std.proofs.lemmas.Bool.{and_parts, eqb-true, false_from_ne_true}
use Rattle.std.proofs.lemmas.List.{get_or-take, get_or_default, length-take-le, map_more}
use Rattle.std.proofs.lemmas.List.Folds.{list_any_none}
use Rattle.std.proofs.lemmas.Slice.Eq.{bytes_eq-Decides}
use Rattle.indexmap.specs.IndexSet.{insert_key}
use Rattle.fp_model.specs.declared.parts.Arc.{Arc}
use Rattle.fp_model.specs.declared.parts.Shipment.{Shipment}
use Rattle.fp_model.specs.Problem.{EndsDiffer}
use Rattle.fp_records_fields.specs.Indexes.{arc_ends, same_ends, shipment_names}
use Rattle.fp_records_fields.specs.NamedParts.{joins}
use Rattle.fp_records_fields.specs.Names.{is_taken}
use Rattle.fp_records_fields.proofs.MappedLists.{list_any-map}

-- where each two elements differ, a test of difference fails at those before a place
none-before : {X : Type 0} (test : X → X → Bool) (R : X → X → Type 0) (xs : List X) (i : ℕ) (d : X)
    → ((x y : X) → R x y → test y x ≡ false) → AllPairs R xs → i < length xs → list_any (test (get_or xs i d)) (take i xs) ≡ false
none-before test R xs i d fails differ within =
    list_any_none (test (get_or xs i d)) (take i xs) (λ k e lt.
    let before : k < i = omega (arith, length-take-le i xs (omega arith), lt) in
    rw (get_or-take i xs k e before, get_or_default xs i d e within) (fails (get_or xs k e) (get_or xs i e) (differ k i e before within)))

-- names that differ are not the same bytes
not-same : (m n : List ℕ) → m ≢ n → bytes_eq n m ≡ false
not-same m n differ = false_from_ne_true (bytes_eq n m) (λ same. differ (sym ((bytes_eq-Decides n m).0 same)))

-- a terminal's name is new
pub fresh-name : (names : List (List ℕ)) (i : ℕ) (d : List ℕ) → AllPairs (λ m n. m ≢ n) names → i < length names → is_taken (take i names) (get_or names i d) ≡ false
fresh-name names i d differ within = none-before bytes_eq (λ m n. m ≢ n) names i d not-same differ within

-- a shipment's name is new
pub fresh-shipment : (shipments : List Shipment) (i : ℕ) (d : Shipment) → AllPairs (λ (s t : Shipment). s.name ≢ t.name) shipments → i < length shipments
    → is_taken (shipment_names (take i shipments)) (get_or shipments i d).name ≡ false
fresh-shipment shipments i d differ within =
    sym (list_any-map (bytes_eq (get_or shipments i d).name) (λ (s : Shipment). s.name) (take i shipments))
    ∙ none-before (λ (s t : Shipment). bytes_eq s.name t.name) (λ (s t : Shipment). s.name ≢ t.name) shipments i d (λ s t differs. not-same s.name t.name differs) differ within

-- arcs whose ends differ are not joined alike
not-joined : (a b : Arc) → EndsDiffer a b → joins b.from b.to a ≡ false
not-joined a b differ = false_from_ne_true (joins b.from b.to a) (λ same.
    let parts = and_parts (eqb b.from a.from) (eqb b.to a.to) same in
    differ (sym (eqb-true b.from a.from parts.0)) (sym (eqb-true b.to a.to parts.1)))

-- an arc's ends are new
fresh-ends : (arcs : List Arc) (i : ℕ) (d : Arc) → AllPairs EndsDiffer arcs → i < length arcs
    → list_any (same_ends ((get_or arcs i d).from, (get_or arcs i d).to)) (arc_ends (take i arcs)) ≡ false
fresh-ends arcs i d differ within =
    let a = get_or arcs i d in
    sym (list_any-map (same_ends (a.from, a.to)) (λ (b : Arc). (b.from, b.to)) (take i arcs))
    ∙ none-before (λ (b c : Arc). joins b.from b.to c) EndsDiffer arcs i d not-joined differ within

-- the ends so far and those of the next arc
pub ends-after : (arcs : List Arc) (i : ℕ) (d : Arc) (ends : List (ℕ × ℕ)) → ends ≡ arc_ends (take i arcs) → AllPairs EndsDiffer arcs → i < length arcs
    → insert_key same_ends ends ((get_or arcs i d).from, (get_or arcs i d).to) ≡ arc_ends (take (i + 1) arcs)
ends-after arcs i d ends so-far differ within =
    rw (so-far, fresh-ends arcs i d differ within) (sym (map_more (λ (a : Arc). (a.from, a.to)) arcs i d within))
