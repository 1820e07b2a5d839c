-- An instance with one of its shipments as the last one is valid.
use Rattle.std.proofs.Common.{◌≡◌, ◌≢◌, ℕ, zero, suc, ◌+◌, ◌*◌, List, [], ◌∷◌, length, refl, sym, ap, ◌∙◌, arith}
use Rattle.std.specs.Prelude.{All, AllPairs, sum_by}
use Rattle.std.proofs.lemmas.List.Elements.{All-append, All-head, All-tail}
use Rattle.std.proofs.lemmas.List.Kept.{AllPairs-cons}
use Rattle.std.proofs.lemmas.List.Sums.{sum_by-append, sum_by-cons}
use Rattle.fp_base_lists.proofs.Pairs.{AllPairs-append, AllPairs-head, AllPairs-nil, AllPairs-tail}
use Rattle.fp_model.specs.declared.limits.TheConstants.{MOST_TIMED_NODES, SCALE}
use Rattle.fp_model.specs.declared.parts.Shipment.{Shipment}
use Rattle.fp_model.specs.Problem.{IsShipment, IsValid, Problem, alone_cost, weight_at}
use Rattle.fp_replan_quotes.specs.LastShipments.{to_last, with_last}
use Rattle.fp_replan_quotes.proofs.LastLists.{length-to_last}

-- what holds of each holds of each in another order
All-nil : {X : Type 0} (P : X → Type 0) → All P []
All-nil P i d lt = absurd (omega (arith, lt))

All-cons : {X : Type 0} (P : X → Type 0) (x : X) (xs : List X) → P x → All P xs → All P (x ∷ xs)
All-cons P x xs one all zero d lt = one
All-cons P x xs one all (suc i) d lt = all i d (omega (arith, lt))

All-last : {X : Type 0} (P : X → Type 0) (k : ℕ) (xs : List X) → All P xs → All P (to_last k xs)
All-last P zero [] all = all
All-last P (suc k) [] all = all
All-last P zero (x ∷ xs) all = All-append P xs (x ∷ []) (All-tail P x xs all) (All-cons P x [] (All-head P x xs all) (All-nil P))
All-last P (suc k) (x ∷ xs) all = All-cons P x (to_last k xs) (All-head P x xs all) (All-last P k xs (All-tail P x xs all))

-- and so what holds of each pair, in either order
Pairs-last : {X : Type 0} (R : X → X → Type 0) → ((x y : X) → R x y → R y x) → (k : ℕ) (xs : List X) → AllPairs R xs → AllPairs R (to_last k xs)
Pairs-last R turned zero [] pairs = pairs
Pairs-last R turned (suc k) [] pairs = pairs
Pairs-last {X} R turned zero (x ∷ xs) pairs =
    AllPairs-append R xs (x ∷ []) (AllPairs-tail R x xs pairs) (AllPairs-cons R x [] (All-nil (R x)) (AllPairs-nil R))
    (λ i d lt. All-cons (R _) x [] (turned x _ (AllPairs-head R x xs pairs i d lt)) (All-nil (R _)))
Pairs-last R turned (suc k) (x ∷ xs) pairs =
    AllPairs-cons R x (to_last k xs) (All-last (R x) k xs (AllPairs-head R x xs pairs)) (Pairs-last R turned k xs (AllPairs-tail R x xs pairs))

-- sums are the same
sum-last : {X : Type 0} (f : X → ℕ) (k : ℕ) (xs : List X) → sum_by f (to_last k xs) ≡ sum_by f xs
sum-last f zero [] = refl
sum-last f (suc k) [] = refl
sum-last f zero (x ∷ xs) = omega (arith, sum_by-append f xs (x ∷ []), sum_by-cons f x xs, sum_by-cons f x [])
sum-last f (suc k) (x ∷ xs) = sum_by-cons f x (to_last k xs) ∙ ap (λ n. f x + n) (sum-last f k xs) ∙ sym (sum_by-cons f x xs)

weight-last : (p : Problem) (k scale : ℕ) → weight_at scale p.arcs (to_last k p.shipments) ≡ weight_at scale p.arcs p.shipments
weight-last p k scale = ap (λ n. scale * MOST_TIMED_NODES * n) (sum-last (λ (s : Shipment). sum_by (alone_cost s.size) p.arcs) k p.shipments)

pub IsValid-last : (p : Problem) (k : ℕ) → IsValid p → IsValid (with_last p k)
IsValid-last p k valid = record {
  parts = record {
    few_terminals = valid.parts.few_terminals;
    few_arcs = valid.parts.few_arcs;
    few_shipments = omega (arith, valid.parts.few_shipments, length-to_last k p.shipments);
    names = valid.parts.names;
    arcs = valid.parts.arcs;
    shipments = All-last (IsShipment (length p.terminals)) k p.shipments valid.parts.shipments;
    terminals_differ = valid.parts.terminals_differ;
    arcs_differ = valid.parts.arcs_differ;
    shipments_differ = Pairs-last (λ (s t : Shipment). s.name ≢ t.name) (λ s t differ same. differ (sym same)) k p.shipments valid.parts.shipments_differ;
    one_each = valid.parts.one_each;
    holds = valid.parts.holds;
  };
  weight = omega (arith, valid.weight, weight-last p k SCALE);
  scale = valid.scale;
  fits = omega (arith, valid.fits, weight-last p k p.scale);
}
