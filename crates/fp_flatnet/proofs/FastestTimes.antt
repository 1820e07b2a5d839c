-- What a fastest time tells of a shipment, and a loop over shipments of all of them.
use Rattle.std.proofs.Common.{◌≡◌, ℕ, ◌+◌, ◌<◌, ◌≤◌, Some, None, Option, List, length, ◌∙◌, ap, subst, arith, ⊎_elim}
use Rattle.std.specs.Prelude.{slice_index_or, IfSome, IsSomeAnd}
use Rattle.std.proofs.lemmas.Bool.{cases_lt}
use Rattle.std.proofs.lemmas.List.{get_or_default}
use Rattle.fp_model.specs.declared.parts.Shipment.{Shipment}
use Rattle.fp_model.specs.Numbered.{no_shipment, shipment_at}
use Rattle.fp_model.specs.Problem.{Problem}
use Rattle.fp_model.specs.Times.{IsFastest}
use Rattle.fp_flatnet.specs.Verdicts.{IsInTime, AllInTime, IsBlocked}

-- the shipment that a loop reads is the one with its number
pub shipment_read : (p : Problem) (items : List Shipment) (k : ℕ) (s : Shipment) → items ≡ p.shipments → s ≡ slice_index_or items k s → k < length items → s ≡ shipment_at p k
shipment_read p items k s same read lt =
    read ∙ get_or_default items k s no_shipment lt ∙ ap (λ (xs : List Shipment). slice_index_or xs k no_shipment) same

-- with this fastest time it arrives by its due time
abbrev pub Arrives : Shipment → Option ℕ → Type 0
Arrives s o = IsSomeAnd o (λ t. s.release + t ≤ s.due)

arrives-in_time : (p : Problem) (s : Shipment) (o : Option ℕ) → IsFastest p s o → Arrives s o → IsInTime p s
arrives-in_time p s None fastest arrives = absurd arrives
arrives-in_time p s (Some t) fastest arrives = (t, fastest, arrives)

pub IsInTime-arrives : (p : Problem) (k : ℕ) (s : Shipment) (o : Option ℕ) → s ≡ shipment_at p k → IsFastest p s o → Arrives s o → IsInTime p (shipment_at p k)
IsInTime-arrives p k s o same fastest arrives = subst (λ (x : Shipment). IsInTime p x) same (arrives-in_time p s o fastest arrives)

late-by : (s : Shipment) (o : Option ℕ) → (Arrives s o → ⊥) → IfSome o (λ t. s.due < s.release + t)
late-by s None late = tt
late-by s (Some t) late = ⊎_elim (λ (lt : s.due < s.release + t). lt) (λ (le : s.release + t ≤ s.due). absurd (late le)) (cases_lt s.due (s.release + t))

-- the first shipment that does not is blocked
pub IsBlocked-late : (p : Problem) (k : ℕ) (s : Shipment) (o : Option ℕ) → k < length p.shipments → s ≡ shipment_at p k → ((i : ℕ) → i < k → IsInTime p (shipment_at p i)) →
    IsFastest p s o → (Arrives s o → ⊥) → IsBlocked p k o
IsBlocked-late p k s o exists same earlier fastest late = record {
  exists = exists;
  earlier = earlier;
  fastest = subst (λ (x : Shipment). IsFastest p x o) same fastest;
  late = subst (λ (x : Shipment). IfSome o (λ t. x.due < x.release + t)) same (late-by s o late);
}

-- all are in time where each is
pub AllInTime-from_each : (p : Problem) (n : ℕ) → length p.shipments ≤ n → ((i : ℕ) → i < n → IsInTime p (shipment_at p i)) → AllInTime p
AllInTime-from_each p n all each =
    λ k d lt. subst (λ (s : Shipment). IsInTime p s) (get_or_default p.shipments k no_shipment d lt) (each k (omega (arith, lt, all)))
