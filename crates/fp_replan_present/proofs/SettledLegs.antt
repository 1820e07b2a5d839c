-- Settled legs, promised legs, and the tracked legs of one shipment.
use Rattle.std.proofs.Common.{◌≡◌, ℕ, zero, suc, ◌+◌, ◌-◌, ◌<◌, ◌≤◌, true, false, Bool, Option, List, [], ◌∷◌, ◌++◌, length, get_or, take, drop, map, refl, sym, ap, ◌∙◌, arith, ⊎_elim}
use Rattle.std.specs.List.{list_any}
use Rattle.std.proofs.lemmas.Bool.{cases_Bool}
use Rattle.std.proofs.lemmas.List.{get_or_default}
use Rattle.std.proofs.lemmas.List.Folds.{list_any_at}
use Rattle.fp_model.specs.declared.parts.Leg.{Leg}
use Rattle.fp_replan.specs.KeptLegs.{kept_of}
use Rattle.fp_replan_present.specs.declared.presents.Tracked.{Tracked}
use Rattle.fp_replan_present.specs.Days.{is_fixed, is_of, kept_in_tracked, legs_of, promised, settled, tracked_leg, tracked_of}

-- settled legs and those that are promised are all
pub settled-promised : (now : Option ℕ) (legs : List Tracked) → settled now legs ++ promised now legs ≡ legs
settled-promised now [] = refl
settled-promised now (x ∷ legs) =
    let later : settled now legs ++ promised now legs ≡ legs = settled-promised now legs in
    ⊎_elim
    (λ (some : list_any (is_fixed now) (x ∷ legs) ≡ true). rw some (ap (λ (xs : List Tracked). x ∷ xs) later))
    (λ (none : list_any (is_fixed now) (x ∷ legs) ≡ false). rw none refl)
    (cases_Bool (list_any (is_fixed now) (x ∷ legs)))

-- where none is settled by itself all are promised
pub promised-all : (now : Option ℕ) (legs : List Tracked) → list_any (is_fixed now) legs ≡ false → promised now legs ≡ legs
promised-all now [] none = refl
promised-all now (x ∷ legs) none = rw none refl

-- legs are cut where the last one ends that is settled by itself
pub record IsCut (now : Option ℕ) (legs : List Tracked) (n : ℕ) : Type 0 where
  pub within : n ≤ length legs
  pub none : list_any (is_fixed now) (drop n legs) ≡ false
  pub last : (i : ℕ) (d : Tracked) → i + 1 ≡ n → is_fixed now (get_or legs i d) ≡ true

-- so the first ones are the settled ones
pub settled-cut : (now : Option ℕ) (legs : List Tracked) (n : ℕ) → IsCut now legs n → (take n legs ≡ settled now legs) × (drop n legs ≡ promised now legs)
settled-cut now [] zero cut = (refl, refl)
settled-cut now [] (suc n) cut = absurd (omega (arith, cut.within))
settled-cut now (x ∷ legs) zero cut = (rw cut.none refl, rw cut.none refl)
settled-cut now (x ∷ legs) (suc n) cut =
    let lt : n < length (x ∷ legs) = omega (arith, cut.within) in
    let some : list_any (is_fixed now) (x ∷ legs) ≡ true = list_any_at (is_fixed now) (x ∷ legs) n x lt (cut.last n x (omega arith)) in
    let later : IsCut now legs n = record { within = omega (arith, cut.within); none = cut.none; last = λ i d e. cut.last (suc i) d (omega (arith, e)) } in
    let parts = settled-cut now legs n later in
    (rw some (ap (λ (xs : List Tracked). x ∷ xs) parts.0), rw some parts.1)

-- the kept legs of a shipment are its tracked legs as legs
pub kept_of-tracked : (legs : List Tracked) (k : ℕ) → kept_of (map kept_in_tracked legs) k ≡ legs_of (tracked_of legs k)
kept_of-tracked [] k = refl
kept_of-tracked (x ∷ legs) k =
    let later : kept_of (map kept_in_tracked legs) k ≡ legs_of (tracked_of legs k) = kept_of-tracked legs k in
    ⊎_elim
    (λ (own : is_of k x ≡ true). rw own (ap (λ (ls : List Leg). tracked_leg x ∷ ls) later))
    (λ (other : is_of k x ≡ false). rw other later)
    (cases_Bool (is_of k x))

-- an element passes a test at its place, whatever stands for a missing one
pub passes-at : (test : Tracked → Bool) (legs : List Tracked) (i n : ℕ) (d e : Tracked) → i + 1 ≡ n → n ≤ length legs → test (get_or legs (n - 1) e) ≡ true → test (get_or legs i d) ≡ true
passes-at test legs i n d e next within passes =
    let same : n - 1 ≡ i = omega (arith, next) in
    ap test (get_or_default legs i d e (omega (arith, next, within))) ∙ ap (λ m. test (get_or legs m e)) (sym same) ∙ passes
