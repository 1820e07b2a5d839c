-- A departure of a plan lies in the run of a gift exactly where its class does.
use Rattle.std.proofs.Common.{◌≡◌, ℕ, ◌+◌, ◌*◌, ◌<◌, ◌≤◌, Bool, true, false, ◌&&◌, List, [], ◌∷◌, ⊎_elim, refl, sym, ap, ap₂, ◌∙◌, subst, arith}
use Rattle.std.specs.Prelude.{nat_eq, nat_le, nat_lt}
use Rattle.std.specs.List.{AllByRecursion, AllZip}
use Rattle.std.proofs.Math.Nat.{mul-le-mul_left}
use Rattle.std.proofs.lemmas.Bool.{cases_Bool, cases_lt, eqb-true, false≢true, le-leb, le-ltb, lt-leb, lt-ltb, or_cases}
use Rattle.std.proofs.lemmas.List.Folds.{list_any-append}
use Rattle.fp_base_lists.specs.Membership.{list_has}
use Rattle.fp_model.specs.declared.parts.Leg.{Leg}
use Rattle.fp_model.specs.declared.parts.Shipment.{Shipment}
use Rattle.fp_model.specs.Costs.{all_legs, has_leg, same_leg}
use Rattle.fp_model.specs.Plans.{IsPlan}
use Rattle.fp_model.specs.Problem.{Problem}
use Rattle.fp_model.specs.Routes.{ArrivesBy, Carries, LeavesReady, step}
use Rattle.fp_model.specs.TruckCounts.{leaves_between}
use Rattle.fp_model.proofs.Distinct.{same_leg-true}
use Rattle.fp_timenodes.specs.Floor.{floor_point}
use Rattle.fp_timenodes.proofs.Floors.{floor_greatest, floor_le}
use Rattle.fp_longestarcs.specs.Classes.{class_of}
use Rattle.fp_allowed.specs.Allowed.{tails_of}
use Rattle.fp_prices_gifts.specs.declared.gifts.Gift.{Gift}
use Rattle.fp_prices_gifts.specs.Gifts.{gives_at}
use Rattle.fp_prices_gifts.specs.GiftLeaves.{EndsAtPoints}

-- legs that arrive by a due time depart by it
legs-depart_by : (p : Problem) (d ready due : ℕ) (legs : List Leg) → LeavesReady p d ready legs → ArrivesBy p d due legs → AllByRecursion (λ (l : Leg). l.depart ≤ d * due) legs
legs-depart_by p d ready due [] leaves arrives = tt
legs-depart_by p d ready due (l ∷ []) leaves arrives = (omega (arith, arrives), tt)
legs-depart_by p d ready due (l ∷ m ∷ legs) leaves arrives =
    let rest : AllByRecursion (λ (k : Leg). k.depart ≤ d * due) (m ∷ legs) = legs-depart_by p d (l.depart + d * step p l.arc) due (m ∷ legs) leaves.1 arrives in
    (omega (arith, rest.0, leaves.1.0), rest)

-- so one of them departs before a later time
leg-early : (d due until : ℕ) (legs : List Leg) (l : Leg) → 0 < d → due < until → AllByRecursion (λ (k : Leg). k.depart ≤ d * due) legs → has_leg l legs ≡ true → l.depart < d * until
leg-early d due until [] l positive late all h = absurd (false≢true h)
leg-early d due until (k ∷ legs) l positive late all h =
    ⊎_elim
    (λ (here : same_leg l k ≡ true).
    let after : due + 1 ≤ until = omega (arith, late) in
    omega (arith, ap (λ (e : Leg). e.depart) (same_leg-true l k here), all.0, mul-le-mul_left d after, positive))
    (λ (later : has_leg l legs ≡ true). leg-early d due until legs l positive late all.1 later)
    (or_cases (same_leg l k) (has_leg l legs) h)

-- each leg of a plan departs before what is later than all due times
plan-early : (p : Problem) (d until : ℕ) (shipments : List Shipment) (plan : List (List Leg)) (l : Leg) → 0 < d → AllZip (Carries p d) shipments plan →
    AllByRecursion (λ (s : Shipment). s.due < until) shipments → has_leg l (all_legs plan) ≡ true → l.depart < d * until
plan-early p d until [] [] l positive is late h = absurd (false≢true h)
plan-early p d until [] (r ∷ plan) l positive is late h = absurd is
plan-early p d until (s ∷ shipments) [] l positive is late h = absurd is
plan-early p d until (s ∷ shipments) (r ∷ plan) l positive is late h =
    ⊎_elim
    (λ (here : has_leg l r ≡ true). leg-early d s.due until r l positive late.0 (legs-depart_by p d (d * s.release) s.due r is.0.ready is.0.due) here)
    (λ (later : has_leg l (all_legs plan) ≡ true). plan-early p d until shipments plan l positive is.1 late.1 later)
    (or_cases (has_leg l r) (has_leg l (all_legs plan)) (sym (list_any-append (same_leg l) r (all_legs plan)) ∙ h))

-- orders that imply one the other are told alike
le-alike : (a b c e : ℕ) → (a ≤ b → c ≤ e) → (c ≤ e → a ≤ b) → nat_le a b ≡ nat_le c e
le-alike a b c e there back =
    ⊎_elim
    (λ (more : e < c).
    ⊎_elim
    (λ (also : b < a). lt-leb a b also ∙ sym (lt-leb c e more))
    (λ (le : a ≤ b). absurd (omega (arith, there le, more)))
    (cases_lt b a))
    (λ (le : c ≤ e). le-leb a b (back le) ∙ sym (le-leb c e le))
    (cases_lt e c)

lt-alike : (a b c e : ℕ) → (b ≤ a → e ≤ c) → (e ≤ c → b ≤ a) → nat_lt a b ≡ nat_lt c e
lt-alike a b c e there back =
    ⊎_elim
    (λ (less : c < e).
    ⊎_elim
    (λ (also : a < b). lt-ltb a b also ∙ sym (lt-ltb c e less))
    (λ (le : b ≤ a). absurd (omega (arith, there le, less)))
    (cases_lt a b))
    (λ (le : e ≤ c). le-ltb a b (back le) ∙ sym (le-ltb c e le))
    (cases_lt c e)

-- a time is before or at a moment where it is before or at the greatest point that isn't after it; the other way it is so of points
floor-before : (qs : List ℕ) (d m time : ℕ) → time ≤ floor_point qs d m → d * time ≤ m
floor-before qs d m time h = omega (arith, mul-le-mul_left d h, floor_le qs d m)

module _ (p : Problem) (points : ℕ → List ℕ) (d : ℕ) (plan : List (List Leg)) (positive : 0 < d) (is : IsPlan p d plan) (gift : Gift) (ends : EndsAtPoints p points gift) where
  until-reached : (l : Leg) → l.arc ≡ gift.arc → has_leg l (all_legs plan) ≡ true → d * gift.until ≤ l.depart → gift.until ≤ floor_point (points (tails_of p l.arc)) d l.depart
  until-reached l same had late =
      ⊎_elim
      (λ (there : list_has (points (tails_of p gift.arc)) gift.until ≡ true).
      floor_greatest (points (tails_of p l.arc)) d l.depart gift.until (subst (λ (a : ℕ). list_has (points (tails_of p a)) gift.until ≡ true) (sym same) there) late)
      (λ (after : AllByRecursion (λ (s : Shipment). s.due < gift.until) p.shipments). absurd (omega (arith, plan-early p d gift.until p.shipments plan l positive is after had, late)))
      ends.until

  -- a departure of the plan
  pub run-same : (l : Leg) → has_leg l (all_legs plan) ≡ true → gives_at gift (class_of p points d l) ≡ leaves_between d gift.arc gift.point gift.until l
  run-same l had =
      let qs : List ℕ = points (tails_of p l.arc) in
      let q : ℕ = floor_point qs d l.depart in
      ⊎_elim
      (λ (here : nat_eq gift.arc l.arc ≡ true).
      let same : l.arc ≡ gift.arc = sym (eqb-true gift.arc l.arc here) in
      let from : nat_le gift.point q ≡ nat_le (d * gift.point) l.depart =
      le-alike gift.point q (d * gift.point) l.depart (floor-before qs d l.depart gift.point)
      (floor_greatest qs d l.depart gift.point (subst (λ (a : ℕ). list_has (points (tails_of p a)) gift.point ≡ true) (sym same) ends.point)) in
      let before : nat_lt q gift.until ≡ nat_lt l.depart (d * gift.until) = lt-alike q gift.until l.depart (d * gift.until) (floor-before qs d l.depart gift.until) (until-reached l same had) in
      ap₂ (λ (a b : Bool). nat_eq gift.arc l.arc && (a && b)) from before)
      (λ (away : nat_eq gift.arc l.arc ≡ false). rw away refl)
      (cases_Bool (nat_eq gift.arc l.arc))
