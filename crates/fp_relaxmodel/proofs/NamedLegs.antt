-- The legs of walks, each with its class, come in order.
use Rattle.std.proofs.Common.{◌≡◌, ◌∙◌, ℕ, ◌+◌, ◌≤◌, Bool, ◌||◌, List, [], ◌∷◌, inl, inr, refl, sym, ap, ap₂, arith, le_refl}
use Rattle.std.specs.Prelude.{All, AllPairs}
use Rattle.std.specs.List.{list_any}
use Rattle.std.proofs.lemmas.List.Elements.{All-append, All-cons, All-nil, All-weaker}
use Rattle.std.proofs.lemmas.List.Folds.{list_any-append}
use Rattle.std.proofs.lemmas.List.Kept.{AllPairs-cons}
use Rattle.fp_model.specs.declared.parts.Leg.{Leg}
use Rattle.fp_model.specs.Costs.{all_legs, has_leg, same_leg}
use Rattle.fp_model.specs.Members.{named_from, named_on, NamedLeg}
use Rattle.fp_relaxmodel.proofs.GroupLaws.{Before}
use Rattle.fp_base_lists.proofs.Pairs.{AllPairs-append, AllPairs-nil}

-- a class is on the walk of the shipment with the number k exactly where one of its legs has it
occurs-on : (c : Leg) (k i : ℕ) (walk : List Leg) → list_any (λ (x : NamedLeg). same_leg c x.leg) (named_on k i walk) ≡ has_leg c walk
occurs-on c k i [] = refl
occurs-on c k i (l ∷ walk) = ap (λ (b : Bool). same_leg c l || b) (occurs-on c k (i + 1) walk)

-- and on walks exactly where one of their legs has it
pub occurs-placed : (c : Leg) (k : ℕ) (walks : List (List Leg)) → list_any (λ (x : NamedLeg). same_leg c x.leg) (named_from k walks) ≡ has_leg c (all_legs walks)
occurs-placed c k [] = refl
occurs-placed c k (walk ∷ walks) =
    list_any-append (λ (x : NamedLeg). same_leg c x.leg) (named_on k 0 walk) (named_from (k + 1) walks)
    ∙ ap₂ (λ (a b : Bool). a || b) (occurs-on c k 0 walk) (occurs-placed c (k + 1) walks)
    ∙ sym (list_any-append (same_leg c) walk (all_legs walks))

-- a leg is of the shipment with the number k, and has the number i or a later one
abbrev IsOn : ℕ → ℕ → NamedLeg → Type 0
IsOn k i x = (x.member.shipment ≡ k) × (i ≤ x.member.leg)

all-on : (k i : ℕ) (walk : List Leg) → All (IsOn k i) (named_on k i walk)
all-on k i [] = All-nil (IsOn k i)
all-on k i (c ∷ walk) =
    let first : NamedLeg = record { member = record { shipment = k; leg = i }; leg = c } in
    All-cons (IsOn k i) first (named_on k (i + 1) walk) (refl, le_refl i)
    (All-weaker (IsOn k (i + 1)) (IsOn k i) (λ x is. (is.0, omega (arith, is.1))) (named_on k (i + 1) walk) (all-on k (i + 1) walk))

-- a leg is of the shipment with the number k or a later one
abbrev IsFrom : ℕ → NamedLeg → Type 0
IsFrom k x = k ≤ x.member.shipment

all-from : (k : ℕ) (walks : List (List Leg)) → All (IsFrom k) (named_from k walks)
all-from k [] = All-nil (IsFrom k)
all-from k (walk ∷ walks) =
    All-append (IsFrom k) (named_on k 0 walk) (named_from (k + 1) walks)
    (All-weaker (IsOn k 0) (IsFrom k) (λ x is. omega (arith, is.0)) (named_on k 0 walk) (all-on k 0 walk))
    (All-weaker (IsFrom (k + 1)) (IsFrom k) (λ x is. omega (arith, is)) (named_from (k + 1) walks) (all-from (k + 1) walks))

-- the legs of a walk come in order
pairs-on : (k i : ℕ) (walk : List Leg) → AllPairs Before (named_on k i walk)
pairs-on k i [] = AllPairs-nil Before
pairs-on k i (c ∷ walk) =
    let first : NamedLeg = record { member = record { shipment = k; leg = i }; leg = c } in
    AllPairs-cons Before first (named_on k (i + 1) walk)
    (All-weaker (IsOn k (i + 1)) (Before first) (λ x is. inr (sym is.0, omega (arith, is.1))) (named_on k (i + 1) walk) (all-on k (i + 1) walk))
    (pairs-on k (i + 1) walk)

-- so do those of walks
pub pairs-from : (k : ℕ) (walks : List (List Leg)) → AllPairs Before (named_from k walks)
pairs-from k [] = AllPairs-nil Before
pairs-from k (walk ∷ walks) =
    let later : List NamedLeg = named_from (k + 1) walks in
    let cross : All (λ x. All (Before x) later) (named_on k 0 walk) =
    All-weaker (IsOn k 0) (λ x. All (Before x) later)
    (λ x is. All-weaker (IsFrom (k + 1)) (Before x) (λ y from. inl (omega (arith, is.0, from))) later (all-from (k + 1) walks)) (named_on k 0 walk) (all-on k 0 walk) in
    AllPairs-append Before (named_on k 0 walk) later (pairs-on k 0 walk) (pairs-from (k + 1) walks) cross
