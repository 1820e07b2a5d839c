-- A row under the sides of a leaf tells the allowed timed walks of its shipment; walks that are such at each place are so all together.
use Rattle.std.proofs.Common.{◌≡◌, ℕ, suc, ◌+◌, ◌<◌, Bool, List, [], ◌∷◌, length, get_or, subst, refl, arith}
use Rattle.std.specs.Prelude.{◌↔◌, IsTrue}
use Rattle.fp_base_lists.specs.Numbered.{AllZipFrom}
use Rattle.fp_base_lists.proofs.Numbered.{AllZipFrom-get_or}
use Rattle.fp_model.specs.declared.parts.Leg.{Leg}
use Rattle.fp_model.specs.Numbered.{no_shipment, shipment_at}
use Rattle.fp_model.specs.Problem.{Problem}
use Rattle.fp_flatnet.specs.Belonging.{FitsInstance}
use Rattle.fp_longestarcs.specs.Networks.{TimedNetwork, points_in}
use Rattle.fp_longestarcs.specs.Whole.{IsWholeNetwork}
use Rattle.fp_allowed.specs.Bits.{IsRowUnder, row_allows}
use Rattle.fp_allowed.specs.Settings.{IsSetting}
use Rattle.fp_allowed.specs.Walks.{IsTimedWalk}
use Rattle.fp_allowed.proofs.RowClasses.{row_allows_under}
use Rattle.fp_prices.specs.Rounds.{LeafModel, RoundModel}
use Rattle.fp_duals_walks.specs.AllowedWalks.{AreAllowedWalks, IsAllowedWalk}

-- over a round's network, what is decided by a shipment's row is decided of its allowed timed walks at the leaf
pub row-decides : (leaf : LeafModel) (k : ℕ) (round : RoundModel) (p : Problem) (net : TimedNetwork) (row : List Bool) (walk : List Leg) (b : Bool) →
    round.problem ≡ leaf.setting.problem → round.network ≡ leaf.setting.network → p ≡ round.problem → net ≡ round.network →
    FitsInstance leaf.setting.problem leaf.setting.windows → IsWholeNetwork round.problem round.network → IsRowUnder leaf.setting leaf.sides k row →
    (IsTrue b ↔ IsTimedWalk p (points_in net) (row_allows net row) (shipment_at p k) walk) →
    IsTrue b ↔ IsAllowedWalk leaf k (shipment_at leaf.setting.problem k) walk
row-decides leaf k round p net row walk b problem network same_p same_net fits whole under decides =
    let whole_there : IsWholeNetwork leaf.setting.problem leaf.setting.network =
    subst (λ (n : TimedNetwork). IsWholeNetwork leaf.setting.problem n) network (subst (λ (q : Problem). IsWholeNetwork q round.network) problem whole) in
    let setting : IsSetting leaf.setting = record { belongs = fits; whole = whole_there } in
    let at_round : IsTrue b ↔ IsTimedWalk round.problem (points_in round.network) (row_allows round.network row) (shipment_at round.problem k) walk =
    subst (λ (n : TimedNetwork). IsTrue b ↔ IsTimedWalk round.problem (points_in n) (row_allows n row) (shipment_at round.problem k) walk) same_net
    (subst (λ (q : Problem). IsTrue b ↔ IsTimedWalk q (points_in net) (row_allows net row) (shipment_at q k) walk) same_p decides) in
    let at_leaf : IsTrue b ↔ IsTimedWalk leaf.setting.problem (points_in leaf.setting.network) (row_allows leaf.setting.network row) (shipment_at leaf.setting.problem k) walk =
    subst (λ (n : TimedNetwork). IsTrue b ↔ IsTimedWalk leaf.setting.problem (points_in n) (row_allows n row) (shipment_at leaf.setting.problem k) walk) network
    (subst (λ (q : Problem). IsTrue b ↔ IsTimedWalk q (points_in round.network) (row_allows round.network row) (shipment_at q k) walk) problem at_round) in
    subst (λ (allowed : Leg → Bool). IsTrue b ↔ IsTimedWalk leaf.setting.problem (points_in leaf.setting.network) allowed (shipment_at leaf.setting.problem k) walk)
    (row_allows_under leaf.setting leaf.sides k row setting under) at_leaf

-- what holds at each place of two lists of one length holds of them
all-from : {X Y : Type 0} (Q : ℕ → X → Y → Type 0) (xs : List X) (ys : List Y) (d : X) (e : Y) (i : ℕ) → length ys ≡ length xs →
    ((k : ℕ) → k < length xs → Q (i + k) (get_or xs k d) (get_or ys k e)) → AllZipFrom Q i xs ys
all-from Q [] [] d e i long each = tt
all-from Q [] (y ∷ ys) d e i long each = absurd (omega (arith, long))
all-from Q (x ∷ xs) [] d e i long each = absurd (omega (arith, long))
all-from Q (x ∷ xs) (y ∷ ys) d e i long each =
    let same : i + 0 ≡ i = omega arith in (
      subst (λ (n : ℕ). Q n x y) same (each 0 (omega arith)),
      all-from Q xs ys d e (i + 1) (omega (arith, long)) (λ k lt.
          let on : i + suc k ≡ i + 1 + k = omega arith in
          subst (λ (n : ℕ). Q n (get_or xs k d) (get_or ys k e)) on (each (suc k) (omega (arith, lt)))),
    )

all-long : {X Y : Type 0} (Q : ℕ → X → Y → Type 0) (xs : List X) (ys : List Y) (i : ℕ) → AllZipFrom Q i xs ys → length ys ≡ length xs
all-long Q [] [] i all = refl
all-long Q [] (y ∷ ys) i all = absurd all
all-long Q (x ∷ xs) [] i all = absurd all
all-long Q (x ∷ xs) (y ∷ ys) i all = omega (arith, all-long Q xs ys (i + 1) all.1)

-- the first so many walks are allowed timed walks of their shipments
abbrev pub AreAllowedBelow : LeafModel → ℕ → List (List Leg) → Type 0
AreAllowedBelow leaf n walks = (k : ℕ) → k < n → IsAllowedWalk leaf k (shipment_at leaf.setting.problem k) (get_or walks k [])

pub walks-all : (leaf : LeafModel) (walks : List (List Leg)) → length walks ≡ length leaf.setting.problem.shipments → AreAllowedBelow leaf (length leaf.setting.problem.shipments) walks →
    AreAllowedWalks leaf walks
walks-all leaf walks long each =
    all-from (λ k. IsAllowedWalk leaf k) leaf.setting.problem.shipments walks no_shipment [] 0 long (λ k lt.
    let same : k ≡ 0 + k = omega arith in
    subst (λ (n : ℕ). IsAllowedWalk leaf n (get_or leaf.setting.problem.shipments k no_shipment) (get_or walks k [])) same (each k lt))

pub walk-at : (leaf : LeafModel) (walks : List (List Leg)) (k : ℕ) → AreAllowedWalks leaf walks → k < length leaf.setting.problem.shipments →
    IsAllowedWalk leaf k (shipment_at leaf.setting.problem k) (get_or walks k [])
walk-at leaf walks k all lt =
    let same : 0 + k ≡ k = omega arith in
    subst (λ (n : ℕ). IsAllowedWalk leaf n (get_or leaf.setting.problem.shipments k no_shipment) (get_or walks k [])) same
    (AllZipFrom-get_or (λ j. IsAllowedWalk leaf j) leaf.setting.problem.shipments walks no_shipment [] 0 k all lt)

pub walks-long : (leaf : LeafModel) (walks : List (List Leg)) → AreAllowedWalks leaf walks → length walks ≡ length leaf.setting.problem.shipments
walks-long leaf walks all = all-long (λ k. IsAllowedWalk leaf k) leaf.setting.problem.shipments walks 0 all
