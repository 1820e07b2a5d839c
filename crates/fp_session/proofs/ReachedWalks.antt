-- Where no forced chain of a leaf ends with several ways to go, the walks that were found are these
-- chains: they are routes, and cost less than the incumbent where the leaf is worth less.
use Rattle.std.proofs.Common.{◌≡◌, ◌≢◌, ℕ, suc, ◌+◌, ◌*◌, ◌<◌, ◌≤◌, ◌⊎◌, ⊎_elim, Bool, List, [], ◌∷◌, length, get_or, sym, ap, ◌∙◌, subst, arith}
use Rattle.std.specs.Prelude.{All, IfSome}
use Rattle.std.specs.Int.{div_ceil}
use Rattle.std.proofs.Math.Nat.{mul-le-mul_left}
use Rattle.std.proofs.lemmas.Bool.{cases_lt}
use Rattle.std.proofs.lemmas.List.Elements.{All-cons, All-nil}
use Rattle.fp_base_lists.proofs.Ceilings.{div_ceil-holds}
use Rattle.fp_base_lists.specs.Distinct.{AreDistinct}
use Rattle.fp_base_lists.specs.Numbered.{AllZipFrom}
use Rattle.fp_model.specs.declared.parts.Leg.{Leg}
use Rattle.fp_model.specs.declared.parts.Shipment.{Shipment}
use Rattle.fp_model.specs.Costs.{cost}
use Rattle.fp_model.specs.Numbered.{no_shipment, shipment_at}
use Rattle.fp_model.specs.Routes.{IsRoute, arcs_of}
use Rattle.fp_flatnet.specs.Belonging.{BelongsTo}
use Rattle.fp_flatnet.specs.Tables.{windows_in}
use Rattle.fp_flatnet.proofs.WindowTimes.{BelongsTo-FitsInstance}
use Rattle.fp_longestarcs.specs.Networks.{TimedNetwork, points_in}
use Rattle.fp_tree.specs.declared.sides.Side.{Side}
use Rattle.fp_allowed.specs.declared.chain_ends.ChainEnd.TheVariants as end
use Rattle.fp_allowed.specs.Allowed.{IsForcedChain, is_allowed}
use Rattle.fp_allowed.specs.Chains.{EndsAs}
use Rattle.fp_allowed.specs.SamePoints.{AgreeOnPoints}
use Rattle.fp_allowed.specs.Walks.{IsTimedWalk}
use Rattle.fp_allowed.proofs.ClassTimes.{allowed_exists}
use Rattle.fp_allowed.proofs.ForcedWalks.{NoneLeaves-destination, Reached-IsRoute, Reached-only_walk, Stuck-no_walk}
use Rattle.fp_allowed.proofs.SamePoints.{is_allowed_same}
use Rattle.fp_relaxmodel.specs.Terminals.{terminals_on}
use Rattle.fp_relaxmodel.proofs.MetTerminals.{route-decides}
use Rattle.fp_prices.specs.Rounds.{LeafModel}
use Rattle.fp_duals.specs.Improvements.{IsReachedChain}
use Rattle.fp_certificate_rules.proofs.Multiples.{rounded_up-more}
use Rattle.fp_session_history.specs.Notes.{History, last_round, points_of, worth_of}
use Rattle.fp_session.specs.declared.kept.Kept.{Kept}
use Rattle.fp_session.specs.Dividing.{EndsElsewhere, NoneSeveral}
use Rattle.fp_session.specs.Outcomes.{IsFound}

-- what costs so much in parts of a unit that its value is below a number of units costs fewer units
pub cost_below : (scale n value incumbent : ℕ) → 1 ≤ scale → scale * n ≤ value → div_ceil value scale < incumbent → n < incumbent
cost_below scale n value incumbent one le below =
    ⊎_elim
    (λ (less : n < incumbent). less)
    (λ (more : incumbent ≤ n).
    let least : div_ceil value scale + 1 ≤ n = omega (arith, below, more) in
    absurd (omega (arith, mul-le-mul_left scale least, le, div_ceil-holds value scale (omega (arith, one)), one)))
    (cases_lt n incumbent)

module _ (h : History) (net : TimedNetwork) (sides : List Side) (belongs : BelongsTo h.problem h.windows) (same : AgreeOnPoints h.problem (points_in net) (points_of h (last_round h))) where
  -- which classes are allowed over the points as of the last round
  abbrev allowed : ℕ → Leg → Bool
  allowed k = is_allowed h.problem (windows_in h.windows) (points_of h (last_round h)) sides k

  abbrev leaf : LeafModel
  leaf = record { setting = record { problem = h.problem; windows = h.windows; network = net }; sides = sides }

  -- the only walk of a shipment whose chain ends elsewhere is the chain
  walk-reached : (k : ℕ) (walk : List Leg) → k < length h.problem.shipments → EndsElsewhere leaf k → IsTimedWalk h.problem (points_of h (last_round h)) (allowed k) (shipment_at h.problem k) walk →
      IsReachedChain h.problem (allowed k) (shipment_at h.problem k) walk
  walk-reached k walk exists elsewhere timed =
      ⊎_elim
      (λ (reached : EndsAs h.problem (allowed k) s elsewhere.chain end.Reached).
      let is : walk ≡ elsewhere.chain =
      Reached-only_walk h.problem (allowed k) s elsewhere.chain walk forced reached (NoneLeaves-destination h.problem h.windows (points_of h (last_round h)) sides k (BelongsTo-FitsInstance h.problem h.windows belongs) exists) timed.leads timed.allowed_all in
      subst (IsReachedChain h.problem (allowed k) s) (sym is) (record { chain = forced; reached = reached }))
      (λ (stuck : (terminal : ℕ) × EndsAs h.problem (allowed k) s elsewhere.chain (end.Stuck terminal)).
      absurd (Stuck-no_walk h.problem (allowed k) s elsewhere.chain walk stuck.0 forced stuck.1 timed.leads timed.allowed_all))
      ends
    where
      s : Shipment
      s = shipment_at h.problem k

      over : is_allowed h.problem (windows_in h.windows) (points_in net) sides ≡ allowed
      over = is_allowed_same h.problem belongs.valid (points_in net) (points_of h (last_round h)) same (windows_in h.windows) sides

      forced : IsForcedChain h.problem (allowed k) s elsewhere.chain
      forced = subst (λ (a : ℕ → Leg → Bool). IsForcedChain h.problem (a k) s elsewhere.chain) over elsewhere.forced

      ends : EndsAs h.problem (allowed k) s elsewhere.chain end.Reached ⊎ ((terminal : ℕ) × EndsAs h.problem (allowed k) s elsewhere.chain (end.Stuck terminal))
      ends = subst
          (λ (a : ℕ → Leg → Bool). EndsAs h.problem (a k) s elsewhere.chain end.Reached ⊎ ((terminal : ℕ) × EndsAs h.problem (a k) s elsewhere.chain (end.Stuck terminal)))
          over elsewhere.ends

  -- so the walks are the chains
  walks-from : (i : ℕ) (ss : List Shipment) (ws : List (List Leg)) → i + length ss ≤ length h.problem.shipments → ((k : ℕ) → k < length ss → get_or ss k no_shipment ≡ shipment_at h.problem (i + k)) →
      NoneSeveral leaf (length h.problem.shipments) → AllZipFrom (λ k (s : Shipment) walk. IsTimedWalk h.problem (points_of h (last_round h)) (allowed k) s walk) i ss ws →
      AllZipFrom (λ k. IsReachedChain h.problem (allowed k)) i ss ws
  walks-from i [] [] le are none all = tt
  walks-from i [] (w ∷ ws) le are none all = absurd all
  walks-from i (s ∷ ss) [] le are none all = absurd all
  walks-from i (s ∷ ss) (w ∷ ws) le are none all =
      let own : s ≡ shipment_at h.problem i = are 0 (omega arith) ∙ ap (shipment_at h.problem) (let e : i + 0 ≡ i = omega arith in e) in (
        subst (λ (t : Shipment). IsReachedChain h.problem (allowed i) t w) (sym own)
            (walk-reached i w (omega (arith, le)) (none i (omega (arith, le))) (subst (λ (t : Shipment). IsTimedWalk h.problem (points_of h (last_round h)) (allowed i) t w) own all.0)),
        walks-from (i + 1) ss ws (omega (arith, le))
            (λ k lt. are (suc k) (omega (arith, lt)) ∙ ap (shipment_at h.problem) (let e : i + suc k ≡ i + 1 + k = omega arith in e)) none all.1,
      )

  -- and no terminal stands twice on one
  routes-from : (i : ℕ) (ss : List Shipment) (ws : List (List Leg)) → ((k : ℕ) → k < length ss → (get_or ss k no_shipment).from ≢ (get_or ss k no_shipment).to) →
      AllZipFrom (λ k. IsReachedChain h.problem (allowed k)) i ss ws → All (λ walk. AreDistinct (terminals_on h.problem walk)) ws
  routes-from i [] [] differ all = All-nil (λ walk. AreDistinct (terminals_on h.problem walk))
  routes-from i [] (w ∷ ws) differ all = absurd all
  routes-from i (s ∷ ss) [] differ all = absurd all
  routes-from i (s ∷ ss) (w ∷ ws) differ all =
      let route : IsRoute h.problem s (arcs_of w) =
      Reached-IsRoute h.problem (allowed i) s w (λ c on. allowed_exists h.problem (windows_in h.windows) (points_of h (last_round h)) sides i c on) (differ 0 (omega arith)) all.0.chain all.0.reached in
      All-cons (λ walk. AreDistinct (terminals_on h.problem walk)) w ws
      ((route-decides (AreDistinct (terminals_on h.problem w)) h.problem w ((λ a. a), (λ a. a)) s (differ 0 (omega arith)) route.leads).1 route)
      (routes-from (i + 1) ss ws (λ k lt. differ (suc k) (omega (arith, lt))) all.1)

  module _ (kept : Kept) (walks : List (List Leg)) (found : IsFound h sides kept walks) (none : NoneSeveral leaf (length h.problem.shipments)) where
    chains : AllZipFrom (λ k. IsReachedChain h.problem (allowed k)) 0 h.problem.shipments walks
    chains = walks-from 0 h.problem.shipments walks (omega arith) (λ k lt. ap (shipment_at h.problem) (let e : k ≡ 0 + k = omega arith in e)) none found.walks

    -- so they are routes
    pub NoneSeveral-routes : All (λ walk. AreDistinct (terminals_on h.problem walk)) walks
    NoneSeveral-routes = routes-from 0 h.problem.shipments walks (λ k lt. (belongs.valid.parts.shipments k no_shipment lt).ends) chains

    -- that cost less together than the incumbent
    pub NoneSeveral-cheaper : (incumbent : ℕ) → IfSome h.unit (λ u. 1 ≤ u) → worth_of h kept.value < incumbent → cost h.problem walks < incumbent
    NoneSeveral-cheaper incumbent some below =
        cost_below h.problem.scale (cost h.problem walks) kept.value incumbent belongs.valid.scale.0 (found.reached walks chains)
        (omega (arith, rounded_up-more h.unit (div_ceil kept.value h.problem.scale) some, below))
