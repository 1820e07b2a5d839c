use Rattle.std.proofs.Common.{◌≡◌, ℕ, ◌<◌, List, [], length, get_or, ⊎_elim, refl, subst, sym, ap, ◌∙◌, arith}
use Rattle.std.proofs.lemmas.Bool.{cases_eq, false≢true}
use Rattle.std.proofs.lemmas.List.{get_or_read}
use Rattle.fp_model.specs.declared.parts.Leg.{Leg}
use Rattle.fp_model.specs.declared.parts.Shipment.{Shipment}
use Rattle.fp_model.specs.Numbered.{shipment_at}
use Rattle.fp_model.specs.Problem.{Problem}
use Rattle.fp_duals_walks.specs.AllowedWalks.{IsAllowedWalk}
use Rattle.fp_duals_walks.proofs.AllowedWalks.{walk-at, walks-all, walks-long}
use Rattle.fp_duals_walks.proofs.allowed_walks.are_allowed_walks.Goals as goal

pub returns-then-long-count : goal.returns-then-long-count
returns-then-long-count c = (
  λ told. absurd (false≢true told),
  λ all.
      let counted : length c.shipments-count.result.now ≡ length c.args.leaf.now.setting.problem.shipments =
      ap (λ (l : List Shipment). length l) c.shipments-count.ensures.same ∙ ap (λ (p : Problem). length p.shipments) c.instance.ensures.same ∙ ap (λ (p : Problem). length p.shipments) c.round.ensures.problem in
      absurd (omega (arith, walks-long c.args.leaf.now c.args.walks.now all, counted)),
)

pub returns-then-not-is_allowed_walk : goal.returns-then-not-is_allowed_walk
returns-then-not-is_allowed_walk c = (
  λ told. absurd (false≢true told),
  λ all.
      let leaf = c.args.leaf.now in
      let i : ℕ = c.loop-shipment.shipment in
      let counted : length c.shipments-count.result.now ≡ length leaf.setting.problem.shipments =
      ap (λ (l : List Shipment). length l) c.shipments-count.ensures.same ∙ ap (λ (p : Problem). length p.shipments) c.instance.ensures.same ∙ ap (λ (p : Problem). length p.shipments) c.round.ensures.problem in
      let inside : i < length leaf.setting.problem.shipments = omega (arith, counted) in
      let within : i < length c.args.walks.now = omega (arith, inside, walks-long leaf c.args.walks.now all) in
      let is : c.index-walks-shipment.result ≡ get_or c.args.walks.now i [] = get_or_read c.args.walks.now i c.index-walks-shipment.result within c.index-walks-shipment.is [] in
      let there = walk-at leaf c.args.walks.now i all inside in
      absurd (false≢true (sym c.if-not-is_allowed_walk.true
      ∙ c.is_allowed_walk.ensures.1 (subst (λ (w : List Leg). IsAllowedWalk leaf i (shipment_at leaf.setting.problem i) w) (sym is) there))),
)

pub loop-shipment-preserved : goal.loop-shipment-preserved
loop-shipment-preserved c = λ k lt.
    let leaf = c.args.leaf.now in
    let i : ℕ = c.loop-shipment.shipment in
    let within : i < length c.args.walks.now = omega arith in
    let is : c.index-walks-shipment.result ≡ get_or c.args.walks.now i [] = get_or_read c.args.walks.now i c.index-walks-shipment.result within c.index-walks-shipment.is [] in
    let here : IsAllowedWalk leaf i (shipment_at leaf.setting.problem i) (get_or c.args.walks.now i []) =
    subst (λ (w : List Leg). IsAllowedWalk leaf i (shipment_at leaf.setting.problem i) w) is (c.is_allowed_walk.ensures.0 c.if-not-is_allowed_walk.false) in
    ⊎_elim
    (λ (same : k ≡ i). subst (λ (n : ℕ). IsAllowedWalk leaf n (shipment_at leaf.setting.problem n) (get_or c.args.walks.now n [])) (sym same) here)
    (λ (other : k ≡ i → ⊥). c.loop-shipment.invariant k (let less : k < i = omega (arith, lt, other) in less))
    (cases_eq k i)

pub returns : goal.returns
returns c = (
  λ told.
      let leaf = c.args.leaf.now in
      let counted : length c.shipments-count.result.now ≡ length leaf.setting.problem.shipments =
      ap (λ (l : List Shipment). length l) c.shipments-count.ensures.same ∙ ap (λ (p : Problem). length p.shipments) c.instance.ensures.same ∙ ap (λ (p : Problem). length p.shipments) c.round.ensures.problem in
      let long : length c.args.walks.now ≡ length leaf.setting.problem.shipments = omega (arith, counted) in
      walks-all leaf c.args.walks.now long (λ k lt. c.loop-shipment.invariant k (let less : k < c.loop-shipment.shipment = omega (arith, lt, counted) in less)),
  λ all. refl,
)
