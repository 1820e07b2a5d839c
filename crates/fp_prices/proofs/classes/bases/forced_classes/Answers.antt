use Rattle.std.proofs.Common.{ℕ, ◌≡◌, ◌+◌, ◌≤◌, ◌<◌, ◌^◌, ◌||◌, Bool, List, [], length, get_or, replicate, sym, ap, ◌∙◌, subst, arith}
use Rattle.std.specs.Prelude.{All, if◌then◌else◌, false}
use Rattle.std.proofs.lemmas.List.{get_or_read}
use Rattle.fp_model.specs.declared.parts.Shipment.{Shipment}
use Rattle.fp_model.specs.Numbered.{no_shipment, shipment_at}
use Rattle.fp_model.specs.Problem.{Problem}
use Rattle.fp_base_lists.specs.Distinct.{AreDistinct}
use Rattle.fp_base_lists.specs.Membership.{list_has}
use Rattle.fp_tree.specs.declared.sides.Side.{Side}
use Rattle.fp_allowed.specs.Bits.{IsRowUnder, allowed_in, bit_of}
use Rattle.fp_allowed.specs.Chains.{IsForced}
use Rattle.fp_allowed.specs.ForcedChains.{ForcedChain}
use Rattle.fp_prices.specs.Forced.{AreRowsUnder}
use Rattle.fp_prices.proofs.ForcedSoFar.{none_forced_ok, numbers-apart, so_far_all, so_far_more, so_far_none}
use Rattle.fp_prices.proofs.classes.bases.forced_classes.Goals as goal

pub loop-shipment-init : goal.loop-shipment-init
loop-shipment-init c =
    so_far_none c.args.allowed.now c.args.rows.now c.in_ok-found.found (c.in_ok-found.ensures.loads ∙ ap (λ (n : ℕ). replicate n 0) c.requires.classes)
    (c.in_ok-found.ensures.row ∙ ap (λ (n : ℕ). replicate n false) c.requires.classes)

pub forced-requires-clause-row : goal.forced-requires-clause-row
forced-requires-clause-row c =
    let s = c.args.allowed.now in
    let i : ℕ = c.loop-shipment.shipment in
    let inside : i < length c.args.rows.now = omega (arith, c.requires.rows, ap (λ (l : List Shipment). length l) c.shipments.ensures.same) in
    let row_is = get_or_read c.args.rows.now i c.index-rows-shipment.result inside c.index-rows-shipment.is [] in
    ap (λ (r : List Bool). length r) row_is ∙ (c.requires.under.1 i inside).long

pub add_chain-requires-clause-apart : goal.add_chain-requires-clause-apart
add_chain-requires-clause-apart c =
    let s = c.args.allowed.now in
    let i : ℕ = c.loop-shipment.shipment in
    let inside : i < length c.args.rows.now = omega (arith, c.requires.rows, ap (λ (l : List Shipment). length l) c.shipments.ensures.same) in
    let row_is = get_or_read c.args.rows.now i c.index-rows-shipment.result inside c.index-rows-shipment.is [] in
    let sides : List Side = c.requires.under.0 in
    let is : IsForced s.problem s.network (allowed_in s sides i) (shipment_at s.problem i) c.in_ok-chain.chain =
    c.in_ok-chain.ensures sides (subst (λ (r : List Bool). IsRowUnder s sides i r) (sym row_is) (c.requires.under.1 i inside)) in
    let numbers : c.deref.result.now ≡ c.in_ok-chain.chain.classes = c.deref.ensures.value ∙ ap (λ (x : ForcedChain). x.classes) c.chain.view_is in
    subst AreDistinct (sym numbers) (numbers-apart s sides i c.in_ok-chain.chain is)

pub add_chain-requires-clause-loads : goal.add_chain-requires-clause-loads
add_chain-requires-clause-loads c =
    let s = c.args.allowed.now in
    let i : ℕ = c.loop-shipment.shipment in
    let inside : i < length c.args.rows.now = omega (arith, c.requires.rows, ap (λ (l : List Shipment). length l) c.shipments.ensures.same) in
    let row_is = get_or_read c.args.rows.now i c.index-rows-shipment.result inside c.index-rows-shipment.is [] in
    let sides : List Side = c.requires.under.0 in
    let is : IsForced s.problem s.network (allowed_in s sides i) (shipment_at s.problem i) c.in_ok-chain.chain =
    c.in_ok-chain.ensures sides (subst (λ (r : List Bool). IsRowUnder s sides i r) (sym row_is) (c.requires.under.1 i inside)) in
    let numbers : c.deref.result.now ≡ c.in_ok-chain.chain.classes = c.deref.ensures.value ∙ ap (λ (x : ForcedChain). x.classes) c.chain.view_is in
    subst (λ (l : List ℕ). All (λ n. n < length c.loop-shipment.found.loads.items) l) (sym numbers)
    (subst (λ (m : ℕ). All (λ n. n < m) c.in_ok-chain.chain.classes) (sym c.loop-shipment.invariant.loads_long) is.within)

pub add_chain-requires-clause-row : goal.add_chain-requires-clause-row
add_chain-requires-clause-row c =
    let s = c.args.allowed.now in
    let i : ℕ = c.loop-shipment.shipment in
    let inside : i < length c.args.rows.now = omega (arith, c.requires.rows, ap (λ (l : List Shipment). length l) c.shipments.ensures.same) in
    let row_is = get_or_read c.args.rows.now i c.index-rows-shipment.result inside c.index-rows-shipment.is [] in
    let sides : List Side = c.requires.under.0 in
    let is : IsForced s.problem s.network (allowed_in s sides i) (shipment_at s.problem i) c.in_ok-chain.chain =
    c.in_ok-chain.ensures sides (subst (λ (r : List Bool). IsRowUnder s sides i r) (sym row_is) (c.requires.under.1 i inside)) in
    let numbers : c.deref.result.now ≡ c.in_ok-chain.chain.classes = c.deref.ensures.value ∙ ap (λ (x : ForcedChain). x.classes) c.chain.view_is in
    subst (λ (l : List ℕ). All (λ n. n < length c.loop-shipment.found.row) l) (sym numbers)
    (subst (λ (m : ℕ). All (λ n. n < m) c.in_ok-chain.chain.classes) (sym c.loop-shipment.invariant.row_long) is.within)

pub loop-shipment-preserved : goal.loop-shipment-preserved
loop-shipment-preserved c =
    let s = c.args.allowed.now in
    let i : ℕ = c.loop-shipment.shipment in
    let exists : i < length s.problem.shipments = omega (arith, ap (λ (l : List Shipment). length l) c.shipments.ensures.same, ap (λ (p : Problem). length p.shipments) c.requires.same) in
    let inside : i < length c.args.rows.now = omega (arith, c.requires.rows, ap (λ (l : List Shipment). length l) c.shipments.ensures.same) in
    let row_is = get_or_read c.args.rows.now i c.index-rows-shipment.result inside c.index-rows-shipment.is [] in
    let numbers : c.deref.result.now ≡ c.in_ok-chain.chain.classes = c.deref.ensures.value ∙ ap (λ (x : ForcedChain). x.classes) c.chain.view_is in
    let size_is : c.shipment.result.now.size ≡ (shipment_at s.problem i).size = ap (λ (x : Shipment). x.size) c.shipment.ensures.same ∙ ap (λ (p : Problem). (shipment_at p i).size) c.requires.same in
    let small : (shipment_at c.args.instance.now i).size ≤ 10 ^ 18 = (c.shipments.ensures.valid.parts.shipments i no_shipment (omega (arith, ap (λ (l : List Shipment). length l) c.shipments.ensures.same))).within.size.1 in
    let forced : (sides : List Side) → AreRowsUnder s sides c.args.rows.now → IsForced s.problem s.network (allowed_in s sides i) (shipment_at s.problem i) c.in_ok-chain.chain =
    λ sides are. c.in_ok-chain.ensures sides (subst (λ (r : List Bool). IsRowUnder s sides i r) (sym row_is) (are i inside)) in
    let known = forced c.requires.under.0 c.requires.under.1 in
    so_far_more s c.args.rows.now i c.loop-shipment.found c.add_chain.new.forced c.in_ok-chain.chain.classes c.requires.whole.valid exists
    (omega (arith, small, ap (λ (p : Problem). (shipment_at p i).size) c.requires.same)) c.loop-shipment.invariant known.within (λ sides are. (forced sides are).forced)
    c.add_chain.ensures.loads_long c.add_chain.ensures.row_long
    (λ n. c.add_chain.ensures.loads n ∙ ap (λ (l : List ℕ). get_or c.loop-shipment.found.loads.items n 0 + (if list_has l n then c.shipment.result.now.size else 0)) numbers ∙
    ap (λ (m : ℕ). get_or c.loop-shipment.found.loads.items n 0 + (if list_has c.in_ok-chain.chain.classes n then m else 0)) size_is)
    (λ n. c.add_chain.ensures.row n ∙ ap (λ (l : List ℕ). bit_of c.loop-shipment.found.row n || list_has l n) numbers)

pub returns : goal.returns
returns c =
    rw c.if-not-forced.false
    (so_far_all c.args.allowed.now c.args.rows.now c.loop-shipment.shipment c.loop-shipment.found c.loop-shipment.invariant
    (omega (arith, ap (λ (l : List Shipment). length l) c.shipments.ensures.same, ap (λ (p : Problem). length p.shipments) c.requires.same)))

pub returns-then-not-forced : goal.returns-then-not-forced
returns-then-not-forced c =
    none_forced_ok c.args.allowed.now c.args.rows.now c.args.classes c.args.forced c.no_chains.result c.if-not-forced.true c.requires.classes c.no_chains.ensures.loads c.no_chains.ensures.row
