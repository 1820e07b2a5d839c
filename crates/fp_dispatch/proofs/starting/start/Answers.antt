use Rattle.std.proofs.Common.{◌≡◌, ◌∙◌, ℕ, ◌+◌, ◌*◌, ◌<◌, Option, None, List, [], length, get_or, ⊎_elim, sym, ap, subst, arith}
use Rattle.std.specs.Prelude.{All, IsSomeAnd, MatchOption}
use Rattle.std.proofs.lemmas.Bool.{cases_eq}
use Rattle.std.proofs.lemmas.Nat.{mul-add-lt}
use Rattle.fp_base_lists.specs.Vectors.{lists_of}
use Rattle.fp_flatnet.specs.declared.window_tables.Window.{Window}
use Rattle.fp_flatnet.specs.Tables.{windows_in}
use Rattle.fp_dispatch.specs.Rising.{place_of, value_at}
use Rattle.fp_dispatch.specs.Times.{window_of}
use Rattle.fp_dispatch.proofs.VectorItems.{length-lists_of, lists_of-item}
use Rattle.fp_dispatch.proofs.starting.start.Goals as goal

pub start_route-requires-clause-arcs : goal.start_route-requires-clause-arcs
start_route-requires-clause-arcs c =
    let k : ℕ = c.loop-shipment.shipment in
    let lt : k < length (lists_of c.args.routes.now) = omega (arith, length-lists_of c.args.routes.now) in
    let item : get_or (lists_of c.args.routes.now) k [] ≡ c.deref.result.now =
    lists_of-item c.args.routes.now k c.index-routes-shipment.result [] (omega arith) c.index-routes-shipment.is ∙ sym c.deref.ensures.value in
    subst (All (λ a. a < length c.args.windows.now.tails)) item (c.requires.arcs k [] lt)

pub start_route-requires-clause-short : goal.start_route-requires-clause-short
start_route-requires-clause-short c =
    let k : ℕ = c.loop-shipment.shipment in
    let lt : k < length (lists_of c.args.routes.now) = omega (arith, length-lists_of c.args.routes.now) in
    let item : get_or (lists_of c.args.routes.now) k [] ≡ c.deref.result.now =
    lists_of-item c.args.routes.now k c.index-routes-shipment.result [] (omega arith) c.index-routes-shipment.is ∙ sym c.deref.ensures.value in
    omega (arith, c.requires.wide k [] lt, ap (λ (ns : List ℕ). length ns) item)

pub loop-shipment-preserved : goal.loop-shipment-preserved
loop-shipment-preserved c =
    let k : ℕ = c.loop-shipment.shipment in
    let routes : List (List ℕ) = lists_of c.args.routes.now in
    let width : ℕ = c.args.width in
    let windows : ℕ → ℕ → Option Window = windows_in c.args.windows.now in
    let new : List ℕ = c.start_route.new.values in
    let item : get_or routes k [] ≡ c.deref.result.now =
    lists_of-item c.args.routes.now k c.index-routes-shipment.result [] (omega arith) c.index-routes-shipment.is ∙ sym c.deref.ensures.value in
    let starts : (i : ℕ) → i < length c.deref.result.now → IsSomeAnd (windows k (get_or c.deref.result.now i 0)) (λ w. get_or new (k * width + i) 0 ≡ w.lo) =
    subst (λ (o : Option ℕ). MatchOption o
    ((i : ℕ) → i < length c.deref.result.now → IsSomeAnd (windows k (get_or c.deref.result.now i 0)) (λ w. get_or new (k * width + i) 0 ≡ w.lo))
    (λ leg. (leg < length c.deref.result.now) × (windows k (get_or c.deref.result.now leg 0) ≡ None))) c.in_default.is c.start_route.ensures.starts in
    let named : (i : ℕ) → i < length (get_or routes k []) → IsSomeAnd (windows k (get_or (get_or routes k []) i 0)) (λ w. get_or new (k * width + i) 0 ≡ w.lo) =
    subst (λ (ns : List ℕ). (i : ℕ) → i < length ns → IsSomeAnd (windows k (get_or ns i 0)) (λ w. get_or new (k * width + i) 0 ≡ w.lo)) (sym item) starts in
    record {
      long = omega (arith, c.loop-shipment.invariant.long, c.start_route.auto.values);
      starts = λ m is less.
          ⊎_elim
          (λ (same : m.shipment ≡ k).
          let at : (i : ℕ) → i < length (get_or routes m.shipment []) → IsSomeAnd (windows m.shipment (get_or (get_or routes m.shipment []) i 0)) (λ w. get_or new (m.shipment * width + i) 0 ≡ w.lo) =
          subst (λ (j : ℕ). (i : ℕ) → i < length (get_or routes j []) → IsSomeAnd (windows j (get_or (get_or routes j []) i 0)) (λ w. get_or new (j * width + i) 0 ≡ w.lo)) (sym same) named in
          at m.leg is.leg)
          (λ (other : m.shipment ≡ k → ⊥).
          let earlier : m.shipment < k = omega (arith, less, other) in
          let narrow : m.leg < width = omega (arith, c.requires.wide m.shipment [] is.shipment, is.leg) in
          let place : m.shipment * width + m.leg < width * k = mul-add-lt m.shipment width m.leg k earlier narrow in
          let kept : value_at width new m ≡ value_at width c.loop-shipment.values m = c.start_route.ensures.others (place_of width m) (omega (arith, place)) in
          subst (λ (n : ℕ). IsSomeAnd (window_of windows routes m) (λ w. n ≡ w.lo)) (sym kept) (c.loop-shipment.invariant.starts m is earlier))
          (cases_eq m.shipment k);
    }
