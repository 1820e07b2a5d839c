use Rattle.std.proofs.Common.{◌≡◌, ◌<◌, ℕ, List, [], ◌++◌, length, get_or, ⊎_elim, sym, ap, subst, arith}
use Rattle.std.specs.Prelude.{All, Contains}
use Rattle.std.proofs.lemmas.Bool.{cases_eq}
use Rattle.std.proofs.lemmas.List.Elements.{All-append, Contains-append_left, Contains-append_right}
use Rattle.fp_base_lists.specs.Vectors.{lists_of}
use Rattle.fp_model.specs.declared.parts.Member.{Member}
use Rattle.fp_model.specs.Members.{IsMemberOf}
use Rattle.fp_dispatch.specs.Rising.{legs_below}
use Rattle.fp_dispatch.proofs.TimedLegs.{legs_below-every, legs_below-members}
use Rattle.fp_dispatch.proofs.VectorItems.{length-lists_of, lists_of-item}
use Rattle.fp_dispatch.proofs.gathering.all_legs.Goals as goal

pub overflow_cast-len : goal.overflow_cast-len
overflow_cast-len c =
    let v = c.index-routes-shipment.result in
    let k = c.loop-shipment.shipment in
    let lt : k < length (lists_of c.args.routes.now) = omega (arith, length-lists_of c.args.routes.now) in
    let item : get_or (lists_of c.args.routes.now) k v.items ≡ v.items = lists_of-item c.args.routes.now k v v.items (omega arith) c.index-routes-shipment.is in
    omega (arith, c.requires.short k v.items lt, ap (λ (ns : List ℕ). length ns) item)

pub loop-shipment-preserved : goal.loop-shipment-preserved
loop-shipment-preserved c =
    let v = c.index-routes-shipment.result in
    let k : ℕ = c.loop-shipment.shipment in
    let routes : List (List ℕ) = lists_of c.args.routes.now in
    let lt : k < length routes = omega (arith, length-lists_of c.args.routes.now) in
    let item : get_or routes k [] ≡ v.items = lists_of-item c.args.routes.now k v [] (omega arith) c.index-routes-shipment.is in
    let long : length (get_or routes k []) ≡ c.len.result = omega (arith, ap (λ (ns : List ℕ). length ns) item) in
    let added : c.push_legs.new.legs.items ≡ c.loop-shipment.legs.items ++ legs_below k c.len.result = c.in_ok-push_legs.ensures in
    record {
      members = subst (All (IsMemberOf routes)) (sym added)
          (All-append (IsMemberOf routes) c.loop-shipment.legs.items (legs_below k c.len.result) c.loop-shipment.invariant.members
          (legs_below-members routes k c.len.result lt (omega (arith, long))));
      every = λ m is less. subst (λ (ms : List Member). Contains ms m) (sym added)
          (⊎_elim
          (λ (same : m.shipment ≡ k).
          let inside : m.leg < c.len.result = omega (arith, is.leg, long, ap (λ (j : ℕ). length (get_or routes j [])) same) in
          Contains-append_right c.loop-shipment.legs.items (legs_below k c.len.result) m
          (subst (λ (j : ℕ). Contains (legs_below k c.len.result) (record { shipment = j; leg = m.leg })) (sym same) (legs_below-every k c.len.result m.leg inside)))
          (λ (other : m.shipment ≡ k → ⊥).
          Contains-append_left c.loop-shipment.legs.items (legs_below k c.len.result) m (c.loop-shipment.invariant.every m is (omega (arith, less, other))))
          (cases_eq m.shipment k));
    }
