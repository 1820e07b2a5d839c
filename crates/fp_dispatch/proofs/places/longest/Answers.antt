use Rattle.std.proofs.Common.{◌≤◌, ◌<◌, arith, length}
use Rattle.fp_base_lists.specs.Vectors.{lists_of}
use Rattle.fp_model.specs.declared.limits.TheConstants.{MOST_TERMINALS}
use Rattle.fp_dispatch.proofs.VectorItems.{length-lists_of, lists_of-item, short-next}
use Rattle.fp_dispatch.proofs.places.longest.Goals as goal
use Rattle.fp_dispatch.proofs.places.longest.Goals.{then-len-most, else-len-most}

pub loop-route-preserved : goal.loop-route-preserved
loop-route-preserved c =
    let most : c.loop-route.most ≤ c.if-len-most.most = elim c.if-len-most.branch [ then-len-most w ↦ omega arith | else-len-most w ↦ omega arith ] in
    let short : length c.route-item.result.items ≤ c.if-len-most.most =
    elim c.if-len-most.branch [ then-len-most w ↦ omega arith | else-len-most w ↦ omega arith ] in
    record {
      wide = short-next c.args.routes.now c.loop-route.route-index c.loop-route.most c.if-len-most.most c.route-item.result (omega arith) c.route-item.is short most c.loop-route.invariant.wide;
      short =
          let this = c.requires c.loop-route.route-index c.route-item.result.items (let h : c.loop-route.route-index < length (lists_of c.args.routes.now) = omega (arith, length-lists_of c.args.routes.now) in h) in
          let item = lists_of-item c.args.routes.now c.loop-route.route-index c.route-item.result c.route-item.result.items (omega arith) c.route-item.is in
          let fits : length c.route-item.result.items ≤ MOST_TERMINALS = rw (← item) this in
          elim c.if-len-most.branch [ then-len-most w ↦ omega (arith, fits) | else-len-most w ↦ omega arith ];
    }
