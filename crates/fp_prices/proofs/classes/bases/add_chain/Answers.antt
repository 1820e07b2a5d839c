use Rattle.std.proofs.Common.{ℕ, ◌+◌, ◌<◌, ◌^◌, length, get_or, refl, arith}
use Rattle.std.proofs.lemmas.List.{get_or_read}
use Rattle.fp_prices.proofs.ChainLoads.{added_before, added_more}
use Rattle.fp_prices.proofs.classes.bases.add_chain.Goals as goal

pub overflow_add-index_mut : goal.overflow_add-index_mut
overflow_add-index_mut c =
    let i : ℕ = c.loop-class.class-index in
    let x : ℕ = get_or c.args.classes.now i 0 in
    let so_far = c.loop-class.invariant in
    let inside : i < length c.args.classes.now = omega arith in
    let in_loads : x < length c.args.forced.now.loads.items = c.requires.loads i 0 inside in
    let read = get_or_read c.loop-class.forced.loads.items x c.index_mut.result.now (omega (arith, in_loads, so_far.loads_long)) c.index_mut.ensures.value 0 in
    let old = added_before c.args.size c.args.classes.now i c.args.forced.now.loads.items c.loop-class.forced.loads.items c.args.forced.now.row c.loop-class.forced.row c.requires.apart inside so_far in
    let room : get_or c.args.forced.now.loads.items x 0 + c.args.size < 2 ^ 128 = c.requires.room x 0 in_loads in
    omega (arith, read, old, room, c.from.ensures)

pub loop-class-preserved : goal.loop-class-preserved
loop-class-preserved c =
    let i : ℕ = c.loop-class.class-index in
    let x : ℕ = get_or c.args.classes.now i 0 in
    let so_far = c.loop-class.invariant in
    let inside : i < length c.args.classes.now = omega arith in
    let in_loads : x < length c.args.forced.now.loads.items = c.requires.loads i 0 inside in
    let in_row : x < length c.args.forced.now.row = c.requires.row i 0 inside in
    let read = get_or_read c.loop-class.forced.loads.items x c.index_mut.result.now (omega (arith, in_loads, so_far.loads_long)) c.index_mut.ensures.value 0 in
    rw c.set.ensures.bits
    (added_more c.args.size c.args.classes.now i x (c.index_mut.result.now + c.from.result) c.args.forced.now.loads.items c.loop-class.forced.loads.items c.args.forced.now.row c.loop-class.forced.row
    c.requires.apart inside refl in_loads in_row so_far (omega (arith, read, c.from.ensures)))
