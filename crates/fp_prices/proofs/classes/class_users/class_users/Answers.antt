use Rattle.std.proofs.Common.{ℕ, ◌≡◌, ◌+◌, ◌≤◌, ◌<◌, ◌^◌, List, [], length, get_or, take, drop, ◌*◌, subst, ap, ◌∙◌, sym, arith}
use Rattle.std.specs.Prelude.{Bool, if◌then◌else◌}
use Rattle.std.proofs.lemmas.List.{get_or_read, take_all}
use Rattle.fp_model.specs.Numbered.{no_shipment, shipment_at}
use Rattle.fp_model.specs.declared.parts.Shipment.{Shipment}
use Rattle.fp_rows.specs.Bits.{added_bits}
use Rattle.fp_allowed.specs.Bits.{bit_of}
use Rattle.fp_prices.specs.Prices.{allowed_count, allowed_size}
use Rattle.fp_prices.proofs.CountedUsers.{users_more}
use Rattle.fp_prices.proofs.SetBits.{whole_write}
use Rattle.fp_prices.proofs.classes.class_users.class_users.Goals as goal

pub add_to-requires-clause-room : goal.add_to-requires-clause-room
add_to-requires-clause-room c = rw c.deref_mut.ensures.value (λ k d h.
    let few : get_or c.loop-shipment.counts.items k d ≤ c.loop-shipment.shipment = c.loop-shipment.invariant.few k d h in
    omega (arith, few, c.shipments.ensures.valid.parts.few_shipments, ap (λ (l : List Shipment). length l) c.shipments.ensures.same))

pub add_size-requires-clause-room : goal.add_size-requires-clause-room
add_size-requires-clause-room c = rw c.deref_mut-in-loop-shipment.ensures.value (λ k d h.
    let p = c.args.instance.now in
    let i : ℕ = c.loop-shipment.shipment in
    let small : get_or c.loop-shipment.sizes.items k d ≤ i * 10 ^ 18 = c.loop-shipment.invariant.small k d h in
    let exists : i < length p.shipments = omega (arith, ap (λ (l : List Shipment). length l) c.shipments.ensures.same) in
    let size : (shipment_at p i).size ≤ 10 ^ 18 = (c.shipments.ensures.valid.parts.shipments i no_shipment exists).within.size.1 in
    omega (arith, small, size, exists, c.shipments.ensures.valid.parts.few_shipments, ap (λ (s : Shipment). s.size) c.shipment.ensures.same))

pub loop-shipment-preserved : goal.loop-shipment-preserved
loop-shipment-preserved c =
    let p = c.args.instance.now in
    let i : ℕ = c.loop-shipment.shipment in
    let so_far = c.loop-shipment.invariant in
    let row = c.index-rows-shipment.result in
    let exists : i < length p.shipments = omega (arith, ap (λ (l : List Shipment). length l) c.shipments.ensures.same) in
    let inside : i < length c.args.rows.now = omega (arith, c.requires.rows, exists) in
    let is = get_or_read c.args.rows.now i row inside c.index-rows-shipment.is [] in
    let long : length row ≡ c.args.classes = subst (λ (r : List Bool). length r ≡ c.args.classes) (sym is) (c.requires.long i [] inside) in
    let as_long : length c.add_size.new.sizes ≡ length c.loop-shipment.sizes.items = c.add_size.auto.sizes ∙ ap (λ (l : List ℕ). length l) c.deref_mut-in-loop-shipment.ensures.value in
    let counts : c.add_to.new.counts ≡ added_bits c.loop-shipment.counts.items row = c.add_to.ensures ∙ ap (λ (l : List ℕ). added_bits l row) c.deref_mut.ensures.value in
    let more = users_more p c.args.rows.now c.args.classes i row c.loop-shipment.counts.items c.loop-shipment.sizes.items c.add_size.new.sizes exists inside is long
    (c.shipments.ensures.valid.parts.shipments i no_shipment exists).within.size.1 so_far as_long
    (λ n. c.add_size.ensures n ∙ ap (λ (l : List ℕ). get_or l n 0 + (if bit_of row n then c.shipment.result.now.size else 0)) c.deref_mut-in-loop-shipment.ensures.value ∙
    ap (λ (s : Shipment). get_or c.loop-shipment.sizes.items n 0 + (if bit_of row n then s.size else 0)) c.shipment.ensures.same) in
    let first = whole_write c.loop-shipment.counts.len c.add_to.new.counts (drop (length c.add_to.new.counts) c.loop-shipment.counts.items) (omega (arith, c.loop-shipment.counts.ok, so_far.counts_long, more.counts_long, ap (λ (l : List ℕ). length l) counts)) ∙ counts in
    let second = whole_write c.loop-shipment.sizes.len c.add_size.new.sizes (drop (length c.add_size.new.sizes) c.loop-shipment.sizes.items) (omega (arith, c.loop-shipment.sizes.ok, as_long)) in
    rw (first, second) more

pub returns : goal.returns
returns c = λ net allowed are.
    let p = c.args.instance.now in
    let so_far = c.loop-shipment.invariant in
    let all : take c.loop-shipment.shipment p.shipments ≡ p.shipments = take_all c.loop-shipment.shipment p.shipments (omega (arith, ap (λ (l : List Shipment). length l) c.shipments.ensures.same)) in
    record {
      counts = λ k is. so_far.counted net allowed are k is ∙ ap (allowed_count (λ j. allowed j k) 0) all;
      sizes = λ k is. so_far.summed net allowed are k is ∙ ap (allowed_size (λ j. allowed j k) 0) all;
      counts_long = so_far.counts_long;
      sizes_long = so_far.sizes_long;
    }
