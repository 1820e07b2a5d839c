-- The parts make the whole network of the instance.
use Rattle.std.proofs.Common.{◌≡◌, ℕ, List, [], length, get_or, drop, sym, ap, ◌∙◌, subst, arith}
use Rattle.std.specs.declared.alloc.Global.{Global}
use Rattle.std.specs.declared.vec.Vec.{Vec}
use Rattle.std.proofs.lemmas.List.{take_at, length-map}
use Rattle.fp_model.specs.Problem.{Problem}
use Rattle.fp_longestarcs.specs.Networks.{TimedNetwork}
use Rattle.fp_longestarcs.specs.Vectors.{AreOffsets, network_of}
use Rattle.fp_base_lists.specs.Vectors.{lists_of}
use Rattle.fp_longestarcs.specs.Whole.{heads_of, arc_tails}
use Rattle.fp_longestarcs.proofs.FourProperties.{HasProperties-network}
use Rattle.fp_longestarcs.proofs.WholeNetworks.{tails-within, IsWholeNetwork-parts}
use Rattle.fp_longestarcs.proofs.PointCounts.{count-made}
use Rattle.fp_longestarcs.proofs.networks.Network.of.Goals as goal

pub count_classes-requires-clause-tails : goal.count_classes-requires-clause-tails
count_classes-requires-clause-tails c k d h =
    let p : Problem = c.args.instance.now in
    let tails : c.deref-2.result.now ≡ arc_tails p.arcs = c.deref-2.ensures.value ∙ c.in_ok-tails.ensures in
    let one : get_or c.deref-2.result.now k d ≡ get_or (arc_tails p.arcs) k d = ap (λ (l : List ℕ). get_or l k d) tails in
    let many : length c.deref-3.result.now ≡ length (lists_of c.in_ok-times.times.items) =
    ap (λ (l : List (Vec ℕ Global)). length l) c.deref-3.ensures.value ∙ sym (length-map c.in_ok-times.times.items (λ (v : Vec ℕ Global). v.items)) in
    omega (arith, tails-within p c.terminals.ensures.valid k d (omega (arith, ap (λ (l : List ℕ). length l) tails)), one, many, c.in_ok-times.ensures.count, ap (λ (l : List (List ℕ)). length l) c.terminals.ensures.same)

pub returns-clause-whole : goal.returns-clause-whole
returns-clause-whole c =
    let p : Problem = c.args.instance.now in
    let net : TimedNetwork = network_of c.in_ok-tails.tails.items c.in_ok-times.times.items c.in_ok-heads.heads.items in
    let terminals : length c.terminals.result.now ≡ length p.terminals = ap (λ (l : List (List ℕ)). length l) c.terminals.ensures.same in
    let heads : net.heads ≡ heads_of p (λ t. get_or (lists_of c.in_ok-times.times.items) t []) =
    c.in_ok-heads.ensures ∙ ap (λ (l : List (Vec ℕ Global)). heads_of p (λ t. get_or (lists_of l) t [])) c.deref.ensures.value in
    record {
      whole = IsWholeNetwork-parts p net c.terminals.ensures.valid (record { tails = c.in_ok-tails.ensures; terminals = c.in_ok-times.ensures.count ∙ terminals }) c.in_ok-times.ensures.are heads;
      points = λ terminal h. c.in_ok-times.ensures.same terminal (omega (arith, h, terminals));
    }

pub returns-clause-properties : goal.returns-clause-properties
returns-clause-properties c =
    HasProperties-network c.args.instance.now c.args.points.now c.args.round (network_of c.in_ok-tails.tails.items c.in_ok-times.times.items c.in_ok-heads.heads.items) c.terminals.ensures.valid (returns-clause-whole c)

pub returns-clause-few : goal.returns-clause-few
returns-clause-few c =
    let net : TimedNetwork = network_of c.in_ok-tails.tails.items c.in_ok-times.times.items c.in_ok-heads.heads.items in
    let made = returns-clause-whole c in
    let terminals : length net.points ≡ length c.args.instance.now.terminals = made.whole.arcs.terminals in
    omega (arith, count-made c.args.points.now c.args.round net made.whole.valid (λ t h. made.points t (omega (arith, h, terminals))), terminals, c.requires)

pub invariant_of-result : goal.invariant_of-result
invariant_of-result c =
    let offsets = take_at c.count_classes.new.offsets (drop (length c.count_classes.new.offsets) c.in_ok-offsets.offsets.items) c.in_ok-offsets.offsets.len (omega arith) in
    let tails : AreOffsets (lists_of c.deref-3.result.now) c.in_ok-tails.tails.items c.count_classes.new.offsets =
    subst (λ (l : List ℕ). AreOffsets (lists_of c.deref-3.result.now) l c.count_classes.new.offsets) c.deref-2.ensures.value c.count_classes.ensures in
    rw offsets (record {
      valid = (returns-clause-whole c).whole.valid;
      offsets = subst (λ (l : List (Vec ℕ Global)). AreOffsets (lists_of l) c.in_ok-tails.tails.items c.count_classes.new.offsets) c.deref-3.ensures.value tails;
    })
