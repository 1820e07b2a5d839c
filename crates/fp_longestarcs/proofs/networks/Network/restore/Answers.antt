-- Lifted heads leave the classes as they are.
use Rattle.std.proofs.Common.{◌≡◌, length, drop, sym, subst, arith}
use Rattle.std.proofs.lemmas.List.{take_at}
use Rattle.fp_longestarcs.specs.Networks.{TimedNetwork, IsNetwork}
use Rattle.fp_longestarcs.specs.Vectors.{network_of}
use Rattle.fp_longestarcs.specs.Changes.{restored}
use Rattle.fp_longestarcs.proofs.NewPoints.{restored-valid}
use Rattle.fp_longestarcs.proofs.networks.Network.restore.Goals as goal

pub invariant_of-self : goal.invariant_of-self
invariant_of-self c =
    let net : TimedNetwork = network_of c.self.inside.tails.items c.self.inside.points.items c.self.inside.heads.items in
    let heads = take_at c.lift_copies.new.heads (drop (length c.lift_copies.new.heads) c.self.inside.heads.items) c.self.inside.heads.len (omega arith) in
    let is : network_of c.self.inside.tails.items c.self.inside.points.items c.lift_copies.new.heads ≡ restored c.args.instance.now net c.args.terminal c.args.at = cc in
    rw heads (record {
      valid = subst IsNetwork (sym is) (restored-valid c.args.instance.now net c.args.terminal c.args.at c.self.invariant.valid);
      offsets = c.self.invariant.offsets;
    })
