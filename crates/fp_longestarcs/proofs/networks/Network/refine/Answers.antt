-- What the vectors hold is what was written.
use Rattle.std.proofs.Common.{ℕ, List, length, drop, subst, arith}
use Rattle.std.proofs.lemmas.List.{take_at}
use Rattle.fp_longestarcs.specs.Vectors.{network_of, IsIndexedNetwork}
use Rattle.fp_longestarcs.proofs.networks.Network.refine.Goals as goal

pub invariant_of-self : goal.invariant_of-self
invariant_of-self c =
    let points = take_at c.add_point.new.points (drop (length c.add_point.new.points) c.self.inside.points.items) c.self.inside.points.len (omega arith) in
    let heads = take_at c.add_point.new.heads (drop (length c.add_point.new.heads) c.self.inside.heads.items) c.self.inside.heads.len (omega arith) in
    let offsets = take_at c.add_point.new.offsets (drop (length c.add_point.new.offsets) c.self.inside.offsets.items) c.self.inside.offsets.len (omega arith) in
    rw (points, heads, offsets) (subst (λ (l : List ℕ). IsIndexedNetwork (network_of l c.add_point.new.points c.add_point.new.heads) c.add_point.new.offsets) c.deref.ensures.value c.add_point.ensures.indexed)
