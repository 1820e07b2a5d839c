-- How vectors hold a network.
use Rattle.std.specs.Prelude.{ℕ, ◌+◌, ◌<◌, ◌≤◌, ◌≡◌, List, length, take, slice_index, slice_index_or, vec_len, vec_capacity}
use Rattle.std.specs.declared.alloc.Global.{Global}
use Rattle.std.specs.declared.vec.Vec.{Vec}
use Rattle.fp_base_lists.specs.Vectors.{lists_of}
use Rattle.fp_longestarcs.specs.Networks.{TimedNetwork, copy_count, IsNetwork}

-- the network that vectors hold
abbrev pub network_of : List ℕ → List (Vec ℕ Global) → List (Vec ℕ Global) → TimedNetwork
network_of tails points heads = record { tails = tails; points = lists_of points; heads = lists_of heads }

-- for each arc how many classes the arcs before it have, and last how many there are
pub record AreOffsets (points : List (List ℕ)) (tails : List ℕ) (offsets : List ℕ) : Type 0 where
  pub count : length offsets ≡ length tails + 1
  pub each : (arc : ℕ) → arc ≤ length tails → slice_index offsets arc ≡ copy_count points (take arc tails)

-- a network with its offsets
pub record IsIndexedNetwork (net : TimedNetwork) (starts : List ℕ) : Type 0 where
  pub valid : IsNetwork net
  pub offsets : AreOffsets net.points net.tails starts

-- the vectors of a terminal's points and of each arc that leaves it have room for one more time
pub record HasRoom (tails : List ℕ) (terminal : ℕ) (points heads : List (Vec ℕ Global)) : Type 0 where
  pub point : (d : Vec ℕ Global) → vec_len (slice_index_or points terminal d) < vec_capacity (slice_index_or points terminal d)
  pub copies : (arc : ℕ) (d : Vec ℕ Global) → arc < length tails → slice_index tails arc ≡ terminal →
      vec_len (slice_index_or heads arc d) < vec_capacity (slice_index_or heads arc d)
