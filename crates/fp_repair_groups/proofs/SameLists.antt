-- Lists that hold the same after a vector among them is written.
use Rattle.std.proofs.Common.{◌≡◌, ℕ, List, get_or, set}
use Rattle.std.specs.declared.alloc.Global.{Global}
use Rattle.std.specs.declared.vec.Vec.{Vec}
use Rattle.std.proofs.Math.Seq.{map-set_same}
use Rattle.fp_base_lists.specs.Vectors.{lists_of}

-- writing a vector that holds the same changes no list
pub lists_of-written : {X : Type 0} (vectors : List (Vec X Global)) (i : ℕ) (v d : Vec X Global) → v.items ≡ (get_or vectors i d).items → lists_of (set vectors i v) ≡ lists_of vectors
lists_of-written {X} vectors i v d same = map-set_same (λ (w : Vec X Global). w.items) vectors i v d same
