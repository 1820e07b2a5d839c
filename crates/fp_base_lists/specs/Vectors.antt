-- The lists that vectors hold.
use Rattle.std.specs.Prelude.{List, map}
use Rattle.std.specs.declared.alloc.Global.{Global}
use Rattle.std.specs.declared.vec.Vec.{Vec}

-- the lists that vectors hold
abbrev pub lists_of : {X : Type 0} → List (Vec X Global) → List (List X)
lists_of {X} vectors = map (λ (v : Vec X Global). v.items) vectors
