-- Lists whose elements are paired place by place.
use Rattle.std.proofs.Common.{◌≡◌, List, [], ◌∷◌, ◌++◌, length, refl, arith}
use Rattle.std.specs.List.{AllZip}

-- they are as long
pub AllZip-length : {X Y : Type 0} (Q : X → Y → Type 0) (xs : List X) (ys : List Y) → AllZip Q xs ys → length ys ≡ length xs
AllZip-length Q [] [] all = refl
AllZip-length Q [] (y ∷ ys) all = absurd all
AllZip-length Q (x ∷ xs) [] all = absurd all
AllZip-length Q (x ∷ xs) (y ∷ ys) all = omega (arith, AllZip-length Q xs ys all.1)

-- and others may come after them
pub AllZip-append : {X Y : Type 0} (Q : X → Y → Type 0) (xs : List X) (ys : List Y) (more : List X) (others : List Y) → AllZip Q xs ys → AllZip Q more others → AllZip Q (xs ++ more) (ys ++ others)
AllZip-append Q [] [] more others all after = after
AllZip-append Q [] (y ∷ ys) more others all after = absurd all
AllZip-append Q (x ∷ xs) [] more others all after = absurd all
AllZip-append Q (x ∷ xs) (y ∷ ys) more others all after = (all.0, AllZip-append Q xs ys more others all.1 after)
