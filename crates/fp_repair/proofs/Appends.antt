-- What holds of each element, or of each and each later one, of two lists one after the other.
use Rattle.std.proofs.Common.{List, [], ◌∷◌, ◌++◌}
use Rattle.std.specs.Prelude.{All, AllPairs}
use Rattle.std.proofs.lemmas.List.Elements.{All-cons, All-head, All-nil, All-tail}
use Rattle.std.proofs.lemmas.List.Kept.{AllPairs-cons}
use Rattle.fp_base_lists.proofs.Pairs.{AllPairs-head, AllPairs-nil, AllPairs-tail}

module _ {X : Type 0} where
  -- of each element of the first list
  pub All-append_left : (P : X → Type 0) (xs ys : List X) → All P (xs ++ ys) → All P xs
  All-append_left P [] ys all = All-nil P
  All-append_left P (x ∷ xs) ys all =
      All-cons P x xs (All-head P x (xs ++ ys) all) (All-append_left P xs ys (All-tail P x (xs ++ ys) all))

  -- of each element but one
  pub All-without : (P : X → Type 0) (xs : List X) (y : X) (ys : List X) → All P (xs ++ (y ∷ ys)) → All P (xs ++ ys)
  All-without P [] y ys all = All-tail P y ys all
  All-without P (x ∷ xs) y ys all =
      All-cons P x (xs ++ ys) (All-head P x (xs ++ (y ∷ ys)) all) (All-without P xs y ys (All-tail P x (xs ++ (y ∷ ys)) all))

  -- of each pair of the first list
  pub AllPairs-append_left : (R : X → X → Type 0) (xs ys : List X) → AllPairs R (xs ++ ys) → AllPairs R xs
  AllPairs-append_left R [] ys all = AllPairs-nil R
  AllPairs-append_left R (x ∷ xs) ys all =
      AllPairs-cons R x xs (All-append_left (R x) xs ys (AllPairs-head R x (xs ++ ys) all))
      (AllPairs-append_left R xs ys (AllPairs-tail R x (xs ++ ys) all))

  -- of each pair without one element
  pub AllPairs-without : (R : X → X → Type 0) (xs : List X) (y : X) (ys : List X) → AllPairs R (xs ++ (y ∷ ys)) → AllPairs R (xs ++ ys)
  AllPairs-without R [] y ys all = AllPairs-tail R y ys all
  AllPairs-without R (x ∷ xs) y ys all =
      AllPairs-cons R x (xs ++ ys) (All-without (R x) xs y ys (AllPairs-head R x (xs ++ (y ∷ ys)) all))
      (AllPairs-without R xs y ys (AllPairs-tail R x (xs ++ (y ∷ ys)) all))
