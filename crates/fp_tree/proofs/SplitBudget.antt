-- How many splits a tree can have, where a measure of the sides falls at both children of each
-- split.
use Rattle.std.proofs.Common.{◌≡◌, ℕ, ◌+◌, ◌*◌, ◌^◌, ◌<◌, ◌≤◌, List, [], ◌∷◌, ◌++◌, ⊎_elim, length, All, ap, subst, arith}
use Rattle.std.specs.Prelude.{Option, Some, None, IfSome}
use Rattle.std.proofs.lemmas.Bool.{cases_lt}
use Rattle.std.proofs.lemmas.List.Elements.{All-head, All-tail}
use Rattle.std.proofs.lemmas.Nat.{pow-add, pow_below, pow_pos}
use Rattle.fp_tree.specs.declared.sides.Side.{Side}
use Rattle.fp_tree.specs.Sides.{Fork, first, second}
use Rattle.fp_tree.specs.Trees.{Branch, FallsBelow, branches_of, tree_branches}
use Rattle.fp_tree.proofs.Branches.{branches_of-leaf, branches_of-split, fork_cases, pending_below}

-- twice a power of two is at most each greater one
double_pow : (a m : ℕ) → a < m → 2 * 2 ^ a ≤ 2 ^ m
double_pow a m less =
    ⊎_elim
    (λ (more : a + 1 < m). omega (arith, pow-add 2 a 1, pow_below (a + 1) m more))
    (λ (last : m ≤ a + 1).
    let same : a + 1 ≡ m = omega arith in
    let equal : 2 ^ (a + 1) ≡ 2 ^ m = ap (λ (n : ℕ). 2 ^ n) same in
    omega (arith, pow-add 2 a 1, equal))
    (cases_lt (a + 1) m)

module _ {X : Type 0} (fork_of : X → Option Fork) (measure : List Side → ℕ) where
  -- two to the measure of the sides of each tree to come, in all
  abbrev powers : List (List Side) → ℕ
  powers [] = 0
  powers (sides ∷ pending) = 2 ^ measure sides + powers pending

  -- the splits and trees to come are at most as many
  length-branches_of_le : (nodes : List X) (pending : List (List Side)) → All (FallsBelow fork_of measure) (branches_of fork_of pending nodes) →
      length (branches_of fork_of pending nodes) + length pending ≤ powers pending
  length-branches_of_le [] [] falls = omega arith
  length-branches_of_le [] (sides ∷ pending) falls = omega (arith, length-branches_of_le [] pending falls, pow_pos (measure sides))
  length-branches_of_le (x ∷ nodes) [] falls = omega arith
  length-branches_of_le (x ∷ nodes) (sides ∷ pending) falls =
      ⊎_elim
      (λ (is : fork_of x ≡ None).
      let here : branches_of fork_of (sides ∷ pending) (x ∷ nodes) ≡ branches_of fork_of pending nodes = branches_of-leaf fork_of sides pending x nodes is in
      let rest : length (branches_of fork_of pending nodes) + length pending ≤ powers pending =
      length-branches_of_le nodes pending (subst (λ (bs : List (Branch X)). All (FallsBelow fork_of measure) bs) here falls) in
      omega (arith, rest, ap (λ (bs : List (Branch X)). length bs) here, pow_pos (measure sides)))
      (λ (s : (f : Fork) × (fork_of x ≡ Some f)).
      let one : Branch X = record { node = x; sides = sides } in
      let deeper : List (List Side) = pending_below sides pending s.0 in
      let here : branches_of fork_of (sides ∷ pending) (x ∷ nodes) ≡ one ∷ branches_of fork_of deeper nodes = branches_of-split fork_of sides pending x nodes s.0 s.1 in
      let all : All (FallsBelow fork_of measure) (one ∷ branches_of fork_of deeper nodes) = subst (λ (bs : List (Branch X)). All (FallsBelow fork_of measure) bs) here falls in
      let falls_here : (measure (sides ++ (first s.0 ∷ [])) < measure sides) × (measure (sides ++ (second s.0 ∷ [])) < measure sides) =
      subst (λ (o : Option Fork). IfSome o (λ f. (measure (sides ++ (first f ∷ [])) < measure sides) × (measure (sides ++ (second f ∷ [])) < measure sides))) s.1
      (All-head (FallsBelow fork_of measure) one (branches_of fork_of deeper nodes) all) in
      let rest : length (branches_of fork_of deeper nodes) + length deeper ≤ powers deeper =
      length-branches_of_le nodes deeper (All-tail (FallsBelow fork_of measure) one (branches_of fork_of deeper nodes) all) in
      omega (
        arith,
        rest,
        ap (λ (bs : List (Branch X)). length bs) here,
        double_pow (measure (sides ++ (first s.0 ∷ []))) (measure sides) falls_here.0,
        double_pow (measure (sides ++ (second s.0 ∷ []))) (measure sides) falls_here.1,
      ))
      (fork_cases (fork_of x))

  -- so a tree has fewer splits than two to the measure of no sides
  pub length-tree_branches_lt : (nodes : List X) → All (FallsBelow fork_of measure) (tree_branches fork_of nodes) → length (tree_branches fork_of nodes) < 2 ^ measure []
  length-tree_branches_lt nodes falls =
      let le : length (tree_branches fork_of nodes) + length {A = List Side} ([] ∷ []) ≤ powers ([] ∷ []) = length-branches_of_le nodes ([] ∷ []) falls in
      omega (arith, le)
