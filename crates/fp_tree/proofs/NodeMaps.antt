-- Leaves, splits and tails of a tree whose nodes are mapped to others that split with the same
-- sides.
use Rattle.std.proofs.Common.{◌≡◌, ℕ, zero, suc, cond, List, [], ◌∷◌, ◌++◌, ◌⊎◌, ⊎_elim, inl, inr, map, refl, sym, ap, ◌∙◌, subst}
use Rattle.std.specs.Prelude.{Option, Some, None, IfSome, is_some, option_map}
use Rattle.std.specs.List.{AllByRecursion}
use Rattle.std.proofs.lemmas.Option.{none-some, same_Some}
use Rattle.fp_tree.specs.declared.sides.Side.{Side}
use Rattle.fp_tree.specs.declared.sides.Side.TheVariants.{Only}
use Rattle.fp_tree.specs.declared.sides.Split.{Split}
use Rattle.fp_tree.specs.declared.sides.Split.TheVariants.{ByArc, ByTime, ByTrucks, ByWay}
use Rattle.fp_tree.specs.Sides.{Fork, HasTail, IsTailOfSplit, first, first_of_split, second, second_of_split}
use Rattle.fp_tree.specs.Trees.{AreTrees, Branch, HaveTails, Leaf, SplitAlike, branches_of, leaves_of, tree_splits}
use Rattle.fp_tree.proofs.Branches.{branches_at, pending_below, trees_at}
use Rattle.fp_tree.proofs.Walks.{leaves_at}

-- the tail of a split by an arc is the arc's, and that of another split does not count: the second
-- side is the same
second_of_split_tails : (tails : ℕ → ℕ) (split : Split) (tail other : ℕ) → IsTailOfSplit tails split tail → IsTailOfSplit tails split other → second_of_split split tail ≡ second_of_split split other
second_of_split_tails tails (ByArc shipment arc) tail other own its = ap (λ (n : ℕ). Only shipment arc n) (own ∙ sym its)
second_of_split_tails tails (ByTime shipment terminal at) tail other own its = refl
second_of_split_tails tails (ByTrucks arc point until most) tail other own its = refl
second_of_split_tails tails (ByWay shipment arc) tail other own its = refl

-- nodes that split by the same, each with its arc's tail, have the same sides
pub SplitAlike_tails : (tails : ℕ → ℕ) (o q : Option Fork) → option_map (λ (f : Fork). f.split) o ≡ option_map (λ (f : Fork). f.split) q → IfSome o (HasTail tails) → IfSome q (HasTail tails) → SplitAlike o q
SplitAlike_tails tails None None same own its = tt
SplitAlike_tails tails None (Some g) same own its = absurd (none-some g.split same)
SplitAlike_tails tails (Some f) None same own its = absurd (none-some f.split (sym same))
SplitAlike_tails tails (Some f) (Some g) same own its =
    let split : f.split ≡ g.split = same_Some f.split g.split same in
    let tail : IsTailOfSplit tails f.split g.tail = subst (λ (s : Split). IsTailOfSplit tails s g.tail) (sym split) its in
    (ap first_of_split split, second_of_split_tails tails f.split f.tail g.tail own tail ∙ ap (λ (s : Split). second_of_split s g.tail) split)

-- two nodes that split alike are leaves, or split with the same sides
alike_cases : (o q : Option Fork) → SplitAlike o q →
    ((o ≡ None) × (q ≡ None)) ⊎ ((f : Fork) × (g : Fork) × (o ≡ Some f) × (q ≡ Some g) × (first f ≡ first g) × (second f ≡ second g))
alike_cases None None alike = inl (refl, refl)
alike_cases None (Some g) alike = absurd alike
alike_cases (Some f) None alike = absurd alike
alike_cases (Some f) (Some g) alike = inr (f, g, refl, refl, alike.0, alike.1)

-- so the trees to come are below the same sides
pending_below_alike : (sides : List Side) (pending : List (List Side)) (f g : Fork) → first f ≡ first g → second f ≡ second g → pending_below sides pending g ≡ pending_below sides pending f
pending_below_alike sides pending f g one two =
    ap (λ (s : Side). (sides ++ (s ∷ [])) ∷ (sides ++ (second g ∷ [])) ∷ pending) (sym one) ∙ ap (λ (s : Side). (sides ++ (first f ∷ [])) ∷ (sides ++ (s ∷ [])) ∷ pending) (sym two)

module _ {X Y : Type 0} (fork_of : X → Option Fork) (fork_at : Y → Option Fork) (image : X → Y) where
  -- each node splits as its image does
  abbrev pub AreAlike : List X → Type 0
  AreAlike nodes = AllByRecursion (λ x. SplitAlike (fork_of x) (fork_at (image x))) nodes

  -- nodes and images that split by the same, each with its arc's tail
  pub AreAlike_tails : (tails : ℕ → ℕ) (nodes : List X) →
      AllByRecursion (λ x. option_map (λ (f : Fork). f.split) (fork_of x) ≡ option_map (λ (f : Fork). f.split) (fork_at (image x))) nodes →
      HaveTails tails fork_of nodes → HaveTails tails fork_at (map image nodes) → AreAlike nodes
  AreAlike_tails tails [] same own its = tt
  AreAlike_tails tails (x ∷ nodes) same own its =
      (SplitAlike_tails tails (fork_of x) (fork_at (image x)) same.0 own.0 its.0, AreAlike_tails tails nodes same.1 own.1 its.1)

  -- a leaf of an image
  abbrev leaf_image : Leaf X → Leaf Y
  leaf_image l = record { node = image l.node; sides = l.sides }

  -- a split of an image
  abbrev branch_image : Branch X → Branch Y
  branch_image b = record { node = image b.node; sides = b.sides }

  -- the leaves of the images are the images of the leaves, with the same sides
  pub leaves_of-map : (nodes : List X) (pending : List (List Side)) → AreAlike nodes →
      leaves_of fork_at pending (map image nodes) ≡ map (λ (l : Leaf X). (record { node = image l.node; sides = l.sides })) (leaves_of fork_of pending nodes)
  leaves_of-map [] pending alike = refl
  leaves_of-map (x ∷ nodes) [] alike = refl
  leaves_of-map (x ∷ nodes) (sides ∷ pending) alike =
      ⊎_elim
      (λ (leaf : (fork_of x ≡ None) × (fork_at (image x) ≡ None)).
      ap (leaves_at fork_at sides pending (image x) (map image nodes)) leaf.1
      ∙ ap (λ (ls : List (Leaf Y)). (record { node = image x; sides = sides }) ∷ ls) (leaves_of-map nodes pending alike.1)
      ∙ ap (λ (ls : List (Leaf X)). map leaf_image ls) (sym (ap (leaves_at fork_of sides pending x nodes) leaf.0)))
      (λ (s : (f : Fork) × (g : Fork) × (fork_of x ≡ Some f) × (fork_at (image x) ≡ Some g) × (first f ≡ first g) × (second f ≡ second g)).
      ap (leaves_at fork_at sides pending (image x) (map image nodes)) s.3
      ∙ ap (λ (more : List (List Side)). leaves_of fork_at more (map image nodes)) (pending_below_alike sides pending s.0 s.1 s.4 s.5)
      ∙ leaves_of-map nodes (pending_below sides pending s.0) alike.1
      ∙ ap (λ (ls : List (Leaf X)). map leaf_image ls) (sym (ap (leaves_at fork_of sides pending x nodes) s.2)))
      (alike_cases (fork_of x) (fork_at (image x)) alike.0)

  -- and so are the splits
  pub branches_of-map : (nodes : List X) (pending : List (List Side)) → AreAlike nodes →
      branches_of fork_at pending (map image nodes) ≡ map (λ (b : Branch X). (record { node = image b.node; sides = b.sides })) (branches_of fork_of pending nodes)
  branches_of-map [] pending alike = refl
  branches_of-map (x ∷ nodes) [] alike = refl
  branches_of-map (x ∷ nodes) (sides ∷ pending) alike =
      ⊎_elim
      (λ (leaf : (fork_of x ≡ None) × (fork_at (image x) ≡ None)).
      ap (branches_at fork_at sides pending (image x) (map image nodes)) leaf.1
      ∙ branches_of-map nodes pending alike.1
      ∙ ap (λ (bs : List (Branch X)). map branch_image bs) (sym (ap (branches_at fork_of sides pending x nodes) leaf.0)))
      (λ (s : (f : Fork) × (g : Fork) × (fork_of x ≡ Some f) × (fork_at (image x) ≡ Some g) × (first f ≡ first g) × (second f ≡ second g)).
      ap (branches_at fork_at sides pending (image x) (map image nodes)) s.3
      ∙ ap (λ (more : List (List Side)). (record { node = image x; sides = sides }) ∷ branches_of fork_at more (map image nodes)) (pending_below_alike sides pending s.0 s.1 s.4 s.5)
      ∙ ap (λ (bs : List (Branch Y)). (record { node = image x; sides = sides }) ∷ bs) (branches_of-map nodes (pending_below sides pending s.0) alike.1)
      ∙ ap (λ (bs : List (Branch X)). map branch_image bs) (sym (ap (branches_at fork_of sides pending x nodes) s.2)))
      (alike_cases (fork_of x) (fork_at (image x)) alike.0)

  -- the images are as many trees
  pub AreTrees-map : (nodes : List X) (n : ℕ) → AreAlike nodes → AreTrees fork_of n nodes → AreTrees fork_at n (map image nodes)
  AreTrees-map [] n alike trees = trees
  AreTrees-map (x ∷ nodes) zero alike trees = absurd trees
  AreTrees-map (x ∷ nodes) (suc n) alike trees =
      ⊎_elim
      (λ (leaf : (fork_of x ≡ None) × (fork_at (image x) ≡ None)).
      subst (trees_at fork_at n (map image nodes)) (sym leaf.1) (AreTrees-map nodes n alike.1 (subst (trees_at fork_of n nodes) leaf.0 trees)))
      (λ (s : (f : Fork) × (g : Fork) × (fork_of x ≡ Some f) × (fork_at (image x) ≡ Some g) × (first f ≡ first g) × (second f ≡ second g)).
      subst (trees_at fork_at n (map image nodes)) (sym s.3) (AreTrees-map nodes (suc (suc n)) alike.1 (subst (trees_at fork_of n nodes) s.2 trees)))
      (alike_cases (fork_of x) (fork_at (image x)) alike.0)

  -- and their splits are the images of the splits
  pub tree_splits-map : (nodes : List X) → AreAlike nodes → tree_splits fork_at (map image nodes) ≡ map image (tree_splits fork_of nodes)
  tree_splits-map [] alike = refl
  tree_splits-map (x ∷ nodes) alike =
      ⊎_elim
      (λ (leaf : (fork_of x ≡ None) × (fork_at (image x) ≡ None)).
      ap after leaf.1 ∙ tree_splits-map nodes alike.1 ∙ ap (λ (xs : List X). map image xs) (sym (ap before leaf.0)))
      (λ (s : (f : Fork) × (g : Fork) × (fork_of x ≡ Some f) × (fork_at (image x) ≡ Some g) × (first f ≡ first g) × (second f ≡ second g)).
      ap after s.3 ∙ ap (λ (ys : List Y). image x ∷ ys) (tree_splits-map nodes alike.1) ∙ ap (λ (xs : List X). map image xs) (sym (ap before s.2)))
      (alike_cases (fork_of x) (fork_at (image x)) alike.0)
    where
      before : Option Fork → List X
      before o = cond (is_some o) (x ∷ tree_splits fork_of nodes) (tree_splits fork_of nodes)

      after : Option Fork → List Y
      after o = cond (is_some o) (image x ∷ tree_splits fork_at (map image nodes)) (tree_splits fork_at (map image nodes))

  -- where each node and its image split by one fork, the images have their tails where the nodes do
  pub HaveTails-map : (tails : ℕ → ℕ) (nodes : List X) → AllByRecursion (λ x. fork_at (image x) ≡ fork_of x) nodes → HaveTails tails fork_of nodes → HaveTails tails fork_at (map image nodes)
  HaveTails-map tails [] same have = tt
  HaveTails-map tails (x ∷ nodes) same have = (subst (λ (o : Option Fork). IfSome o (HasTail tails)) (sym same.0) have.0, HaveTails-map tails nodes same.1 have.1)
