-- The leaves and the splits of a tree as its lines show them.
use Rattle.std.proofs.Common.{◌≡◌, ℕ, zero, suc, false, List, [], ◌∷◌, ⊎_elim, inl, inr, length, map, refl, sym, ap, ◌∙◌, subst}
use Rattle.std.specs.Prelude.{⊤, All, IfSome, IsSomeAnd, Option, Some, None, is_some, option_map, slice_get}
use Rattle.std.specs.List.{AllByRecursion, AllZip}
use Rattle.std.proofs.lemmas.List.{length-map}
use Rattle.std.proofs.lemmas.List.Elements.{All-filter, All-from_recursion, All-head, All-tail, recursion_from_All}
use Rattle.std.proofs.lemmas.Option.{none-some, slice_get-map}
use Rattle.fp_base_lists.specs.Elements.{AnyByRecursion}
use Rattle.fp_base_lists.proofs.Elements.{AllByRecursion-always, AllByRecursion-both, AllByRecursion-from_map, AllByRecursion-map, AllByRecursion-weaker}
use Rattle.fp_model.specs.Problem.{Problem}
use Rattle.fp_flatnet.specs.declared.window_tables.Window.{Window}
use Rattle.fp_tree.specs.declared.sides.Side.{Side}
use Rattle.fp_tree.specs.declared.sides.Split.{Split}
use Rattle.fp_tree.specs.declared.sides.Split.TheVariants.{ByArc, ByTime, ByTrucks, ByWay}
use Rattle.fp_tree.specs.Nodes.{Divided, Node, Role, Undivided, fork_of as fork_at, leaf_at, split_count}
use Rattle.fp_tree.specs.Sides.{Fork, IsTailOfSplit}
use Rattle.fp_tree.specs.Trees.{Branch, HaveTails, IsTree, Leaf, SplitAlike, tree_branches, tree_leaves, tree_splits}
use Rattle.fp_tree.proofs.Branches.{fork_of-leaf, length-branches_of, map-branches_of}
use Rattle.fp_tree.proofs.NodeMaps.{AreAlike, AreAlike_tails, AreTrees-map, branches_of-map, leaves_of-map, tree_splits-map}
use Rattle.fp_allowed.specs.Allowed.{tails_of}
use Rattle.fp_allowed.specs.Slack.{DividesSome}
use Rattle.fp_certificate_lines.specs.declared.certificates.Node.{Node as Line}
use Rattle.fp_certificate_lines.specs.declared.certificates.Node.TheVariants as line
use Rattle.fp_certificate_rules.specs.Leaves.{fork_of, is_narrowing, split_tail}
use Rattle.fp_certificate_rules.proofs.BareTrees.{HaveNoNarrowing}
use Rattle.fp_session_history.specs.Divisions.{AllDivide, Divides, DividesTrucks}
use Rattle.fp_session.specs.declared.payloads.Payload.{Payload}
use Rattle.fp_session.specs.TreeLines.{line_of, lines_of}

-- what holds of each element by its place holds of all
All-from_places : {X : Type 0} (Q : X → Type 0) (xs : List X) → ((k : ℕ) (x : X) → slice_get xs k ≡ Some x → Q x) → AllByRecursion Q xs
All-from_places Q [] all = tt
All-from_places Q (x ∷ xs) all = (all 0 x refl, All-from_places Q xs (λ k y at. all (suc k) y at))

-- what holds of one element holds of some
Any-from_place : {X : Type 0} (Q : X → Type 0) (xs : List X) (k : ℕ) (x : X) → slice_get xs k ≡ Some x → Q x → AnyByRecursion Q xs
Any-from_place Q [] k x at is = absurd (none-some x at)
Any-from_place Q (y ∷ xs) zero x at is = inl (subst (λ o. IfSome o Q) (sym at) is)
Any-from_place Q (y ∷ xs) (suc k) x at is = inr (Any-from_place Q xs k x at is)

-- what is made of elements in two ways is so pair by pair
pub AllZip-maps : {X Y Z W : Type 0} (R : Y → W → Type 0) (f : X → Y) (h : X → Z) (g : Z → W) (xs : List X) → All (λ x. R (f x) (g (h x))) xs → AllZip R (map f xs) (map g (map h xs))
AllZip-maps R f h g [] all = tt
AllZip-maps R f h g (x ∷ xs) all =
    (All-head (λ x. R (f x) (g (h x))) x xs all, AllZip-maps R f h g xs (All-tail (λ x. R (f x) (g (h x))) x xs all))

-- the tail of a line's split is its arc's
IsTailOfSplit-line : (p : Problem) (split : Split) → IsTailOfSplit (tails_of p) split (split_tail p split)
IsTailOfSplit-line p (ByArc shipment arc) = refl
IsTailOfSplit-line p (ByTime shipment terminal at) = tt
IsTailOfSplit-line p (ByTrucks arc point until most) = tt
IsTailOfSplit-line p (ByWay shipment arc) = tt

HaveTails-lines : (p : Problem) (lines : List Line) → HaveTails (tails_of p) (fork_of p) lines
HaveTails-lines p [] = tt
HaveTails-lines p (line.Branch split ∷ lines) = (IsTailOfSplit-line p split, HaveTails-lines p lines)
HaveTails-lines p (line.Leaf valuation ∷ lines) = (tt, HaveTails-lines p lines)
HaveTails-lines p (line.Narrow narrowing ∷ lines) = (tt, HaveTails-lines p lines)

-- no line of a node is a narrowing
line_of-node : (payload : Payload) (role : Role) → is_narrowing (line_of (record { payload = payload; role = role })) ≡ false
line_of-node payload (Divided f) = refl
line_of-node payload (Undivided value closed) = refl

-- so none of a tree's lines is
pub lines-nodes : (nodes : List (Node Payload)) → HaveNoNarrowing (lines_of nodes)
lines-nodes nodes =
    AllByRecursion-map (λ (x : Line). is_narrowing x ≡ false) line_of nodes
    (AllByRecursion-always (λ (n : Node Payload). is_narrowing (line_of n) ≡ false) (λ n. line_of-node n.payload n.role) nodes)

-- a node splits by the split of its line
same-split : (p : Problem) (payload : Payload) (role : Role) → let n : Node Payload = record { payload = payload; role = role } in
    option_map (λ (f : Fork). f.split) (fork_at n) ≡ option_map (λ (f : Fork). f.split) (fork_of p (line_of n))
same-split p payload (Divided f) = refl
same-split p payload (Undivided value closed) = refl

-- the line of a leaf tells how it is valued
line_of-leaf : (payload : Payload) (role : Role) → fork_at (record { payload = payload; role = role }) ≡ None → line_of (record { payload = payload; role = role }) ≡ line.Leaf payload.valuation
line_of-leaf payload (Divided f) none = absurd (none-some f (sym none))
line_of-leaf payload (Undivided value closed) none = refl

-- a leaf and a split with their lines
abbrev pub image_by : (Node Payload → Line) → Leaf (Node Payload) → Leaf Line
image_by line_for l = record { node = line_for l.node; sides = l.sides }

abbrev pub branch_image : Branch (Node Payload) → Branch Line
branch_image b = record { node = line_of b.node; sides = b.sides }

-- the line of how a node is valued
abbrev pub valuation_line : Node Payload → Line
valuation_line n = line.Leaf n.payload.valuation

-- a fork that splits with the same sides divides what the other does
Divides-alike : (unit : Option ℕ) (p : Problem) (windows : ℕ → ℕ → Option Window) (sides : List Side) (payload : Payload) (role : Role) → let n : Node Payload = record { payload = payload; role = role } in
    SplitAlike (fork_at n) (fork_of p (line_of n)) → IfSome (fork_at n) (Divides unit p windows sides) → IfSome (fork_of p (line_of n)) (Divides unit p windows sides)
Divides-alike unit p windows sides payload (Divided f) alike is = (
  is.0,
  ⊎_elim
      (λ (some : DividesSome p windows sides f). inl (record { shipment = some.shipment; terminal = some.terminal; exists = some.exists; tail = sym alike.1 ∙ some.tail; divides = some.divides }))
      (λ (by : IsSomeAnd unit (λ (u : ℕ). ⊤) × DividesTrucks p sides f).
      inr (by.0, record { arc = by.1.arc; trucks = by.1.trucks; exists = by.1.exists; split = by.1.split; fewest = by.1.fewest; most = by.1.most }))
      is.1,
)
Divides-alike unit p windows sides payload (Undivided value closed) alike is = tt

module _ (p : Problem) (nodes : List (Node Payload)) (tails : HaveTails (tails_of p) fork_at nodes) (whole : IsTree fork_at nodes) where
  -- each node splits as its line does
  alike : AreAlike fork_at (fork_of p) line_of nodes
  alike =
      AreAlike_tails fork_at (fork_of p) line_of (tails_of p) nodes
      (AllByRecursion-always (λ (n : Node Payload). option_map (λ (f : Fork). f.split) (fork_at n) ≡ option_map (λ (f : Fork). f.split) (fork_of p (line_of n))) (λ n. same-split p n.payload n.role) nodes) tails
      (HaveTails-lines p (lines_of nodes))

  -- the lines are one tree
  pub IsTree-lines : IsTree (fork_of p) (lines_of nodes)
  IsTree-lines = AreTrees-map fork_at (fork_of p) line_of nodes 1 alike whole

  -- of as many splits
  pub splits-lines : length (tree_splits (fork_of p) (lines_of nodes)) ≡ split_count nodes
  splits-lines = ap (λ (ls : List Line). length ls) (tree_splits-map fork_at (fork_of p) line_of nodes alike) ∙ length-map (tree_splits fork_at nodes) line_of

  leaves-lines : tree_leaves (fork_of p) (lines_of nodes) ≡ map (image_by line_of) (tree_leaves fork_at nodes)
  leaves-lines = leaves_of-map fork_at (fork_of p) line_of nodes ([] ∷ []) alike

  branches-lines : tree_branches (fork_of p) (lines_of nodes) ≡ map branch_image (tree_branches fork_at nodes)
  branches-lines = branches_of-map fork_at (fork_of p) line_of nodes ([] ∷ []) alike

  -- the leaf with a number
  pub leaf-line : (k : ℕ) (l : Leaf (Node Payload)) → leaf_at nodes k ≡ Some l → slice_get (tree_leaves (fork_of p) (lines_of nodes)) k ≡ Some (image_by valuation_line l)
  leaf-line k l at =
      ap (λ (ls : List (Leaf Line)). slice_get ls k) leaves-lines
      ∙ slice_get-map (image_by line_of) (tree_leaves fork_at nodes) k
      ∙ ap (option_map (image_by line_of)) at
      ∙ ap (λ (n : Line). let x : Leaf Line = record { node = n; sides = l.sides } in Some x) (line_of-leaf l.node.payload l.node.role (fork_of-leaf fork_at nodes ([] ∷ []) k l at))

  -- what holds of each leaf's line holds of all leaves of the lines
  pub leaves-printed : (Q : Leaf Line → Type 0) → ((k : ℕ) (l : Leaf (Node Payload)) → leaf_at nodes k ≡ Some l → Q (image_by valuation_line l)) → AllByRecursion Q (tree_leaves (fork_of p) (lines_of nodes))
  leaves-printed Q all =
      subst (AllByRecursion Q) (sym leaves-lines)
      (AllByRecursion-map Q (image_by line_of) (tree_leaves fork_at nodes)
      (All-from_places (λ (l : Leaf (Node Payload)). Q (image_by line_of l)) (tree_leaves fork_at nodes)
      (λ k l at.
      subst (λ (n : Line). Q (record { node = n; sides = l.sides })) (sym (line_of-leaf l.node.payload l.node.role (fork_of-leaf fork_at nodes ([] ∷ []) k l at))) (all k l at))))

  -- what holds of one leaf's line holds of some leaf of the lines
  pub leaf-printed : (Q : Leaf Line → Type 0) (k : ℕ) (l : Leaf (Node Payload)) → leaf_at nodes k ≡ Some l → Q (image_by valuation_line l) → AnyByRecursion Q (tree_leaves (fork_of p) (lines_of nodes))
  leaf-printed Q k l at is = Any-from_place Q (tree_leaves (fork_of p) (lines_of nodes)) k (image_by valuation_line l) (leaf-line k l at) is

  -- as many splits with their sides
  pub length-branches : length (tree_branches (fork_of p) (lines_of nodes)) ≡ split_count nodes
  length-branches = length-branches_of (fork_of p) (lines_of nodes) ([] ∷ []) IsTree-lines ∙ splits-lines

  -- what holds of the splits' sides and of what is noted of them
  pub branches-noted : {N : Type 0} (note : Node Payload → N) (R : List Side → N → Type 0) → All (λ (b : Branch (Node Payload)). R b.sides (note b.node)) (tree_branches fork_at nodes) →
      AllZip (λ (b : Branch Line) n. R b.sides n) (tree_branches (fork_of p) (lines_of nodes)) (map note (tree_splits fork_at nodes))
  branches-noted note R all =
      subst (λ bs. AllZip (λ (b : Branch Line) n. R b.sides n) bs (map note (tree_splits fork_at nodes))) (sym branches-lines)
      (subst (λ ns. AllZip (λ (b : Branch Line) n. R b.sides n) (map branch_image (tree_branches fork_at nodes)) (map note ns))
      (map-branches_of fork_at nodes ([] ∷ []) whole)
      (AllZip-maps (λ (b : Branch Line) n. R b.sides n) branch_image (λ (b : Branch (Node Payload)). b.node) note (tree_branches fork_at nodes) all))

  -- the splits of the lines divide what the tree's do
  pub AllDivide-lines : (unit : Option ℕ) (windows : ℕ → ℕ → Option Window) → All (λ (b : Branch (Node Payload)). IfSome (fork_at b.node) (Divides unit p windows b.sides)) (tree_branches fork_at nodes) →
      AllDivide unit p windows (fork_of p) (tree_branches (fork_of p) (lines_of nodes))
  AllDivide-lines unit windows all =
      let each : AllByRecursion (λ (n : Node Payload). SplitAlike (fork_at n) (fork_of p (line_of n))) (tree_splits fork_at nodes) =
      recursion_from_All (λ (n : Node Payload). SplitAlike (fork_at n) (fork_of p (line_of n))) (tree_splits fork_at nodes)
      (All-filter (λ (n : Node Payload). is_some (fork_at n)) (λ (n : Node Payload). SplitAlike (fork_at n) (fork_of p (line_of n))) nodes
      (All-from_recursion (λ (n : Node Payload). SplitAlike (fork_at n) (fork_of p (line_of n))) nodes alike)) in
      let of_branches : AllByRecursion (λ (b : Branch (Node Payload)). SplitAlike (fork_at b.node) (fork_of p (line_of b.node))) (tree_branches fork_at nodes) =
      AllByRecursion-from_map (λ (n : Node Payload). SplitAlike (fork_at n) (fork_of p (line_of n))) (λ (b : Branch (Node Payload)). b.node) (tree_branches fork_at nodes)
      (subst (AllByRecursion (λ (n : Node Payload). SplitAlike (fork_at n) (fork_of p (line_of n)))) (sym (map-branches_of fork_at nodes ([] ∷ []) whole)) each) in
      subst (AllByRecursion (λ (b : Branch Line). IfSome (fork_of p b.node) (Divides unit p windows b.sides))) (sym branches-lines)
      (AllByRecursion-map (λ (b : Branch Line). IfSome (fork_of p b.node) (Divides unit p windows b.sides)) branch_image (tree_branches fork_at nodes)
      (AllByRecursion-weaker
      (λ (b : Branch (Node Payload)). SplitAlike (fork_at b.node) (fork_of p (line_of b.node)) × IfSome (fork_at b.node) (Divides unit p windows b.sides))
      (λ (b : Branch (Node Payload)). IfSome (fork_of p (line_of b.node)) (Divides unit p windows b.sides))
      (λ b both. Divides-alike unit p windows b.sides b.node.payload b.node.role both.0 both.1) (tree_branches fork_at nodes)
      (AllByRecursion-both (λ (b : Branch (Node Payload)). SplitAlike (fork_at b.node) (fork_of p (line_of b.node))) (λ (b : Branch (Node Payload)). IfSome (fork_at b.node) (Divides unit p windows b.sides))
      (tree_branches fork_at nodes) of_branches
      (recursion_from_All (λ (b : Branch (Node Payload)). IfSome (fork_at b.node) (Divides unit p windows b.sides)) (tree_branches fork_at nodes) all))))
