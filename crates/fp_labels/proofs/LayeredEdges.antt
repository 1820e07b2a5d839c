-- The edges of a graph in two layers.
use Rattle.std.proofs.Common.{◌≡◌, ℕ, ◌+◌, ◌*◌, ◌^◌, ◌-◌, ◌<◌, ◌≤◌, Bool, true, false, cond, List, ◌++◌, length, map, ⊎_elim, sym, ap, ◌∙◌, subst, arith}
use Rattle.std.specs.Prelude.{All, Option}
use Rattle.std.proofs.Math.Nat.{mul-le-mul_right, one-le-pow}
use Rattle.std.proofs.lemmas.Bool.{cases_lt}
use Rattle.std.proofs.lemmas.Grind.{pow_more}
use Rattle.std.proofs.lemmas.List.{get_or_append_left, get_or-append-add, get_or-map, length-append, length-map}
use Rattle.std.proofs.lemmas.List.Elements.{All-append, All-from_get_or}
use Rattle.fp_labels.specs.declared.graphs.Edge.{Edge}
use Rattle.fp_labels.specs.Graphs.{HasEnds, edge_at, no_edge}
use Rattle.fp_labels.specs.TaggedWalks.{tag_of}
use Rattle.fp_labels.specs.Layers.{AreLayered, AreLowerEdges, is_tag, upper_edge}

-- the copies of the lower layer and then those of the upper one are both layers
pub layered-append : (nodes tag : ℕ) (edges : List Edge) (tags : List (Option ℕ)) (lower : List Edge) → AreLowerEdges nodes tag edges tags (length edges) lower →
    AreLayered nodes tag edges tags (lower ++ map (upper_edge nodes) edges)
layered-append nodes tag edges tags lower are = record {
  len = omega (arith, length-append lower (map (upper_edge nodes) edges), length-map edges (upper_edge nodes), are.len);
  lower = λ e below. get_or_append_left lower (map (upper_edge nodes) edges) no_edge e (omega (arith, are.len)) ∙ are.each e below;
  upper = λ e below. ap (λ (n : ℕ). edge_at (lower ++ map (upper_edge nodes) edges) (n + e)) (sym are.len) ∙ get_or-append-add lower (map (upper_edge nodes) edges) e no_edge
      ∙ get_or-map (upper_edge nodes) edges e no_edge no_edge below;
}

-- both ends of an edge are below a number
abbrev IsInside : ℕ → Edge → Type 0
IsInside nodes edge = (edge.from < nodes) × (edge.to < nodes)

-- the ends of both copies are among the nodes of both layers
pub layered-ends : (nodes tag : ℕ) (edges : List Edge) (tags : List (Option ℕ)) (layered : List Edge) → HasEnds nodes edges → AreLayered nodes tag edges tags layered → HasEnds (nodes + nodes) layered
layered-ends nodes tag edges tags layered ends are = All-from_get_or (IsInside (nodes + nodes)) layered no_edge (λ e below. ⊎_elim (low e) (high e below) (cases_lt e (length edges)))
  where
    led : (up : Bool) (to : ℕ) → to < nodes → cond up (nodes + to) to < nodes + nodes
    led true to inside = omega (arith, inside)
    led false to inside = omega (arith, inside)

    low : (e : ℕ) → e < length edges → IsInside (nodes + nodes) (edge_at layered e)
    low e below =
        let old = ends e no_edge below in
        subst (IsInside (nodes + nodes)) (sym (are.lower e below)) (omega (arith, old.0), led (is_tag (tag_of tags e) tag) (edge_at edges e).to old.1)

    high : (e : ℕ) → e < length layered → length edges ≤ e → IsInside (nodes + nodes) (edge_at layered e)
    high e below past =
        let k : ℕ = e - length edges in
        let inside : k < length edges = omega (arith, below, are.len, past) in
        let same : length edges + k ≡ e = omega (arith, past) in
        let old = ends k no_edge inside in
        subst (IsInside (nodes + nodes)) (sym (are.upper k inside) ∙ ap (λ (n : ℕ). edge_at layered n) same) (omega (arith, old.0), omega (arith, old.1))

-- so many layers more for one tag more
pub layers-double : (rest wanted : List ℕ) (n : ℕ) → length rest + 1 ≡ length wanted → 2 ^ length wanted * n ≡ 2 ^ length rest * (n + n)
layers-double rest wanted n len =
    let more : 2 ^ (length rest + 1) ≡ 2 ^ length rest * 2 = pow_more 2 (length rest) in
    ap (λ (k : ℕ). 2 ^ k * n) (sym len) ∙ ap (λ (p : ℕ). p * n) more ∙ omega arith

-- two layers are at most as many as all
pub layers-few : (rest wanted : List ℕ) (n : ℕ) → length rest + 1 ≡ length wanted → n + n ≤ 2 ^ length wanted * n
layers-few rest wanted n len =
    let some : 1 ≤ 2 ^ length rest = one-le-pow (length rest) 2 (omega arith) in
    omega (arith, layers-double rest wanted n len, mul-le-mul_right (n + n) some)

-- what is written twice: as long as two
pub length-twice : {X : Type 0} (xs both : List X) (n : ℕ) → both ≡ xs ++ xs → length xs ≡ n → length both ≡ n + n
length-twice {X} xs both n twice len = ap (λ (l : List X). length l) twice ∙ omega (arith, length-append xs xs, len)

-- and what holds of each element holds still
pub All-twice : {X : Type 0} (P : X → Type 0) (xs both : List X) → both ≡ xs ++ xs → All P xs → All P both
All-twice {X} P xs both twice all = subst (λ (l : List X). All P l) (sym twice) (All-append P xs xs all all)
