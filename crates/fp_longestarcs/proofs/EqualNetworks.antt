-- Whole networks of an instance that have the same points are equal.
use Rattle.std.proofs.Common.{◌≡◌, ℕ, ◌<◌, ◌≢◌, Bool, true, ◌||◌, ◌&&◌, List, [], ◌∷◌, length, get_or, ⊎_elim, sym, ap, ◌∙◌, arith}
use Rattle.std.specs.Prelude.{nat_eq}
use Rattle.std.specs.List.{AllPairs}
use Rattle.std.proofs.lemmas.Bool.{cases_eq, eq-eqb, ne_eqb}
use Rattle.std.proofs.lemmas.List.{same_lists, get_or_default}
use Rattle.fp_model.specs.Problem.{Problem}
use Rattle.fp_timenodes.specs.Floor.{HaveSamePoints}
use Rattle.fp_base_lists.specs.Membership.{list_has}
use Rattle.fp_timenodes.specs.Points.{TimePoints}
use Rattle.fp_base_lists.proofs.Membership.{list_has-rest, list_has-cons_cases, list_has-insert}
use Rattle.fp_longestarcs.specs.Ascending.{ArePoints}
use Rattle.fp_base_lists.specs.Ascending.{place_in}
use Rattle.fp_longestarcs.specs.Networks.{TimedNetwork, points_in}
use Rattle.fp_longestarcs.specs.Whole.{HasArcsOf, IsNetworkOf, heads_of, IsWholeNetwork}
use Rattle.fp_longestarcs.specs.Changes.{refined, restored, HasAlso, extended_points}
use Rattle.fp_base_lists.proofs.Places.{first-lt, ascending-unique}
use Rattle.fp_longestarcs.proofs.HeadLists.{points-same, points-other}

-- what is a point of both lists beside their equal first ones is a point of the rest
rest-of : (x y : ℕ) (xs ys : List ℕ) (m : ℕ) → AllPairs (λ a b. a < b) (x ∷ xs) → x ≡ y → HaveSamePoints (x ∷ xs) (y ∷ ys) → list_has xs m ≡ true → list_has ys m ≡ true
rest-of x y xs ys m up is same there =
    ⊎_elim
    (λ (first : y ≡ m). absurd (omega (arith, first-lt x xs m up there, first, is)))
    (λ (rest : list_has ys m ≡ true). rest)
    (list_has-cons_cases y ys m (sym (same m) ∙ list_has-rest x xs m there))

-- whole networks of an instance with the same points are equal
IsWholeNetwork-unique : (p : Problem) (m n : TimedNetwork) → IsWholeNetwork p m → IsWholeNetwork p n → ((terminal : ℕ) → terminal < length p.terminals → HaveSamePoints (points_in m terminal) (points_in n terminal)) → m ≡ n
IsWholeNetwork-unique p m n first second same =
    let net : List ℕ → List (List ℕ) → List (List ℕ) → TimedNetwork = λ tails points heads. record { tails = tails; points = points; heads = heads } in
    let points : m.points ≡ n.points =
    same_lists m.points n.points (omega (arith, first.arcs.terminals, second.arcs.terminals))
    (λ k d h. get_or_default m.points k d [] h ∙ each k h ∙ get_or_default n.points k [] d (omega (arith, first.arcs.terminals, second.arcs.terminals))) in
    ap (λ (t : List ℕ). net t m.points m.heads) (first.arcs.tails ∙ sym second.arcs.tails) ∙
    ap (λ (l : List (List ℕ)). net n.tails l m.heads) points ∙
    ap (λ (l : List (List ℕ)). net n.tails n.points l) (first.heads ∙ ap (λ (l : List (List ℕ)). heads_of p (λ t. get_or l t [])) points ∙ sym second.heads)
  where
    each : (k : ℕ) → k < length m.points → points_in m k ≡ points_in n k
    each k h =
        let mine : ArePoints (points_in m k) = first.valid.points k [] h in
        let other : ArePoints (points_in n k) = second.valid.points k [] (omega (arith, first.arcs.terminals, second.arcs.terminals)) in
        ascending-unique (points_in m k) (points_in n k) mine.ascending other.ascending (same k (omega (arith, first.arcs.terminals)))

-- which points there are with one more
pub has-with : (net : TimedNetwork) (terminal at t q : ℕ) → terminal < length net.points →
    list_has (get_or (extended_points net terminal at) t []) q ≡ (nat_eq t terminal && nat_eq at q || list_has (points_in net t) q)
has-with net terminal at t q within =
    ⊎_elim
    (λ (same : t ≡ terminal).
    ap (λ (n : ℕ). list_has (get_or (extended_points net terminal at) n []) q) same ∙
    ap (λ (l : List ℕ). list_has l q) (points-same net terminal at within) ∙
    list_has-insert (points_in net terminal) (place_in (points_in net terminal) at) at q ∙
    ap (λ (n : ℕ). nat_eq at q || list_has (points_in net n) q) (sym same) ∙
    ap (λ (b : Bool). b && nat_eq at q || list_has (points_in net t) q) (sym (eq-eqb t terminal same)))
    (λ (other : t ≢ terminal).
    ap (λ (l : List ℕ). list_has l q) (points-other net terminal at t other) ∙
    ap (λ (b : Bool). b && nat_eq at q || list_has (points_in net t) q) (sym (ne_eqb t terminal other)))
    (cases_eq t terminal)

-- so a network whose new point was refined and restored is the one that is made with that point
pub lengthened-equal : (p : Problem) (old net : TimedNetwork) (terminal at round : ℕ) (v : TimePoints) → terminal < length old.points → HasArcsOf p old →
    IsWholeNetwork p (restored p (refined p old terminal at) terminal at) → IsNetworkOf p v round net → HasAlso old terminal at v round → restored p (refined p old terminal at) terminal at ≡ net
lengthened-equal p old net terminal at round v within has whole made also =
    IsWholeNetwork-unique p (restored p (refined p old terminal at) terminal at) net whole made.whole
    (λ t h q. has-with old terminal at t q within ∙ sym (also t q (omega (arith, has.terminals))) ∙ sym (made.points t h q))
