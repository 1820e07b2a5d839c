-- Each way of sending shipments obeys all sides of some leaf of a tree.
use Rattle.std.proofs.Common.{◌≡◌, ◌≢◌, ℕ, suc, ◌*◌, ◌<◌, ◌≤◌, true, false, List, [], ◌∷◌, ◌++◌, length, ◌⊎◌, ⊎_elim, inl, inr, sym, ap, ◌∙◌, subst, arith}
use Rattle.std.specs.Prelude.{Option, Some, None, IfSome, slice_index_or, nat_eq, nat_le}
use Rattle.std.specs.List.{AllByRecursion}
use Rattle.std.proofs.lemmas.Bool.{cases_Bool, cases_lt, leb-true, leb-false}
use Rattle.std.proofs.lemmas.Bool.Decides.{eqb_tells}
use Rattle.fp_base_lists.proofs.Elements.{AllByRecursion-weaker, AllByRecursion-both}
use Rattle.fp_tree.specs.declared.sides.Split.{Split}
use Rattle.fp_tree.specs.declared.sides.Split.TheVariants.{ByArc, ByTime, ByTrucks, ByWay}
use Rattle.fp_tree.specs.declared.sides.Side.{Side}
use Rattle.fp_tree.specs.declared.sides.Side.TheVariants.{Without, Only, Before, From, AtMost, MoreThan, Through}
use Rattle.fp_tree.specs.Sides.{AreCounts, Counts, Exit, Fork, HasCount, HasCounts, HasTail, HasWay, HasWays, IsOutside, IsTailOfSplit, Meets, MeetsAll, Obeys, first, second, first_of_split, second_of_split}
use Rattle.fp_tree.specs.Trees.{AreNoRivals, Leaf, leaves_of, AreTrees, IsTree, tree_leaves, LeaveApart, HaveTails, CoversAll}
use Rattle.fp_base_lists.specs.Elements.{AnyByRecursion}

-- two numbers are equal or not
same_or_not : (a b : ℕ) → (a ≡ b) ⊎ (a ≢ b)
same_or_not a b =
    ⊎_elim (λ (h : (nat_eq a b ≡ true) × (a ≡ b)). inl h.1) (λ (h : (nat_eq a b ≡ false) × (a ≢ b)). inr h.1) (eqb_tells a b)

-- the legs that leave a terminal are all so, or all so, since there is one at most
one_or_other : (tails : ℕ → ℕ) (terminal : ℕ) (P Q : Exit → Type 0) → ((e : Exit) → P e ⊎ Q e) → (exits : List Exit) → LeaveApart tails exits →
    AllByRecursion (λ e. e.tail ≡ terminal → P e) exits ⊎ AllByRecursion (λ e. e.tail ≡ terminal → Q e) exits
one_or_other tails terminal P Q either [] apart = inl tt
one_or_other tails terminal P Q either (e ∷ exits) apart =
    ⊎_elim
    (λ (here : e.tail ≡ terminal).
    ⊎_elim
    (λ (p : P e). inl ((λ at. p), AllByRecursion-weaker (λ (f : Exit). f.tail ≢ e.tail) (λ f. f.tail ≡ terminal → P f) (λ f other at. absurd (other (at ∙ sym here))) exits apart.1))
    (λ (q : Q e). inr ((λ at. q), AllByRecursion-weaker (λ (f : Exit). f.tail ≢ e.tail) (λ f. f.tail ≡ terminal → Q f) (λ f other at. absurd (other (at ∙ sym here))) exits apart.1))
    (either e))
    (λ (away : e.tail ≢ terminal).
    ⊎_elim
    (λ (all : AllByRecursion (λ f. f.tail ≡ terminal → P f) exits). inl ((λ at. absurd (away at)), all))
    (λ (all : AllByRecursion (λ f. f.tail ≡ terminal → Q f) exits). inr ((λ at. absurd (away at)), all))
    (one_or_other tails terminal P Q either exits apart.2))
    (same_or_not e.tail terminal)

tails_told : (tails : ℕ → ℕ) (exits : List Exit) → LeaveApart tails exits → AllByRecursion (λ (e : Exit). e.tail ≡ tails e.arc) exits
tails_told tails [] apart = tt
tails_told tails (e ∷ exits) apart = (apart.0, tails_told tails exits apart.2)

-- a leg goes by the arc, and none by a rival of it
pub record GoesBy (arc : ℕ) (exits : List Exit) : Type 0 where
  pub none : AllByRecursion (λ (e : Exit). e.is_rival arc ≡ false) exits
  pub one : AnyByRecursion (λ (e : Exit). e.arc ≡ arc) exits

-- no leg goes by an arc, or one does and none by a rival of it
way_or_other : (tails : ℕ → ℕ) (arc : ℕ) (exits : List Exit) → LeaveApart tails exits →
    AllByRecursion (λ (e : Exit). e.arc ≢ arc) exits ⊎ GoesBy arc exits
way_or_other tails arc [] apart = inl tt
way_or_other tails arc (e ∷ exits) apart =
    ⊎_elim
    (λ (here : e.arc ≡ arc).
    inr (record {
      none = (
        subst (λ (a : ℕ). e.is_rival a ≡ false) here apart.3,
        AllByRecursion-weaker (AreNoRivals e) (λ (f : Exit). f.is_rival arc ≡ false) (λ f apart. subst (λ (a : ℕ). f.is_rival a ≡ false) here apart.other) exits apart.4,
      );
      one = inl here;
    }))
    (λ (away : e.arc ≢ arc). later away (way_or_other tails arc exits apart.2))
    (same_or_not e.arc arc)
  where
    -- the way of another leg has none as its rival
    rival : (xs : List Exit) → AllByRecursion (AreNoRivals e) xs → AllByRecursion (λ (f : Exit). f.arc ≢ arc) xs ⊎ (e.is_rival arc ≡ false)
    rival [] apart = inl tt
    rival (f ∷ xs) apart =
        ⊎_elim
        (λ (is : f.arc ≡ arc). inr (subst (λ (a : ℕ). e.is_rival a ≡ false) is apart.0.one))
        (λ (other : f.arc ≢ arc). ⊎_elim (λ rest. inl (other, rest)) (λ own. inr own) (rival xs apart.1))
        (same_or_not f.arc arc)

    later : e.arc ≢ arc → AllByRecursion (λ (f : Exit). f.arc ≢ arc) exits ⊎ GoesBy arc exits → AllByRecursion (λ (f : Exit). f.arc ≢ arc) (e ∷ exits) ⊎ GoesBy arc (e ∷ exits)
    later away (inl without) = inl (away, without)
    later away (inr through) = ⊎_elim (λ without. inl (away, without)) (λ own. inr (record { none = (own, through.none); one = inr through.one })) (rival exits apart.4)

-- what obeys sides and one more
meets_more : (d k : ℕ) (sides : List Side) (side : Side) (e : Exit) → MeetsAll d k sides e → Meets d k e side → MeetsAll d k (sides ++ (side ∷ [])) e
meets_more d k [] side e all one = (one, tt)
meets_more d k (s ∷ sides) side e all one = (all.0, meets_more d k sides side e all.1 one)

obeys_more : (d : ℕ) (routes : List (List Exit)) (sides : List Side) (side : Side) → Obeys d routes sides → ((k : ℕ) → AllByRecursion (λ e. Meets d k e side) (slice_index_or routes k [])) →
    Obeys d routes (sides ++ (side ∷ []))
obeys_more d routes sides side all one = λ k.
    AllByRecursion-weaker (λ e. MeetsAll d k sides e × Meets d k e side) (MeetsAll d k (sides ++ (side ∷ []))) (λ e both. meets_more d k sides side e both.0 both.1)
    (slice_index_or routes k []) (AllByRecursion-both (MeetsAll d k sides) (λ e. Meets d k e side) (slice_index_or routes k []) (all k) (one k))

-- a side of one shipment is obeyed where that shipment's legs obey it
alone : (d shipment : ℕ) (routes : List (List Exit)) (side : Side) → ((k : ℕ) (e : Exit) → k ≢ shipment → Meets d k e side) →
    AllByRecursion (λ e. Meets d shipment e side) (slice_index_or routes shipment []) → (k : ℕ) → AllByRecursion (λ e. Meets d k e side) (slice_index_or routes k [])
alone d shipment routes side others own k =
    ⊎_elim
    (λ (same : k ≡ shipment). subst (λ (j : ℕ). AllByRecursion (λ e. Meets d j e side) (slice_index_or routes j [])) (sym same) own)
    (λ (other : k ≢ shipment). every (slice_index_or routes k []) (λ e. others k e other))
    (same_or_not k shipment)
  where
    every : (xs : List Exit) → ((e : Exit) → Meets d k e side) → AllByRecursion (λ e. Meets d k e side) xs
    every [] all = tt
    every (x ∷ xs) all = (all x, every xs all)

-- as many trucks as sides ask, and one more
counts_more : (counts : Counts) (sides : List Side) (side : Side) → HasCounts counts sides → HasCount counts side → HasCounts counts (sides ++ (side ∷ []))
counts_more counts [] side all one = (one, tt)
counts_more counts (s ∷ sides) side all one = (all.0, counts_more counts sides side all.1 one)

-- each shipment goes by the arcs that sides ask for, and by one more
ways_more : (routes : List (List Exit)) (sides : List Side) (side : Side) → HasWays routes sides → HasWay routes side → HasWays routes (sides ++ (side ∷ []))
ways_more routes [] side all one = (one, tt)
ways_more routes (s ∷ sides) side all one = (all.0, ways_more routes sides side all.1 one)

-- all legs meet a side, so many trucks leave as it asks, and a shipment goes by the arc that it asks for
pub record IsKept (d : ℕ) (routes : List (List Exit)) (counts : Counts) (side : Side) : Type 0 where
  pub legs : (k : ℕ) → AllByRecursion (λ e. Meets d k e side) (slice_index_or routes k [])
  pub trucks : HasCount counts side
  pub way : HasWay routes side

-- where at most so many trucks leave, no leg does if there is to be none
at_most_kept : (d : ℕ) (routes : List (List Exit)) (counts : Counts) (arc point until trucks : ℕ) → AreCounts d routes counts → counts arc point until ≤ trucks → IsKept d routes counts (AtMost arc point until trucks)
at_most_kept d routes counts arc point until trucks counted few = record {
  legs = λ k.
      ⊎_elim
      (λ (none : trucks ≡ 0).
      AllByRecursion-weaker (IsOutside d arc point until) (λ e. trucks ≡ 0 → IsOutside d arc point until e) (λ e outside is. outside)
      (slice_index_or routes k []) (counted arc point until (omega (arith, few, none)) k))
      (λ (some : trucks ≢ 0). free some (slice_index_or routes k []))
      (same_or_not trucks 0);
  trucks = few;
  way = tt;
}
  where
    free : trucks ≢ 0 → (xs : List Exit) → AllByRecursion (λ e. trucks ≡ 0 → IsOutside d arc point until e) xs
    free some [] = tt
    free some (x ∷ xs) = ((λ is. absurd (some is)), free some xs)

-- that more leave asks nothing of the legs
more_than_kept : (d : ℕ) (routes : List (List Exit)) (counts : Counts) (arc point until trucks : ℕ) → trucks < counts arc point until → IsKept d routes counts (MoreThan arc point until trucks)
more_than_kept d routes counts arc point until trucks many = record { legs = λ k. free (slice_index_or routes k []); trucks = many; way = tt }
  where
    free : (xs : List Exit) → AllByRecursion (λ (e : Exit). Unit {0}) xs
    free [] = tt
    free (x ∷ xs) = (tt, free xs)

-- one of a split's two sides is obeyed by all
pub one_side : (tails : ℕ → ℕ) (d : ℕ) (routes : List (List Exit)) (counts : Counts) → ((k : ℕ) → LeaveApart tails (slice_index_or routes k [])) → AreCounts d routes counts →
    (split : Split) (tail : ℕ) → IsTailOfSplit tails split tail → IsKept d routes counts (first_of_split split) ⊎ IsKept d routes counts (second_of_split split tail)
one_side tails d routes counts apart counted (ByArc shipment arc) tail is_tail =
    let exits : List Exit = slice_index_or routes shipment [] in
    let told : AllByRecursion (λ (e : Exit). e.tail ≡ tails e.arc) exits = tails_told tails exits (apart shipment) in
    ⊎_elim
    (λ (without : AllByRecursion (λ e. e.tail ≡ tail → e.arc ≢ arc) exits).
    inl (record {
      trucks = tt;
      way = tt;
      legs = alone d shipment routes (Without shipment arc) (λ k e other same. absurd (other same))
          (AllByRecursion-weaker (λ e. (e.tail ≡ tail → e.arc ≢ arc) × (e.tail ≡ tails e.arc)) (λ e. shipment ≡ shipment → e.arc ≢ arc)
          (λ e both own is. both.0 (both.1 ∙ ap tails is ∙ sym is_tail) is) exits (AllByRecursion-both (λ e. e.tail ≡ tail → e.arc ≢ arc) (λ e. e.tail ≡ tails e.arc) exits without told));
    }))
    (λ (only : AllByRecursion (λ e. e.tail ≡ tail → e.arc ≡ arc) exits).
    inr (record {
      trucks = tt;
      way = tt;
      legs = alone d shipment routes (Only shipment arc tail) (λ k e other same. absurd (other same))
          (AllByRecursion-weaker (λ e. e.tail ≡ tail → e.arc ≡ arc) (λ e. shipment ≡ shipment → e.tail ≡ tail → e.arc ≡ arc) (λ e only_it own. only_it) exits only);
    }))
    (one_or_other tails tail (λ e. e.arc ≢ arc) (λ e. e.arc ≡ arc)
    (λ e. ⊎_elim (λ (same : e.arc ≡ arc). inr same) (λ (other : e.arc ≢ arc). inl other) (same_or_not e.arc arc)) exits (apart shipment))
one_side tails d routes counts apart counted (ByTime shipment terminal at) tail is_tail =
    let exits : List Exit = slice_index_or routes shipment [] in
    ⊎_elim
    (λ (before : AllByRecursion (λ e. e.tail ≡ terminal → e.moment < d * at) exits).
    inl (record {
      trucks = tt;
      way = tt;
      legs = alone d shipment routes (Before shipment terminal at) (λ k e other same. absurd (other same))
          (AllByRecursion-weaker (λ e. e.tail ≡ terminal → e.moment < d * at) (λ e. shipment ≡ shipment → e.tail ≡ terminal → e.moment < d * at) (λ e h own. h) exits before);
    }))
    (λ (after : AllByRecursion (λ e. e.tail ≡ terminal → d * at ≤ e.moment) exits).
    inr (record {
      trucks = tt;
      way = tt;
      legs = alone d shipment routes (From shipment terminal at) (λ k e other same. absurd (other same))
          (AllByRecursion-weaker (λ e. e.tail ≡ terminal → d * at ≤ e.moment) (λ e. shipment ≡ shipment → e.tail ≡ terminal → d * at ≤ e.moment) (λ e h own. h) exits after);
    }))
    (one_or_other tails terminal (λ e. e.moment < d * at) (λ e. d * at ≤ e.moment)
    (λ e. ⊎_elim (λ (h : nat_le (d * at) e.moment ≡ true). inr (leb-true (d * at) e.moment h)) (λ (h : nat_le (d * at) e.moment ≡ false). inl (leb-false (d * at) e.moment h)) (cases_Bool (nat_le (d * at) e.moment))) exits (apart shipment))
one_side tails d routes counts apart counted (ByTrucks arc point until most) tail is_tail =
    ⊎_elim
    (λ (many : most < counts arc point until). inr (more_than_kept d routes counts arc point until most many))
    (λ (few : counts arc point until ≤ most). inl (at_most_kept d routes counts arc point until most counted few))
    (cases_lt most (counts arc point until))
one_side tails d routes counts apart counted (ByWay shipment arc) tail is_tail =
    let exits : List Exit = slice_index_or routes shipment [] in
    ⊎_elim
    (λ (without : AllByRecursion (λ (e : Exit). e.arc ≢ arc) exits).
    inl (record {
      trucks = tt;
      way = tt;
      legs = alone d shipment routes (Without shipment arc) (λ k e other same. absurd (other same))
          (AllByRecursion-weaker (λ (e : Exit). e.arc ≢ arc) (λ e. shipment ≡ shipment → e.arc ≢ arc) (λ e other own. other) exits without);
    }))
    (λ (through : GoesBy arc exits).
    inr (record {
      trucks = tt;
      way = through.one;
      legs = alone d shipment routes (Through shipment arc) (λ k e other same. absurd (other same))
          (AllByRecursion-weaker (λ (e : Exit). e.is_rival arc ≡ false) (λ e. shipment ≡ shipment → e.is_rival arc ≡ false) (λ e none own. none) exits through.none);
    }))
    (way_or_other tails arc exits (apart shipment))

-- all sides are obeyed, so many trucks leave as they ask, and shipments go by the arcs that they ask for
abbrev AreKept : ℕ → List (List Exit) → Counts → List Side → Type 0
AreKept d routes counts sides = Obeys d routes sides × HasCounts counts sides × HasWays routes sides

kept_more : (d : ℕ) (routes : List (List Exit)) (counts : Counts) (sides : List Side) (side : Side) → AreKept d routes counts sides → IsKept d routes counts side → AreKept d routes counts (sides ++ (side ∷ []))
kept_more d routes counts sides side all one = (obeys_more d routes sides side all.0 one.legs, counts_more counts sides side all.1 one.trucks, ways_more routes sides side all.2 one.way)

-- what obeys the sides of one of the trees to come obeys those of one of their leaves
covers_pending : {X : Type 0} (tails : ℕ → ℕ) (fork_of : X → Option Fork) (d : ℕ) (routes : List (List Exit)) (counts : Counts) → ((k : ℕ) → LeaveApart tails (slice_index_or routes k [])) → AreCounts d routes counts →
    (nodes : List X) (pending : List (List Side)) → HaveTails tails fork_of nodes → AreTrees fork_of (length pending) nodes → AnyByRecursion (AreKept d routes counts) pending →
    AnyByRecursion (λ (l : Leaf X). AreKept d routes counts l.sides) (leaves_of fork_of pending nodes)
covers_pending tails fork_of d routes counts apart counted [] [] told trees any = any
covers_pending tails fork_of d routes counts apart counted [] (sides ∷ pending) told trees any = absurd (omega (arith, trees))
covers_pending tails fork_of d routes counts apart counted (x ∷ nodes) [] told trees any = absurd any
covers_pending {X} tails fork_of d routes counts apart counted (x ∷ nodes) (sides ∷ pending) told trees any =
    by_split (fork_of x) told.0 (λ more. covers_pending tails fork_of d routes counts apart counted nodes more told.1) trees
  where
    by_split : (o : Option Fork) → IfSome o (HasTail tails) →
        ((more : List (List Side)) → AreTrees fork_of (length more) nodes → AnyByRecursion (AreKept d routes counts) more → AnyByRecursion (λ (l : Leaf X). AreKept d routes counts l.sides) (leaves_of fork_of more nodes)) →
        elim o as (λ p. Type 0) [ None ↦ AreTrees fork_of (length pending) nodes | Some b ↦ AreTrees fork_of (suc (suc (length pending))) nodes ] →
        AnyByRecursion (λ (l : Leaf X). AreKept d routes counts l.sides) (elim o as (λ p. List (Leaf X)) [
          | None ↦ (record { node = x; sides = sides }) ∷ leaves_of fork_of pending nodes
          | Some b ↦ leaves_of fork_of ((sides ++ (first b ∷ [])) ∷ (sides ++ (second b ∷ [])) ∷ pending) nodes
        ])
    by_split None tail_is again rest =
        ⊎_elim
        (λ (here : AreKept d routes counts sides). inl here)
        (λ (later : AnyByRecursion (AreKept d routes counts) pending). inr (again pending rest later))
        any
    by_split (Some b) tail_is again rest =
        again ((sides ++ (first b ∷ [])) ∷ (sides ++ (second b ∷ [])) ∷ pending) rest
        (⊎_elim
        (λ (here : AreKept d routes counts sides).
        ⊎_elim (λ one. inl (kept_more d routes counts sides (first b) here one)) (λ one. inr (inl (kept_more d routes counts sides (second b) here one)))
        (one_side tails d routes counts apart counted b.split b.tail tail_is))
        (λ (later : AnyByRecursion (AreKept d routes counts) pending). inr (inr later))
        any)

-- the leaves of a tree cover all
pub CoversAll-tree_leaves : {X : Type 0} (tails : ℕ → ℕ) (fork_of : X → Option Fork) (nodes : List X) → HaveTails tails fork_of nodes → IsTree fork_of nodes → CoversAll tails (tree_leaves fork_of nodes)
CoversAll-tree_leaves tails fork_of nodes told tree d routes counts apart counted =
    covers_pending tails fork_of d routes counts apart counted nodes ([] ∷ []) told tree (inl ((λ k. every (slice_index_or routes k [])), tt, tt))
  where
    every : (xs : List Exit) → AllByRecursion (λ (e : Exit). Unit {0}) xs
    every [] = tt
    every (x ∷ xs) = (tt, every xs)
