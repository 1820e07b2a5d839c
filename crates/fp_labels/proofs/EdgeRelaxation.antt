-- What a search keeps when an edge is relaxed.
use Rattle.std.proofs.Common.{◌≡◌, ◌≢◌, ℕ, suc, ◌+◌, ◌*◌, ◌-◌, ◌<◌, ◌≤◌, Bool, true, false, List, [], ◌∷◌, ◌++◌, Option, None, Some, ◌⊎◌, inl, inr, ⊎_elim, length, drop, get_or, refl, sym, ap, ◌∙◌, subst, arith}
use Rattle.std.specs.Prelude.{All, Contains, IsPermutation, slice_set}
use Rattle.std.specs.Option.{option_and_then}
use Rattle.std.specs.List.{AllByRecursion}
use Rattle.std.specs.BinaryHeap.{KeepsHeap}
use Rattle.std.proofs.lemmas.Bool.{cases_lt, cases_eq}
use Rattle.std.proofs.lemmas.Option.{same_Some, none-some}
use Rattle.std.proofs.lemmas.List.{get_or-set_same, get_or-set_other, length-set, length_push, drop_more, drop_all}
use Rattle.std.proofs.lemmas.List.Elements.{All-cons, All-weaker}
use Rattle.std.proofs.lemmas.List.Sorted.{All-permutation, Contains-permutation}
use Rattle.fp_labels.specs.declared.graphs.Edge.{Edge}
use Rattle.fp_labels.specs.declared.walks.Label.{Label}
use Rattle.fp_labels.specs.declared.walks.Step.{Step}
use Rattle.fp_labels.specs.Graphs.{Shape, edge_at}
use Rattle.fp_labels.specs.Walks.{cost_of, nodes_on, IsWalk}
use Rattle.fp_base_lists.specs.Distinct.{AreDistinct}
use Rattle.fp_labels.specs.Rows.{IsRow}
use Rattle.fp_labels.specs.Labels.{label_at, step_to, traced, greatest_cost, IsSmallFor}
use Rattle.fp_labels.specs.Searches.{Entry, entry_cmp, is_settled, settled_count, IsWithin, AreBehind, IsQueue, Improves, IsTraced, AreWalked, IsRelaxed, AreRelaxed, IsSearch, IsLast}
use Rattle.fp_base_lists.proofs.Distinct.{AreDistinct-push}
use Rattle.fp_base_lists.proofs.Elements.{AllByRecursion-weaker, AllByRecursion-push}
use Rattle.fp_base_lists.proofs.Membership.{Contains-cons_cases}
use Rattle.fp_labels.proofs.LongerWalks.{nodes_push, walk_push}
use Rattle.fp_labels.proofs.WalksBack.{traced_step, traced_elsewhere}

-- a node at most so dear is at most dearer
pub within_weaker : (labels : List (Option Label)) (node a b : ℕ) → a ≤ b → IsWithin labels node a → IsWithin labels node b
within_weaker labels node a b below within = (within.0, within.1, (let le = within.2 in omega arith))

-- the first edge that was to do is done
first_done : (edges : List Edge) (costs : List (Option ℕ)) (labels : List (Option Label)) (settled : List Bool) (e : ℕ) (rest : List ℕ) →
    AreRelaxed edges costs labels settled (Contains (e ∷ rest)) → IsRelaxed edges costs labels e → AreRelaxed edges costs labels settled (Contains rest)
first_done edges costs labels settled e rest before here other inside is =
    ⊎_elim
    (λ (done : IsRelaxed edges costs labels other). inl done)
    (λ (left : Contains (e ∷ rest) other).
    ⊎_elim
    (λ (same : e ≡ other). inl (subst (λ (n : ℕ). IsRelaxed edges costs labels n) same here))
    (λ (later : Contains rest other). inr later)
    (Contains-cons_cases e rest other left))
    (before other inside is)

-- an open edge is relaxed where its head has a label of at most the label of its tail and its cost
edge_done : (edges : List Edge) (costs : List (Option ℕ)) (labels : List (Option Label)) (e node to cost more : ℕ) (near : Label) → (edge_at edges e).from ≡ node → (edge_at edges e).to ≡ to →
    cost_of costs e ≡ Some more → label_at labels node ≡ Some near → near.cost ≡ cost → IsWithin labels to (cost + more) → IsRelaxed edges costs labels e
edge_done edges costs labels e node to cost more near leaves enters unbarred near_at near_is within c l is_open at =
    let c_is : more ≡ c = same_Some more c (sym unbarred ∙ is_open) in
    let l_is : near ≡ l = same_Some near l (sym near_at ∙ ap (λ (n : ℕ). label_at labels n) (sym leaves) ∙ at) in
    let cost_is : l.cost ≡ cost = ap (λ (k : Label). k.cost) (sym l_is) ∙ near_is in
    subst (λ (n : ℕ). IsWithin labels n (l.cost + c)) (sym enters) (within_weaker labels to (cost + more) (l.cost + c) (omega arith) within)

-- a node gets a cheaper label over an edge that leaves the node that was settled last
module _ (graph : Shape) (costs : List (Option ℕ)) (start : ℕ) (labels : List (Option Label)) (settled : List Bool) (node cost e more to : ℕ)
    (walked : AreWalked graph costs start labels settled (settled_count settled)) (last : IsLast graph costs start labels settled node cost)
    (inside : e < length graph.edges) (leaves : (edge_at graph.edges e).from ≡ node) (enters : (edge_at graph.edges e).to ≡ to) (to_inside : to < graph.nodes)
    (unbarred : cost_of costs e ≡ Some more) (small : graph.nodes * more ≤ greatest_cost)
    (dearer : IsWithin labels to (cost + more) → ⊥) where
  abbrev pub step : Step
  step = record { edge = e; from = node }

  abbrev pub label : Label
  label = record { cost = cost + more; step = Some step }

  abbrev pub new : List (Option Label)
  new = slice_set labels to (Some label)

  settled_apart : (n : ℕ) → is_settled settled n ≡ true → n ≢ to
  settled_apart n is same =
      let to_is : is_settled settled to ≡ true = subst (λ (m : ℕ). is_settled settled m ≡ true) same is in
      let found = walked.reached to to_is in
      dearer (found.0, found.1, (let behind = last.behind to found.0 found.1 to_is in omega arith))

  node_apart : node ≢ to
  node_apart = settled_apart node last.settled_now

  at_to : label_at new to ≡ Some label
  at_to = get_or-set_same labels to (Some label) None (omega (arith, walked.labels_len, to_inside))

  elsewhere : (n : ℕ) → n ≢ to → label_at new n ≡ label_at labels n
  elsewhere n ne = get_or-set_other labels to n (Some label) None ne

  lowered : (n bound : ℕ) → IsWithin labels n bound → IsWithin new n bound
  lowered n bound within =
      ⊎_elim
      (λ (same : n ≡ to).
      let here : label_at labels to ≡ Some within.0 = subst (λ (m : ℕ). label_at labels m ≡ Some within.0) same within.1 in
      let below : cost + more ≤ bound = ⊎_elim (λ (lt : bound < cost + more). absurd (dearer (within.0, here, (let le = within.2 in omega arith)))) (λ (le : cost + more ≤ bound). le) (cases_lt bound (cost + more)) in
      subst (λ (m : ℕ). IsWithin new m bound) (sym same) (label, at_to, below))
      (λ (ne : n ≡ to → ⊥). (within.0, elsewhere n ne ∙ within.1, within.2))
      (cases_eq n to)

  -- a fact of each label holds still if it holds of the new one
  each_label : (P : ℕ → Label → Type 0) → P to label → ((n : ℕ) (l : Label) → n ≢ to → label_at labels n ≡ Some l → P n l) → (n : ℕ) (l : Label) → label_at new n ≡ Some l → P n l
  each_label P here there n l at =
      ⊎_elim
      (λ (same : n ≡ to).
      let l_is : label ≡ l = same_Some label l (sym at_to ∙ ap (λ (m : ℕ). label_at new m) (sym same) ∙ at) in
      subst (λ (m : ℕ). P m l) (sym same) (subst (λ (k : Label). P to k) l_is here))
      (λ (ne : n ≡ to → ⊥). there n l ne (sym (elsewhere n ne) ∙ at))
      (cases_eq n to)

  traced_same : (fuel n : ℕ) → n ≢ to → traced new fuel n ≡ traced labels fuel n
  traced_same = traced_elsewhere labels new to elsewhere (λ n s is. settled_apart s.from (walked.steps n s is))

  kept_walk : (count n c : ℕ) (walk : List ℕ) → n ≢ to → IsTraced graph.edges costs start labels settled count n c walk → IsTraced graph.edges costs start new settled count n c walk
  kept_walk count n c walk ne t = record {
    simple = t.simple;
    inside = t.inside;
    short = t.short;
    told = λ fuel long. traced_same fuel n ne ∙ t.told fuel long;
  }

  new_walk : (walk : List ℕ) × IsTraced graph.edges costs start new settled (settled_count settled) to (cost + more) walk
  new_walk =
      let walk : List ℕ = last.walk.0 in
      let t = last.walk.1 in
      let len : length (walk ++ (e ∷ [])) ≡ length walk + 1 = length_push walk e in
      let nodes_are : nodes_on graph.edges start (walk ++ (e ∷ [])) ≡ nodes_on graph.edges start walk ++ (to ∷ []) =
      subst (λ (m : ℕ). nodes_on graph.edges start (walk ++ (e ∷ [])) ≡ nodes_on graph.edges start walk ++ (m ∷ [])) enters (nodes_push graph.edges start walk e) in (
        walk ++ (e ∷ []),
        record {
          simple = record {
            goes = subst (λ (m : ℕ). IsWalk graph.edges costs start m (walk ++ (e ∷ [])) (cost + more)) enters
                (walk_push graph.edges costs start node walk cost e more t.simple.goes inside leaves unbarred);
            apart = subst (λ (ns : List ℕ). AreDistinct ns) (sym nodes_are) (AreDistinct-push (nodes_on graph.edges start walk) to t.simple.apart
                (AllByRecursion-weaker (λ m. (m ≡ node) ⊎ (is_settled settled m ≡ true)) (λ m. m ≢ to)
                (λ m so. ⊎_elim (λ (is : m ≡ node). λ same. node_apart (sym is ∙ same)) (λ (is : is_settled settled m ≡ true). settled_apart m is) so)
                (nodes_on graph.edges start walk) t.inside));
          };
          inside = subst (λ (ns : List ℕ). AllByRecursion (λ m. (m ≡ to) ⊎ (is_settled settled m ≡ true)) ns) (sym nodes_are)
              (AllByRecursion-push (λ m. (m ≡ to) ⊎ (is_settled settled m ≡ true)) (nodes_on graph.edges start walk) to
              (AllByRecursion-weaker (λ m. (m ≡ node) ⊎ (is_settled settled m ≡ true)) (λ m. (m ≡ to) ⊎ (is_settled settled m ≡ true))
              (λ m so. ⊎_elim (λ (is : m ≡ node). inr (ap (λ (k : ℕ). is_settled settled k) is ∙ last.settled_now)) (λ (is : is_settled settled m ≡ true). inr is) so)
              (nodes_on graph.edges start walk) t.inside)
              (inl refl));
          short = omega (arith, t.short, last.counted);
          told = λ fuel long.
              (let left : ℕ = fuel - 1 in
              let one : fuel ≡ left + 1 = omega arith in
              traced_step new fuel left to step one (ap (λ (o : Option Label). option_and_then (λ (l : Label). l.step) o) at_to)
              ∙ ap (λ (xs : List ℕ). xs ++ (e ∷ [])) (traced_same left node node_apart ∙ t.told left (omega arith)));
        },
      )

  small_sum : graph.nodes * (cost + more) ≤ settled_count settled * greatest_cost
  small_sum = omega (arith, last.small, last.counted, small)

  improved_walked : AreWalked graph costs start new settled (settled_count settled)
  improved_walked = record {
    labels_len = length-set labels to (Some label) ∙ walked.labels_len;
    settled_len = walked.settled_len;
    started = lowered start 0 walked.started;
    reached = λ n is. (let found = walked.reached n is in (found.0, elsewhere n (settled_apart n is) ∙ found.1));
    steps = λ n s is.
        ⊎_elim
        (λ (same : n ≡ to).
        let step_is : step ≡ s = same_Some step s (sym (ap (λ (o : Option Label). option_and_then (λ (l : Label). l.step) o) at_to) ∙ ap (λ (m : ℕ). step_to new m) (sym same) ∙ is) in
        subst (λ (t : Step). is_settled settled t.from ≡ true) step_is last.settled_now)
        (λ (ne : n ≡ to → ⊥). walked.steps n s (sym (ap (λ (o : Option Label). option_and_then (λ (l : Label). l.step) o) (elsewhere n ne)) ∙ is))
        (cases_eq n to);
    walks = each_label (λ n l. (walk : List ℕ) × IsTraced graph.edges costs start new settled (settled_count settled) n l.cost walk) new_walk
        (λ n l ne at. (let w = walked.walks n l at in (w.0, kept_walk (settled_count settled) n l.cost w.0 ne w.1)));
    small = each_label (λ n l. graph.nodes * l.cost ≤ settled_count settled * greatest_cost) small_sum (λ n l ne at. walked.small n l at);
  }

  improved_last : IsLast graph costs start new settled node cost
  improved_last = record {
    before = last.before;
    counted = last.counted;
    label = (last.label.0, elsewhere node node_apart ∙ last.label.1, last.label.2);
    settled_now = last.settled_now;
    behind = λ n l at is. last.behind n l (sym (elsewhere n (settled_apart n is)) ∙ at) is;
    walk = (last.walk.0, kept_walk last.before node cost last.walk.0 node_apart last.walk.1);
    small = last.small;
  }

  improved_relaxed : (IsToDo : ℕ → Type 0) → AreRelaxed graph.edges costs labels settled IsToDo → AreRelaxed graph.edges costs new settled IsToDo
  improved_relaxed IsToDo before other other_inside is =
      ⊎_elim
      (λ (done : IsRelaxed graph.edges costs labels other).
      inl (λ c l is_open at. lowered (edge_at graph.edges other).to (l.cost + c)
      (done c l is_open (sym (elsewhere (edge_at graph.edges other).from (settled_apart (edge_at graph.edges other).from is)) ∙ at))))
      (λ (left : IsToDo other). inr left)
      (before other other_inside is)

  improved_here : IsWithin new to (cost + more)
  improved_here = (label, at_to, omega arith)

  improved_queue : (queue pushed : List Entry) → IsQueue labels settled queue → IsPermutation (record { 0 = (cost + more, to) } ∷ queue) pushed → KeepsHeap entry_cmp queue pushed → IsQueue new settled pushed
  improved_queue queue pushed queued perm keeps =
      let entry : Entry = record { 0 = (cost + more, to) } in
      record {
        ordered = keeps queued.ordered;
        reached = All-permutation (λ (x : Entry). IsWithin new x.0.1 x.0.0) (entry ∷ queue) pushed perm
            (All-cons (λ (x : Entry). IsWithin new x.0.1 x.0.0) entry queue improved_here
            (All-weaker (λ (x : Entry). IsWithin labels x.0.1 x.0.0) (λ (x : Entry). IsWithin new x.0.1 x.0.0) (λ x within. lowered x.0.1 x.0.0 within) queue queued.reached));
        waiting = each_label (λ n l. is_settled settled n ≡ false → Contains pushed (record { 0 = (l.cost, n) }))
            (λ _. Contains-permutation (entry ∷ queue) pushed entry perm (0, omega arith, refl))
            (λ n l ne at unsettled.
            (let x : Entry = record { 0 = (l.cost, n) } in
            let found = queued.waiting n l at unsettled in
            Contains-permutation (entry ∷ queue) pushed x perm (suc found.0, omega (arith, found.1), found.2)));
        behind = All-permutation (λ (x : Entry). AreBehind new settled x.0.0) (entry ∷ queue) pushed perm
            (All-cons (λ (x : Entry). AreBehind new settled x.0.0) entry queue
            (λ n l at is. (let below = improved_last.behind n l at is in omega arith))
            (All-weaker (λ (x : Entry). AreBehind labels settled x.0.0) (λ (x : Entry). AreBehind new settled x.0.0)
            (λ x before. λ n l at is. before n l (sym (elsewhere n (settled_apart n is)) ∙ at) is) queue queued.behind));
      }

  pub improved_search : (rest : List ℕ) (queue pushed : List Entry) → AreRelaxed graph.edges costs labels settled (Contains (e ∷ rest)) → IsQueue labels settled queue →
      IsPermutation (record { 0 = (cost + more, to) } ∷ queue) pushed → KeepsHeap entry_cmp queue pushed →
      IsSearch graph costs start new settled pushed (Contains rest) × IsLast graph costs start new settled node cost
  improved_search rest queue pushed relaxed queued perm keeps = (
    record {
      walked = improved_walked;
      relaxed = first_done graph.edges costs new settled e rest (improved_relaxed (Contains (e ∷ rest)) relaxed)
          (edge_done graph.edges costs new e node to cost more last.label.0 leaves enters unbarred (elsewhere node node_apart ∙ last.label.1) last.label.2 improved_here);
      queued = improved_queue queue pushed queued perm keeps;
    },
    improved_last,
  )

-- the next edge of the row of the node that was settled last
module _ (graph : Shape) (costs : List (Option ℕ)) (start : ℕ) (labels : List (Option Label)) (settled : List Bool) (queue : List Entry) (node cost : ℕ) (row : List ℕ) (i : ℕ)
    (below : i < length row) (is_row : IsRow graph.edges node row)
    (searched : IsSearch graph costs start labels settled queue (Contains (drop i row))) (last : IsLast graph costs start labels settled node cost) where
  to_do : AreRelaxed graph.edges costs labels settled (Contains (get_or row i 0 ∷ drop (i + 1) row))
  to_do = subst (λ (xs : List ℕ). AreRelaxed graph.edges costs labels settled (Contains xs)) (drop_more row i 0 below) searched.relaxed

  -- it is barred
  pub barred_done : cost_of costs (get_or row i 0) ≡ None → IsSearch graph costs start labels settled queue (Contains (drop (i + 1) row))
  barred_done barred = record {
    walked = searched.walked;
    relaxed = first_done graph.edges costs labels settled (get_or row i 0) (drop (i + 1) row) to_do (λ c l unbarred at. absurd (none-some c (sym barred ∙ unbarred)));
    queued = searched.queued;
  }

  -- it is open
  module _ (more to : ℕ) (unbarred : cost_of costs (get_or row i 0) ≡ Some more) (enters : (edge_at graph.edges (get_or row i 0)).to ≡ to) where
    cheap_done : IsWithin labels to (cost + more) → IsSearch graph costs start labels settled queue (Contains (drop (i + 1) row))
    cheap_done within = record {
      walked = searched.walked;
      relaxed = first_done graph.edges costs labels settled (get_or row i 0) (drop (i + 1) row) to_do (edge_done graph.edges costs labels (get_or row i 0) node to cost more last.label.0 (is_row.leave i 0 below).1 enters unbarred last.label.1 last.label.2 within);
      queued = searched.queued;
    }

    pub improved_done : to < graph.nodes → graph.nodes * more ≤ greatest_cost → (after : List (Option Label)) (pushed : List Entry) →
        Improves labels queue after pushed to (cost + more) (record { edge = get_or row i 0; from = node }) →
        IsSearch graph costs start after settled pushed (Contains (drop (i + 1) row)) × IsLast graph costs start after settled node cost
    improved_done to_inside small after pushed improves =
        let leaves = is_row.leave i 0 below in
        ⊎_elim
        (λ (kept : IsWithin labels to (cost + more) × (after ≡ labels) × (pushed ≡ queue)).
        subst (λ (xs : List (Option Label)). IsSearch graph costs start xs settled pushed (Contains (drop (i + 1) row)) × IsLast graph costs start xs settled node cost) (sym kept.1)
        (subst (λ (es : List Entry). IsSearch graph costs start labels settled es (Contains (drop (i + 1) row))) (sym kept.2) (cheap_done kept.0), last))
        (λ (taken : (IsWithin labels to (cost + more) → ⊥)
        × (after ≡ slice_set labels to (Some (record { cost = cost + more; step = Some (record { edge = get_or row i 0; from = node }) })))
        × IsPermutation (record { 0 = (cost + more, to) } ∷ queue) pushed × KeepsHeap entry_cmp queue pushed).
        subst (λ (xs : List (Option Label)). IsSearch graph costs start xs settled pushed (Contains (drop (i + 1) row)) × IsLast graph costs start xs settled node cost) (sym taken.1)
        (improved_search graph costs start labels settled node cost (get_or row i 0) more to searched.walked last leaves.0 leaves.1 enters to_inside unbarred small taken.0
        (drop (i + 1) row) queue pushed to_do searched.queued taken.2 taken.3))
        improves

-- an open edge's cost is small
pub small_at : (nodes : ℕ) (costs : List (Option ℕ)) (e more : ℕ) → All (IsSmallFor nodes) costs → e < length costs → cost_of costs e ≡ Some more → nodes * more ≤ greatest_cost
small_at nodes costs e more small below is = subst (λ (o : Option ℕ). IsSmallFor nodes o) is (small e None below)

-- nothing is left to do
pub all_done : (graph : Shape) (costs : List (Option ℕ)) (start : ℕ) (labels : List (Option Label)) (settled : List Bool) (queue : List Entry) (row : List ℕ) (i : ℕ) → length row ≤ i →
    IsSearch graph costs start labels settled queue (Contains (drop i row)) → IsSearch graph costs start labels settled queue (λ _. ⊥)
all_done graph costs start labels settled queue row i past searched = record {
  walked = searched.walked;
  relaxed = λ e inside is.
      ⊎_elim
      (λ (done : IsRelaxed graph.edges costs labels e). inl done)
      (λ (left : Contains (drop i row) e). absurd (none_in e (subst (λ (xs : List ℕ). Contains xs e) (drop_all i row past) left)))
      (searched.relaxed e inside is);
  queued = searched.queued;
}
  where
    none_in : (e : ℕ) → Contains [] e → ⊥
    none_in e left = omega (arith, left.1)

-- an improvement keeps the number of labels
pub improves_len : (labels after : List (Option Label)) (queue pushed : List Entry) (to cost : ℕ) (s : Step) → Improves labels queue after pushed to cost s → length after ≡ length labels
improves_len labels after queue pushed to cost s improves =
    ⊎_elim
    (λ (kept : IsWithin labels to cost × (after ≡ labels) × (pushed ≡ queue)). ap (λ (xs : List (Option Label)). length xs) kept.1)
    (λ (taken : (IsWithin labels to cost → ⊥) × (after ≡ slice_set labels to (Some (record { cost = cost; step = Some s })))
    × IsPermutation (record { 0 = (cost, to) } ∷ queue) pushed × KeepsHeap entry_cmp queue pushed).
    ap (λ (xs : List (Option Label)). length xs) taken.1 ∙ length-set labels to (Some (record { cost = cost; step = Some s })))
    improves
