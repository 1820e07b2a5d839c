-- What a search keeps when the next node is settled.
use Rattle.std.proofs.Common.{◌≡◌, ◌≢◌, ℕ, zero, suc, ◌+◌, ◌*◌, ◌<◌, ◌≤◌, Bool, true, false, cond, List, [], ◌∷◌, Option, ◌⊎◌, inl, inr, ⊎_elim, length, refl, sym, ap, ◌∙◌, subst, arith}
use Rattle.std.specs.Prelude.{slice_set}
use Rattle.std.proofs.Math.Nat.{mul-le-mul_left}
use Rattle.std.proofs.lemmas.Bool.{cases_eq, cases_lt, cond-false}
use Rattle.std.proofs.lemmas.List.{get_or-set_same, get_or-set_other, length-set}
use Rattle.std.proofs.lemmas.List.Sums.{sum_by-set, sum_by-cons, count_by-le-length}
use Rattle.fp_labels.specs.declared.walks.Label.{Label}
use Rattle.fp_labels.specs.Graphs.{Shape, edge_at}
use Rattle.fp_labels.specs.Walks.{nodes_on}
use Rattle.fp_labels.specs.Labels.{label_at, greatest_cost}
use Rattle.fp_labels.specs.Searches.{Entry, is_settled, settled_count, AreSettled, SettlesNext, IsTraced, IsRelaxed, IsSearch, IsLast}
use Rattle.fp_base_lists.proofs.Elements.{AllByRecursion-weaker}
use Rattle.fp_labels.proofs.Queues.{label_inside}

-- no more nodes are settled than there are
pub settled_count-le : (settled : List Bool) → settled_count settled ≤ length settled
settled_count-le settled = count_by-le-length (λ (b : Bool). b) settled

-- where all are counted, each is settled
all_counted : (settled : List Bool) → settled_count settled ≡ length settled → (k : ℕ) → k < length settled → is_settled settled k ≡ true
all_counted [] counted k below = absurd (omega arith)
all_counted (true ∷ settled) counted zero below = refl
all_counted (true ∷ settled) counted (suc k) below =
    all_counted settled (omega (arith, sum_by-cons (λ (b : Bool). cond b 1 0) true settled, counted)) k (omega arith)
all_counted (false ∷ settled) counted k below =
    absurd (omega (arith, sum_by-cons (λ (b : Bool). cond b 1 0) false settled, counted, settled_count-le settled))

-- where as many nodes are settled as there are, each label is settled
pub all_settled : (graph : Shape) (costs : List (Option ℕ)) (start : ℕ) (labels : List (Option Label)) (settled : List Bool) (queue : List Entry) → IsSearch graph costs start labels settled queue (λ _. ⊥) →
    settled_count settled ≡ graph.nodes → AreSettled labels settled
all_settled graph costs start labels settled queue searched counted = λ node l at.
    (let walked = searched.walked in
    all_counted settled (omega (arith, walked.settled_len)) node (omega (arith, label_inside labels node l at, walked.labels_len, walked.settled_len)))

-- a cost is small where so many times it is
pub small_cost : (n b a : ℕ) → n * a ≤ b * greatest_cost → b ≤ n → 0 < n → a ≤ greatest_cost
small_cost n b a small below some =
    ⊎_elim
    (λ (large : greatest_cost < a). let more : greatest_cost + 1 ≤ a = omega arith in absurd (omega (arith, mul-le-mul_left n more)))
    (λ (le : a ≤ greatest_cost). le)
    (cases_lt greatest_cost a)

-- what follows when a node is settled
pub record GoesOn (graph : Shape) (costs : List (Option ℕ)) (start : ℕ) (labels : List (Option Label)) (settled new : List Bool) (queue : List Entry) (cost node : ℕ) : Type 0 where
  pub searched : IsSearch graph costs start labels new queue (λ e. (edge_at graph.edges e).from ≡ node)
  pub last : IsLast graph costs start labels new node cost
  pub counted : settled_count new ≡ settled_count settled + 1
  pub small : cost ≤ greatest_cost

module _ (graph : Shape) (costs : List (Option ℕ)) (start : ℕ) (labels : List (Option Label)) (settled new : List Bool) (before queue : List Entry) (cost node : ℕ)
    (searched : IsSearch graph costs start labels settled before (λ _. ⊥)) (next : SettlesNext labels settled new queue cost node) where
  inside : node < length settled
  inside =
      let walked = searched.walked in
      omega (arith, label_inside labels node next.label.0 next.label.1, walked.labels_len, walked.settled_len)

  next_inside : node < graph.nodes
  next_inside =
      let walked = searched.walked in
      omega (arith, inside, walked.settled_len)

  new_at : (n : ℕ) → is_settled new n ≡ is_settled (slice_set settled node true) n
  new_at n = ap (λ (s : List Bool). is_settled s n) next.marked

  now_settled : is_settled new node ≡ true
  now_settled = new_at node ∙ get_or-set_same settled node true false inside

  kept : (n : ℕ) → n ≢ node → is_settled new n ≡ is_settled settled n
  kept n ne = new_at n ∙ get_or-set_other settled node n true false ne

  still_settled : (n : ℕ) → is_settled settled n ≡ true → is_settled new n ≡ true
  still_settled n is =
      ⊎_elim
      (λ (same : n ≡ node). ap (λ (m : ℕ). is_settled new m) same ∙ now_settled)
      (λ (ne : n ≡ node → ⊥). kept n ne ∙ is)
      (cases_eq n node)

  next_counted : settled_count new ≡ settled_count settled + 1
  next_counted =
      let one = sum_by-set (λ (b : Bool). cond b 1 0) settled node true false inside in
      let none : cond {A = ℕ} (is_settled settled node) 1 0 ≡ 0 = cond-false {A = ℕ} (is_settled settled node) 1 0 next.fresh in
      let marked : settled_count new ≡ settled_count (slice_set settled node true) = ap (λ (s : List Bool). settled_count s) next.marked in
      omega arith

  new_len : length new ≡ length settled
  new_len = ap (λ (s : List Bool). length s) next.marked ∙ length-set settled node true

  kept_walk : (count more n c : ℕ) (walk : List ℕ) → count ≤ more → IsTraced graph.edges costs start labels settled count n c walk → IsTraced graph.edges costs start labels new more n c walk
  kept_walk count more n c walk below t = record {
    simple = t.simple;
    inside = AllByRecursion-weaker (λ m. (m ≡ n) ⊎ (is_settled settled m ≡ true)) (λ m. (m ≡ n) ⊎ (is_settled new m ≡ true))
        (λ m so. ⊎_elim (λ (is : m ≡ n). inl is) (λ (is : is_settled settled m ≡ true). inr (still_settled m is)) so) (nodes_on graph.edges start walk) t.inside;
    short = omega (arith, t.short);
    told = t.told;
  }

  next_last : IsLast graph costs start labels new node cost
  next_last =
      let l : Label = next.label.0 in
      let walk = searched.walked.walks node l next.label.1 in
      let cost_is : l.cost ≡ cost = next.label.2 in
      record {
        before = settled_count settled;
        counted = next_counted;
        label = next.label;
        settled_now = now_settled;
        behind = next.behind;
        walk = subst (λ (c : ℕ). (walk : List ℕ) × IsTraced graph.edges costs start labels new (settled_count settled) node c walk) cost_is
            (walk.0, kept_walk (settled_count settled) (settled_count settled) node l.cost walk.0 (omega arith) walk.1);
        small = subst (λ (c : ℕ). graph.nodes * c ≤ settled_count settled * greatest_cost) cost_is (searched.walked.small node l next.label.1);
      }

  next_small : cost ≤ greatest_cost
  next_small =
      let walked = searched.walked in
      let small = subst (λ (c : ℕ). graph.nodes * c ≤ settled_count settled * greatest_cost) next.label.2 (walked.small node next.label.0 next.label.1) in
      small_cost graph.nodes (settled_count settled) cost small (omega (arith, settled_count-le settled, walked.settled_len)) (omega (arith, next_inside))

  next_search : IsSearch graph costs start labels new queue (λ e. (edge_at graph.edges e).from ≡ node)
  next_search =
      let walked = searched.walked in
      record {
        walked = record {
          labels_len = walked.labels_len;
          settled_len = new_len ∙ walked.settled_len;
          started = walked.started;
          reached = λ n is.
              ⊎_elim
              (λ (same : n ≡ node). (next.label.0, ap (λ (m : ℕ). label_at labels m) same ∙ next.label.1))
              (λ (ne : n ≡ node → ⊥). walked.reached n (sym (kept n ne) ∙ is))
              (cases_eq n node);
          steps = λ n s is. still_settled s.from (walked.steps n s is);
          walks = λ n l at. (let w = walked.walks n l at in (w.0, kept_walk (settled_count settled) (settled_count new) n l.cost w.0 (omega (arith, next_counted)) w.1));
          small = λ n l at. omega (arith, walked.small n l at, next_counted);
        };
        relaxed = λ e e_inside is.
            ⊎_elim
            (λ (same : (edge_at graph.edges e).from ≡ node). inr same)
            (λ (ne : (edge_at graph.edges e).from ≡ node → ⊥).
            ⊎_elim
            (λ (done : IsRelaxed graph.edges costs labels e). inl done)
            (λ (left : ⊥). absurd left)
            (searched.relaxed e e_inside (sym (kept (edge_at graph.edges e).from ne) ∙ is)))
            (cases_eq (edge_at graph.edges e).from node);
        queued = next.queued;
      }

  pub goes_on : GoesOn graph costs start labels settled new queue cost node
  goes_on = record { searched = next_search; last = next_last; counted = next_counted; small = next_small }
