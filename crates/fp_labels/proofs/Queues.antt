-- What the queue keeps when an entry leaves it.
use Rattle.std.proofs.Common.{◌≡◌, ◌≢◌, ℕ, zero, suc, ◌<◌, ◌≤◌, Bool, true, false, cond, List, [], ◌∷◌, Option, None, Some, ◌⊎◌, inl, inr, ⊎_elim, length, refl, sym, ap, ◌∙◌, arith}
use Rattle.std.specs.Prelude.{◌==◌, All, Contains, IsPermutation, slice_set}
use Rattle.std.specs.Ordering.{nat_cmp, ordering_then, is_lt}
use Rattle.std.specs.BinaryHeap.{IsHeap, IsUpperBound, PopsGreatest}
use Rattle.std.specs.declared.cmp.Ordering.{Ordering}
use Rattle.std.specs.declared.cmp.Ordering.TheVariants.{Less, Equal, Greater}
use Rattle.std.proofs.lemmas.Bool.{true≢false, false≢true, lt-ltb, cases_lt, cases_eq}
use Rattle.std.proofs.lemmas.Option.{same_Some, none-some}
use Rattle.std.proofs.lemmas.List.{get_or_past, get_or-set_same, get_or-set_other}
use Rattle.std.proofs.lemmas.List.Elements.{All-nil, All-cons, All-head, All-tail, All-weaker, All-contains}
use Rattle.std.proofs.lemmas.List.Sorted.{All-permutation, Contains-permutation}
use Rattle.fp_base_lists.proofs.Membership.{Contains-cons_cases}
use Rattle.fp_labels.specs.declared.walks.Label.{Label}
use Rattle.fp_labels.specs.Labels.{label_at}
use Rattle.fp_labels.specs.Searches.{Entry, entry_cmp, is_settled, IsWithin, AreBehind, IsQueue, SettlesNext}

-- what isn't before in the queue's order costs as much or more
not_below : (a b : ℕ) (o : Ordering) → is_lt (ordering_then (nat_cmp b a) o) ≡ false → a ≤ b
not_below a b o h =
    ⊎_elim
    (λ (below : b < a). absurd (true≢false (sym (ap (λ (t : Bool). is_lt (ordering_then (cond t Less (cond (b == a) Equal Greater)) o)) (lt-ltb b a below)) ∙ h)))
    (λ (above : a ≤ b). above)
    (cases_lt b a)

-- the top of the queue costs the least
least_top : (x : Entry) (xs : List Entry) → IsUpperBound entry_cmp x xs → All (λ (e : Entry). x.0.0 ≤ e.0.0) xs
least_top x [] h = All-nil (λ (e : Entry). x.0.0 ≤ e.0.0)
least_top x (y ∷ ys) h = All-cons (λ (e : Entry). x.0.0 ≤ e.0.0) y ys (not_below x.0.0 y.0.0 _ h.0) (least_top x ys h.1)

-- a node with a label is within the list
pub label_inside : (labels : List (Option Label)) (node : ℕ) (l : Label) → label_at labels node ≡ Some l → node < length labels
label_inside labels node l at =
    ⊎_elim
    (λ (below : node < length labels). below)
    (λ (past : length labels ≤ node). absurd (none-some l (sym (get_or_past labels node None past) ∙ at)))
    (cases_lt node (length labels))

-- an entry leaves the queue
module _ (labels : List (Option Label)) (settled : List Bool) (queue rest : List Entry) (x : Entry)
    (queued : IsQueue labels settled queue) (perm : IsPermutation queue (x ∷ rest)) (ordered : IsHeap entry_cmp rest) where
  all_reached : All (λ (e : Entry). IsWithin labels e.0.1 e.0.0) (x ∷ rest)
  all_reached = All-permutation (λ (e : Entry). IsWithin labels e.0.1 e.0.0) queue (x ∷ rest) perm queued.reached

  all_behind : All (λ (e : Entry). AreBehind labels settled e.0.0) (x ∷ rest)
  all_behind = All-permutation (λ (e : Entry). AreBehind labels settled e.0.0) queue (x ∷ rest) perm queued.behind

  still_waiting : (node : ℕ) (l : Label) → label_at labels node ≡ Some l → is_settled settled node ≡ false → node ≢ x.0.1 → Contains rest (record { 0 = (l.cost, node) })
  still_waiting node l at unsettled ne =
      let e : Entry = record { 0 = (l.cost, node) } in
      ⊎_elim
      (λ (is : x ≡ e). absurd (ne (sym (ap (λ (y : Entry). y.0.1) is))))
      (λ (found : Contains rest e). found)
      (Contains-cons_cases x rest e (Contains-permutation queue (x ∷ rest) e perm (queued.waiting node l at unsettled)))

  -- it is stale
  stale_popped : is_settled settled x.0.1 ≡ true → IsQueue labels settled rest
  stale_popped stale = record {
    ordered = ordered;
    reached = All-tail (λ (e : Entry). IsWithin labels e.0.1 e.0.0) x rest all_reached;
    waiting = λ node l at unsettled. still_waiting node l at unsettled
        (λ same. false≢true (sym unsettled ∙ ap (λ (n : ℕ). is_settled settled n) same ∙ stale));
    behind = All-tail (λ (e : Entry). AreBehind labels settled e.0.0) x rest all_behind;
  }

  popped_inside : x.0.1 < length labels
  popped_inside =
      let within : IsWithin labels x.0.1 x.0.0 = All-head (λ (e : Entry). IsWithin labels e.0.1 e.0.0) x rest all_reached in
      label_inside labels x.0.1 within.0 within.1

  -- its node is settled
  fresh_popped : length settled ≡ length labels → IsUpperBound entry_cmp x rest → is_settled settled x.0.1 ≡ false →
      SettlesNext labels settled (slice_set settled x.0.1 true) rest x.0.0 x.0.1
  fresh_popped len top fresh = record {
    label = (within.0, within.1, exact);
    fresh = fresh;
    marked = refl;
    behind = behind;
    queued = record {
      ordered = ordered;
      reached = All-tail (λ (e : Entry). IsWithin labels e.0.1 e.0.0) x rest all_reached;
      waiting = λ node l at unsettled.
          (let ne : node ≢ x.0.1 = λ same. false≢true (sym unsettled ∙ ap (λ (n : ℕ). is_settled new n) same ∙ now_settled) in
          still_waiting node l at (sym (kept node ne) ∙ unsettled) ne);
      behind = All-weaker (λ (e : Entry). x.0.0 ≤ e.0.0) (λ (e : Entry). AreBehind labels new e.0.0)
          (λ e above. λ node l at is. (let below = behind node l at is in omega arith)) rest (least_top x rest top);
    };
  }
    where
      new : List Bool
      new = slice_set settled x.0.1 true

      now_settled : is_settled new x.0.1 ≡ true
      now_settled = get_or-set_same settled x.0.1 true false (omega (arith, popped_inside))

      kept : (node : ℕ) → node ≢ x.0.1 → is_settled new node ≡ is_settled settled node
      kept node ne = get_or-set_other settled x.0.1 node true false ne

      within : IsWithin labels x.0.1 x.0.0
      within = All-head (λ (e : Entry). IsWithin labels e.0.1 e.0.0) x rest all_reached

      exact : within.0.cost ≡ x.0.0
      exact =
          let e : Entry = record { 0 = (within.0.cost, x.0.1) } in
          ⊎_elim
          (λ (is : x ≡ e). sym (ap (λ (y : Entry). y.0.0) is))
          (λ (found : Contains rest e).
          let above : x.0.0 ≤ within.0.cost = All-contains (λ (y : Entry). x.0.0 ≤ y.0.0) rest e (least_top x rest top) found in
          omega (arith, within.2))
          (Contains-cons_cases x rest e (Contains-permutation queue (x ∷ rest) e perm (queued.waiting x.0.1 within.0 within.1 fresh)))

      behind : AreBehind labels new x.0.0
      behind node l at is =
          ⊎_elim
          (λ (same : node ≡ x.0.1).
          let l_is : l ≡ within.0 = same_Some l within.0 (sym at ∙ ap (λ (n : ℕ). label_at labels n) same ∙ within.1) in
          let cost_is : l.cost ≡ within.0.cost = ap (λ (m : Label). m.cost) l_is in
          omega (arith, exact))
          (λ (ne : node ≡ x.0.1 → ⊥). All-head (λ (e : Entry). AreBehind labels settled e.0.0) x rest all_behind node l at (sym (kept node ne) ∙ is))
          (cases_eq node x.0.1)

-- what follows when an entry leaves the queue
pub record Pops (labels : List (Option Label)) (settled : List Bool) (rest : List Entry) (x : Entry) : Type 0 where
  pub inside : x.0.1 < length settled
  pub stale : is_settled settled x.0.1 ≡ true → IsQueue labels settled rest
  pub fresh : is_settled settled x.0.1 ≡ false → SettlesNext labels settled (slice_set settled x.0.1 true) rest x.0.0 x.0.1

pub IsQueue-pop : (labels : List (Option Label)) (settled : List Bool) (queue rest : List Entry) (x : Entry) → length settled ≡ length labels → IsQueue labels settled queue →
    IsPermutation queue (x ∷ rest) → PopsGreatest entry_cmp queue x rest → (IsHeap entry_cmp queue → IsUpperBound entry_cmp x rest) → Pops labels settled rest x
IsQueue-pop labels settled queue rest x len queued perm popped top =
    let ordered : IsHeap entry_cmp rest = (popped queued.ordered).0 in
    record {
      inside = omega (arith, popped_inside labels settled queue rest x queued perm ordered);
      stale = stale_popped labels settled queue rest x queued perm ordered;
      fresh = fresh_popped labels settled queue rest x queued perm ordered len (top queued.ordered);
    }
