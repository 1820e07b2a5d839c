-- A search that has settled no node.
use Rattle.std.proofs.Common.{◌≡◌, ℕ, ◌*◌, ◌<◌, ◌≤◌, Bool, true, false, cond, List, [], ◌∷◌, Option, None, Some, inl, ⊎_elim, length, refl, sym, ap, ◌∙◌, subst, arith}
use Rattle.std.specs.Prelude.{Contains, replicate}
use Rattle.std.specs.Option.{option_and_then}
use Rattle.std.proofs.lemmas.Bool.{cases_eq, cases_lt, false≢true}
use Rattle.std.proofs.lemmas.Option.{same_Some, none-some}
use Rattle.std.proofs.lemmas.List.{get_or-replicate, get_or_past, length-replicate}
use Rattle.std.proofs.lemmas.List.Elements.{All-nil, All-cons}
use Rattle.std.proofs.lemmas.List.Sorted.{All-permutation, Contains-permutation}
use Rattle.std.proofs.lemmas.List.Folds.{sum_by-replicate}
use Rattle.fp_base_lists.proofs.Distinct.{AreDistinct-cons, AreDistinct-nil}
use Rattle.fp_labels.specs.declared.walks.Label.{Label}
use Rattle.fp_labels.specs.declared.walks.Step.{Step}
use Rattle.fp_labels.specs.Graphs.{Shape}
use Rattle.fp_labels.specs.Labels.{label_at, step_to, greatest_cost}
use Rattle.fp_labels.specs.Searches.{Entry, is_settled, settled_count, IsWithin, IsTraced, IsFresh, IsSearch, start_label}
use Rattle.fp_labels.proofs.WalksBack.{traced_end}

module _ (graph : Shape) (costs : List (Option ℕ)) (start : ℕ) (labels : List (Option Label)) (settled : List Bool) (queue : List Entry)
    (fresh : IsFresh graph.nodes start labels settled queue) where
  none_settled : (n : ℕ) → is_settled settled n ≡ true → ⊥
  none_settled n is =
      let here : is_settled (replicate graph.nodes false) n ≡ false =
      ⊎_elim
      (λ (below : n < graph.nodes). get_or-replicate graph.nodes n false false below)
      (λ (past : graph.nodes ≤ n). get_or_past (replicate graph.nodes false) n false (omega (arith, length-replicate graph.nodes false)))
      (cases_lt n graph.nodes) in
      false≢true (sym here ∙ sym (ap (λ (s : List Bool). is_settled s n) fresh.unsettled) ∙ is)

  -- only the start has a label
  each_label : (P : ℕ → Label → Type 0) → P start start_label → (n : ℕ) (l : Label) → label_at labels n ≡ Some l → P n l
  each_label P here n l at =
      ⊎_elim
      (λ (same : n ≡ start).
      let l_is : start_label ≡ l = same_Some start_label l (sym fresh.started ∙ ap (λ (m : ℕ). label_at labels m) (sym same) ∙ at) in
      subst (λ (m : ℕ). P m l) (sym same) (subst (λ (k : Label). P start k) l_is here))
      (λ (ne : n ≡ start → ⊥). absurd (none-some l (sym (fresh.unreached n ne) ∙ at)))
      (cases_eq n start)

  no_step : (n : ℕ) → step_to labels n ≡ None
  no_step n =
      let step_of : Option Label → Option Step = λ o. option_and_then (λ (l : Label). l.step) o in
      ⊎_elim
      (λ (same : n ≡ start). ap (λ (m : ℕ). step_to labels m) same ∙ ap step_of fresh.started)
      (λ (ne : n ≡ start → ⊥). ap step_of (fresh.unreached n ne))
      (cases_eq n start)

  pub fresh_search : IsSearch graph costs start labels settled queue (λ _. ⊥)
  fresh_search =
      let entry : Entry = record { 0 = (0, start) } in
      record {
        walked = record {
          labels_len = fresh.labels_len;
          settled_len = ap (λ (s : List Bool). length s) fresh.unsettled ∙ length-replicate graph.nodes false;
          started = (start_label, fresh.started, omega arith);
          reached = λ n is. absurd (none_settled n is);
          steps = λ n s is. absurd (none-some s (sym (no_step n) ∙ is));
          walks = each_label (λ n l. (walk : List ℕ) × IsTraced graph.edges costs start labels settled (settled_count settled) n l.cost walk) (
            [],
            record {
              simple = record {
                goes = record { leads = refl; open_edges = tt; costs_so = refl };
                apart = AreDistinct-cons start [] tt AreDistinct-nil;
              };
              inside = (inl refl, tt);
              short = omega arith;
              told = λ fuel long. traced_end labels fuel start (no_step start);
            },
          );
          small = each_label (λ n l. graph.nodes * l.cost ≤ settled_count settled * greatest_cost) (omega arith);
        };
        relaxed = λ e inside is. absurd (none_settled _ is);
        queued = record {
          ordered = fresh.ordered;
          reached = All-permutation (λ (x : Entry). IsWithin labels x.0.1 x.0.0) (entry ∷ []) queue fresh.alone
              (All-cons (λ (x : Entry). IsWithin labels x.0.1 x.0.0) entry [] (start_label, fresh.started, omega arith) (All-nil (λ (x : Entry). IsWithin labels x.0.1 x.0.0)));
          waiting = each_label (λ n l. is_settled settled n ≡ false → Contains queue (record { 0 = (l.cost, n) }))
              (λ _. Contains-permutation (entry ∷ []) queue entry fresh.alone (0, omega arith, refl));
          behind = λ k d below. λ n l at is. absurd (none_settled n is);
        };
      }

-- no node is settled
pub fresh_counted : (nodes start : ℕ) (labels : List (Option Label)) (settled : List Bool) (queue : List Entry) → IsFresh nodes start labels settled queue → settled_count settled ≡ 0
fresh_counted nodes start labels settled queue fresh =
    let none = sum_by-replicate (λ (b : Bool). cond b 1 0) nodes false in
    ap (λ (s : List Bool). settled_count s) fresh.unsettled ∙ omega arith
