-- Walks read back from their last steps.
use Rattle.std.proofs.Common.{◌≡◌, ◌≢◌, ℕ, zero, suc, ◌+◌, ◌<◌, List, [], ◌∷◌, ◌++◌, Option, None, Some, length, refl, sym, ap, ◌∙◌, subst, arith}
use Rattle.std.specs.Prelude.{reverse, IfSome}
use Rattle.std.specs.Option.{option_and_then, option_map}
use Rattle.std.proofs.lemmas.List.{append_assoc, reverse-append, get_or-map}
use Rattle.std.proofs.lemmas.List.FromFn.{get_or-map-range_with_len}
use Rattle.fp_labels.specs.declared.walks.Label.{Label}
use Rattle.fp_labels.specs.declared.walks.Step.{Step}
use Rattle.fp_labels.specs.Labels.{traced, step_to, label_at, AreSound, IsSound, cost_to, walk_to, distances_of}

-- what is read back, by the last step
abbrev traced_by : List (Option Label) → ℕ → Option Step → List ℕ
traced_by labels fuel None = []
traced_by labels fuel (Some s) = traced labels fuel s.from ++ (s.edge ∷ [])

traced_is : (labels : List (Option Label)) (fuel node : ℕ) → traced labels (suc fuel) node ≡ traced_by labels fuel (step_to labels node)
traced_is labels fuel node = by_step (step_to labels node)
  where
    by_step : (o : Option Step) → elim o as (λ o. List ℕ) [ None ↦ [] | Some s ↦ traced labels fuel s.from ++ (s.edge ∷ []) ] ≡ traced_by labels fuel o
    by_step None = refl
    by_step (Some s) = refl

-- over a last step
pub traced_step : (labels : List (Option Label)) (more fuel node : ℕ) (s : Step) → more ≡ fuel + 1 → step_to labels node ≡ Some s → traced labels more node ≡ traced labels fuel s.from ++ (s.edge ∷ [])
traced_step labels more fuel node s one is =
    let next : more ≡ suc fuel = omega arith in
    ap (λ (n : ℕ). traced labels n node) next ∙ traced_is labels fuel node ∙ ap (λ (o : Option Step). traced_by labels fuel o) is

-- without a last step
pub traced_end : (labels : List (Option Label)) (fuel node : ℕ) → step_to labels node ≡ None → traced labels fuel node ≡ []
traced_end labels zero node is = refl
traced_end labels (suc fuel) node is = traced_is labels fuel node ∙ ap (λ (o : Option Step). traced_by labels fuel o) is

-- one edge is read
pub read_more : (labels : List (Option Label)) (more fuel node : ℕ) (s : Step) (read now : List ℕ) → more ≡ fuel + 1 → step_to labels node ≡ Some s → now ≡ read ++ (s.edge ∷ []) →
    traced labels more node ++ reverse read ≡ traced labels fuel s.from ++ reverse now
read_more labels more fuel node s read now one is pushed =
    ap (λ (xs : List ℕ). xs ++ reverse read) (traced_step labels more fuel node s one is)
    ∙ append_assoc (traced labels fuel s.from) (s.edge ∷ []) (reverse read)
    ∙ ap (λ (xs : List ℕ). traced labels fuel s.from ++ xs) (sym (reverse-append read (s.edge ∷ [])) ∙ ap (λ (xs : List ℕ). reverse xs) (sym pushed))

-- a last step leaves a node
pub step_inside : (labels : List (Option Label)) (node : ℕ) (s : Step) → AreSound labels → node < length labels → step_to labels node ≡ Some s → s.from < length labels
step_inside labels node s sound below is = by_label (label_at labels node) (sound node None below) is
  where
    by_label : (o : Option Label) → IsSound (length labels) o → option_and_then (λ (l : Label). l.step) o ≡ Some s → s.from < length labels
    by_label None h is = absurd (cc)
    by_label (Some l) h is = subst (λ (o : Option Step). IfSome o (λ (t : Step). t.from < length labels)) is h.1

-- all is read
pub read_all : (labels : List (Option Label)) (left here : ℕ) (read whole : List ℕ) → whole ≡ traced labels left here ++ reverse read → traced labels left here ≡ [] → reverse read ≡ whole
read_all labels left here read whole told none = sym (told ∙ ap (λ (xs : List ℕ). xs ++ reverse read) none)

-- a label that no last step leads over is not read
pub traced_elsewhere : (labels new : List (Option Label)) (to : ℕ) → ((n : ℕ) → n ≢ to → label_at new n ≡ label_at labels n) →
    ((n : ℕ) (s : Step) → step_to labels n ≡ Some s → s.from ≢ to) → (fuel n : ℕ) → n ≢ to → traced new fuel n ≡ traced labels fuel n
traced_elsewhere labels new to same leaves zero n ne = refl
traced_elsewhere labels new to same leaves (suc fuel) n ne =
    traced_is new fuel n
    ∙ ap (λ (o : Option Label). traced_by new fuel (option_and_then (λ (l : Label). l.step) o)) (same n ne)
    ∙ by_step (traced_elsewhere labels new to same leaves fuel) (step_to labels n) refl
    ∙ sym (traced_is labels fuel n)
  where
    by_step : ((m : ℕ) → m ≢ to → traced new fuel m ≡ traced labels fuel m) → (o : Option Step) → step_to labels n ≡ o → traced_by new fuel o ≡ traced_by labels fuel o
    by_step before None is = refl
    by_step before (Some s) is = ap (λ (xs : List ℕ). xs ++ (s.edge ∷ [])) (before s.from (leaves n s is))

-- the cost and the walk that labels say of a node
pub cost_told : (labels : List (Option Label)) (node : ℕ) → node < length labels → cost_to (distances_of labels) node ≡ option_map (λ (l : Label). l.cost) (label_at labels node)
cost_told labels node below = get_or-map (λ o. option_map (λ (l : Label). l.cost) o) labels node None None below

pub walk_told : (labels : List (Option Label)) (node : ℕ) → node < length labels → walk_to (distances_of labels) node ≡ traced labels (length labels) node
walk_told labels node below = get_or-map-range_with_len (λ n. traced labels (length labels) n) 0 (length labels) node node [] below (omega arith)
