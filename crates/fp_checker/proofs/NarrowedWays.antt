-- The trees at which a way stands, with the bars of their narrowings, where it goes on.
use Rattle.std.proofs.Common.{◌≡◌, ◌∙◌, ℕ, List, [], ◌∷◌, ◌++◌, length, refl, sym, ap, subst, arith}
use Rattle.std.specs.Prelude.{false, reverse, take, true}
use Rattle.std.proofs.lemmas.List.{length-append, map-append, reverse-append, take-append-le, take_all}
use Rattle.fp_tree.specs.declared.sides.Side.{Side}
use Rattle.fp_tree.specs.declared.ways.Step.{Step}
use Rattle.fp_tree.specs.Sides.{Fork, first, second}
use Rattle.fp_tree.specs.Ways.{pending_on, side_of, way_sides}
use Rattle.fp_certificate_lines.specs.declared.certificates.Narrowing.{Narrowing}
use Rattle.fp_certificate_rules.specs.Accepted.{claim_of}
use Rattle.fp_certificate_rules.specs.Leaves.{AreNarrowingBars, PendingTree, below_side, with_narrowing}
use Rattle.fp_checker.specs.declared.rules.narrowed_ways.NarrowedWay.{NarrowedWay}
use Rattle.fp_checker.specs.Cases.{Tested}
use Rattle.fp_checker.specs.LeafWays.{steps_of}
use Rattle.fp_checker.specs.NarrowedWays.{AreBars, HoldBars, StandsBefore}
use Rattle.fp_checker.proofs.LeafWays.{pending-passed, pending-turned}
use Rattle.fp_checker.proofs.NarrowedLeaves.{bars_after-more}

-- bars behind them leave those of the trees to come as they are
hold-more : (t : Tested) (bars own : List Side) (counts : List ℕ) (pending : List PendingTree) → HoldBars t bars counts pending → HoldBars t (bars ++ own) counts pending
hold-more t bars own [] [] hold = tt
hold-more t bars own [] (tree ∷ pending) hold = absurd hold
hold-more t bars own (n ∷ counts) [] hold = absurd hold
hold-more t bars own (n ∷ counts) (tree ∷ pending) hold =
    let same : take n (bars ++ own) ≡ take n bars = take-append-le n bars own hold.0 in (
      omega (arith, hold.0, length-append bars own),
      subst (AreBars t tree.narrowings) (sym same) hold.1,
      subst (λ (front : List Side). HoldBars t front counts pending) (sym same) hold.2,
    )

module _ (t : Tested) (old new : NarrowedWay) (tree : PendingTree) (pending : List PendingTree) (stands : StandsBefore t old tree pending) where
  -- the bars of one more narrowing come behind the others
  pub stands-narrowed : (n : Narrowing) (own : List Side) → new.way ≡ old.way → new.counts.items ≡ old.counts.items → new.bars.items ≡ old.bars.items ++ own →
      AreNarrowingBars t.problem t.windows t.told (claim_of t.told.answer) old.bars.items (record { narrowing = n; sides = tree.sides }) own → StandsBefore t new (with_narrowing tree n) pending
  stands-narrowed n own way counts bars are = record {
    sides = ap (λ w. way_sides (steps_of w)) way ∙ stands.sides;
    bars = subst (AreBars t (with_narrowing tree n).narrowings) (sym bars)
        (bars_after-more t.problem t.windows t.told (claim_of t.told.answer) [] tree.narrowings (record { narrowing = n; sides = tree.sides }) old.bars.items own stands.bars are);
    others = ap (λ w. pending_on (steps_of w)) way ∙ stands.others;
    counts = subst (λ (all : List Side). HoldBars t all (reverse new.counts.items) pending) (sym bars)
        (subst (λ (ns : List ℕ). HoldBars t (old.bars.items ++ own) (reverse ns) pending) (sym counts) (hold-more t old.bars.items own (reverse old.counts.items) pending stands.counts));
  }

  -- below a split all bars hold on both sides
  pub stands-split : (fork : Fork) → steps_of new.way ≡ steps_of old.way ++ (record { split = fork.split; tail = fork.tail; later = false }) ∷ [] → new.bars.items ≡ old.bars.items →
      new.counts.items ≡ old.counts.items ++ length old.bars.items ∷ [] → StandsBefore t new (below_side tree (first fork)) (below_side tree (second fork) ∷ pending)
  stands-split fork steps bars counts =
      let before : Step = record { split = fork.split; tail = fork.tail; later = false } in
      let after : Step = record { split = fork.split; tail = fork.tail; later = true } in
      let way : List Step = steps_of old.way in
      let all : take (length old.bars.items) old.bars.items ≡ old.bars.items = take_all (length old.bars.items) old.bars.items (omega arith) in
      let below : (s : Step) → way_sides (way ++ s ∷ []) ≡ tree.sides ++ (side_of s ∷ []) =
      λ s. map-append side_of way (s ∷ []) ∙ ap (λ (sides : List Side). sides ++ (side_of s ∷ [])) stands.sides in
      record {
        sides = ap way_sides steps ∙ below before;
        bars = subst (AreBars t tree.narrowings) (sym bars) stands.bars;
        others = ap pending_on steps ∙ pending-turned way before refl ∙ ap (λ (sides : List Side). sides ∷ pending_on (way ++ after ∷ [])) (below after)
            ∙ ap (λ (rest : List (List Side)). (tree.sides ++ (second fork ∷ [])) ∷ rest) (pending-passed way after refl ∙ stands.others);
        counts = subst (λ (front : List Side). HoldBars t front (reverse new.counts.items) (below_side tree (second fork) ∷ pending)) (sym bars)
            (subst (λ (ns : List ℕ). HoldBars t old.bars.items ns (below_side tree (second fork) ∷ pending))
            (sym (ap (λ (ns : List ℕ). reverse ns) counts ∙ reverse-append old.counts.items (length old.bars.items ∷ [])))
            (omega arith, subst (AreBars t tree.narrowings) (sym all) stands.bars, subst (λ (front : List Side). HoldBars t front (reverse old.counts.items) pending) (sym all) stands.counts));
      }
