-- Each arc adds as many classes as its tail has points.
use Rattle.std.proofs.Common.{◌≡◌, ℕ, ◌+◌, ◌<◌, ◌≤◌, ⊎_elim, List, length, get_or, take, [], sym, ap, ◌∙◌, arith}
use Rattle.std.proofs.lemmas.Bool.{cases_eq}
use Rattle.std.proofs.lemmas.List.{get_or-set_same, get_or-set_other, length-set}
use Rattle.std.proofs.lemmas.List.Sums.{sum_by_more, sum_by-take-le}
use Rattle.fp_longestarcs.specs.declared.networks.TheConstants.{MOST_CLASSES}
use Rattle.fp_longestarcs.specs.Ascending.{ArePoints}
use Rattle.fp_longestarcs.specs.Networks.{copy_count}
use Rattle.fp_base_lists.specs.Vectors.{lists_of}
use Rattle.fp_longestarcs.proofs.ClassNumbers.{few-copies}
use Rattle.fp_longestarcs.proofs.listing.count_classes.Goals as goal

-- the count of copies with one more arc
copies-more : (points : List (List ℕ)) (tails : List ℕ) (i : ℕ) (qs : List ℕ) → i < length tails → qs ≡ get_or points (get_or tails i 0) [] →
    copy_count points (take (i + 1) tails) ≡ copy_count points (take i tails) + length qs
copies-more points tails i qs h is =
    sum_by_more (λ tail. length (get_or points tail [])) tails i 0 h ∙ ap (λ (l : List ℕ). copy_count points (take i tails) + length l) (sym is)

-- and it is small
copies-few : (points : List (List ℕ)) (tails : List ℕ) (i : ℕ) (qs : List ℕ) → i < length tails → qs ≡ get_or points (get_or tails i 0) [] → ((k : ℕ) (d : List ℕ) → k < length points → ArePoints (get_or points k d)) → length tails ≤ 1000 →
    copy_count points (take i tails) + length qs ≤ MOST_CLASSES
copies-few points tails i qs h is are few =
    omega (
      arith,
      copies-more points tails i qs h is,
      sum_by-take-le (λ tail. length (get_or points tail [])) tails (i + 1),
      few-copies points tails are,
    )

pub overflow_cast-next : goal.overflow_cast-next
overflow_cast-next c =
    omega (arith, copies-few (lists_of c.args.points.now) c.args.tails.now c.loop-arc.arc c.list_at.result.now c.loop-arc-test.true c.list_at.ensures c.requires.are c.requires.few)

pub overflow_add-next : goal.overflow_add-next
overflow_add-next c =
    omega (
      arith,
      copies-few (lists_of c.args.points.now) c.args.tails.now c.loop-arc.arc c.list_at.result.now c.loop-arc-test.true c.list_at.ensures c.requires.are c.requires.few,
      c.loop-arc.invariant.0,
    )

pub loop-arc-preserved : goal.loop-arc-preserved
loop-arc-preserved c =
    let points : List (List ℕ) = lists_of c.args.points.now in
    let tails : List ℕ = c.args.tails.now in
    let i : ℕ = c.loop-arc.arc in
    let next : ℕ = c.loop-arc.next + length c.list_at.result.now in
    let more : next ≡ copy_count points (take (i + 1) tails) =
    omega (arith, copies-more points tails i c.list_at.result.now c.loop-arc-test.true c.list_at.ensures, c.loop-arc.invariant.0) in
    let room : i + 1 < length c.loop-arc.offsets = omega (arith, c.requires.room, c.loop-arc.auto.offsets, length-set c.args.offsets.now 0 0) in (
      more,
      λ k h.
          ⊎_elim
          (λ (same : k ≡ i + 1). rw same (get_or-set_same c.loop-arc.offsets (i + 1) next 0 room ∙ more))
          (λ (other : k ≡ i + 1 → ⊥). get_or-set_other c.loop-arc.offsets (i + 1) k next 0 other ∙ c.loop-arc.invariant.1 k (omega (arith, other)))
          (cases_eq k (i + 1)),
    )
