use Rattle.std.proofs.Common.{◌≡◌, ℕ, ◌+◌, ◌<◌, ◌^◌, Bool, List, length, get_or, set, ⊎_elim, ap, ◌∙◌, subst, sym, arith}
use Rattle.std.specs.Prelude.{if◌then◌else◌}
use Rattle.std.proofs.lemmas.Bool.{cases_eq, cond-false, cond-true}
use Rattle.std.proofs.lemmas.List.{get_or-set_other, get_or-set_same, length-set}
use Rattle.fp_prices_spans.proofs.Between.{between, between-end, between-from, between-none, between-other}
use Rattle.fp_prices_spans.proofs.values.span_prices.add_weight.Goals as goal

pub loop-class-init : goal.loop-class-init
loop-class-init c = record {
  from = omega arith;
  until = omega (arith, c.requires.order);
  long = omega arith;
  added = λ n inside. omega (arith, cond-false (between c.args.range.first c.args.range.first n) c.args.weight 0 (between-none c.args.range.first n));
}

pub overflow_add-sums : goal.overflow_add-sums
overflow_add-sums c =
    let k : ℕ = c.loop-class.class in
    let inside : k < length c.args.sums.now = omega (arith, c.requires.within) in
    let none = cond-false (between c.args.range.first k k) c.args.weight 0 (between-end c.args.range.first k) in
    let room : get_or c.args.sums.now k 0 + c.args.weight < 2 ^ 128 = c.requires.room k 0 inside in
    omega (arith, c.loop-class.invariant.added k inside, none, room)

pub loop-class-preserved : goal.loop-class-preserved
loop-class-preserved c =
    let k : ℕ = c.loop-class.class in
    let first : ℕ = c.args.range.first in
    let weight : ℕ = c.args.weight in
    let old : List ℕ = c.args.sums.now in
    let now : List ℕ = c.loop-class.sums in
    let inv = c.loop-class.invariant in
    let sum : ℕ = get_or now k 0 + weight in
    record {
      from = omega (arith, inv.from);
      until = omega arith;
      long = omega (arith, inv.long, length-set now k sum);
      added = λ n inside.
          ⊎_elim
          (λ (here : n ≡ k).
          let read : get_or (set now k sum) n 0 ≡ sum = ap (λ (m : ℕ). get_or (set now k sum) m 0) here ∙ get_or-set_same now k sum 0 (omega (arith, inside, here, inv.long)) in
          let before : get_or now n 0 ≡ get_or now k 0 = ap (λ (m : ℕ). get_or now m 0) here in
          let none = cond-false (between first k n) weight 0 (ap (between first k) here ∙ between-end first k) in
          let one = cond-true (between first (k + 1) n) weight 0 (between-from first (k + 1) n (omega (arith, here, inv.from)) (omega (arith, here))) in
          omega (arith, read, before, none, one, inv.added n inside))
          (λ (other : n ≡ k → ⊥).
          get_or-set_other now k n sum 0 other ∙ inv.added n inside ∙ ap (λ (b : Bool). get_or old n 0 + (if b then weight else 0)) (sym (between-other first k n other)))
          (cases_eq n k);
    }

pub returns : goal.returns
returns c = record {
  sums = λ n inside.
      let whole : c.loop-class.class ≡ c.args.range.end = omega (arith, c.loop-class.invariant.until) in
      subst (λ (k : ℕ). get_or c.loop-class.sums n 0 ≡ get_or c.args.sums.now n 0 + (if between c.args.range.first k n then c.args.weight else 0)) whole (c.loop-class.invariant.added n inside);
}
