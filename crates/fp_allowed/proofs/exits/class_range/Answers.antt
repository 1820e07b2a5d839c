use Rattle.std.proofs.Common.{◌≡◌, ℕ, ◌+◌, ◌≤◌, List, length, ap, arith}
use Rattle.fp_longestarcs.specs.Networks.{class_count, first_class, points_in}
use Rattle.fp_longestarcs.proofs.ClassNumbers.{few-classes}
use Rattle.fp_allowed.proofs.ListedClasses.{class_range}
use Rattle.fp_allowed.proofs.exits.class_range.Goals as goal

-- the range of the arc's numbers
range : (c : goal.After-points) → (c.class-first.result ≡ first_class c.args.network.now c.args.arc) × (c.class-first.result + length c.points.result.now ≤ class_count c.args.network.now)
range c =
    class_range c.args.network.now c.args.arc c.args.tail c.class-first.result (length c.points.result.now) c.requires.valid c.requires.arc c.requires.tail c.class-first.ensures.number
    (ap (λ (l : List ℕ). length l) c.points.ensures.same)

pub overflow_cast-result : goal.overflow_cast-result
overflow_cast-result c = omega (arith, (range c).1, few-classes c.args.network.now c.requires.valid)

pub overflow_add-result : goal.overflow_add-result
overflow_add-result c = omega (arith, (range c).1, few-classes c.args.network.now c.requires.valid)

pub returns-clause-range : goal.returns-clause-range
returns-clause-range c = record {
  begins = (range c).0;
  ends = omega (
    arith,
    (range c).0,
    ap (λ (l : List ℕ). length l) c.points.ensures.same,
    ap (λ (t : ℕ). length (points_in c.args.network.now t)) c.requires.tail,
  );
  within = (range c).1;
}

pub returns-clause-few : goal.returns-clause-few
returns-clause-few c = omega (arith, (range c).1, few-classes c.args.network.now c.requires.valid)
