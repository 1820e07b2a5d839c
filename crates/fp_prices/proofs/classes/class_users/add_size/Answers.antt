use Rattle.std.proofs.Common.{ℕ, ◌≡◌, ◌+◌, ◌∙◌, arith}
use Rattle.std.specs.Prelude.{Bool, if◌then◌else◌, true, false}
use Rattle.fp_allowed.specs.Bits.{bit_of}
use Rattle.fp_prices.proofs.SetBits.{next-set, none-set, rewritten_more, rewritten_all}
use Rattle.fp_prices.proofs.classes.class_users.add_size.Goals as goal

pub overflow_add-next : goal.overflow_add-next
overflow_add-next c = let next = next-set c.args.row.now c.loop-class.next c.in-Some.class c.in-Some.ensures in omega (arith, next.within, c.requires.few)

pub loop-class-preserved : goal.loop-class-preserved
loop-class-preserved c =
    let next = next-set c.args.row.now c.loop-class.next c.in-Some.class c.in-Some.ensures in
    rewritten_more (λ (n sum : ℕ). sum + c.args.size) 0 c.args.row.now c.args.sizes.now c.loop-class.sizes c.loop-class.next c.in-Some.class _ c.loop-class.invariant next c.requires.lengths
    (omega (arith, c.loop-class.invariant.after c.in-Some.class next.from, c.from.ensures))

pub returns : goal.returns
returns c = λ n.
    rewritten_all (λ (n sum : ℕ). sum + c.args.size) 0 c.args.row.now c.args.sizes.now c.loop-class.sizes c.loop-class.next c.loop-class.invariant
    (none-set c.args.row.now c.loop-class.next c.in_default.ensures) n ∙ split (bit_of c.args.row.now n) _ c.args.size
  where
    split : (b : Bool) (m size : ℕ) → (if b then m + size else m) ≡ m + (if b then size else 0)
    split true m size = omega arith
    split false m size = omega arith
