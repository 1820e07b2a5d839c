-- The first bit of the words from the place on.
use Rattle.std.proofs.Common.{◌≤◌, length, ap, ◌∙◌, subst, arith}
use Rattle.std.specs.Prelude.{ℕ, Bool, List}
use Rattle.fp_rows.specs.Words.{bit_in, IsFirstWithin}
use Rattle.fp_rows.specs.Bits.{first_true_from}
use Rattle.fp_rows.proofs.BitsIn.{length-bits}
use Rattle.fp_rows.proofs.FirstTrue.{first-is}
use Rattle.fp_rows.proofs.rows.Row.first_from.Goals as goal

pub first_in-requires-clause-order : goal.first_in-requires-clause-order
first_in-requires-clause-order c = let row = c.self.inside in omega (arith, length-bits row.words.items row.length, ap length c.self.view_is, c.requires)

pub returns : goal.returns
returns c =
    let row = c.self.inside in
    let within : c.args.at ≤ row.length = omega (arith, length-bits row.words.items row.length, ap length c.self.view_is, c.requires) in
    let found = subst (λ (ws : List ℕ). IsFirstWithin (bit_in ws) c.args.at row.length c.first_in.result) c.deref.ensures.value c.first_in.ensures in
    first-is row.words.items row.length c.args.at c.first_in.result within found ∙ ap (λ (bs : List Bool). first_true_from bs c.args.at) c.self.view_is
