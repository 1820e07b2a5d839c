-- One bit of one word is made another.
use Rattle.std.proofs.Common.{◌≡◌, ◌/◌, ◌<◌, length, get_or, set, ap, ◌∙◌, arith}
use Rattle.std.specs.Prelude.{ℕ, Bool, List}
use Rattle.std.proofs.lemmas.List.{get_or_default, length-set}
use Rattle.fp_rows.proofs.BitsIn.{length-bits}
use Rattle.fp_rows.proofs.BitChanges.{set-bits, set-is, set-tidy}
use Rattle.fp_rows.proofs.rows.Row.set.Goals as goal

pub index-requires : goal.index-requires
index-requires c =
    let row = c.self.inside in
    omega (arith, c.self.invariant.enough, length-bits row.words.items row.length, ap length c.self.view_is, c.requires, row.words.ok.0)

pub index_mut-requires : goal.index_mut-requires
index_mut-requires c =
    let row = c.self.inside in
    omega (arith, c.self.invariant.enough, length-bits row.words.items row.length, ap length c.self.view_is, c.requires, row.words.ok.0)

pub invariant_of-self : goal.invariant_of-self
invariant_of-self c =
    let row = c.self.inside in
    let at : ℕ = c.args.at in
    let within : at < row.length = omega (arith, length-bits row.words.items row.length, ap length c.self.view_is, c.requires) in
    let read : c.index.result.now ≡ get_or row.words.items (at / 64) 0 = c.index.ensures ∙ get_or_default row.words.items (at / 64) c.index.result.now 0 (omega (arith, c.self.invariant.enough)) in
    let changed = set-bits row.words.items row.length at c.with_bit.result c.args.to within c.self.invariant (rw read at c.with_bit.ensures) in
    set-tidy row.words.items (set row.words.items (at / 64) c.with_bit.result) row.length at c.args.to within changed (length-set row.words.items (at / 64) c.with_bit.result) c.self.invariant

pub returns-clause-bits : goal.returns-clause-bits
returns-clause-bits c =
    let row = c.self.inside in
    let at : ℕ = c.args.at in
    let within : at < row.length = omega (arith, length-bits row.words.items row.length, ap length c.self.view_is, c.requires) in
    let read : c.index.result.now ≡ get_or row.words.items (at / 64) 0 = c.index.ensures ∙ get_or_default row.words.items (at / 64) c.index.result.now 0 (omega (arith, c.self.invariant.enough)) in
    let changed = set-bits row.words.items row.length at c.with_bit.result c.args.to within c.self.invariant (rw read at c.with_bit.ensures) in
    set-is row.words.items (set row.words.items (at / 64) c.with_bit.result) row.length at c.args.to within changed ∙ ap (λ (bs : List Bool). set bs at c.args.to) c.self.view_is
