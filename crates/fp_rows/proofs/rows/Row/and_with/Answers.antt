-- The words keep the bits of both rows, and the row is seen through them.
use Rattle.std.proofs.Common.{◌≡◌, length, refl, sym, ap, ◌∙◌}
use Rattle.std.specs.Prelude.{ℕ, List, ◌&&◌}
use Rattle.fp_rows.specs.Words.{bits}
use Rattle.fp_rows.proofs.RowCalls.{Writes, same-words, pair-row}
use Rattle.fp_rows.proofs.rows.Row.and_with.Goals as goal

pub keep_bits-requires : goal.keep_bits-requires
keep_bits-requires c =
    let row = c.self.inside in
    let other = c.other.inside in
    let same = same-words row.words.items other.words.items row.length other.length c.args.self.now c.args.other.now c.self.invariant c.other.invariant c.self.view_is c.other.view_is c.requires in
    ap length c.deref_mut.ensures.value ∙ same.1 ∙ sym (ap length c.deref.ensures.value)

pub invariant_of-self : goal.invariant_of-self
invariant_of-self c =
    let row = c.self.inside in
    let other = c.other.inside in
    let same = same-words row.words.items other.words.items row.length other.length c.args.self.now c.args.other.now c.self.invariant c.other.invariant c.self.view_is c.other.view_is c.requires in
    let shown : bits c.deref.result.now row.length ≡ c.args.other.now = ap (λ (ws : List ℕ). bits ws row.length) c.deref.ensures.value ∙ ap (bits other.words.items) same.0 ∙ c.other.view_is in
    let writes : Writes c.deref_mut.result.now c.keep_bits.new.words row.words.items row.words.len = record { was = c.deref_mut.ensures.value; long = c.keep_bits.auto.words; room = c.deref_mut.ensures.len } in
    (pair-row (λ a b. a && b) c.deref_mut.result.now c.keep_bits.new.words row.words.items c.deref.result.now row.words.len row.length c.args.self.now c.args.other.now writes c.self.invariant c.self.view_is shown
    (λ b. refl) c.keep_bits.ensures).tidy

pub returns-clause-bits : goal.returns-clause-bits
returns-clause-bits c =
    let row = c.self.inside in
    let other = c.other.inside in
    let same = same-words row.words.items other.words.items row.length other.length c.args.self.now c.args.other.now c.self.invariant c.other.invariant c.self.view_is c.other.view_is c.requires in
    let shown : bits c.deref.result.now row.length ≡ c.args.other.now = ap (λ (ws : List ℕ). bits ws row.length) c.deref.ensures.value ∙ ap (bits other.words.items) same.0 ∙ c.other.view_is in
    let writes : Writes c.deref_mut.result.now c.keep_bits.new.words row.words.items row.words.len = record { was = c.deref_mut.ensures.value; long = c.keep_bits.auto.words; room = c.deref_mut.ensures.len } in
    (pair-row (λ a b. a && b) c.deref_mut.result.now c.keep_bits.new.words row.words.items c.deref.result.now row.words.len row.length c.args.self.now c.args.other.now writes c.self.invariant c.self.view_is shown
    (λ b. refl) c.keep_bits.ensures).seen
