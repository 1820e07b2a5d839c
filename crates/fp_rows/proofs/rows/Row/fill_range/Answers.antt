-- The words are filled, and the row is seen through them.
use Rattle.std.specs.Prelude.{true, ◌||◌}
use Rattle.std.proofs.Math.Bool.{or-true, or-false}
use Rattle.fp_rows.proofs.RowCalls.{Writes, range-row, range-room}
use Rattle.fp_rows.proofs.rows.Row.fill_range.Goals as goal

pub fill_words-requires-clause-within : goal.fill_words-requires-clause-within
fill_words-requires-clause-within c =
    range-room c.deref_mut.result.now c.self.inside.words.items c.self.inside.length c.args.to c.args.self.now c.deref_mut.ensures.value c.self.invariant c.self.view_is c.requires.within

pub invariant_of-self : goal.invariant_of-self
invariant_of-self c =
    let words = c.deref_mut.result.now in
    let now = c.fill_words.new.words in
    let row = c.self.inside in
    let writes : Writes words now row.words.items row.words.len = record { was = c.deref_mut.ensures.value; long = c.fill_words.auto.words; room = c.deref_mut.ensures.len } in
    (range-row (λ b t. b || t) words now row.words.items row.words.len row.length c.args.from c.args.to true c.args.self.now writes c.self.invariant c.self.view_is c.requires.order c.requires.within or-true or-false c.fill_words.ensures).tidy

pub returns-clause-bits : goal.returns-clause-bits
returns-clause-bits c =
    let words = c.deref_mut.result.now in
    let now = c.fill_words.new.words in
    let row = c.self.inside in
    let writes : Writes words now row.words.items row.words.len = record { was = c.deref_mut.ensures.value; long = c.fill_words.auto.words; room = c.deref_mut.ensures.len } in
    (range-row (λ b t. b || t) words now row.words.items row.words.len row.length c.args.from c.args.to true c.args.self.now writes c.self.invariant c.self.view_is c.requires.order c.requires.within or-true or-false c.fill_words.ensures).seen
