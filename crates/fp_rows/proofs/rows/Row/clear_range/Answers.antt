-- The words are cleared, and the row is seen through them.
use Rattle.std.specs.Prelude.{false, ◌&&◌, not}
use Rattle.std.proofs.Math.Bool.{and-false, and-true}
use Rattle.fp_rows.proofs.RowCalls.{Writes, range-row, range-room}
use Rattle.fp_rows.proofs.rows.Row.clear_range.Goals as goal

pub clear_words-requires-clause-within : goal.clear_words-requires-clause-within
clear_words-requires-clause-within c =
    range-room c.deref_mut.result.now c.self.inside.words.items c.self.inside.length c.args.to c.args.self.now c.deref_mut.ensures.value c.self.invariant c.self.view_is c.requires.within

pub invariant_of-self : goal.invariant_of-self
invariant_of-self c =
    let words = c.deref_mut.result.now in
    let now = c.clear_words.new.words in
    let row = c.self.inside in
    let writes : Writes words now row.words.items row.words.len = record { was = c.deref_mut.ensures.value; long = c.clear_words.auto.words; room = c.deref_mut.ensures.len } in
    (range-row (λ b t. b && not t) words now row.words.items row.words.len row.length c.args.from c.args.to false c.args.self.now writes c.self.invariant c.self.view_is c.requires.order c.requires.within and-false and-true c.clear_words.ensures).tidy

pub returns-clause-bits : goal.returns-clause-bits
returns-clause-bits c =
    let words = c.deref_mut.result.now in
    let now = c.clear_words.new.words in
    let row = c.self.inside in
    let writes : Writes words now row.words.items row.words.len = record { was = c.deref_mut.ensures.value; long = c.clear_words.auto.words; room = c.deref_mut.ensures.len } in
    (range-row (λ b t. b && not t) words now row.words.items row.words.len row.length c.args.from c.args.to false c.args.self.now writes c.self.invariant c.self.view_is c.requires.order c.requires.within and-false and-true c.clear_words.ensures).seen
