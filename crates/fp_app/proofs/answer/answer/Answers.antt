use Rattle.std.proofs.Common.{◌≡◌}
use Rattle.std.specs.Prelude.{Some}
use Rattle.fp_app_words.specs.Words.{order_of, texts}
use Rattle.fp_app.proofs.NotesTaken.{notes-same}
use Rattle.fp_app.proofs.SourceReads.{Leaves-same}
use Rattle.fp_app.proofs.answer.answer.Goals as goal

pub returns-in-Ok : goal.returns-in-Ok
returns-in-Ok g c =
    let is : order_of (texts c.args.words.now) ≡ Some c.in-Ok.order = c.in-Ok.ensures.order in
    record {
      shown = rw is c.answer_order.ensures.shown;
      printable = c.answer_order.ensures.printable;
      later = c.answer_order.ensures.later;
      within = rw is c.answer_order.ensures.within;
      fault = c.answer_order.ensures.fault;
      same = c.answer_order.ensures.same;
      sure = c.answer_order.ensures.sure;
      fault_within = rw is c.answer_order.ensures.fault_within;
      long_within = rw is c.answer_order.ensures.long_within;
      leaves = rw is c.answer_order.ensures.leaves;
      noted = rw is c.answer_order.ensures.noted;
    }

pub returns-in-Err-NoMemory-clause-leaves : goal.returns-in-Err-NoMemory-clause-leaves
returns-in-Err-NoMemory-clause-leaves g c = Leaves-same (order_of (texts c.args.words.now)) c.args.source.now

pub returns-in-Err-NoMemory-clause-noted : goal.returns-in-Err-NoMemory-clause-noted
returns-in-Err-NoMemory-clause-noted g c = λ input told. notes-same (order_of (texts c.args.words.now)) input (g.N.Sink.taken c.args.notes.now)
