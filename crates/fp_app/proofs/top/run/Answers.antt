use Rattle.fp_app_words.specs.TimeLimits.{seconds_of}
use Rattle.fp_app_words.specs.Words.{order_of, texts}
use Rattle.fp_app.proofs.StillClocks.{still-ends_none}
use Rattle.fp_app.proofs.top.run.Goals as goal

pub returns-clause-answers : goal.returns-clause-answers
returns-clause-answers g c = rw (still-ends_none (seconds_of (order_of (texts c.args.words.now))) (c.time_limits_hold.ensures (texts c.args.words.now))) at c.run_within.ensures.answers

pub returns-clause-unfinished : goal.returns-clause-unfinished
returns-clause-unfinished g c = rw (still-ends_none (seconds_of (order_of (texts c.args.words.now))) (c.time_limits_hold.ensures (texts c.args.words.now))) at c.run_within.ensures.unfinished

pub returns-clause-done : goal.returns-clause-done
returns-clause-done g c = rw (still-ends_none (seconds_of (order_of (texts c.args.words.now))) (c.time_limits_hold.ensures (texts c.args.words.now))) at c.run_within.ensures.done

pub returns-clause-completes : goal.returns-clause-completes
returns-clause-completes g c = rw (still-ends_none (seconds_of (order_of (texts c.args.words.now))) (c.time_limits_hold.ensures (texts c.args.words.now))) at c.run_within.ensures.completes

pub returns-clause-follows : goal.returns-clause-follows
returns-clause-follows g c = rw (still-ends_none (seconds_of (order_of (texts c.args.words.now))) (c.time_limits_hold.ensures (texts c.args.words.now))) at c.run_within.ensures.follows
