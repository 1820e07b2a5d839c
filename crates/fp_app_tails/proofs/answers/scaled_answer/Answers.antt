use Rattle.fp_app_tails.proofs.answers.scaled_answer.Goals as goal

pub returns-in_ok-given-in-Some-clause-given : goal.returns-in_ok-given-in-Some-clause-given
returns-in_ok-given-in-Some-clause-given c = rw c.in-Some.is c.in_ok-given-in-Some.ensures.given

pub returns-in_ok-given-in-None-clause-given : goal.returns-in_ok-given-in-None-clause-given
returns-in_ok-given-in-None-clause-given c = rw c.in-None.is c.in_ok-given-in-None.ensures.given
