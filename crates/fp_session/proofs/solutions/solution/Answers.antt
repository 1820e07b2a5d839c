use Rattle.fp_session.proofs.ShownSolutions.{IsShown-certificate}
use Rattle.fp_session.proofs.solutions.solution.Goals as goal

pub returns : goal.returns
returns c =
    IsShown-certificate c.args.search c.args.prices c.args.left c.answer-answer.result c.in_ok-certificate.certificate c.in_ok-splits.splits.items c.requires.search c.requires.left
    c.leaves_cover_all.ensures.tree c.answer-answer.ensures c.in_ok-certificate.ensures c.in_ok-splits.ensures
