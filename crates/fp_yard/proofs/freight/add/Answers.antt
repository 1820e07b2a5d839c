use Rattle.fp_yard.proofs.FreightLists.{freight-set}
use Rattle.fp_yard.proofs.freight.add.Goals as goal

pub returns-clause-legs : goal.returns-clause-legs
returns-clause-legs c = λ l.
    freight-set c.args.freight.now.items c.args.line c.index_mut.result.now c.push.new.self c.args.member c.requires c.index_mut.ensures.value c.in_ok-push.ensures.items l
