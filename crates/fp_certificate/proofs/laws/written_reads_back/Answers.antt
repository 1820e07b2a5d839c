use Rattle.fp_certificate.proofs.WrittenBack.{written-back}
use Rattle.fp_certificate.proofs.laws.written_reads_back.Goals as goal

pub returns : goal.returns
returns c = written-back c.args.instance.now c.instances_are_named.ensures.valid c.instances_are_named.ensures.names
