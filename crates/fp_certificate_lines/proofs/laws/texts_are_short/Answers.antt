use Rattle.fp_certificate_lines.proofs.TextLengths.{text-short}
use Rattle.fp_certificate_lines.proofs.laws.texts_are_short.Goals as goal

pub returns : goal.returns
returns c = text-short c.args.instance.now c.instances_are_named.ensures.valid c.instances_are_named.ensures.names
