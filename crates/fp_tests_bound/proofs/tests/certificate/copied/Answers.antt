use Rattle.fp_certificate_lines.proofs.Named.{in-range-named}
use Rattle.fp_tests_bound.proofs.tests.certificate.copied.Goals as goal

pub write-requires : goal.write-requires
write-requires c = in-range-named _ _ c.in_ok-certificate.ensures.range
