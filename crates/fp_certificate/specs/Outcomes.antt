-- What reading answers where it fails: a fault, or want of memory, of which nothing is said.
use Rattle.std.specs.Prelude.{◌≡◌, Result, Err}
use Rattle.fp_records_fields.specs.Faults.{Fault}
use Rattle.fp_certificate.specs.declared.faults.CertFault.{CertFault}
use Rattle.fp_certificate.specs.declared.faults.CertFault.TheVariants as cert
use Rattle.fp_certificate_lines.specs.Statements.{Statement}

-- records were not read for the fault that decides
abbrev pub IsFirst : CertFault → Result Statement Fault → Type 0
IsFirst (cert.Bad ordinal code) read = read ≡ Err (record { ordinal = ordinal; code = code })
IsFirst cert.NoMemory read = Unit {0}
