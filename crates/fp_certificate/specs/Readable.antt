-- Certificates whose lines stand in an order that reading takes, and that reading gives them back.
use Rattle.std.specs.Prelude.{ℕ, ◌≡◌, [], None, Ok}
use Rattle.fp_model.specs.Problem.{Problem}
use Rattle.fp_prices.specs.Tables.{AreCountable}
use Rattle.fp_records.specs.Fields.{records_of}
use Rattle.fp_records.specs.Text.{lines_of}
use Rattle.fp_certificate_lines.specs.declared.certificates.Answer.{Answer}
use Rattle.fp_certificate_lines.specs.declared.certificates.Answer.TheVariants.{Direct, Optimal, Unfinished, Infeasible}
use Rattle.fp_certificate_lines.specs.Ranges.{IsInRange}
use Rattle.fp_certificate.specs.Reading.{certificate_of}
use Rattle.fp_certificate_lines.specs.Rows.{rows_of}
use Rattle.fp_certificate_lines.specs.Statements.{Statement}

-- there is nothing beside an answer, legs and trucks
pub record HasTimetableAlone (c : Statement) : Type 0 where
  pub scale : c.scale ≡ None
  pub unit : c.unit ≡ None
  pub points : c.points ≡ []
  pub tables : c.tables ≡ []
  pub spans : c.spans ≡ []
  pub gifts : c.gifts ≡ []
  pub moments : c.moments ≡ []
  pub tree : c.tree ≡ []

-- there is nothing beside an answer
pub record HasAnswerAlone (c : Statement) : Type 0 where
  pub rest : HasTimetableAlone c
  pub legs : c.legs ≡ []
  pub trucks : c.trucks ≡ []

-- the answer allows what there is: a direct one legs and trucks alone, an infeasible one nothing
abbrev pub Allows : Answer → Statement → Type 0
Allows (Direct cost) c = HasTimetableAlone c
Allows (Optimal cost) c = Unit {0}
Allows (Unfinished cost bound spent) c = Unit {0}
Allows (Infeasible shipment time) c = HasAnswerAlone c

-- the lines stand in an order that reading takes
abbrev pub IsReadable : Statement → Type 0
IsReadable c = Allows c.answer c

-- the records of a certificate's text give the certificate back, whatever the ordinal of the first
-- of them is
abbrev pub ReadsBack : Problem → Statement → Type 0
ReadsBack p c = (ordinal : ℕ) → certificate_of p ordinal (records_of (lines_of (rows_of p c))) ≡ Ok c

-- that is so for each certificate in range, of countable tables, whose lines stand in an order that
-- reading takes
abbrev pub WrittenReadsBack : Problem → Type 0
WrittenReadsBack p = (c : Statement) → IsInRange p c → AreCountable p c.tables → IsReadable c → ReadsBack p c
