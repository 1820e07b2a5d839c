-- The written line of an answer has no fault at the start, and gives the answer.
use Rattle.std.proofs.Common.{ℕ, ◌<◌, ◌≤◌, length, refl, arith}
use Rattle.std.specs.Prelude.{Option, Some, None, codes, IfSome}
use Rattle.fp_model.specs.declared.limits.TheConstants.{LONGEST_FASTEST}
use Rattle.fp_model.specs.Problem.{IsValid, Problem}
use Rattle.fp_certificate_lines.specs.declared.certificates.Answer.{Answer}
use Rattle.fp_certificate_lines.specs.declared.certificates.Answer.TheVariants as answer
use Rattle.fp_certificate_lines.specs.declared.certificates.Spent.{Spent}
use Rattle.fp_certificate_lines.specs.declared.certificates.Spent.TheVariants as spent
use Rattle.fp_certificate_lines.specs.Ranges.{IsAnswerInRange, largest_figure}
use Rattle.fp_certificate_lines.specs.Rows.{answer_fields}
use Rattle.fp_certificate.specs.Answers.{with_answer}
use Rattle.fp_certificate.specs.Reading.{nothing_read}
use Rattle.fp_certificate.proofs.LinesBack.{IsStep}
use Rattle.fp_certificate.proofs.NamesBack.{shipment-back}
use Rattle.fp_certificate.proofs.NumbersBack.{large-back, no-word, number-back, within-back}

-- an answer that a search didn't prove
unfinished-step : (p : Problem) (cost bound : ℕ) (s : Spent) → cost ≤ largest_figure → bound ≤ largest_figure
    → IsStep p nothing_read (answer_fields p (answer.Unfinished cost bound s)) (with_answer nothing_read (answer.Unfinished cost bound s))
unfinished-step p cost bound spent.Rounds costs bounds =
    let cost-is = large-back cost costs in
    let bound-is = large-back bound bounds in
    record {
      clean = rw (cost-is.is, bound-is.is, within-back 0 largest_figure cost (omega arith) costs cost-is, within-back 0 largest_figure bound (omega arith) bounds bound-is) refl;
      gives = rw (cost-is.value, bound-is.value) refl;
    }
unfinished-step p cost bound spent.Branches costs bounds =
    let cost-is = large-back cost costs in
    let bound-is = large-back bound bounds in
    record {
      clean = rw (cost-is.is, bound-is.is, within-back 0 largest_figure cost (omega arith) costs cost-is, within-back 0 largest_figure bound (omega arith) bounds bound-is) refl;
      gives = rw (cost-is.value, bound-is.value) refl;
    }
unfinished-step p cost bound spent.Time costs bounds =
    let cost-is = large-back cost costs in
    let bound-is = large-back bound bounds in
    record {
      clean = rw (cost-is.is, bound-is.is, within-back 0 largest_figure cost (omega arith) costs cost-is, within-back 0 largest_figure bound (omega arith) bounds bound-is) refl;
      gives = rw (cost-is.value, bound-is.value) refl;
    }

infeasible-step : (p : Problem) (shipment : ℕ) (time : Option ℕ) → IsValid p → shipment < length p.shipments → IfSome time (λ t. t ≤ LONGEST_FASTEST)
    → IsStep p nothing_read (answer_fields p (answer.Infeasible shipment time)) (with_answer nothing_read (answer.Infeasible shipment time))
infeasible-step p shipment None v there fast =
    let shipment-is = shipment-back p shipment v there in
    record { clean = rw shipment-is refl; gives = rw shipment-is refl }
infeasible-step p shipment (Some time) v there fast =
    let shipment-is = shipment-back p shipment v there in
    let back = number-back time (omega (arith, fast)) in
    let some = no-word time (codes "none") back refl in
    record {
      clean = rw (some, back.is, shipment-is, within-back 0 LONGEST_FASTEST time (omega arith) fast back) refl;
      gives = rw (shipment-is, some, back.value) refl;
    }

pub answer-step : (p : Problem) (a : Answer) → IsValid p → IsAnswerInRange p a → IsStep p nothing_read (answer_fields p a) (with_answer nothing_read a)
answer-step p (answer.Direct cost) v r =
    let back = large-back cost r in
    record { clean = rw (back.is, within-back 0 largest_figure cost (omega arith) r back) refl; gives = rw back.value refl }
answer-step p (answer.Optimal cost) v r =
    let back = large-back cost r in
    record { clean = rw (back.is, within-back 0 largest_figure cost (omega arith) r back) refl; gives = rw back.value refl }
answer-step p (answer.Unfinished cost bound s) v r = unfinished-step p cost bound s r.0 r.1
answer-step p (answer.Infeasible shipment time) v r = infeasible-step p shipment time v r.0 r.1
