use Rattle.std.proofs.Common.{◌∙◌, [], get_or, length, sym, arith}
use Rattle.std.specs.Prelude.{not}
use Rattle.std.proofs.lemmas.Bool.{not_from_false, not_from_true}
use Rattle.std.proofs.lemmas.List.Sums.{prefix_len_is}
use Rattle.fp_reader.specs.Input.{is_answer}
use Rattle.fp_app_tails.proofs.places.answer_place.Goals as goal

pub returns-then-is_of_kind-clause-place : goal.returns-then-is_of_kind-clause-place
returns-then-is_of_kind-clause-place c =
    let line = c.index-lines-place.result in
    sym (prefix_len_is (λ fields. not (is_answer fields)) c.args.lines.now c.loop-place.place line (omega arith)
    (λ k lt. not_from_false (is_answer (get_or c.args.lines.now k line)) (c.loop-place.invariant k line lt))
    (λ lt. rw (← c.index-lines-place.is) (not_from_true (is_answer line) (sym c.is_of_kind.ensures ∙ c.if-is_of_kind.true))))

pub returns-clause-place : goal.returns-clause-place
returns-clause-place c =
    let lines = c.args.lines.now in
    sym (prefix_len_is (λ fields. not (is_answer fields)) lines (length lines) [] (omega arith)
    (λ k lt. not_from_false (is_answer (get_or lines k [])) (c.loop-place.invariant k [] (omega arith)))
    (λ lt. absurd (omega arith)))
