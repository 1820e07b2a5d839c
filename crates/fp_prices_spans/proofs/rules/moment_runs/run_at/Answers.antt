use Rattle.std.proofs.Common.{◌≡◌, ℕ, ◌∷◌, get_or, map, Some, Option, sym, ◌∙◌, ap, ap₂, arith}
use Rattle.std.proofs.lemmas.List.{get_or-map, get_or_past, length-map}
use Rattle.fp_prices_spans.proofs.RunPlaces.{get_or-later, runs-at}
use Rattle.fp_prices_spans.proofs.rules.moment_runs.run_at.Goals as goal
use Rattle.fp_prices_spans.proofs.rules.moment_runs.run_at.Goals.{then-number-eq0, else-number-eq0}

pub returns-then-number-groups : goal.returns-then-number-groups
returns-then-number-groups c other =
    let from : get_or (c.args.first ∷ c.args.groups.now) c.args.number 0 ≡ c.if-number-eq0.from =
    elim c.if-number-eq0.branch as (λ _. get_or (c.args.first ∷ c.args.groups.now) c.args.number 0 ≡ c.if-number-eq0.from) [
      | then-number-eq0 w ↦ ap (λ (n : ℕ). get_or (c.args.first ∷ c.args.groups.now) n 0) (let e : c.args.number ≡ 0 = omega arith in e) ∙ sym w.from-is
      | else-number-eq0 w ↦ get_or-later c.args.first c.args.groups.now c.args.number (omega arith) ∙ sym w.from-is
    ] in
    runs-at c.args.first c.args.groups.now c.args.end c.args.number other c.requires
    ∙ ap₂ (λ (f : ℕ) (b : Option ℕ). record { from = f; before = b }) from (get_or-map Some c.args.groups.now c.args.number 0 c.args.end (omega arith))

pub returns-else-number-groups : goal.returns-else-number-groups
returns-else-number-groups c other =
    let from : get_or (c.args.first ∷ c.args.groups.now) c.args.number 0 ≡ c.if-number-eq0.from =
    elim c.if-number-eq0.branch as (λ _. get_or (c.args.first ∷ c.args.groups.now) c.args.number 0 ≡ c.if-number-eq0.from) [
      | then-number-eq0 w ↦ ap (λ (n : ℕ). get_or (c.args.first ∷ c.args.groups.now) n 0) (let e : c.args.number ≡ 0 = omega arith in e) ∙ sym w.from-is
      | else-number-eq0 w ↦ get_or-later c.args.first c.args.groups.now c.args.number (omega arith) ∙ sym w.from-is
    ] in
    runs-at c.args.first c.args.groups.now c.args.end c.args.number other c.requires
    ∙ ap₂ (λ (f : ℕ) (b : Option ℕ). record { from = f; before = b }) from
    (get_or_past (map Some c.args.groups.now) c.args.number c.args.end (omega (arith, length-map c.args.groups.now (λ (m : ℕ). Some m))))
