use Rattle.std.proofs.Common.{◌≡◌, ℕ, ◌+◌, ◌<◌, ◌≤◌, Bool, true, false, List, length, get_or, set, take, sym, ap, ◌∙◌, subst, arith}
use Rattle.std.specs.Prelude.{◌==◌, if◌then◌else◌}
use Rattle.std.proofs.lemmas.List.{get_or_read}
use Rattle.std.proofs.lemmas.List.Sums.{sum_by_more_le_part}
use Rattle.fp_model.specs.declared.parts.Arc.{Arc}
use Rattle.fp_model.specs.Problem.{Problem}
use Rattle.fp_timetable.specs.declared.lines.TruckLine.{TruckLine}
use Rattle.fp_fleet.specs.declared.fleets.Begin.{Begin}
use Rattle.fp_fleet.specs.declared.fleets.Need.{Need}
use Rattle.fp_fleet.specs.NeedTables.{AreNoNeeds, IsNeedTable, begin_depart, begin_tail, need_at, no_begin, no_need}
use Rattle.fp_fleet.proofs.MetDeficits.{tail-exists}
use Rattle.fp_fleet.proofs.NeedsInTables.{IsNeedTable-more, IsNeedTable-none}
use Rattle.fp_fleet.proofs.needs.needs_of.Goals as goal

pub loop-begin-init : goal.loop-begin-init
loop-begin-init c =
    IsNeedTable-none c.args.instance.now c.args.lines.now c.in_ok-table.table.items
    (subst (λ (n : ℕ). AreNoNeeds n c.in_ok-table.table.items) (ap (λ (names : List (List ℕ)). length names) c.terminals.ensures.same) c.in_ok-table.ensures)

pub overflow_add-trucks : goal.overflow_add-trucks
overflow_add-trucks c =
    let p : Problem = c.args.instance.now in
    let lines : List TruckLine = c.args.lines.now in
    let begins : List Begin = c.args.begins.now in
    let i : ℕ = c.loop-begin.begin-index in
    let lt : i < length begins = omega arith in
    let b : Begin = get_or begins i no_begin in
    let table : List Need = c.loop-begin.table.items in
    let w : ℕ = c.arc-terminal.result.from in
    let here : w ≡ begin_tail p lines b = ap (λ (a : Arc). a.from) c.arc-terminal.ensures.same in
    let inside : w < length p.terminals =
    omega (arith, here, tail-exists p lines b.line c.requires.timetable.valid c.requires.timetable.exist (c.requires.begins i no_begin lt).0) in
    let read : c.index.result.now ≡ need_at table w = get_or_read table w c.index.result.now (omega (arith, inside, c.loop-begin.invariant.long)) c.index.ensures no_need in
    omega (
      arith,
      ap (λ (n : Need). n.trucks) read,
      (c.loop-begin.invariant.each w inside).trucks,
      sum_by_more_le_part (λ (x : Begin). if begin_tail p lines x == w then x.count else 0) (λ (x : Begin). x.count) begins i no_begin lt
          (λ x. kept-le (begin_tail p lines x == w) x.count),
      c.requires.fits,
    )
  where
    kept-le : (t : Bool) (n : ℕ) → (if t then n else 0) ≤ n
    kept-le true n = omega arith
    kept-le false n = omega arith

pub loop-begin-preserved : goal.loop-begin-preserved
loop-begin-preserved c =
    let p : Problem = c.args.instance.now in
    let lines : List TruckLine = c.args.lines.now in
    let begins : List Begin = c.args.begins.now in
    let i : ℕ = c.loop-begin.begin-index in
    let lt : i < length begins = omega arith in
    let b : Begin = get_or begins i no_begin in
    let table : List Need = c.loop-begin.table.items in
    let w : ℕ = c.arc-terminal.result.from in
    let here : w ≡ begin_tail p lines b = ap (λ (a : Arc). a.from) c.arc-terminal.ensures.same in
    let exists : begin_tail p lines b < length p.terminals =
    tail-exists p lines b.line c.requires.timetable.valid c.requires.timetable.exist (c.requires.begins i no_begin lt).0 in
    let read : c.index.result.now ≡ need_at table w =
    get_or_read table w c.index.result.now (omega (arith, exists, here, c.loop-begin.invariant.long)) c.index.ensures no_need in
    let trucks : c.index.result.now.trucks ≡ (need_at table (begin_tail p lines b)).trucks =
    ap (λ (n : Need). n.trucks) read ∙ ap (λ (k : ℕ). (need_at table k).trucks) here in
    let result : ℕ → ℕ → Type 0 = λ v n.
    IsNeedTable p lines (take (i + 1) begins) (set table v (record { terminal = v; trucks = n + b.count; at = begin_depart lines b })) in
    subst (λ (v : ℕ). result v c.index.result.now.trucks) (sym here)
    (subst (λ (n : ℕ). result (begin_tail p lines b) n) (sym trucks)
    (IsNeedTable-more p lines begins i table c.requires.timetable c.requires.begins c.requires.ascend lt exists c.loop-begin.invariant))
