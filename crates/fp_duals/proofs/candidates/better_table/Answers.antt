-- What is better with so many price lines is so with the room that there is.
use Rattle.std.proofs.Common.{◌≡◌, ◌≤◌, ⊎_elim, List, sym, subst, arith}
use Rattle.std.specs.Prelude.{Option, IfSome}
use Rattle.fp_prices.specs.Shares.{ClassShare}
use Rattle.fp_duals.specs.declared.candidates.Candidate.{Candidate}
use Rattle.fp_duals.specs.Candidates.{IsBetter}
use Rattle.fp_duals.proofs.ChosenPrices.{better-room}
use Rattle.fp_duals.proofs.candidates.better_table.Goals as goal

pub returns-then-not-modes_differ-clause-better : goal.returns-then-not-modes_differ-clause-better
returns-then-not-modes_differ-clause-better g c =
    better-room c.args.leaf.now c.args.tables.now c.lines-lines.result c.args.room c.args.start c.in_ok-same.same (omega (arith, c.lines-lines.ensures, c.min.ensures)) c.in_ok-same.ensures.better

pub returns-clause-better : goal.returns-clause-better
returns-clause-better g c =
    let le : c.lines-lines.result ≤ c.args.room = omega (arith, c.lines-lines.ensures, c.min.ensures) in
    let same = better-room c.args.leaf.now c.args.tables.now c.lines-lines.result c.args.room c.args.start c.in_ok-same.same le c.in_ok-same.ensures.better in
    let other =
    better-room c.args.leaf.now c.args.tables.now c.lines-lines.result c.args.room c.args.start c.in_ok-other.other le
    (subst (λ (tables : List (List ClassShare)). IfSome c.in_ok-other.other (IsBetter c.args.leaf.now tables c.lines-lines.result c.args.start)) c.better_in_mode.ensures.same c.in_ok-other.ensures.better) in
    ⊎_elim
    (λ (one : c.better_of.result ≡ c.in_ok-same.same). subst (λ (o : Option Candidate). IfSome o (IsBetter c.args.leaf.now c.args.tables.now c.args.room c.args.start)) (sym one) same)
    (λ (two : c.better_of.result ≡ c.in_ok-other.other). subst (λ (o : Option Candidate). IfSome o (IsBetter c.args.leaf.now c.args.tables.now c.args.room c.args.start)) (sym two) other)
    c.better_of.ensures.one
