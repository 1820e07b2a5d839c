-- Needs are deficits exactly where their trucks are what leaves, less what arrives.
use Rattle.std.proofs.Common.{◌≡◌, ◌≢◌, ℕ, ◌+◌, ◌<◌, ◌≤◌, List, length, get_or, set, take, ⊎_elim, sym, ◌∙◌, subst, arith, get_or-set_other, get_or-set_same}
use Rattle.std.specs.Prelude.{◌==◌, nat_le, All, if◌then◌else◌}
use Rattle.std.proofs.lemmas.Bool.{and_left, cases_lt, cond-false, ne_eqb}
use Rattle.std.proofs.lemmas.List.{get_or-take, get_or_default, length-take-le}
use Rattle.std.proofs.lemmas.List.Elements.{All-more}
use Rattle.fp_model.specs.Problem.{IsArc, IsValid, Problem, arc_at, no_arc}
use Rattle.fp_timetable.specs.declared.lines.TruckLine.{TruckLine}
use Rattle.fp_timetable.specs.Lines.{TruckExists}
use Rattle.fp_timetable.specs.Order.{no_line}
use Rattle.fp_fleet.specs.declared.fleets.Need.{Need}
use Rattle.fp_fleet.specs.Deficits.{HasDeficit, IsDeficit, arriving, leaves_by, leaving}
use Rattle.fp_fleet.specs.Fleets.{NeedsAscend}
use Rattle.fp_fleet.specs.Rosters.{line_at, tail_of}
use Rattle.fp_fleet.proofs.NumberSums.{sum_below-none}

-- the moment of a need is the one at its terminal
abbrev pub HasMoment : List ℕ → Need → Type 0
HasMoment moments n = get_or moments n.terminal 0 ≡ n.at

-- the moment of one more need stands at its terminal
pub HasMoment-more : (needs : List Need) (i : ℕ) (d : Need) (moments : List ℕ) → NeedsAscend needs → i < length needs → (get_or needs i d).terminal < length moments →
    All (HasMoment moments) (take i needs) → All (HasMoment (set moments (get_or needs i d).terminal (get_or needs i d).at)) (take (i + 1) needs)
HasMoment-more needs i d moments ascend lt inside before =
    let n : Need = get_or needs i d in
    All-more (HasMoment (set moments n.terminal n.at)) needs i d lt
    (λ k e less.
    let long : length (take i needs) ≡ i = length-take-le i needs (omega arith) in
    let earlier : k < i = omega (arith, less, long) in
    let same : get_or (take i needs) k e ≡ get_or needs k d = get_or-take i needs k e earlier ∙ get_or_default needs k e d (omega (arith, earlier, lt)) in
    let other : (get_or needs k d).terminal ≢ n.terminal = λ h. omega (arith, h, ascend k i d earlier lt) in
    subst (HasMoment (set moments n.terminal n.at)) (sym same)
    (get_or-set_other moments n.terminal (get_or needs k d).terminal n.at 0 other ∙ subst (HasMoment moments) same (before k e less)))
    (get_or-set_same moments n.terminal n.at 0 inside)

-- trucks that leave and arrive at each terminal are counted, up to and with its moment
pub record AreCounted (p : Problem) (lines : List TruckLine) (moments leave arrive : List ℕ) : Type 0 where
  pub leaves : (v : ℕ) → v < length p.terminals → get_or leave v 0 ≡ leaving p lines v (get_or moments v 0)
  pub arrives : (v : ℕ) → v < length p.terminals → get_or arrive v 0 ≡ arriving p lines v (get_or moments v 0)

-- the trucks of a need are what leaves its terminal, less what arrives
abbrev pub IsMet : (leave arrive : List ℕ) → Need → Type 0
IsMet leave arrive n = (0 < n.trucks) × (get_or leave n.terminal 0 ≡ get_or arrive n.terminal 0 + n.trucks)

pub IsDeficit-met : (p : Problem) (lines : List TruckLine) (moments leave arrive : List ℕ) (n : Need) → AreCounted p lines moments leave arrive → n.terminal < length p.terminals →
    HasMoment moments n → IsMet leave arrive n → IsDeficit p lines n
IsDeficit-met p lines moments leave arrive n counted lt at met = record {
  above = met.0;
  deficit = subst (λ (m : ℕ). HasDeficit p lines n.terminal m n.trucks) at (omega (arith, counted.leaves n.terminal lt, counted.arrives n.terminal lt, met.1));
}

pub IsMet-deficit : (p : Problem) (lines : List TruckLine) (moments leave arrive : List ℕ) (n : Need) → AreCounted p lines moments leave arrive → n.terminal < length p.terminals →
    HasMoment moments n → IsDeficit p lines n → IsMet leave arrive n
IsMet-deficit p lines moments leave arrive n counted lt at is =
    let there : HasDeficit p lines n.terminal (get_or moments n.terminal 0) n.trucks = subst (λ (m : ℕ). HasDeficit p lines n.terminal m n.trucks) (sym at) is.deficit in
    (is.above, omega (arith, counted.leaves n.terminal lt, counted.arrives n.terminal lt, there))

-- the terminal that a line leaves exists
pub tail-exists : (p : Problem) (lines : List TruckLine) (m : ℕ) → IsValid p → All (TruckExists p) lines → m < length lines → tail_of p (line_at lines m) < length p.terminals
tail-exists p lines m valid exist lt =
    let arc : IsArc (length p.terminals) (arc_at p (line_at lines m).arc) = valid.parts.arcs (line_at lines m).arc no_arc (exist m no_line lt) in
    arc.from

-- no truck leaves a terminal that doesn't exist
pub leaving-outside : (p : Problem) (lines : List TruckLine) (terminal moment : ℕ) → IsValid p → All (TruckExists p) lines → length p.terminals ≤ terminal →
    leaving p lines terminal moment ≡ 0
leaving-outside p lines terminal moment valid exist outside =
    sum_below-none (length lines) (λ m. if leaves_by p terminal moment (line_at lines m) then (line_at lines m).trucks else 0)
    (λ m lt.
    let apart : tail_of p (line_at lines m) ≡ terminal → ⊥ = λ same. omega (arith, same, outside, tail-exists p lines m valid exist lt) in
    cond-false (leaves_by p terminal moment (line_at lines m)) (line_at lines m).trucks 0
    (and_left (tail_of p (line_at lines m) == terminal) (nat_le (line_at lines m).depart moment) (ne_eqb (tail_of p (line_at lines m)) terminal apart)))

-- the terminal of a deficit exists
pub IsDeficit-exists : (p : Problem) (lines : List TruckLine) (n : Need) → IsValid p → All (TruckExists p) lines → IsDeficit p lines n → n.terminal < length p.terminals
IsDeficit-exists p lines n valid exist is =
    ⊎_elim
    (λ (inside : n.terminal < length p.terminals). inside)
    (λ (outside : length p.terminals ≤ n.terminal). absurd (omega (arith, leaving-outside p lines n.terminal n.at valid exist outside, is.above, is.deficit)))
    (cases_lt n.terminal (length p.terminals))
