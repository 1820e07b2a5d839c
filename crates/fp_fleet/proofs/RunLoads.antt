-- What the trucks of a line carry when one more runs it.
use Rattle.std.proofs.Common.{◌≡◌, ℕ, ◌∙◌, ◌+◌, ◌-◌, ◌*◌, ◌<◌, ◌≤◌, true, false, List, refl, sym, ap, subst, arith, ⊎_elim}
use Rattle.std.specs.Prelude.{◌==◌, min, if◌then◌else◌}
use Rattle.std.specs.Int.{div_ceil}
use Rattle.std.proofs.Math.Nat.{suc-mul}
use Rattle.std.proofs.Math.Numerals.{add-one}
use Rattle.std.proofs.lemmas.Bool.{cases_eq, cases_lt, cond-false, cond-true, eq-eqb, ne_eqb}
use Rattle.fp_base_lists.proofs.Ceilings.{div_ceil-least}
use Rattle.fp_fleet.specs.declared.days.Run.{Run}
use Rattle.fp_fleet.specs.Queues.{IsFilled}
use Rattle.fp_fleet.specs.TruckDays.{carried, over_runs, part_count, run_count}

-- one truck more carries as much as it holds, or the rest
pub IsFilled-next : (capacity load n c q n_new c_new q_new x : ℕ) → 0 < capacity → n * capacity < load → x ≡ min capacity (load - n * capacity) → IsFilled capacity load n c q →
    n_new ≡ n + 1 → c_new ≡ c + x → q_new ≡ q + (if x == capacity then 0 else 1) → IsFilled capacity load n_new c_new q_new
IsFilled-next capacity load n c q n_new c_new q_new x some left is filled count carries parts =
    let was : (c ≡ n * capacity) × (q ≡ 0) = filled.full (omega arith) in
    let more : n_new * capacity ≡ n * capacity + capacity = ap (λ (k : ℕ). k * capacity) (count ∙ add-one n) ∙ suc-mul n capacity in
    let flag : ℕ = if x == capacity then 0 else 1 in
    ⊎_elim
    (λ (whole : x ≡ capacity).
    let none : flag ≡ 0 = cond-true (x == capacity) 0 1 (eq-eqb x capacity whole) in
    record {
      full = λ h. (omega (arith, was, more, carries, whole), omega (arith, was, parts, none));
      rest = λ h. omega (arith, was, more, carries, whole, h, is, left);
      few = omega (arith, was, parts, none);
    })
    (λ (part : x ≡ capacity → ⊥).
    let one : flag ≡ 1 = cond-false (x == capacity) 0 1 (ne_eqb x capacity part) in
    let short : load < n * capacity + capacity = omega (arith, part, is, left) in
    record {
      full = λ h. absurd (omega (arith, h, more, short));
      rest = λ h. omega (arith, was, carries, is, left, part);
      few = omega (arith, was, parts, one);
    })
    (cases_eq x capacity)

IsFilled-same : (capacity load n c q n_new c_new q_new : ℕ) → IsFilled capacity load n c q → n_new ≡ n → c_new ≡ c → q_new ≡ q → IsFilled capacity load n_new c_new q_new
IsFilled-same capacity load n c q n_new c_new q_new filled count carries parts =
    subst (λ (k : ℕ). IsFilled capacity load k c_new q_new) (sym count)
    (subst (λ (k : ℕ). IsFilled capacity load n k q_new) (sym carries)
    (subst (λ (k : ℕ). IsFilled capacity load n c k) (sym parts) filled))

-- a run is put into days
pub IsFilled-run : (capacity load m : ℕ) (r : Run) (days days_new : List (List Run)) → ((f : Run → ℕ) → over_runs f days_new ≡ over_runs f days + f r) →
    IsFilled capacity load (run_count days m) (carried days m) (part_count capacity days m) →
    (r.line ≡ m → (0 < capacity) × (run_count days m * capacity < load) × (r.load ≡ min capacity (load - run_count days m * capacity))) →
    IsFilled capacity load (run_count days_new m) (carried days_new m) (part_count capacity days_new m)
IsFilled-run capacity load m r days days_new sums filled next =
    let count : run_count days_new m ≡ run_count days m + (if r.line == m then 1 else 0) = sums (λ (s : Run). if s.line == m then 1 else 0) in
    let carries : carried days_new m ≡ carried days m + (if r.line == m then r.load else 0) = sums (λ (s : Run). if s.line == m then s.load else 0) in
    let parts : part_count capacity days_new m ≡ part_count capacity days m + (if r.line == m then (if r.load == capacity then 0 else 1) else 0) =
    sums (λ (s : Run). if s.line == m then (if s.load == capacity then 0 else 1) else 0) in
    ⊎_elim
    (λ (here : r.line ≡ m).
    let is : (r.line == m) ≡ true = eq-eqb r.line m here in
    IsFilled-next capacity load (run_count days m) (carried days m) (part_count capacity days m) (run_count days_new m) (carried days_new m) (part_count capacity days_new m) r.load
    (next here).0 (next here).1 (next here).2 filled
    (omega (arith, count, cond-true {A = ℕ} (r.line == m) 1 0 is)) (omega (arith, carries, cond-true (r.line == m) r.load 0 is))
    (omega (arith, parts, cond-true {A = ℕ} (r.line == m) (if r.load == capacity then 0 else 1) 0 is)))
    (λ (other : r.line ≡ m → ⊥).
    let is : (r.line == m) ≡ false = ne_eqb r.line m other in
    IsFilled-same capacity load (run_count days m) (carried days m) (part_count capacity days m) (run_count days_new m) (carried days_new m) (part_count capacity days_new m) filled
    (omega (arith, count, cond-false {A = ℕ} (r.line == m) 1 0 is)) (omega (arith, carries, cond-false (r.line == m) r.load 0 is))
    (omega (arith, parts, cond-false {A = ℕ} (r.line == m) (if r.load == capacity then 0 else 1) 0 is)))
    (cases_eq r.line m)

-- fewer trucks than hold a load leave some of it
pub some-left : (load capacity n : ℕ) → 0 < capacity → n < div_ceil load capacity → n * capacity < load
some-left load capacity n some few =
    ⊎_elim
    (λ (left : n * capacity < load). left)
    (λ (all : load ≤ n * capacity). absurd (omega (arith, few, div_ceil-least load capacity n some all)))
    (cases_lt (n * capacity) load)
