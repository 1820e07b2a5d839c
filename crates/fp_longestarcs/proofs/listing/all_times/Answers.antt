-- One more terminal has its list.
use Rattle.std.proofs.Common.{◌≡◌, ℕ, ◌+◌, ◌<◌, ◌≤◌, ◌++◌, ◌∷◌, ⊎_elim, List, length, get_or, [], sym, ap, ◌∙◌, subst, arith}
use Rattle.std.specs.declared.alloc.Global.{Global}
use Rattle.std.specs.declared.vec.Vec.{Vec}
use Rattle.std.proofs.lemmas.Bool.{cases_lt}
use Rattle.std.proofs.lemmas.List.{map-append, length_push, get_or_push, get_or_append_left}
use Rattle.std.proofs.lemmas.List.Elements.{All-push}
use Rattle.fp_timenodes.specs.Floor.{HaveSamePoints}
use Rattle.fp_timenodes.specs.Points.{points_at}
use Rattle.fp_longestarcs.specs.Ascending.{ArePoints}
use Rattle.fp_base_lists.specs.Vectors.{lists_of}
use Rattle.fp_longestarcs.proofs.listing.all_times.Goals as goal

-- what holds of each list at its number, and of one more, holds of each of them
each-more : (P : ℕ → List ℕ → Type 0) (lists : List (List ℕ)) (one : List ℕ) (n : ℕ) → length lists ≡ n → ((k : ℕ) → k < n → P k (get_or lists k [])) → P n one →
    (k : ℕ) → k < n + 1 → P k (get_or (lists ++ one ∷ []) k [])
each-more P lists one n count each last k h =
    ⊎_elim
    (λ (less : k < n). let within : k < length lists = omega arith in subst (P k) (sym (get_or_append_left lists (one ∷ []) [] k within)) (each k less))
    (λ (more : n ≤ k). let e : n ≡ k = omega arith in subst (P k) (sym (get_or_push lists one [] k (count ∙ e))) (subst (λ (m : ℕ). P m one) e last))
    (cases_lt k n)

pub loop-terminal-preserved : goal.loop-terminal-preserved
loop-terminal-preserved c =
    let lists : List (List ℕ) = lists_of c.loop-terminal.lists.items in
    let one : List ℕ = c.in_ok-times_at.field-0.items in
    let more : lists_of c.push.new.self.items ≡ lists ++ one ∷ [] =
    ap (λ (l : List (Vec ℕ Global)). lists_of l) c.in_ok-push.ensures.items ∙ map-append (λ (v : Vec ℕ Global). v.items) c.loop-terminal.lists.items (c.in_ok-times_at.field-0 ∷ []) in
    let count : length lists ≡ c.loop-terminal.terminal = c.loop-terminal.invariant.0 in
    rw more (
      length_push lists one ∙ ap (λ (n : ℕ). n + 1) count,
      All-push ArePoints lists one c.loop-terminal.invariant.1 c.in_ok-times_at.ensures.are,
      each-more (λ t qs. HaveSamePoints qs (points_at c.args.points.now t c.args.round)) lists one c.loop-terminal.terminal count c.loop-terminal.invariant.2 c.in_ok-times_at.ensures.same,
    )
