-- One more member, of a class that was met or of a new one.
use Rattle.std.proofs.Common.{◌≡◌, ◌∙◌, ℕ, zero, suc, ◌+◌, Bool, true, false, List, [], ◌∷◌, ◌++◌, length, get_or, set, ⊎_elim, refl, sym, ap, ap₂, subst, arith, true≢false}
use Rattle.std.specs.Prelude.{not}
use Rattle.std.specs.List.{list_any, position_or_len}
use Rattle.std.specs.declared.alloc.Global.{Global}
use Rattle.std.specs.declared.vec.Vec.{Vec}
use Rattle.std.proofs.lemmas.Bool.{cases_Bool, cond-true, cond-false, or_parts, or_cases}
use Rattle.indexmap.specs.IndexSet.{insert_key}
use Rattle.fp_model.specs.declared.parts.Leg.{Leg}
use Rattle.fp_model.specs.declared.parts.Member.{Member}
use Rattle.fp_model.specs.Costs.{same_leg}
use Rattle.fp_model.proofs.Distinct.{same_leg-comm}
use Rattle.fp_longestarcs.specs.declared.stops.Stop.{Stop}
use Rattle.fp_relaxmodel.specs.Grouping.{Met, groups_so_far, with_member}
use Rattle.fp_longestarcs.specs.Stops.{leg_of}

-- whether two classes are the same
abbrev pub same_stop : Stop → Stop → Bool
same_stop a b = same_leg (leg_of a) (leg_of b)

-- a class that is the first one met stands at 0
first-place : (k s : Stop) (keys : List Stop) → same_stop k s ≡ true → position_or_len (same_stop k) (s ∷ keys) ≡ 0
first-place k s keys e = cond-false (not (same_stop k s)) (1 + position_or_len (same_stop k) keys) 0 (ap not e)

-- another one stands one after its place among the later ones
later-place : (k s : Stop) (keys : List Stop) → same_stop k s ≡ false → position_or_len (same_stop k) (s ∷ keys) ≡ 1 + position_or_len (same_stop k) keys
later-place k s keys e = cond-true (not (same_stop k s)) (1 + position_or_len (same_stop k) keys) 0 (ap not e)

-- the first group gets the member
first-grows : (k s : Stop) (m : Member) (items : List Member) (groups : List Met) → same_stop k s ≡ true →
    with_member (leg_of k) m (record { class = leg_of s; members = items } ∷ groups) ≡ record { class = leg_of s; members = items ++ (m ∷ []) } ∷ groups
first-grows k s m items groups e = cond-true (same_leg (leg_of s) (leg_of k)) _ _ (same_leg-comm (leg_of s) (leg_of k) ∙ e)

-- or a later one does
later-grows : (k s : Stop) (m : Member) (items : List Member) (groups : List Met) → same_stop k s ≡ false →
    with_member (leg_of k) m (record { class = leg_of s; members = items } ∷ groups) ≡ record { class = leg_of s; members = items } ∷ with_member (leg_of k) m groups
later-grows k s m items groups e = cond-false (same_leg (leg_of s) (leg_of k)) _ _ (same_leg-comm (leg_of s) (leg_of k) ∙ e)

-- one more member of a class that was met
met-grows : (k : Stop) (m : Member) (keys : List Stop) (groups : List (Vec Member Global)) (i : ℕ) (v d : Vec Member Global) → length keys ≡ length groups → list_any (same_stop k) keys ≡ true →
    i ≡ position_or_len (same_stop k) keys → v.items ≡ (get_or groups i d).items ++ (m ∷ []) →
    groups_so_far keys (set groups i v) ≡ with_member (leg_of k) m (groups_so_far keys groups)
met-grows k m [] groups i v d long there at grown = absurd (true≢false (sym there))
met-grows k m (s ∷ keys) [] i v d long there at grown = absurd (omega (arith, long))
met-grows k m (s ∷ keys) (g ∷ groups) zero v d long there at grown =
    ⊎_elim
    (λ (e : same_stop k s ≡ true).
    ap (λ (items : List Member). record { class = leg_of s; members = items } ∷ groups_so_far keys groups) grown ∙ sym (first-grows k s m g.items (groups_so_far keys groups) e))
    (λ (e : same_stop k s ≡ false). absurd (omega (arith, at, later-place k s keys e)))
    (cases_Bool (same_stop k s))
met-grows k m (s ∷ keys) (g ∷ groups) (suc i) v d long there at grown =
    ⊎_elim
    (λ (e : same_stop k s ≡ true). absurd (omega (arith, at, first-place k s keys e)))
    (λ (e : same_stop k s ≡ false).
    let later : list_any (same_stop k) keys ≡ true =
    ⊎_elim
    (λ (h : same_stop k s ≡ true). absurd (true≢false (sym h ∙ e)))
    (λ (h : list_any (same_stop k) keys ≡ true). h)
    (or_cases (same_stop k s) (list_any (same_stop k) keys) there) in
    let rest : groups_so_far keys (set groups i v) ≡ with_member (leg_of k) m (groups_so_far keys groups) =
    met-grows k m keys groups i v d (omega (arith, long)) later (omega (arith, at, later-place k s keys e)) grown in
    ap (λ (met : List Met). record { class = leg_of s; members = g.items } ∷ met) rest ∙ sym (later-grows k s m g.items (groups_so_far keys groups) e))
    (cases_Bool (same_stop k s))

-- the first member of a new class
new-begins : (k : Stop) (m : Member) (keys : List Stop) (groups : List (Vec Member Global)) (i : ℕ) (none v d : Vec Member Global) → length keys ≡ length groups → list_any (same_stop k) keys ≡ false →
    i ≡ position_or_len (same_stop k) keys → none.items ≡ [] → v.items ≡ (get_or (groups ++ (none ∷ [])) i d).items ++ (m ∷ []) →
    groups_so_far (keys ++ (k ∷ [])) (set (groups ++ (none ∷ [])) i v) ≡ with_member (leg_of k) m (groups_so_far keys groups)
new-begins k m [] [] zero none v d long there at empty grown =
    ap (λ (items : List Member). record { class = leg_of k; members = items } ∷ []) (grown ∙ ap (λ (items : List Member). items ++ (m ∷ [])) empty)
new-begins k m [] [] (suc i) none v d long there at empty grown = absurd (omega (arith, at))
new-begins k m [] (g ∷ groups) i none v d long there at empty grown = absurd (omega (arith, long))
new-begins k m (s ∷ keys) [] i none v d long there at empty grown = absurd (omega (arith, long))
new-begins k m (s ∷ keys) (g ∷ groups) zero none v d long there at empty grown =
    let parts : (same_stop k s ≡ false) × (list_any (same_stop k) keys ≡ false) = or_parts (same_stop k s) (list_any (same_stop k) keys) there in
    absurd (omega (arith, at, later-place k s keys parts.0))
new-begins k m (s ∷ keys) (g ∷ groups) (suc i) none v d long there at empty grown =
    let parts : (same_stop k s ≡ false) × (list_any (same_stop k) keys ≡ false) = or_parts (same_stop k s) (list_any (same_stop k) keys) there in
    let rest : groups_so_far (keys ++ (k ∷ [])) (set (groups ++ (none ∷ [])) i v) ≡ with_member (leg_of k) m (groups_so_far keys groups) =
    new-begins k m keys groups i none v d (omega (arith, long)) parts.1 (omega (arith, at, later-place k s keys parts.0)) empty grown in
    ap (λ (met : List Met). record { class = leg_of s; members = g.items } ∷ met) rest ∙ sym (later-grows k s m g.items (groups_so_far keys groups) parts.0)

-- a class that is told to be new is not among the keys
pub absent-new : (keys : List Stop) (k : Stop) (new : Bool) → new ≡ true → new ≡ not (list_any (same_stop k) keys) → list_any (same_stop k) keys ≡ false
absent-new keys k new is told = absent-where (list_any (same_stop k) keys) (sym told ∙ is)
  where
    absent-where : (b : Bool) → not b ≡ true → b ≡ false
    absent-where true e = sym e
    absent-where false e = refl

-- one that is told not to be new is
pub present-met : (keys : List Stop) (k : Stop) (new : Bool) → new ≡ false → new ≡ not (list_any (same_stop k) keys) → list_any (same_stop k) keys ≡ true
present-met keys k new is told = present-where (list_any (same_stop k) keys) (sym told ∙ is)
  where
    present-where : (b : Bool) → not b ≡ false → b ≡ true
    present-where true e = refl
    present-where false e = sym e

-- the groups after one more member of a new class
pub grown-new : (k : Stop) (m : Member) (keys later : List Stop) (groups more : List (Vec Member Global)) (i : ℕ) (none v d : Vec Member Global) → length keys ≡ length groups → list_any (same_stop k) keys ≡ false →
    i ≡ position_or_len (same_stop k) keys → none.items ≡ [] → later ≡ insert_key same_stop keys k → more ≡ groups ++ (none ∷ []) → v.items ≡ (get_or more i d).items ++ (m ∷ []) →
    groups_so_far later (set more i v) ≡ with_member (leg_of k) m (groups_so_far keys groups)
grown-new k m keys later groups more i none v d long there at empty keys_are groups_are grown =
    let whole : List Met = with_member (leg_of k) m (groups_so_far keys groups) in
    let keys_end : later ≡ keys ++ (k ∷ []) = keys_are ∙ cond-false (list_any (same_stop k) keys) keys (keys ++ (k ∷ [])) there in
    let begins : groups_so_far (keys ++ (k ∷ [])) (set (groups ++ (none ∷ [])) i v) ≡ whole =
    new-begins k m keys groups i none v d long there at empty (subst (λ (gs : List (Vec Member Global)). v.items ≡ (get_or gs i d).items ++ (m ∷ [])) groups_are grown) in
    ap₂ (λ (ks : List Stop) (gs : List (Vec Member Global)). groups_so_far ks (set gs i v)) keys_end groups_are ∙ begins

-- the groups after one more member of a class that was met
pub grown-met : (k : Stop) (m : Member) (keys later : List Stop) (groups more : List (Vec Member Global)) (i : ℕ) (v d : Vec Member Global) → length keys ≡ length groups → list_any (same_stop k) keys ≡ true →
    i ≡ position_or_len (same_stop k) keys → later ≡ insert_key same_stop keys k → more ≡ groups → v.items ≡ (get_or more i d).items ++ (m ∷ []) →
    groups_so_far later (set more i v) ≡ with_member (leg_of k) m (groups_so_far keys groups)
grown-met k m keys later groups more i v d long there at keys_are groups_are grown =
    let keys_stay : later ≡ keys = keys_are ∙ cond-true (list_any (same_stop k) keys) keys (keys ++ (k ∷ [])) there in
    let grows : groups_so_far keys (set groups i v) ≡ with_member (leg_of k) m (groups_so_far keys groups) =
    met-grows k m keys groups i v d long there at (subst (λ (gs : List (Vec Member Global)). v.items ≡ (get_or gs i d).items ++ (m ∷ [])) groups_are grown) in
    ap₂ (λ (ks : List Stop) (gs : List (Vec Member Global)). groups_so_far ks (set gs i v)) keys_stay groups_are ∙ grows
