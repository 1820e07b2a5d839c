-- One more step on a way, and a way that turns.
use Rattle.std.proofs.Common.{◌≡◌, ℕ, ◌+◌, Bool, true, false, cond, List, [], ◌∷◌, ◌++◌, get_or, set, take, drop, refl, sym, ap, ◌∙◌, append_assoc, append-nil, subst}
use Rattle.std.proofs.lemmas.List.{drop_more, take-append-drop, take_more_set}
use Rattle.fp_tree.specs.declared.sides.Side.{Side}
use Rattle.fp_tree.specs.declared.ways.Step.{Step}
use Rattle.fp_tree.specs.Sides.{second}
use Rattle.fp_tree.specs.Ways.{fork_at, side_of, way_sides, pending_after, pending_on, AreBySecond, IsLastByFirst, IsTurned}

-- the sides on a way of two parts
pub way_sides-append : (way rest : List Step) → way_sides (way ++ rest) ≡ way_sides way ++ way_sides rest
way_sides-append [] rest = refl
way_sides-append (s ∷ way) rest = ap (λ (sides : List Side). side_of s ∷ sides) (way_sides-append way rest)

-- the trees to come after a way of two parts: those after the second part, and then those after the
-- first
pending_after-append : (before : List Side) (way rest : List Step) →
    pending_after before (way ++ rest) ≡ pending_after (before ++ way_sides way) rest ++ pending_after before way
pending_after-append before [] rest = rw (append-nil before, append-nil (pending_after before rest)) refl
pending_after-append before (s ∷ way) rest =
    let own : List (List Side) = cond s.later [] ((before ++ (second (fork_at s) ∷ [])) ∷ []) in
    let here : List Side = before ++ (side_of s ∷ []) in
    ap (λ (sides : List (List Side)). sides ++ own) (pending_after-append here way rest)
    ∙ append_assoc (pending_after (here ++ way_sides way) rest) (pending_after here way) own
    ∙ ap (λ (sides : List Side). pending_after sides rest ++ (pending_after here way ++ own)) (append_assoc before (side_of s ∷ []) (way_sides way))

-- steps by second sides leave no tree to come
pub none_pending : (before : List Side) (way : List Step) → AreBySecond way → pending_after before way ≡ []
none_pending before [] all = refl
none_pending before (s ∷ way) all =
    let own : List Side = before ++ (second (fork_at s) ∷ []) in
    ap (λ (sides : List (List Side)). sides ++ cond s.later [] (own ∷ [])) (none_pending (before ++ (side_of s ∷ [])) way all.1) ∙ ap (λ (later : Bool). cond later [] (own ∷ [])) all.0

-- the trees to come where the last step by a first side is followed by steps by second sides
pub pending-by_first : (way : List Step) (s : Step) (passed : List Step) → s.later ≡ false → AreBySecond passed →
    pending_on (way ++ (s ∷ passed)) ≡ (way_sides way ++ (second (fork_at s) ∷ [])) ∷ pending_on way
pending-by_first way s passed by_first by_second =
    pending_after-append [] way (s ∷ passed)
    ∙ ap (λ (sides : List (List Side)). (sides ++ cond s.later [] ((way_sides way ++ (second (fork_at s) ∷ [])) ∷ [])) ++ pending_on way) (none_pending (way_sides way ++ (side_of s ∷ [])) passed by_second)
    ∙ ap (λ (later : Bool). cond later [] ((way_sides way ++ (second (fork_at s) ∷ [])) ∷ []) ++ pending_on way) by_first

-- a turned way leads to the first of the trees that were to come
pub IsTurned-pending : (old new : List Step) → IsTurned old new → pending_on old ≡ way_sides new ∷ pending_on new
IsTurned-pending old new t =
    let turned : Step = record t.step { later = true } in
    let after : pending_on new ≡ pending_on t.kept =
    ap pending_on t.new_is ∙ pending_after-append [] t.kept (turned ∷ []) in
    let sides : way_sides new ≡ way_sides t.kept ++ (second (fork_at t.step) ∷ []) = ap way_sides t.new_is ∙ way_sides-append t.kept (turned ∷ []) in
    ap pending_on t.old_is ∙ pending-by_first t.kept t.step t.passed t.by_first t.by_second ∙ rw (after, sides) refl

-- a way whose last step by a first side turns, and whose later steps go
pub IsTurned-at : (way : List Step) (place : ℕ) (step : Step) → IsLastByFirst way place → step ≡ get_or way place step → IsTurned way (take (place + 1) (set way place (record step { later = true })))
IsTurned-at way place step last is = record {
  kept = take place way;
  step = step;
  passed = drop (place + 1) way;
  old_is = sym (take-append-drop place way) ∙ ap (λ (rest : List Step). take place way ++ rest) (drop_more way place step last.there ∙ ap (λ (s : Step). s ∷ drop (place + 1) way) (sym is));
  by_first = subst (λ (s : Step). s.later ≡ false) (sym is) (last.by_first step);
  by_second = last.rest;
  new_is = take_more_set way place (record step { later = true }) last.there;
}
