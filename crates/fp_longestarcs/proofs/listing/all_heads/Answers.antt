-- One more arc has its heads.
use Rattle.std.proofs.Common.{◌≡◌, ℕ, ◌+◌, ◌++◌, ◌∷◌, List, get_or, map, [], sym, ap, ◌∙◌, arith}
use Rattle.std.specs.List.{range_with_len}
use Rattle.std.specs.declared.alloc.Global.{Global}
use Rattle.std.specs.declared.vec.Vec.{Vec}
use Rattle.std.proofs.lemmas.List.{map-append}
use Rattle.std.proofs.lemmas.List.FromFn.{map-range_with_len_more}
use Rattle.fp_model.specs.declared.parts.Arc.{Arc}
use Rattle.fp_model.specs.Problem.{Problem, arc_at}
use Rattle.fp_model.specs.Routes.{step}
use Rattle.fp_timenodes.specs.Floor.{floor_point}
use Rattle.fp_base_lists.specs.Vectors.{lists_of}
use Rattle.fp_longestarcs.specs.Whole.{heads_from}
use Rattle.fp_longestarcs.proofs.listing.all_heads.Goals as goal

-- the heads of an arc, made of its tail's points and its head's points
heads-read : (p : Problem) (lists : List (List ℕ)) (arc step_length : ℕ) (taken : Arc) (starts ends heads : List ℕ) → taken ≡ arc_at p arc → step_length ≡ step p arc →
    starts ≡ get_or lists taken.from [] → ends ≡ get_or lists taken.to [] → heads ≡ map (λ q. floor_point ends 1 (q + step_length)) starts → heads ≡ heads_from p (λ t. get_or lists t []) arc
heads-read p lists arc step_length taken starts ends heads is long first last made =
    made ∙
    ap (λ (l : List ℕ). map (λ q. floor_point ends 1 (q + step_length)) l) (first ∙ ap (λ (a : Arc). get_or lists a.from []) is) ∙
    ap (λ (l : List ℕ). map (λ q. floor_point l 1 (q + step_length)) (get_or lists (arc_at p arc).from [])) (last ∙ ap (λ (a : Arc). get_or lists a.to []) is) ∙
    ap (λ (n : ℕ). map (λ q. floor_point (get_or lists (arc_at p arc).to []) 1 (q + n)) (get_or lists (arc_at p arc).from [])) long

pub loop-arc-preserved : goal.loop-arc-preserved
loop-arc-preserved c =
    let lists : List (List ℕ) = lists_of c.args.points.now in
    let arc : ℕ = c.loop-arc.arc in
    let one : List ℕ = c.in_ok-greatest_heads.field-0.items in
    let made = heads-read c.args.instance.now lists arc c.step.result c.arc-taken.result c.list_at-starts.result.now c.list_at-ends.result.now one c.arc-taken.ensures.same c.step.ensures.same c.list_at-starts.ensures c.list_at-ends.ensures c.in_ok-greatest_heads.ensures in
    let f : ℕ → List ℕ = heads_from c.args.instance.now (λ t. get_or lists t []) in
    ap (λ (l : List (Vec ℕ Global)). lists_of l) c.in_ok-push.ensures.items ∙
    map-append (λ (v : Vec ℕ Global). v.items) c.loop-arc.heads.items (c.in_ok-greatest_heads.field-0 ∷ []) ∙
    ap (λ (l : List (List ℕ)). l ++ one ∷ []) c.loop-arc.invariant ∙
    ap (λ (l : List ℕ). map f (range_with_len 0 arc) ++ l ∷ []) made ∙
    sym (map-range_with_len_more f 0 arc arc (omega arith))
