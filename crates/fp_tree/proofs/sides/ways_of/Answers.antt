use Rattle.std.proofs.Common.{rules, ◌≡◌, ℕ, ◌+◌, ◌<◌, List, [], ◌∷◌, ◌++◌, length, get_or, take, append-nil, take_all, sym, ap, ◌∙◌, arith}
use Rattle.std.specs.Prelude.{Option, None, Some}
use Rattle.std.specs.List.{cons_option, filter_map}
use Rattle.std.proofs.lemmas.List.{take_more}
use Rattle.std.proofs.lemmas.List.Elements.{filter_map-append}
use Rattle.fp_tree.specs.declared.sides.Side.{Side}
use Rattle.fp_tree.specs.declared.sides.Side.TheVariants.{Without}
use Rattle.fp_tree.specs.Sides.{way_of, ways_of}
use Rattle.fp_tree.proofs.sides.ways_of.Goals as goal
use Rattle.fp_tree.proofs.sides.ways_of.Goals.{in-Some+in_ok-push, in_default}

pub loop-side-init : goal.loop-side-init
loop-side-init c = search rules

-- one side more
ways-more : (k : ℕ) (sides : List Side) (i : ℕ) (d : Side) (o : Option ℕ) → i < length sides → o ≡ way_of k (get_or sides i d) → ways_of k (take (i + 1) sides) ≡ ways_of k (take i sides) ++ cons_option o []
ways-more k sides i d o inside is =
    ap (ways_of k) (take_more sides i d inside) ∙ filter_map-append (way_of k) (take i sides) (get_or sides i d ∷ [])
    ∙ ap (λ (p : Option ℕ). ways_of k (take i sides) ++ cons_option p []) (sym is)

pub loop-side-preserved : goal.loop-side-preserved
loop-side-preserved c =
    let k : ℕ = c.args.shipment in
    let sides : List Side = c.args.sides.now in
    let i : ℕ = c.loop-side.side-index in
    elim c.match-way_of.branch as (λ _. c.match-way_of.ways.items ≡ ways_of k (take (i + 1) sides)) [
      | in-Some+in_ok-push w ↦
          ap (λ v. v.items) w.ways-is ∙ w.in_ok-push.ensures.items ∙ ap (λ (l : List ℕ). l ++ (w.in-Some.arc ∷ [])) c.loop-side.invariant
          ∙ sym (ways-more k sides i (Without 0 0) (Some w.in-Some.arc) c.loop-side-test.true (sym w.in-Some.is ∙ c.way_of.ensures))
      | in_default w ↦
          ap (λ v. v.items) w.ways-is ∙ c.loop-side.invariant ∙ sym (append-nil (ways_of k (take i sides)))
          ∙ sym (ways-more k sides i (Without 0 0) None c.loop-side-test.true (sym w.in_default.is ∙ c.way_of.ensures))
    ]

pub returns : goal.returns
returns c = c.loop-side.invariant ∙ ap (ways_of c.args.shipment) (take_all c.loop-side.side-index c.args.sides.now c.loop-side-test.false)
