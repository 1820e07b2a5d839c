-- A time is a point where it stands at its place.
use Rattle.std.proofs.Common.{sym, ◌∙◌, arith}
use Rattle.std.proofs.lemmas.Bool.{le-ltb}
use Rattle.fp_longestarcs.proofs.Places.{at-place-tells}
use Rattle.fp_base_lists.proofs.Places.{list_has-not_at_place}
use Rattle.fp_longestarcs.proofs.ascending.is_among.Goals as goal

pub returns-then-place-points : goal.returns-then-place-points
returns-then-place-points c =
    at-place-tells c.args.points.now c.args.at c.place_among-place.result c.requires c.place_among-place.ensures.parts c.if-place-points.true

pub returns-else-place-points : goal.returns-else-place-points
returns-else-place-points c =
    le-ltb _ _ c.if-place-points.false ∙
    sym (list_has-not_at_place c.args.points.now c.args.at c.place_among-place.result c.requires.ascending c.place_among-place.ensures.parts (λ h same. absurd (omega arith)))
