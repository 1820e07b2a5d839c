-- The sides of a leaf, copied, and one more.
use Rattle.std.proofs.Common.{List, [], ◌∷◌, ◌++◌, ap, ◌∙◌}
use Rattle.fp_tree.specs.declared.sides.Side.{Side}
use Rattle.fp_session.proofs.children.sides_below.Goals as goal

pub returns : goal.returns
returns c = c.in_ok-push.ensures.items ∙ ap (λ (l : List Side). l ++ (c.args.side ∷ [])) (c.in_ok-sides.ensures.items_if_clones_equal (λ x y e. e) ∙ c.sides.ensures)
