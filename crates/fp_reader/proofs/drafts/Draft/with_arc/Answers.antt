use Rattle.std.proofs.Common.{◌∙◌, ap, subst, sym, length, ◌≡◌, false}
use Rattle.fp_model.specs.Problem.{Problem, IsArc}
use Rattle.fp_records_fields.specs.Indexes.{Entries, arc_ends, has_ends}
use Rattle.fp_records_fields.proofs.ArcEnds.{has_ends-arc_ends}
use Rattle.fp_reader.specs.Faults.{has_arc}
use Rattle.fp_reader.proofs.Indexes.{index-arc}
use Rattle.fp_reader.proofs.drafts.Draft.with_arc.Goals as goal

pub add_arc-requires-clause-fresh : goal.add_arc-requires-clause-fresh
add_arc-requires-clause-fresh c =
    let from = c.args.arc.from in
    let to = c.args.arc.to in
    ap (λ (e : Entries). has_ends e.ends from to) c.self.invariant.index ∙ ap (λ (p : Problem). has_ends (arc_ends p.arcs) from to) c.self.view_is
    ∙ has_ends-arc_ends c.args.self.arcs from to ∙ c.requires.fresh

pub invariant_of-result : goal.invariant_of-result
invariant_of-result c =
    let arc = c.args.arc in
    rw (c.in_ok-push.ensures.items, c.in_ok-add_arc.ensures.ok)
    (index-arc _ c.self.inside.index arc c.self.invariant
    (subst (λ (p : Problem). IsArc (length p.terminals) arc) (sym c.self.view_is) c.requires.arc)
    (subst (λ (p : Problem). has_arc p arc.from arc.to ≡ false) (sym c.self.view_is) c.requires.fresh)
    (rw (ap (λ (p : Problem). p.arcs) c.self.view_is) c.requires.room))
