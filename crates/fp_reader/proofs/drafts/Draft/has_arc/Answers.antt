use Rattle.std.proofs.Common.{◌∙◌, ap}
use Rattle.fp_model.specs.Problem.{Problem}
use Rattle.fp_records_fields.specs.Indexes.{Entries, arc_ends, has_ends}
use Rattle.fp_records_fields.proofs.ArcEnds.{has_ends-arc_ends}
use Rattle.fp_reader.proofs.drafts.Draft.has_arc.Goals as goal

pub returns : goal.returns
returns c =
    let from = c.args.from in
    let to = c.args.to in
    c.has_arc.ensures ∙ ap (λ (e : Entries). has_ends e.ends from to) c.self.invariant.index
    ∙ ap (λ (p : Problem). has_ends (arc_ends p.arcs) from to) c.self.view_is ∙ has_ends-arc_ends c.args.self.now.arcs from to
