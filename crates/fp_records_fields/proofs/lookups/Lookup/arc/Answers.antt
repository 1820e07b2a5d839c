use Rattle.std.proofs.Common.{◌≡◌, ◌∙◌, ℕ, Some, ap}
use Rattle.std.specs.Prelude.{Option}
use Rattle.fp_records_fields.specs.Indexes.{Entries, ends_number, entries_of}
use Rattle.fp_records_fields.specs.NamedParts.{arc_between, terminal_named}
use Rattle.fp_records_fields.specs.Names.{number_of}
use Rattle.fp_records_fields.proofs.ArcEnds.{ends_number-arc_ends}
use Rattle.fp_records_fields.proofs.lookups.Lookup.arc.Goals as goal

pub returns : goal.returns
returns c =
    let p = c.args.self.now in
    let from = c.in_ok-from.from in
    let to = c.in_ok-to.to in
    let listed : c.self.inside.index.now ≡ entries_of p = c.self.invariant ∙ ap entries_of c.self.view_is in
    let first : Some from ≡ terminal_named p c.args.from.now =
    c.in_ok-from.ensures.number ∙ ap (λ (e : Entries). number_of e.terminals c.args.from.now) listed in
    let second : Some to ≡ terminal_named p c.args.to.now =
    c.in_ok-to.ensures.number ∙ ap (λ (e : Entries). number_of e.terminals c.args.to.now) listed in
    c.arc.ensures ∙ ap (λ (e : Entries). ends_number e.ends from to) listed ∙ ends_number-arc_ends p.arcs from to
    ∙ ap (λ (o : Option ℕ). arc_between p o (Some to)) first ∙ ap (arc_between p (terminal_named p c.args.from.now)) second
