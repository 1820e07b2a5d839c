use Rattle.std.proofs.Common.{◌≡◌, ◌∙◌, ◌++◌, ◌∷◌, [], false, ap}
use Rattle.fp_records_fields.specs.Indexes.{Entries, has_ends}
use Rattle.fp_records_fields.proofs.indexes.Index.add_arc.Goals as goal

pub returns-clause-ok : goal.returns-clause-ok
returns-clause-ok c =
    let from = c.args.from in
    let to = c.args.to in
    let fresh : has_ends c.self.inside.ends.keys from to ≡ false = ap (λ (e : Entries). has_ends e.ends from to) c.self.view_is ∙ c.requires.fresh in
    rw (c.in_ok-insert.ensures.keys, fresh) (ap (λ (e : Entries). record e { ends = e.ends ++ ((from, to) ∷ []) }) c.self.view_is)
