use Rattle.std.proofs.Common.{◌∙◌, ap, Bor, List, ℕ}
use Rattle.std.specs.Str.{bytes_eq}
use Rattle.fp_records_fields.specs.Names.{number_of}
use Rattle.fp_records_fields.proofs.MappedLists.{position-map}
use Rattle.fp_records_fields.proofs.numbering.Names.find.Goals as goal

pub returns-clause-number : goal.returns-clause-number
returns-clause-number c =
    c.get_index_of.ensures.index ∙ position-map (bytes_eq c.args.name.now) (λ (s : Bor (List ℕ)). s.now) c.self.inside.set.keys
    ∙ ap (λ (names : List (List ℕ)). number_of names c.args.name.now) c.self.view_is
