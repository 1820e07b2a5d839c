use Rattle.std.proofs.Common.{◌∙◌, ap, Bor, List, ℕ}
use Rattle.std.specs.Str.{bytes_eq}
use Rattle.fp_records_fields.specs.Names.{is_taken}
use Rattle.fp_records_fields.proofs.MappedLists.{list_any-map}
use Rattle.fp_records_fields.proofs.numbering.Names.has.Goals as goal

pub returns : goal.returns
returns c =
    c.contains.ensures ∙ list_any-map (bytes_eq c.args.name.now) (λ (s : Bor (List ℕ)). s.now) c.self.inside.set.keys
    ∙ ap (λ (names : List (List ℕ)). is_taken names c.args.name.now) c.self.view_is
