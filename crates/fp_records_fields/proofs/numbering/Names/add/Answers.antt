use Rattle.std.proofs.Common.{◌≡◌, ◌∙◌, ap, Bor, List, ℕ, ◌++◌, ◌∷◌, [], false}
use Rattle.std.specs.Prelude.{map}
use Rattle.std.specs.Str.{bytes_eq}
use Rattle.std.proofs.lemmas.List.{map-append}
use Rattle.indexmap.specs.IndexSet.{insert_key}
use Rattle.fp_records_fields.specs.Names.{is_taken}
use Rattle.fp_records_fields.proofs.MappedLists.{list_any-map}
use Rattle.fp_records_fields.proofs.numbering.Names.add.Goals as goal

-- the names after one that was not taken
names-after : (keys : List (Bor (List ℕ))) (name : Bor (List ℕ)) → is_taken (map (λ s. s.now) keys) name.now ≡ false
    → map (λ s. s.now) (insert_key (λ a b. bytes_eq a.now b.now) keys name) ≡ map (λ s. s.now) keys ++ (name.now ∷ [])
names-after keys name fresh =
    rw (list_any-map (bytes_eq name.now) (λ (s : Bor (List ℕ)). s.now) keys, fresh)
    (map-append (λ (s : Bor (List ℕ)). s.now) keys (name ∷ []))

pub returns-clause-names : goal.returns-clause-names
returns-clause-names c =
    let fresh : is_taken (map (λ s. s.now) c.self.inside.set.keys) c.args.name.now ≡ false = rw c.self.view_is c.requires in
    ap (map (λ (s : Bor (List ℕ)). s.now)) c.in_ok-insert.ensures.keys ∙ names-after c.self.inside.set.keys c.args.name fresh
    ∙ ap (λ (names : List (List ℕ)). names ++ (c.args.name.now ∷ [])) c.self.view_is
