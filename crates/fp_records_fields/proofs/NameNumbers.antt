-- The numbers of names.
use Rattle.std.proofs.Common.{◌≡◌, ℕ, ◌<◌, false, List, [], length}
use Rattle.std.specs.Prelude.{Option, Some, None, is_none, unwrap_or}
use Rattle.std.specs.Str.{bytes_eq}
use Rattle.std.proofs.lemmas.List.Quantifiers.{position-Some}
use Rattle.fp_records_fields.specs.Names.{number_of}

-- the number of a name that was found is that of one of the names
pub number_of-lt : (names : List (List ℕ)) (name : List ℕ) (found : Option ℕ) → number_of names name ≡ found → is_none found ≡ false
    → unwrap_or found 0 < length names
number_of-lt names name None e h = absurd (cc h)
number_of-lt names name (Some i) e h = (position-Some (bytes_eq name) names i [] e).0
