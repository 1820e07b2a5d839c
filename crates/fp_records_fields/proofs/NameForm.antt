-- Whether bytes may be a name, as a test and as a fact.
use Rattle.std.proofs.Common.{◌≡◌, ℕ, true, false, eqb, leb, List, length, refl, arith}
use Rattle.std.specs.Prelude.{◌&&◌, not, All, IsTrue}
use Rattle.std.specs.List.{list_all}
use Rattle.std.specs.Bool.{Decides}
use Rattle.std.proofs.lemmas.Bool.{and_from, and_parts, eqb-false, le-leb, leb-true, ne_eqb, not-true, not_from_false}
use Rattle.std.proofs.lemmas.Bool.Decides.{Decides-by_and}
use Rattle.fp_model.specs.Names.{IsName, is_name_byte}
use Rattle.fp_records_fields.specs.Fields.{is_name}

-- the test of each byte
each-letter : (bytes : List ℕ) → Decides (list_all is_name_byte bytes) (All (λ b. IsTrue (is_name_byte b)) bytes)
each-letter bytes =
    Decides-by_and is_name_byte (λ b. IsTrue (is_name_byte b)) (list_all is_name_byte) (λ b. (λ e. e, λ e. e)) refl (λ _ _. refl) bytes

-- what the test says
pub name-form : (bytes : List ℕ) → is_name bytes ≡ true → IsName bytes
name-form bytes h =
    let outer = and_parts (not (eqb (length bytes) 0) && leb (length bytes) 32) (list_all is_name_byte bytes) h in
    let inner = and_parts (not (eqb (length bytes) 0)) (leb (length bytes) 32) outer.0 in
    let some = eqb-false (length bytes) 0 (not-true (eqb (length bytes) 0) inner.0) in
    let few = leb-true (length bytes) 32 inner.1 in
    record { some = omega arith; few = few; letters = (each-letter bytes).0 outer.1 }

-- what the test has to answer
pub name-test : (bytes : List ℕ) → IsName bytes → is_name bytes ≡ true
name-test bytes h =
    let some : eqb (length bytes) 0 ≡ false = ne_eqb (length bytes) 0 (λ e. omega arith) in
    let few = le-leb (length bytes) 32 h.few in
    and_from (not (eqb (length bytes) 0) && leb (length bytes) 32) (list_all is_name_byte bytes)
    (and_from (not (eqb (length bytes) 0)) (leb (length bytes) 32) (not_from_false (eqb (length bytes) 0) some) few) ((each-letter bytes).1 h.letters)
