-- What stripping and dropping leave of plain fields: all of them.
use Rattle.std.proofs.Common.{◌≡◌, ◌∙◌, ℕ, ◌-◌, ◌<◌, ◌==◌, Bool, true, false, not, List, [], ◌∷◌, length, get_or, map, refl, ap, arith, inl, inr, true≢false, sym}
use Rattle.std.specs.Prelude.{◌||◌}
use Rattle.std.specs.List.{list_all, suffix_len}
use Rattle.std.proofs.lemmas.Bool.{and_parts, cases_Bool, not-true}
use Rattle.std.proofs.lemmas.List.{take_all}
use Rattle.std.proofs.lemmas.List.Folds.{list_all_at}
use Rattle.std.proofs.lemmas.List.Sums.{suffix_len-take_no}
use Rattle.fp_records.specs.Fields.{is_blank, is_empty, kept_fields, kept_records, stripped, without_end, without_front}
use Rattle.fp_records.specs.Text.{is_plain, is_plain_field, is_plain_record}

-- Where no element passes, none at the front is taken off.
without_front-none : {A : Type 0} (p : A → Bool) (xs : List A) → list_all (λ x. not (p x)) xs ≡ true → without_front p xs ≡ xs
without_front-none p [] none = refl
without_front-none p (x ∷ xs) none = rw (not-true (p x) (and_parts _ _ none).0) refl

-- Where no element passes, the one at a place fails.
fails-at : {A : Type 0} (p : A → Bool) (xs : List A) (i : ℕ) (d : A) → list_all (λ x. not (p x)) xs ≡ true → i < length xs → p (get_or xs i d) ≡ false
fails-at p xs i d none within = elim (cases_Bool (p (get_or xs i d))) [
  | inl passes ↦ absurd (true≢false (sym none ∙ list_all_at (λ x. not (p x)) xs i d within (rw passes refl)))
  | inr fails ↦ fails
]

-- Where no element passes, none at the end is taken off.
without_end-none : {A : Type 0} (p : A → Bool) (xs : List A) → list_all (λ x. not (p x)) xs ≡ true → without_end p xs ≡ xs
without_end-none p [] none = refl
without_end-none p (x ∷ xs) none =
    let all = x ∷ xs in
    let last = fails-at p all (length all - 1) x none (omega arith) in
    let stays : suffix_len p all ≡ 0 = sym (ap (suffix_len p) (take_all (length all) all (omega arith))) ∙ suffix_len-take_no p all (length all) x (omega arith) (omega arith) last in
    take_all (length all - suffix_len p all) all (omega (arith, stays))

-- What passes a test passes a weaker one.
list_all-weaken : {A : Type 0} (p q : A → Bool) (xs : List A) → ((x : A) → p x ≡ true → q x ≡ true) → list_all p xs ≡ true → list_all q xs ≡ true
list_all-weaken p q [] weaker all = refl
list_all-weaken p q (x ∷ xs) weaker all =
    let parts = and_parts _ _ all in
    rw (weaker x parts.0) (list_all-weaken p q xs weaker parts.1)

no-mark : (a q r n w : Bool) → not (a || q || r || n || w) ≡ true → (a ≡ false) × (q ≡ false) × (r ≡ false) × (n ≡ false) × (w ≡ false)
no-mark true q r n w e = cc e
no-mark false true r n w e = cc e
no-mark false false true n w e = cc e
no-mark false false false true w e = cc e
no-mark false false false false w e = (refl, refl, refl, refl, not-true w e)

-- A plain byte is no comma, quote, carriage return, line feed or blank.
pub plain-byte : (b : ℕ) → is_plain b ≡ true → ((b == 44) ≡ false) × ((b == 34) ≡ false) × ((b == 13) ≡ false) × ((b == 10) ≡ false) × (is_blank b ≡ false)
plain-byte b plain = no-mark (b == 44) (b == 34) (b == 13) (b == 10) (is_blank b) plain

-- Stripping leaves plain bytes as they are.
stripped-plain : (field : List ℕ) → list_all is_plain field ≡ true → stripped field ≡ field
stripped-plain field plain =
    let none = list_all-weaken is_plain (λ b. not (is_blank b)) field (λ b p. rw (plain-byte b p).4 refl) plain in
    rw (without_front-none is_blank field none) (without_end-none is_blank field none)

map-stripped : (fields : List (List ℕ)) → list_all is_plain_field fields ≡ true → map stripped fields ≡ fields
map-stripped [] plain = refl
map-stripped (field ∷ fields) plain =
    let parts = and_parts (is_plain_field field) _ plain in
    let bytes = and_parts (not (is_empty field)) _ parts.0 in
    rw (stripped-plain field bytes.1, map-stripped fields parts.1) refl

-- All fields of a record are kept where they are plain.
kept_fields-plain : (fields : List (List ℕ)) → list_all is_plain_field fields ≡ true → kept_fields fields ≡ fields
kept_fields-plain fields plain =
    let none = list_all-weaken is_plain_field (λ f. not (is_empty f)) fields (λ f p. (and_parts _ _ p).0) plain in
    rw (map-stripped fields plain) (without_end-none is_empty fields none)

-- All of these records are kept.
pub kept_records-plain : (rows : List (List (List ℕ))) → list_all is_plain_record rows ≡ true → kept_records rows ≡ rows
kept_records-plain [] plain = refl
kept_records-plain (row ∷ rows) plain =
    let parts = and_parts (is_plain_record row) _ plain in
    let fields = and_parts (not (is_empty row)) _ parts.0 in
    rw (kept_fields-plain row fields.1, fields.0, kept_records-plain rows parts.1) refl
