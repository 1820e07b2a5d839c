-- All the records of a text, as a list.
use Rattle.std.proofs.Common.{◌≡◌, ◌∙◌, ℕ, zero, suc, ◌+◌, ◌<◌, ◌≤◌, Bool, true, false, List, [], ◌∷◌, ◌++◌, length, refl, ap, arith, cond}
use Rattle.std.proofs.Common.{inl, inr}
use Rattle.std.proofs.lemmas.Bool.{cases_Bool}
use Rattle.std.specs.Prelude.{Some, None, ◌==◌, ◌&&◌}
use Rattle.csv.specs.Machine.{Read, step, next_record, is_end, ends_at_end, fields_after, field_after, in_field, start_field, start_record, is_byte, ends_with, after_end}
use Rattle.csv.specs.Reading.{AreRecords, Reached, records, records_from, strip_bom, is_bom}
use Rattle.std.specs.Prelude.{not, map}
use Rattle.std.specs.List.{filter, list_all}
use Rattle.std.proofs.lemmas.List.{map-append}
use Rattle.std.proofs.lemmas.List.Elements.{filter-append}
use Rattle.fp_records.specs.Fields.{is_empty, kept_fields, kept_records}
use Rattle.csv.specs.declared.parser.Config.{Config}
use Rattle.csv.specs.declared.parser.State.{State}
use Rattle.csv.specs.declared.parser.State.TheVariants as st
use Rattle.csv.specs.declared.parser.Terminator.{Terminator}
use Rattle.csv.specs.declared.parser.Terminator.TheVariants as term
use Rattle.csv.specs.declared.parser.Action.{Action}
use Rattle.csv.specs.declared.parser.Action.TheVariants as act

-- if the step ends a record, then the end of the text ends no further one
record Rests (p : State × Action) : Type 0 where
  at_end : is_end p.1 ≡ true → ends_at_end p.0 ≡ false

goes-on : (s : State) (a : Action) → is_end a ≡ false → Rests (s, a)
goes-on s a n = record { at_end = λ e. cc (n, e) }

after-rests : (t : Terminator) (c : ℕ) → Rests (after_end t c, act.EndRecord)
after-rests term.CRLF c = record { at_end = λ e. elim (c == 13) as (λ b. ends_at_end (cond b st.AfterCr st.StartRecord) ≡ false) [ true ↦ refl | false ↦ refl ] }
after-rests (term.Any t) c = record { at_end = λ e. refl }

pick-rests : (b : Bool) (p q : State × Action) → Rests p → Rests q → Rests (cond b p q)
pick-rests true p q a b = a
pick-rests false p q a b = b

in-field-rests : (cfg : Config) (c : ℕ) → Rests (in_field cfg c)
in-field-rests cfg c =
    pick-rests (c == cfg.delimiter) _ _ (goes-on st.StartField act.EndField refl)
    (pick-rests (ends_with cfg.terminator c) _ _ (after-rests cfg.terminator c) (goes-on st.InField act.Copy refl))

start-field-rests : (cfg : Config) (c : ℕ) → Rests (start_field cfg c)
start-field-rests cfg c = pick-rests (cfg.quoting && (c == cfg.quote)) _ _ (goes-on st.InQuoted act.Skip refl) (in-field-rests cfg c)

start-record-rests : (cfg : Config) (c : ℕ) → Rests (start_record cfg c)
start-record-rests cfg c =
    pick-rests (ends_with cfg.terminator c) _ _ (goes-on st.StartRecord act.Skip refl)
    (pick-rests (is_byte cfg.comment c) _ _ (goes-on st.InComment act.Skip refl) (start-field-rests cfg c))

any-rests : (cfg : Config) (s : State) (c : ℕ) → Rests (step cfg s c)
any-rests cfg st.StartRecord c = start-record-rests cfg c
any-rests cfg st.StartField c = start-field-rests cfg c
any-rests cfg st.InField c = in-field-rests cfg c
any-rests cfg st.InQuoted c =
    pick-rests (cfg.quoting && (c == cfg.quote)) _ _ (goes-on st.AfterQuote act.Skip refl)
    (pick-rests (cfg.quoting && is_byte cfg.escape c) _ _ (goes-on st.InEscape act.Skip refl) (goes-on st.InQuoted act.Copy refl))
any-rests cfg st.InEscape c = goes-on st.InQuoted act.Copy refl
any-rests cfg st.AfterQuote c =
    pick-rests (cfg.quoting && cfg.double_quote && (c == cfg.quote)) _ _ (goes-on st.InQuoted act.Copy refl) (in-field-rests cfg c)
any-rests cfg st.InComment c = pick-rests (c == 10) _ _ (goes-on st.StartRecord act.Skip refl) (goes-on st.InComment act.Skip refl)
any-rests cfg st.AfterCr c = pick-rests (c == 10) _ _ (goes-on st.StartRecord act.Skip refl) (start-record-rests cfg c)

-- after a byte that ends a record, the end of the text ends no further one
pub step-rests : (cfg : Config) (s : State) (c : ℕ) → is_end (step cfg s c).1 ≡ true → ends_at_end (step cfg s c).0 ≡ false
step-rests cfg s c e = (any-rests cfg s c).at_end e

-- what is left after a record: no more bytes than before it, and a state at which the end of the
-- text ends none
next-shorter : (cfg : Config) (s : State) (fields : List (List ℕ)) (field xs : List ℕ) (p : Read)
    → next_record cfg s fields field xs ≡ Some p → (length p.2 ≤ length xs) × (ends_at_end p.1 ≡ false)
unfolding next_record
next-shorter cfg s fields field [] p e =
    elim (cases_Bool (ends_at_end s)) [
      | inl t ↦
          let q = rw t at e in
          let is : (fields ++ (field ∷ []), st.StartRecord, []) ≡ p = cc q in
          (rw (← is) (omega arith), rw (← is) refl)
      | inr f ↦ let q = rw f at e in (cc q, cc q)
    ]
next-shorter cfg s fields field (c ∷ rest) p e =
    elim (cases_Bool (is_end (step cfg s c).1)) [
      | inl t ↦
          let q = rw t at e in
          let is : (fields_after (step cfg s c).1 fields field, (step cfg s c).0, rest) ≡ p = cc q in
          (rw (← is) (omega arith), rw (← is) (step-rests cfg s c t))
      | inr f ↦
          let q = rw f at e in
          let r = next-shorter cfg (step cfg s c).0 (fields_after (step cfg s c).1 fields field) (field_after (step cfg s c).1 c field) rest p q in
          let short = r.0 in
          (omega arith, r.1)
    ]

-- a record takes at least one byte, where the end of the text alone gives none
pub next-shrinks : (cfg : Config) (s : State) (xs : List ℕ) (p : Read) → ends_at_end s ≡ false
    → next_record cfg s [] [] xs ≡ Some p → (length p.2 < length xs) × (ends_at_end p.1 ≡ false)
unfolding next_record
next-shrinks cfg s [] p n e = let q = rw n at e in (cc q, cc q)
next-shrinks cfg s (c ∷ rest) p n e =
    elim (cases_Bool (is_end (step cfg s c).1)) [
      | inl t ↦
          let q = rw t at e in
          let is : (fields_after (step cfg s c).1 [] [], (step cfg s c).0, rest) ≡ p = cc q in
          (rw (← is) (omega arith), rw (← is) (step-rests cfg s c t))
      | inr f ↦
          let q = rw f at e in
          let r = next-shorter cfg (step cfg s c).0 (fields_after (step cfg s c).1 [] []) (field_after (step cfg s c).1 c []) rest p q in
          let short = r.0 in
          (omega arith, r.1)
    ]

-- records that were read in turn, up to where there is no further one, are those of the text
all-rows : (cfg : Config) (rows : List (List (List ℕ))) (n : ℕ) (s s2 : State) (xs ys : List ℕ) → ends_at_end s ≡ false
    → length xs < n → Reached cfg s xs rows s2 ys → next_record cfg s2 [] [] ys ≡ None
    → (rows ≡ records_from cfg n s xs) × (length rows ≤ length xs)
unfolding Reached records_from
all-rows cfg rows zero s s2 xs ys calm fuel h e = absurd (omega arith)
all-rows cfg [] (suc n) s s2 xs ys calm fuel h e =
    let none : next_record cfg s [] [] xs ≡ None = rw (h.0, h.1) e in
    (rw none refl, omega arith)
all-rows cfg (r ∷ rows) (suc n) s s2 xs ys calm fuel h e =
    let less = next-shrinks cfg s xs h.0 calm h.1 in
    let short = less.0 in
    let rest = all-rows cfg rows n h.0.1 s2 h.0.2 ys less.1 (omega arith) h.3 e in
    let few = rest.1 in
    (rw (h.1, h.2) (ap (λ (t : List (List (List ℕ))). h.0.0 ∷ t) rest.0), omega arith)

pub all-records : (cfg : Config) (xs : List ℕ) (rows : List (List (List ℕ))) → AreRecords cfg st.StartRecord xs rows
    → (rows ≡ records cfg xs) × (length rows ≤ length xs)
all-records cfg xs rows (s2, ys, h, e) = all-rows cfg rows (length xs + 1) st.StartRecord s2 xs ys refl (omega arith) h e

-- what is kept of more records
pub kept_records-append : (rows more : List (List (List ℕ))) → kept_records (rows ++ more) ≡ kept_records rows ++ kept_records more
kept_records-append rows more =
    ap (filter (λ r. not (is_empty r))) (map-append kept_fields rows more) ∙ filter-append (λ r. not (is_empty r)) (map kept_fields rows) (map kept_fields more)

-- no more records are kept than there are
pub length-kept_records : (rows : List (List (List ℕ))) → length (kept_records rows) ≤ length rows
length-kept_records [] = omega arith
length-kept_records (r ∷ rows) =
    let rest = length-kept_records rows in
    elim (cases_Bool (not (is_empty (kept_fields r)))) [
      | inl t ↦ rw t (omega arith)
      | inr f ↦ rw f (omega arith)
    ]

-- a byte order mark taken off leaves no more bytes
pub length-strip_bom : (xs : List ℕ) → length (strip_bom xs) ≤ length xs
unfolding strip_bom
length-strip_bom [] = omega arith
length-strip_bom (a ∷ []) = omega arith
length-strip_bom (a ∷ b ∷ []) = omega arith
length-strip_bom (a ∷ b ∷ c ∷ rest) =
    elim (cases_Bool (is_bom a b c)) [
      | inl t ↦ rw t (omega arith)
      | inr f ↦ rw f (omega arith)
    ]

-- each record that is kept has a field
pub kept_records-some : (rows : List (List (List ℕ))) → list_all (λ r. not (is_empty r)) (kept_records rows) ≡ true
kept_records-some [] = refl
kept_records-some (r ∷ rows) =
    elim (cases_Bool (not (is_empty (kept_fields r)))) [
      | inl t ↦ rw (t, t) (kept_records-some rows)
      | inr f ↦ rw f (kept_records-some rows)
    ]
