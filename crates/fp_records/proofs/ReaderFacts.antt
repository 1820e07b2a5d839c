-- What one more read of a record adds to what was read of a text.
use Rattle.std.proofs.Common.{◌≡◌, ◌∙◌, ℕ, ◌<◌, ◌≤◌, true, false, inl, List, [], ◌∷◌, ◌++◌, length, refl, Bor}
use Rattle.std.specs.Prelude.{Option, Some, None, unwrap_or}
use Rattle.csv.proofs.ReadFacts.{reached-more, rows-end}
use Rattle.csv.specs.Machine.{Read, ends_at_end, next_record}
use Rattle.csv.specs.Reading.{NextIs, Reached, ReadRecord, ReadsNext, Ready, default_config, pending_of, records, source_of}
use Rattle.csv.specs.declared.parser.State.{State}
use Rattle.csv.specs.declared.parser.State.TheVariants as st
use Rattle.csv.specs.declared.reader.Reader.{Reader}
use Rattle.csv.specs.declared.reader.Trim.TheVariants as trim
use Rattle.fp_records.proofs.RowFacts.{all-records, next-shrinks}

found : (o : Option Read) (f : List (List ℕ)) (t : State) (z : List ℕ) → NextIs o true f t z → o ≡ Some (f, t, z)
found None f t z n = cc n
found (Some p) f t z n = rw (n.1, n.2, n.3) refl

-- A read that found a record in known bytes found the next one of them, and left the rest.
found-next : (s t : State) (y : List ℕ) (k : Option (List ℕ)) (f : List (List ℕ)) → ReadsNext default_config s (Some y) k true f t
    → (z : List ℕ) × (k ≡ Some z) × (next_record default_config s [] [] y ≡ Some (f, t, z))
found-next s t y None f r = absurd r
found-next s t y (Some z) f r = (z, refl, found _ f t z r)

-- A reader of a text has read these records of it, and stands between two records.
pub record IsBetween (text : List ℕ) (rows : List (List (List ℕ))) (reader : Reader (Bor (List ℕ))) : Type 0 where
  pub plain : reader.trim ≡ trim.None
  pub flexible : reader.flexible ≡ true
  pub ready : Ready reader
  pub config : reader.config ≡ default_config
  pub rests : ends_at_end reader.state ≡ false
  pub left : (y : List ℕ) × (source_of (λ s. Some s.now) reader ≡ Some y) × Reached default_config st.StartRecord text rows reader.state y

-- How many bytes a reader has left.
abbrev pub left_len : Reader (Bor (List ℕ)) → ℕ
left_len reader = length (unwrap_or (source_of (λ s. Some s.now) reader) [])

shorter : (a b : Option (List ℕ)) (y z : List ℕ) → a ≡ Some y → b ≡ Some z → length z < length y → length (unwrap_or b []) < length (unwrap_or a [])
shorter a b y z is becomes less = rw (is, becomes) less

-- After one more record it stands between two records again, with less left.
pub read-more : (text : List ℕ) (rows : List (List (List ℕ))) (a b : Reader (Bor (List ℕ))) (f : List (List ℕ)) → IsBetween text rows a
    → ReadRecord (λ s. Some s.now) a b true f → b.first ≡ true → b.flexible ≡ a.flexible → IsBetween text (rows ++ (f ∷ [])) b × (left_len b < left_len a)
read-more text rows a b f h r first bends =
    let y = h.left.0 in
    let n = found-next a.state b.state y (pending_of (Some b.rdr.now) b) f (rw (h.config, h.left.1) at r.0) in
    let less = next-shrinks default_config a.state y (f, b.state, n.0) h.rests n.2 in
    let becomes : source_of (λ (s : Bor (List ℕ)). Some s.now) b ≡ Some n.0 = rw r.1 n.1 in (
      record {
        plain = r.3 ∙ h.plain;
        flexible = bends ∙ h.flexible;
        ready = inl first;
        config = r.2 ∙ h.config;
        rests = less.1;
        left = (n.0, becomes, reached-more default_config st.StartRecord a.state text y rows (f, b.state, n.0) h.left.2 n.2);
      },
      shorter _ _ y n.0 h.left.1 becomes less.0,
    )

-- A reader that finds no further record has read all the records of the text, of which there are no
-- more than bytes.
pub read-all : (text : List ℕ) (rows : List (List (List ℕ))) (a b : Reader (Bor (List ℕ))) (f : List (List ℕ)) → IsBetween text rows a
    → ReadRecord (λ s. Some s.now) a b false f → (rows ≡ records default_config text) × (length rows ≤ length text)
read-all text rows a b f h r =
    let end = rows-end (λ (s : Bor (List ℕ)). Some s.now) a b f default_config h.left.0 h.config h.left.1 r in
    all-records default_config text rows (a.state, h.left.0, h.left.2, end)
