-- What the calls that move all bytes do to the known bytes.
use Rattle.std.specs.Prelude.{◌≡◌, ℕ, ◌+◌, ◌<◌, ◌≤◌, List, [], ◌++◌, length, take, ⊤, Result, Vec, None, Some, Ok, Err}
use Rattle.std.specs.Io.KnownBytes.{Appends, Consumes, IsAtEnd}
use Rattle.std.specs.declared.option.Option.{Option}
use Rattle.std.specs.declared.alloc.Global.{Global}
use Rattle.fp_ends.specs.declared.reading.ReadEnd.{ReadEnd}
use Rattle.fp_ends.specs.declared.reading.ReadEnd.TheVariants.{ReadFault, TooLong, NoMemory}

-- Known bytes grow by a front of the text.
abbrev pub AppendsFront : Option (List ℕ) → Option (List ℕ) → List ℕ → Type 0
AppendsFront old new text = (n : ℕ) × (n ≤ length text) × Appends old new (take n text)

-- What the bytes taken are: all of the answer up to the end, one more than the limit, or at most so
-- many before a fault.
abbrev pub ExplainsEnd : ℕ → Option (List ℕ) → List ℕ → Result (Vec ℕ Global) ReadEnd → Type 0
ExplainsEnd limit left taken (Ok bytes) = (bytes.items ≡ taken) × (length taken ≤ limit) × IsAtEnd left
ExplainsEnd limit left taken (Err ReadFault) = length taken ≤ limit
ExplainsEnd limit left taken (Err TooLong) = length taken ≡ limit + 1
ExplainsEnd limit left taken (Err NoMemory) = length taken ≤ limit + 1

-- The call took bytes from the front of what was left, and its result says what they are.
abbrev pub ReadsAll : ℕ → Option (List ℕ) → Option (List ℕ) → Result (Vec ℕ Global) ReadEnd → Type 0
ReadsAll limit old new result = (taken : List ℕ) × Consumes old new taken × ExplainsEnd limit new taken result

-- These are the bytes that are left, where they are told.
abbrev pub TellsInput : Option (List ℕ) → List ℕ → Type 0
TellsInput None input = ⊤
TellsInput (Some left) input = input ≡ left

-- The answer is the whole input, or the whole input is longer than the limit.
abbrev pub IsWholeInput : ℕ → Option (List ℕ) → Option (List ℕ) → Result (Vec ℕ Global) ReadEnd → Type 0
IsWholeInput limit old new (Ok bytes) = TellsInput old bytes.items × (length bytes.items ≤ limit) × IsAtEnd new
IsWholeInput limit old new (Err TooLong) = (input : List ℕ) × TellsInput old input × (limit < length input)
IsWholeInput limit old new (Err ReadFault) = ⊤
IsWholeInput limit old new (Err NoMemory) = ⊤

-- What the bytes of one read are: those added behind what was there, none only at the end, or none
-- before a fault.
abbrev pub ExplainsPiece : ℕ → Option (List ℕ) → List ℕ → List ℕ → List ℕ → Result ℕ ReadEnd → Type 0
ExplainsPiece room left old new taken (Ok n) =
    (new ≡ old ++ taken) × (length taken ≡ n) × (n ≤ room + 1) × (n ≡ 0 → IsAtEnd left)
ExplainsPiece room left old new taken (Err ReadFault) = taken ≡ []
ExplainsPiece room left old new taken (Err TooLong) = ⊥
ExplainsPiece room left old new taken (Err NoMemory) = length taken ≤ room + 1

-- One read took bytes from the front of what was left, and its result says what they are.
abbrev pub ReadsPiece : ℕ → Option (List ℕ) → Option (List ℕ) → List ℕ → List ℕ → Result ℕ ReadEnd → Type 0
ReadsPiece room before after old new result =
    (taken : List ℕ) × Consumes before after taken × ExplainsPiece room after old new taken result
