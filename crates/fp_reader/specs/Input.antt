-- The instance that records give, or their first fault.
use Rattle.std.specs.Prelude.{ℕ, ◌+◌, ◌^◌, List, [], ◌∷◌, Bool, not, nat_le, if◌then◌else◌, Result, Ok, Err, codes, take_while}
use Rattle.fp_model.specs.Problem.{Problem, weight}
use Rattle.fp_reader.specs.declared.reading.Tail.{Tail}
use Rattle.fp_reader.specs.declared.reading.Tail.TheVariants.{Alone, Certificate}
use Rattle.fp_reader.specs.Faults.{record_code}
use Rattle.fp_records_fields.specs.Faults.{Fault, first_fault}
use Rattle.fp_records_fields.specs.Fields.{is_kind}
use Rattle.fp_reader.specs.Parts.{nothing_read, with_record}

-- what records give, where `ordinal` is that of the first of them and `before` is what those before
-- it have given: the first record with a fault decides
abbrev pub parts_from : Problem → ℕ → List (List (List ℕ)) → Result Problem Fault
parts_from before ordinal [] = Ok before
parts_from before ordinal (fields ∷ records) =
    first_fault ordinal (record_code before fields) (parts_from (with_record before fields) (ordinal + 1) records)

-- whether a record begins a certificate
abbrev pub is_answer : List (List ℕ) → Bool
is_answer fields = is_kind (codes "answer") fields

-- the records of the instance: all of them, or, where a certificate may follow, those before the
-- first `answer`
abbrev pub instance_records : Tail → List (List (List ℕ)) → List (List (List ℕ))
instance_records Alone records = records
instance_records Certificate records = take_while (λ fields. not (is_answer fields)) records

-- parts whose weight is above its limit are no instance
abbrev pub weighed : Problem → Result Problem Fault
weighed p = if nat_le (2 ^ 127) (weight p.arcs p.shipments) then Err (record { ordinal = 0; code = 12 }) else Ok p

-- the parts that records give, if their weight is within its limit
abbrev pub weighed_parts : Result Problem Fault → Result Problem Fault
weighed_parts (Ok p) = weighed p
weighed_parts (Err f) = Err f

-- the instance that the records give, or the fault that decides
abbrev pub input_of : Tail → List (List (List ℕ)) → Result Problem Fault
input_of tail records = weighed_parts (parts_from nothing_read 1 (instance_records tail records))
