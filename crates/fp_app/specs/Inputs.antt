-- What the bytes of an input give.
use Rattle.std.specs.Prelude.{ℕ, Bool, true, false, ◌+◌, ◌^◌, ◌≡◌, ◌==◌, List, length, drop, take, nat_lt, if◌then◌else◌, MatchResult, Result, Ok, Err, Option, Some, None, is_none}
use Rattle.fp_model.specs.Problem.{Problem, weight_at}
use Rattle.fp_records.specs.Fields.{records_of}
use Rattle.fp_reader.specs.declared.reading.Tail.TheVariants.{Alone, Certificate}
use Rattle.fp_reader.specs.Input.{input_of, instance_records}
use Rattle.fp_records_fields.specs.Faults.{Fault}
use Rattle.fp_records_fields.specs.NamedParts.{shipment_named}
use Rattle.fp_certificate.specs.Reading.{certificate_of}
use Rattle.fp_certificate_lines.specs.Statements.{Statement}
use Rattle.fp_app_tails.specs.declared.answers.Scale.{Scale}
use Rattle.fp_app_tails.specs.declared.answers.Scale.TheVariants as asked
use Rattle.fp_app_tails.specs.Faults.{tail_fault}
use Rattle.fp_app_tails.specs.Tails.{DayInstance, KeptInstance, day_in, has_tail, kept_in, tells_day_in, unkept_instance_in}
use Rattle.fp_app.specs.declared.limits.TheConstants.{CHECK_LIMIT, INSTANCE_LIMIT}
use Rattle.fp_app_words.specs.declared.orders.Order.{Order}
use Rattle.fp_app_words.specs.declared.orders.Order.TheVariants as order
use Rattle.fp_reader.specs.Generator.{generated}
use Rattle.fp_app.specs.declared.inputs.instances.InstanceInput.{InstanceInput}
use Rattle.fp_app.specs.declared.inputs.instances.InstanceInput.TheVariants as given
use Rattle.fp_app.specs.declared.shown.Shown.{Shown}
use Rattle.fp_app.specs.declared.shown.Shown.TheVariants as shown

-- whether an order reads the source: all but `trial` do
abbrev pub reads_source : Order → Bool
reads_source (order.Trial seed terminals shipments) = false
reads_source _ = true

-- the most bytes of an input to an order
abbrev pub limit_of : Option Order → ℕ
limit_of None = 0
limit_of (Some order.Direct) = INSTANCE_LIMIT
limit_of (Some order.Check) = CHECK_LIMIT
limit_of (Some (order.Bound option seconds)) = INSTANCE_LIMIT
limit_of (Some (order.Plan budget scale spans seconds notes)) = INSTANCE_LIMIT
limit_of (Some (order.Improve budget scale spans seconds notes)) = CHECK_LIMIT
limit_of (Some (order.Trial seed terminals shipments)) = 0
limit_of (Some (order.Yard seed)) = CHECK_LIMIT
limit_of (Some (order.Fleet trucks)) = CHECK_LIMIT
limit_of (Some (order.Replan budget spans seconds notes)) = INSTANCE_LIMIT
limit_of (Some (order.Quote budget spans seconds notes name)) = INSTANCE_LIMIT

-- what an input alone gives: the instance of its records, or their first fault
abbrev pub instance_in : List ℕ → Result Problem Fault
instance_in input = input_of Alone (records_of input)

-- the instance at a scale, or a fault of the input as a whole where the scale doesn't fit
abbrev pub at_scale : ℕ → Problem → Result Problem Fault
at_scale scale p = if nat_lt (weight_at scale p.arcs p.shipments) (2 ^ 127) then Ok (record p { scale = scale }) else Err (record { ordinal = 0; code = 12 })

abbrev pub read_at_scale : ℕ → Result Problem Fault → Result Problem Fault
read_at_scale scale (Ok p) = at_scale scale p
read_at_scale scale (Err f) = Err f

-- what an input alone gives at a scale: the instance of its records, their first fault, or that the
-- scale doesn't fit
abbrev pub instance_at : ℕ → List ℕ → Result Problem Fault
instance_at scale input = read_at_scale scale (instance_in input)

-- what an input gives that a certificate follows: the instance of the records before the first
-- `answer`, or their first fault
abbrev pub leading_instance_in : List ℕ → Result Problem Fault
leading_instance_in input = input_of Certificate (records_of input)

-- how many records of an input stand before the first `answer`
abbrev pub leading_count : List ℕ → ℕ
leading_count input = length (instance_records Certificate (records_of input))

-- whether some of these tell kept legs or a day
abbrev pub has_tail_in : List ℕ → Bool
has_tail_in input = has_tail (take (leading_count input) (records_of input))

-- how many they are where they do
abbrev pub IsTailAnswer : List ℕ → Option ℕ → Type 0
IsTailAnswer input None = has_tail_in input ≡ false
IsTailAnswer input (Some place) = (has_tail_in input ≡ true) × (leading_count input ≡ place)

-- the first fault of an input where they do, with the answer at a scale
abbrev pub tail_fault_in : Scale → List ℕ → Option Fault
tail_fault_in n input = tail_fault n (leading_count input) (records_of input)

-- what the records from the first `answer` on give for an instance: a certificate, or their first
-- fault
abbrev pub certificate_in : Problem → List ℕ → Result Statement Fault
certificate_in p input = certificate_of p (leading_count input + 1) (drop (leading_count input) (records_of input))

-- an instance, and a certificate
pub record CertifiedInstance : Type 0 where
  pub instance : Problem
  pub certificate : Statement

-- an instance at a scale with a certificate, or the first fault: the certificate's before that the scale
-- doesn't fit
abbrev pub certified : Statement → Result Problem Fault → Result CertifiedInstance Fault
certified c (Ok p) = Ok (record { instance = p; certificate = c })
certified c (Err f) = Err f

abbrev pub certified_scaled : ℕ → Problem → Result Statement Fault → Result CertifiedInstance Fault
certified_scaled scale p (Ok c) = certified c (at_scale scale p)
certified_scaled scale p (Err f) = Err f

abbrev pub certified_after : ℕ → List ℕ → Result Problem Fault → Result CertifiedInstance Fault
certified_after scale input (Ok p) = certified_scaled scale p (certificate_in p input)
certified_after scale input (Err f) = Err f

-- the instance of an input at a scale and the certificate after it, or the first fault: the instance's,
-- then the certificate's, and then that the scale doesn't fit
abbrev pub certified_at : ℕ → List ℕ → Result CertifiedInstance Fault
certified_at scale input = certified_after scale input (leading_instance_in input)

-- an instance that has a shipment, or a fault of the input as a whole where it has none
abbrev pub with_shipment : Problem → Result Problem Fault
with_shipment p = if length p.shipments == 0 then Err (record { ordinal = 0; code = 38 }) else Ok p

abbrev pub read_with_shipment : Result Problem Fault → Result Problem Fault
read_with_shipment (Ok p) = with_shipment p
read_with_shipment (Err f) = Err f

-- what an input alone gives that has a shipment: the instance of its records, their first fault, or
-- that there is no shipment
abbrev pub quoted_in : List ℕ → Result Problem Fault
quoted_in input = read_with_shipment (instance_in input)

-- an instance that has a shipment of this name, or a fault of the input as a whole where it has none
abbrev pub with_named : List ℕ → Problem → Result Problem Fault
with_named name p = if is_none (shipment_named p name) then Err (record { ordinal = 0; code = 38 }) else Ok p

abbrev pub read_with_named : List ℕ → Result Problem Fault → Result Problem Fault
read_with_named name (Ok p) = with_named name p
read_with_named name (Err f) = Err f

-- what an input alone gives that has a shipment of a name: the instance of its records, their first fault,
-- or that no shipment has the name
abbrev pub named_in : List ℕ → List ℕ → Result Problem Fault
named_in name input = read_with_named name (instance_in input)

-- it is the instance of an input alone, or the first fault
abbrev pub IsInstanceInput : List ℕ → InstanceInput → Type 0
IsInstanceInput input (given.Read p) = instance_in input ≡ Ok p
IsInstanceInput input (given.Fault ordinal code) = instance_in input ≡ Err (record { ordinal = ordinal; code = code })

-- it is an instance at a scale, or that the scale doesn't fit
abbrev pub IsAtScale : ℕ → Problem → InstanceInput → Type 0
IsAtScale scale p (given.Read q) = at_scale scale p ≡ Ok q
IsAtScale scale p (given.Fault ordinal code) = at_scale scale p ≡ Err (record { ordinal = ordinal; code = code })

-- it is the instance of an input alone at a scale, or the first fault
abbrev pub IsScaledInput : ℕ → List ℕ → InstanceInput → Type 0
IsScaledInput scale input (given.Read p) = instance_at scale input ≡ Ok p
IsScaledInput scale input (given.Fault ordinal code) = instance_at scale input ≡ Err (record { ordinal = ordinal; code = code })

-- it is an instance that has a shipment, or that it has none
abbrev pub IsWithShipment : Problem → InstanceInput → Type 0
IsWithShipment p (given.Read q) = with_shipment p ≡ Ok q
IsWithShipment p (given.Fault ordinal code) = with_shipment p ≡ Err (record { ordinal = ordinal; code = code })

-- it is the instance of an input alone that has a shipment, or the first fault
abbrev pub IsQuotedInput : List ℕ → InstanceInput → Type 0
IsQuotedInput input (given.Read p) = quoted_in input ≡ Ok p
IsQuotedInput input (given.Fault ordinal code) = quoted_in input ≡ Err (record { ordinal = ordinal; code = code })

-- the instance of the input's records at a scale, or the first fault
abbrev pub OfScaled : ℕ → List ℕ → Shown → (Problem → Type 0) → Type 0
OfScaled scale input result P = MatchResult (instance_at scale input) P (λ (f : Fault). result ≡ shown.BadInput f.ordinal f.code)

-- the instance of the input's records, or their first fault
abbrev pub OfInstance : List ℕ → Shown → (Problem → Type 0) → Type 0
OfInstance input result P = MatchResult (instance_in input) P (λ (f : Fault). result ≡ shown.BadInput f.ordinal f.code)

-- the instance of the input's records that has a shipment, or the first fault
abbrev pub OfQuoted : List ℕ → Shown → (Problem → Type 0) → Type 0
OfQuoted input result P = MatchResult (quoted_in input) P (λ (f : Fault). result ≡ shown.BadInput f.ordinal f.code)

-- the instance of the input's records that has a shipment of a name, or the first fault
abbrev pub OfNamed : List ℕ → List ℕ → Shown → (Problem → Type 0) → Type 0
OfNamed name input result P = MatchResult (named_in name input) P (λ (f : Fault). result ≡ shown.BadInput f.ordinal f.code)

-- the instance of the input's records and the legs that are kept, or the first fault
abbrev pub OfKept : List ℕ → Shown → (KeptInstance → Type 0) → Type 0
OfKept input result P = MatchResult (kept_in input) P (λ (f : Fault). result ≡ shown.BadInput f.ordinal f.code)

-- the instance of the input's records and the day that is under way, or the first fault
abbrev pub OfDay : List ℕ → Shown → (DayInstance → Type 0) → Type 0
OfDay input result P = MatchResult (day_in input) P (λ (f : Fault). result ≡ shown.BadInput f.ordinal f.code)

-- the instance of the input's records at a scale and the certificate after it, or the first fault
abbrev pub OfCertified : ℕ → List ℕ → Shown → (CertifiedInstance → Type 0) → Type 0
OfCertified scale input result P = MatchResult (certified_at scale input) P (λ (f : Fault). result ≡ shown.BadInput f.ordinal f.code)

-- the instance of the input's records and the certificate after it, or the first fault: the
-- instance's before the certificate's
abbrev pub OfCertificate : List ℕ → Shown → (Problem → Statement → Type 0) → Type 0
OfCertificate input result P =
    MatchResult (leading_instance_in input)
    (λ p. MatchResult (certificate_in p input) (P p) (λ (f : Fault). result ≡ shown.BadInput f.ordinal f.code))
    (λ (f : Fault). result ≡ shown.BadInput f.ordinal f.code)

-- the fault of what was read, if it has one
abbrev pub fault_of : {A : Type 0} → Result A Fault → Option Fault
fault_of (Ok x) = None
fault_of (Err f) = Some f

-- the fault of the instance, or else that of the certificate
abbrev pub input_fault : List ℕ → Result Problem Fault → Option Fault
input_fault input (Ok p) = fault_of (certificate_in p input)
input_fault input (Err f) = Some f

-- the first fault of an input to an order, if it has one
abbrev pub fault_in : Option Order → List ℕ → Option Fault
fault_in None input = None
fault_in (Some order.Direct) input = fault_of (instance_in input)
fault_in (Some order.Check) input = if has_tail_in input then tail_fault_in asked.Named input else input_fault input (leading_instance_in input)
fault_in (Some (order.Bound option seconds)) input = fault_of (instance_in input)
fault_in (Some (order.Plan budget scale spans seconds notes)) input = fault_of (instance_at scale input)
fault_in (Some (order.Improve budget n spans seconds notes)) input = if has_tail_in input then tail_fault_in (asked.Of n) input else fault_of (certified_at n input)
fault_in (Some (order.Trial seed terminals shipments)) input = None
fault_in (Some (order.Yard seed)) input = if has_tail_in input then tail_fault_in asked.Usual input else input_fault input (leading_instance_in input)
fault_in (Some (order.Fleet trucks)) input = if has_tail_in input then tail_fault_in asked.Usual input else input_fault input (leading_instance_in input)
fault_in (Some (order.Replan budget spans seconds notes)) input = if tells_day_in input then fault_of (day_in input) else fault_of (kept_in input)
fault_in (Some (order.Quote budget spans seconds notes None)) input = fault_of (quoted_in input)
fault_in (Some (order.Quote budget spans seconds notes (Some name))) input = fault_of (named_in name input)

-- the instance that an order is about: that of the input, or its first fault, and for `trial` the one
-- that is drawn
abbrev pub given_to : Order → List ℕ → Result Problem Fault
given_to order.Direct input = instance_in input
given_to order.Check input = leading_instance_in input
given_to (order.Bound option seconds) input = instance_in input
given_to (order.Plan budget scale spans seconds notes) input = instance_at scale input
given_to (order.Improve budget scale spans seconds notes) input = read_at_scale scale (leading_instance_in input)
given_to (order.Trial seed terminals shipments) input = Ok (generated seed terminals shipments)
given_to (order.Yard seed) input = leading_instance_in input
given_to (order.Fleet trucks) input = leading_instance_in input
given_to (order.Replan budget spans seconds notes) input = unkept_instance_in input
given_to (order.Quote budget spans seconds notes None) input = quoted_in input
given_to (order.Quote budget spans seconds notes (Some name)) input = named_in name input
