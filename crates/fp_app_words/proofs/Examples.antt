-- The forms at words that are written out.
use Rattle.std.proofs.Common.{◌≡◌, true, false, [], ◌∷◌, refl}
use Rattle.std.specs.Prelude.{Some, None, codes}
use Rattle.clap.proofs.OnLiterals.{clap_on_literals}
use Rattle.fp_app_words.specs.declared.orders.Order.TheVariants.{Direct, Check, Bound, Plan, Improve, Trial, Yard, Fleet, Replan, Quote}
use Rattle.fp_app_words.specs.Words.{order_of}

the-direct : order_of (codes "direct" ∷ []) ≡ Some Direct
the-direct = refl

the-check : order_of (codes "check" ∷ []) ≡ Some Check
the-check = refl

the-bound : order_of (codes "bound" ∷ []) ≡ Some (Bound false None)
the-bound = refl

with-spans : order_of (codes "bound" ∷ codes "--spans" ∷ []) ≡ Some (Bound true None)
unfolding clap_on_literals
with-spans = refl

notes-among : order_of (codes "plan" ∷ codes "--notes" ∷ codes "--seconds" ∷ codes "5" ∷ []) ≡ Some (Plan (record { rounds = 400; branches = 4000 }) 1000000 false (Some 5) true)
unfolding clap_on_literals
notes-among = refl

spans-twice : order_of (codes "bound" ∷ codes "--spans" ∷ codes "--spans" ∷ []) ≡ None
unfolding clap_on_literals
spans-twice = refl

-- a flag has no value, not even an empty one
spans-value : order_of (codes "bound" ∷ codes "--spans=1" ∷ []) ≡ None
unfolding clap_on_literals
spans-value = refl

spans-empty : order_of (codes "bound" ∷ codes "--spans=" ∷ []) ≡ None
unfolding clap_on_literals
spans-empty = refl

spans-word : order_of (codes "bound" ∷ codes "--spans" ∷ codes "x" ∷ []) ≡ None
unfolding clap_on_literals
spans-word = refl

word-for-spans : order_of (codes "bound" ∷ codes "spans" ∷ []) ≡ None
unfolding clap_on_literals
word-for-spans = refl

other-flag : order_of (codes "bound" ∷ codes "--span" ∷ []) ≡ None
unfolding clap_on_literals
other-flag = refl

-- other commands don't take the flag
spans-of-fleet : order_of (codes "fleet" ∷ codes "--spans" ∷ []) ≡ None
spans-of-fleet = refl

spans-of-yard : order_of (codes "yard" ∷ codes "1" ∷ codes "--spans" ∷ []) ≡ None
spans-of-yard = refl

no-word : order_of [] ≡ None
no-word = refl

unknown : order_of (codes "fly" ∷ []) ≡ None
unknown = refl

one-more : order_of (codes "direct" ∷ codes "now" ∷ []) ≡ None
one-more = refl

dashes : order_of (codes "direct" ∷ codes "--" ∷ []) ≡ None
dashes = refl

help : order_of (codes "direct" ∷ codes "--help" ∷ []) ≡ None
help = refl

usual : order_of (codes "plan" ∷ []) ≡ Some (Plan (record { rounds = 400; branches = 4000 }) 1000000 false None false)
usual = refl

-- in any order, as two words or as one
all-options : order_of (codes "plan" ∷ codes "--scale" ∷ codes "7" ∷ codes "--rounds=0" ∷ codes "--branches" ∷ codes "0000000005" ∷ []) ≡ Some (Plan (record { rounds = 0; branches = 5 }) 7 false None false)
unfolding clap_on_literals
all-options = refl

-- `improve` takes the same options
the-improve : order_of (codes "improve" ∷ []) ≡ Some (Improve (record { rounds = 400; branches = 4000 }) 1000000 false None false)
the-improve = refl

improve-options : order_of (codes "improve" ∷ codes "--scale" ∷ codes "7" ∷ codes "--rounds=0" ∷ codes "--spans" ∷ codes "--seconds" ∷ codes "5" ∷ codes "--notes" ∷ []) ≡ Some (Improve (record { rounds = 0; branches = 4000 }) 7 true (Some 5) true)
unfolding clap_on_literals
improve-options = refl

improve-word : order_of (codes "improve" ∷ codes "answer" ∷ []) ≡ None
unfolding clap_on_literals
improve-word = refl

-- the flag before, among or after options with values
spans-of-plan : order_of (codes "plan" ∷ codes "--spans" ∷ []) ≡ Some (Plan (record { rounds = 400; branches = 4000 }) 1000000 true None false)
unfolding clap_on_literals
spans-of-plan = refl

spans-among : order_of (codes "plan" ∷ codes "--rounds=0" ∷ codes "--spans" ∷ codes "--scale" ∷ codes "7" ∷ []) ≡ Some (Plan (record { rounds = 0; branches = 4000 }) 7 true None false)
unfolding clap_on_literals
spans-among = refl

spans-last : order_of (codes "plan" ∷ codes "--branches" ∷ codes "5" ∷ codes "--spans" ∷ []) ≡ Some (Plan (record { rounds = 400; branches = 5 }) 1000000 true None false)
unfolding clap_on_literals
spans-last = refl

plan-spans-twice : order_of (codes "plan" ∷ codes "--spans" ∷ codes "--rounds=0" ∷ codes "--spans" ∷ []) ≡ None
unfolding clap_on_literals
plan-spans-twice = refl

-- and not as the value of an option
spans-for-number : order_of (codes "plan" ∷ codes "--rounds" ∷ codes "--spans" ∷ []) ≡ None
unfolding clap_on_literals
spans-for-number = refl

too-many-rounds : order_of (codes "plan" ∷ codes "--rounds" ∷ codes "4001" ∷ []) ≡ None
unfolding clap_on_literals
too-many-rounds = refl

most-branches : order_of (codes "plan" ∷ codes "--branches=100000" ∷ []) ≡ Some (Plan (record { rounds = 400; branches = 100000 }) 1000000 false None false)
unfolding clap_on_literals
most-branches = refl

-- a limit of time: at least a second, at most a day, once, and without a 0 before it
within-time : order_of (codes "plan" ∷ codes "--seconds" ∷ codes "86400" ∷ codes "--spans" ∷ []) ≡ Some (Plan (record { rounds = 400; branches = 4000 }) 1000000 true (Some 86400) false)
unfolding clap_on_literals
within-time = refl

bound-in-time : order_of (codes "bound" ∷ codes "--spans" ∷ codes "--seconds=1" ∷ []) ≡ Some (Bound true (Some 1))
unfolding clap_on_literals
bound-in-time = refl

quote-in-time : order_of (codes "quote" ∷ codes "--seconds=10" ∷ []) ≡ Some (Quote (record { rounds = 400; branches = 4000 }) false (Some 10) false None)
unfolding clap_on_literals
quote-in-time = refl

no-seconds : order_of (codes "plan" ∷ codes "--seconds" ∷ codes "0" ∷ []) ≡ None
unfolding clap_on_literals
no-seconds = refl

zero-before-seconds : order_of (codes "plan" ∷ codes "--seconds" ∷ codes "086" ∷ []) ≡ None
unfolding clap_on_literals
zero-before-seconds = refl

more-than-a-day : order_of (codes "plan" ∷ codes "--seconds" ∷ codes "86401" ∷ []) ≡ None
unfolding clap_on_literals
more-than-a-day = refl

seconds-twice : order_of (codes "replan" ∷ codes "--seconds=5" ∷ codes "--seconds" ∷ codes "5" ∷ []) ≡ None
unfolding clap_on_literals
seconds-twice = refl

seconds-of-check : order_of (codes "check" ∷ codes "--seconds=5" ∷ []) ≡ None
seconds-of-check = refl

no-scale : order_of (codes "plan" ∷ codes "--scale" ∷ codes "0" ∷ []) ≡ None
unfolding clap_on_literals
no-scale = refl

eleven-digits : order_of (codes "plan" ∷ codes "--rounds" ∷ codes "00000000005" ∷ []) ≡ None
unfolding clap_on_literals
eleven-digits = refl

twice : order_of (codes "plan" ∷ codes "--rounds" ∷ codes "5" ∷ codes "--rounds=5" ∷ []) ≡ None
unfolding clap_on_literals
twice = refl

no-value : order_of (codes "plan" ∷ codes "--rounds" ∷ []) ≡ None
unfolding clap_on_literals
no-value = refl

option-first : order_of (codes "--rounds=5" ∷ codes "plan" ∷ []) ≡ None
option-first = refl

dashes-last : order_of (codes "plan" ∷ codes "--" ∷ []) ≡ None
dashes-last = refl

the-trial : order_of (codes "trial" ∷ codes "1" ∷ codes "2" ∷ codes "1" ∷ []) ≡ Some (Trial 1 2 1)
the-trial = refl

-- the ends of the ranges
greatest : order_of (codes "trial" ∷ codes "2147483647" ∷ codes "100" ∷ codes "500" ∷ []) ≡ Some (Trial 2147483647 100 500)
greatest = refl

seed-above : order_of (codes "trial" ∷ codes "2147483648" ∷ codes "2" ∷ codes "1" ∷ []) ≡ None
seed-above = refl

one-terminal : order_of (codes "trial" ∷ codes "1" ∷ codes "1" ∷ codes "1" ∷ []) ≡ None
one-terminal = refl

too-many-terminals : order_of (codes "trial" ∷ codes "1" ∷ codes "101" ∷ codes "1" ∷ []) ≡ None
too-many-terminals = refl

too-many-shipments : order_of (codes "trial" ∷ codes "1" ∷ codes "2" ∷ codes "501" ∷ []) ≡ None
too-many-shipments = refl

place-missing : order_of (codes "trial" ∷ codes "1" ∷ codes "2" ∷ []) ≡ None
place-missing = refl

word-too-many : order_of (codes "trial" ∷ codes "1" ∷ codes "2" ∷ codes "1" ∷ codes "1" ∷ []) ≡ None
word-too-many = refl

negative : order_of (codes "trial" ∷ codes "1" ∷ codes "-2" ∷ codes "1" ∷ []) ≡ None
negative = refl

hyphen : order_of (codes "yard" ∷ codes "-" ∷ []) ≡ None
hyphen = refl

long-seed : order_of (codes "yard" ∷ codes "00000000001" ∷ []) ≡ None
long-seed = refl

the-yard : order_of (codes "yard" ∷ codes "1" ∷ []) ≡ Some (Yard 1)
the-yard = refl

option-in-place : order_of (codes "yard" ∷ codes "--rounds=1" ∷ codes "1" ∷ []) ≡ None
option-in-place = refl

the-fleet : order_of (codes "fleet" ∷ []) ≡ Some (Fleet false)
the-fleet = refl

fleet-trucks : order_of (codes "fleet" ∷ codes "--trucks" ∷ []) ≡ Some (Fleet true)
unfolding clap_on_literals
fleet-trucks = refl

fleet-trucks_twice : order_of (codes "fleet" ∷ codes "--trucks" ∷ codes "--trucks" ∷ []) ≡ None
unfolding clap_on_literals
fleet-trucks_twice = refl

trucks-of-check : order_of (codes "check" ∷ codes "--trucks" ∷ []) ≡ None
trucks-of-check = refl

the-replan : order_of (codes "replan" ∷ codes "--branches" ∷ codes "3" ∷ []) ≡ Some (Replan (record { rounds = 400; branches = 3 }) false None false)
unfolding clap_on_literals
the-replan = refl

spans-of-replan : order_of (codes "replan" ∷ codes "--branches" ∷ codes "3" ∷ codes "--spans" ∷ []) ≡ Some (Replan (record { rounds = 400; branches = 3 }) true None false)
unfolding clap_on_literals
spans-of-replan = refl

the-quote : order_of (codes "quote" ∷ codes "--branches=3" ∷ codes "--rounds" ∷ codes "0" ∷ []) ≡ Some (Quote (record { rounds = 0; branches = 3 }) false None false None)
unfolding clap_on_literals
the-quote = refl

spans-of-quote : order_of (codes "quote" ∷ codes "--spans" ∷ codes "--rounds" ∷ codes "0" ∷ []) ≡ Some (Quote (record { rounds = 0; branches = 4000 }) true None false None)
unfolding clap_on_literals
spans-of-quote = refl

-- a scale is `plan`'s alone
scaled-quote : order_of (codes "quote" ∷ codes "--scale=7" ∷ []) ≡ None
unfolding clap_on_literals
scaled-quote = refl

-- a name before, among or after the options of `quote`, whatever its bytes, and only once
the-name : order_of (codes "quote" ∷ codes "S1" ∷ []) ≡ Some (Quote (record { rounds = 400; branches = 4000 }) false None false (Some (codes "S1")))
unfolding clap_on_literals
the-name = refl

name-among : order_of (codes "quote" ∷ codes "--rounds" ∷ codes "0" ∷ codes "a,b" ∷ codes "--spans" ∷ []) ≡ Some (Quote (record { rounds = 0; branches = 4000 }) true None false (Some (codes "a,b")))
unfolding clap_on_literals
name-among = refl

name-last : order_of (codes "quote" ∷ codes "--seconds=10" ∷ codes "--notes" ∷ codes "0" ∷ []) ≡ Some (Quote (record { rounds = 400; branches = 4000 }) false (Some 10) true (Some (codes "0")))
unfolding clap_on_literals
name-last = refl

name-hyphen : order_of (codes "quote" ∷ codes "-" ∷ []) ≡ Some (Quote (record { rounds = 400; branches = 4000 }) false None false (Some (codes "-")))
unfolding clap_on_literals
name-hyphen = refl

name-twice : order_of (codes "quote" ∷ codes "S1" ∷ codes "S1" ∷ []) ≡ None
unfolding clap_on_literals
name-twice = refl

name-as_option : order_of (codes "quote" ∷ codes "-S1" ∷ []) ≡ None
unfolding clap_on_literals
name-as_option = refl

name-as_value : order_of (codes "quote" ∷ codes "--rounds" ∷ codes "S1" ∷ []) ≡ None
unfolding clap_on_literals
name-as_value = refl

name-by_option : order_of (codes "quote" ∷ codes "--name" ∷ codes "S1" ∷ []) ≡ None
unfolding clap_on_literals
name-by_option = refl
