-- Rows of all shipments, and the users that they tell.
use Rattle.std.specs.Prelude.{ℕ, ◌≡◌, ◌<◌, List, [], Bool, length, slice_index_or, slice_index}
use Rattle.fp_model.specs.declared.parts.Leg.{Leg}
use Rattle.fp_model.specs.Problem.{Problem}
use Rattle.fp_longestarcs.specs.Networks.{TimedNetwork, IsClass, class_count, class_number}
use Rattle.fp_allowed.specs.Bits.{bit_of}
use Rattle.fp_prices.specs.declared.classes.class_users.Users.{Users}
use Rattle.fp_prices.specs.Prices.{allowed_count, allowed_size}

-- the row of the shipment with a number
abbrev pub row_at : List (List Bool) → ℕ → List Bool
row_at rows k = slice_index_or rows k []

-- the rows, numbered by their shipments, have one bit per class, set exactly where the class is allowed for the shipment
pub record AreRowsOf (net : TimedNetwork) (allowed : ℕ → Leg → Bool) (rows : List (List Bool)) : Type 0 where
  pub long : (k : ℕ) → k < length rows → length (row_at rows k) ≡ class_count net
  pub exact : (k : ℕ) (c : Leg) → k < length rows → IsClass net c → bit_of (row_at rows k) (class_number net c) ≡ allowed k c

-- at each of so many classes, by its number, for how many shipments it is allowed, and their sizes in all
pub record AreUsers (p : Problem) (net : TimedNetwork) (allowed : ℕ → Leg → Bool) (classes : ℕ) (users : Users) : Type 0 where
  pub counts : (c : Leg) → IsClass net c → slice_index users.counts.items (class_number net c) ≡ allowed_count (λ j. allowed j c) 0 p.shipments
  pub sizes : (c : Leg) → IsClass net c → slice_index users.sizes.items (class_number net c) ≡ allowed_size (λ j. allowed j c) 0 p.shipments
  pub counts_long : length users.counts.items ≡ classes
  pub sizes_long : length users.sizes.items ≡ classes
