-- Where no table is by moments, leaves aren't priced by moments.
use Rattle.std.proofs.Common.{◌≡◌, ℕ, ◌-◌, ◌≤◌, false, replicate, inl, inr, refl, subst, sym}
use Rattle.std.proofs.lemmas.Bool.{cases_lt}
use Rattle.std.proofs.lemmas.List.{get_or-replicate, get_or_past, length-replicate}
use Rattle.fp_prices.specs.declared.leaf_prices.Kind.{Kind}
use Rattle.fp_prices.specs.declared.leaf_prices.Kind.TheVariants.{Linear, Even, Table}
use Rattle.fp_certificate_lines.specs.Moments.{by_moments, moments_of_table}

-- the table with a number isn't by moments
moments_of_table-none : (n id : ℕ) → moments_of_table (replicate n false) id ≡ false
moments_of_table-none n id =
    elim (cases_lt (id - 1) n) [
      | inl there ↦ get_or-replicate n (id - 1) false false there
      | inr past ↦ get_or_past (replicate n false) (id - 1) false (subst (λ (m : ℕ). m ≤ id - 1) (sym (length-replicate n false)) past)
    ]

-- so leaves aren't priced by moments by any kind of prices
pub by_moments-none : (n : ℕ) (kind : Kind) → by_moments (replicate n false) kind ≡ false
by_moments-none n Linear = refl
by_moments-none n Even = refl
by_moments-none n (Table id) = moments_of_table-none n id
