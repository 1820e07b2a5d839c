-- What `replan` shows, by its status.
use Rattle.std.proofs.Common.{◌≡◌, ◌∙◌, ℕ, List, refl, sym, ap, subst, inl, inr}
use Rattle.std.specs.Prelude.{Ok}
use Rattle.fp_session_history.specs.Solutions.{Solution}
use Rattle.fp_model.specs.Problem.{Problem}
use Rattle.fp_app.specs.declared.shown.Shown.{Shown}
use Rattle.fp_app.specs.declared.shown.Shown.TheVariants as shown
use Rattle.fp_app.specs.declared.shown.Status.TheVariants as status
use Rattle.fp_app.specs.Causes.{SearchStatus, ShowsKept, ShowsKeptOptimal, ShowsKeptUnfinished, ShowsStuck}
use Rattle.fp_app_tails.specs.Tails.{KeptInstance, kept_in}
use Rattle.fp_app.specs.Inputs.{OfKept}
use Rattle.fp_app.specs.Runs.{ShowsReplan}
use Rattle.fp_app.specs.Searches.{Allowance, IsSearched}
use Rattle.fp_app.specs.Shown.{search_status, status_of}
use Rattle.fp_app.specs.Wanted.{Wanted, keeping}
use Rattle.fp_app.proofs.ReadCauses.{MatchResult_shows}
use Rattle.fp_app.proofs.SearchClaims.{searched-exists}
use Rattle.fp_app.proofs.SearchEnds.{SearchEnd, optimal, search-end, search-no_other, unfinished}

end-optimal : (allowed : Allowance) (input : List ℕ) (s : Shown) (told : ShowsKept allowed input s) → SearchEnd told.instance (keeping told.kept.items) allowed told.solved.certificate.answer →
    search_status told.solved.certificate.answer ≡ status.Done → ShowsKeptOptimal allowed input s
end-optimal allowed input s told (optimal cost same plans) done = record { solution = told; cost = cost; answer = same; plans = plans }
end-optimal allowed input s told (unfinished cost bound spent same bounds) done = let e : status.Unfinished ≡ status.Done = sym (ap search_status same) ∙ done in cc e

end-unfinished : (allowed : Allowance) (input : List ℕ) (s : Shown) (told : ShowsKept allowed input s) → SearchEnd told.instance (keeping told.kept.items) allowed told.solved.certificate.answer →
    search_status told.solved.certificate.answer ≡ status.Unfinished → ShowsKeptUnfinished allowed input s
end-unfinished allowed input s told (optimal cost same plans) ends = let e : status.Done ≡ status.Unfinished = sym (ap search_status same) ∙ ends in cc e
end-unfinished allowed input s told (unfinished cost bound spent same bounds) ends = record { solution = told; cost = cost; bound = bound; spent = spent; answer = same; bounds = bounds }

module _ (allowed : Allowance) (input : List ℕ) (x : KeptInstance) (read : kept_in input ≡ Ok x) where
  kept-done : (s : Shown) → ShowsReplan allowed x s → status_of s ≡ status.Done → ShowsKeptOptimal allowed input s
  kept-done (shown.Replanned p kept y) told done =
      end-optimal allowed input (shown.Replanned p kept y) (record { instance = p; kept = kept; solved = y; read = read ∙ ap Ok told.0; shows = refl; searched = told.1 })
      (search-end p (keeping kept.items) allowed y.certificate.answer told.1.says) done
  kept-done (shown.Stuck p shipment) told done = let g = done in cc
  kept-done _ told done = absurd told

  kept-open : (s : Shown) → ShowsReplan allowed x s → status_of s ≡ status.Unfinished → ShowsKeptUnfinished allowed input s
  kept-open (shown.Replanned p kept y) told ends =
      end-unfinished allowed input (shown.Replanned p kept y) (record { instance = p; kept = kept; solved = y; read = read ∙ ap Ok told.0; shows = refl; searched = told.1 })
      (search-end p (keeping kept.items) allowed y.certificate.answer told.1.says) ends
  kept-open (shown.Stuck p shipment) told ends = let g = ends in cc
  kept-open _ told ends = absurd told

  kept-stuck : (s : Shown) → ShowsReplan allowed x s → status_of s ≡ status.Infeasible → ShowsStuck input s
  kept-stuck (shown.Replanned p kept y) told none = absurd (search-no_other y.certificate.answer status.Infeasible (λ e. cc e) (λ e. cc e) none)
  kept-stuck (shown.Stuck p shipment) told none = record {
    instance = x.instance;
    kept = x.kept;
    shipment = shipment;
    read = read;
    shows = ap (λ (q : Problem). shown.Stuck q shipment) told.0;
    stuck = told.1;
    none = told.2;
  }
  kept-stuck _ told none = absurd told

pub replan-done : (allowed : Allowance) (input : List ℕ) (s : Shown) → OfKept input s (λ x. ShowsReplan allowed x s) → status_of s ≡ status.Done → ShowsKeptOptimal allowed input s
replan-done allowed input s told done =
    MatchResult_shows status.Done (kept_in input) (kept_in input) (λ (x : KeptInstance). ShowsReplan allowed x s) s (ShowsKeptOptimal allowed input s) (λ e. cc e) refl done told
    (λ x is shows. kept-done allowed input x is s shows done)

pub replan-open : (allowed : Allowance) (input : List ℕ) (s : Shown) → OfKept input s (λ x. ShowsReplan allowed x s) → status_of s ≡ status.Unfinished → ShowsKeptUnfinished allowed input s
replan-open allowed input s told ends =
    MatchResult_shows status.Unfinished (kept_in input) (kept_in input) (λ (x : KeptInstance). ShowsReplan allowed x s) s (ShowsKeptUnfinished allowed input s) (λ e. cc e) refl ends told
    (λ x is shows. kept-open allowed input x is s shows ends)

pub replan-stuck : (allowed : Allowance) (input : List ℕ) (s : Shown) → OfKept input s (λ x. ShowsReplan allowed x s) → status_of s ≡ status.Infeasible → ShowsStuck input s
replan-stuck allowed input s told none =
    MatchResult_shows status.Infeasible (kept_in input) (kept_in input) (λ (x : KeptInstance). ShowsReplan allowed x s) s (ShowsStuck input s) (λ e. cc e) refl none told
    (λ x is shows. kept-stuck allowed input x is s shows none)

-- the status of a search among wanted plans
pub end-status : (p : Problem) (wanted : Wanted) (allowed : Allowance) (s : Solution) → IsSearched p wanted allowed s → SearchEnd p wanted allowed s.certificate.answer → SearchStatus p wanted allowed (search_status s.certificate.answer)
end-status p wanted allowed s told (optimal cost same plans) = inl (ap search_status same, searched-exists p wanted allowed s told)
end-status p wanted allowed s told (unfinished cost bound spent same bounds) = inr (inl (ap search_status same, searched-exists p wanted allowed s told, (spent, bounds.scarce)))

pub replan-status : (allowed : Allowance) (x : KeptInstance) (s : Shown) → ShowsReplan allowed x s → SearchStatus x.instance (keeping x.kept) allowed (status_of s)
replan-status allowed x (shown.Replanned p kept y) told =
    subst (λ (z : KeptInstance). SearchStatus z.instance (keeping z.kept) allowed (search_status y.certificate.answer)) (sym told.0)
    (end-status p (keeping kept.items) allowed y told.1 (search-end p (keeping kept.items) allowed y.certificate.answer told.1.says))
replan-status allowed x (shown.Stuck p shipment) told = inr (inr (refl, told.2))
replan-status allowed x _ told = absurd told
