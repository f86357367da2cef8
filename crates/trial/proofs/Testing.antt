-- What is known of members, rank by rank, while they are tested.
use Rattle.std.specs.Prelude.{Some, None, Ok, Err}
use mathlib.Core.Path.{◌≡◌, refl, sym, ap, ◌∙◌, subst}
use mathlib.Core.Bool.{Bool, true, false}
use mathlib.Core.List.{List}
use mathlib.Core.Logic.{◌≢◌}
use Prim.Native.Nat.{ℕ, ◌+◌, ◌-◌, ◌≤◌, ◌<◌}
use native.Mathlib.Decide.{ℕ_discrete}
use native.Mathlib.Omega.{arith}
use lib.ListN.{length, set, length-set}
use lib.Seq.{get_or-set_same, get_or-set_other}
use Rattle.laws.specs.Every.{every}
use Rattle.laws.proofs.Every.{clash, every_none, every_more, every_stop}
use Rattle.model.specs.Limits.{most_tasks}
use Rattle.demand.specs.Verdict.{Verdict}
use Rattle.demand.specs.declared.Failing.TheVariants.{NoWindow, NoStart, TooLate}
use Rattle.demand.specs.Test.{does_pass, response_of}
use Rattle.asked.specs.Rows.{asked_by, blocking_in}
use Rattle.asked.specs.Met.{UnmetBelow}
use Rattle.verdict.specs.declared.Tested.{Tested}
use Rattle.verdict.specs.Tested.{TestedAs}
use Rattle.verdict.proofs.Told.{passes_told, response_told, fails_told}
use Rattle.roster.specs.Keys.{number_at}
use Rattle.trial.specs.Known.{of_rank, Apart, Bounds, passes_at, verdict_at, OnlyRanks, with_result, TestedFrom}
use Rattle.asked.specs.declared.rows.Rows.{Rows}
use Rattle.trial.specs.declared.Results.{Results}

pub passes_is : (v : Verdict) → does_pass v ≡ true → v ≡ Ok (response_of v)
passes_is (Ok worst) p = refl
passes_is (Err NoWindow) p = clash p
passes_is (Err NoStart) p = clash p
passes_is (Err TooLate) p = clash p

-- a number for the member of a rank written over
module _ (keys xs : List ℕ) (r v : ℕ) where
  pub put_own : length xs ≡ most_tasks → of_rank keys (set xs (number_at keys r) v) r ≡ v
  put_own places = get_or-set_same xs (number_at keys r) v 0 (omega (arith, places))

  pub put_others : (count s : ℕ) → Apart keys count → r < count → s < count → s ≢ r → of_rank keys (set xs (number_at keys r) v) s ≡ of_rank keys xs s
  put_others count s apart l k other = get_or-set_other xs (number_at keys r) (number_at keys s) v 0 (λ e. other (apart s r k l e))

  pub only-put : (from : ℕ) (before : List ℕ) → from ≤ r → OnlyRanks keys from r before xs → OnlyRanks keys from (r + 1) before (set xs (number_at keys r) v)
  only-put from before le same j outside =
      get_or-set_other xs (number_at keys r) j v 0 (λ e. outside r le (omega arith) (sym e)) ∙ same j (λ s f t. outside s f (omega arith))

-- ranks that some stand among
pub only_wider : (keys : List ℕ) (from to from' to' : ℕ) (before after : List ℕ) → from' ≤ from → to ≤ to' → OnlyRanks keys from to before after → OnlyRanks keys from' to' before after
only_wider keys from to from' to' before after f t same j outside = same j (λ s a b. outside s (omega arith) (omega arith))

-- what belongs to another rank has not changed
pub rank_kept : (keys : List ℕ) (count from to : ℕ) (before after : List ℕ) → Apart keys count → to ≤ count → OnlyRanks keys from to before after →
    (s : ℕ) → s < count → ((r : ℕ) → from ≤ r → r < to → r ≢ s) → of_rank keys after s ≡ of_rank keys before s
rank_kept keys count from to before after apart le same s l outside =
    same (number_at keys s) (λ r f t e. outside r f t (apart r s (omega arith) l e))

pub bounds_put : (rows : Rows) (keys : List ℕ) (count : ℕ) (lasts : List ℕ) (r last : ℕ) → Apart keys count → r < count → last ≤ 2_000_000 →
    UnmetBelow (asked_by rows (r + 1)) (blocking_in rows count r) last → Bounds rows keys count lasts → Bounds rows keys count (set lasts (number_at keys r) last)
bounds_put rows keys count lasts r last apart inside near unmet known =
    record {
      places = length-set lasts (number_at keys r) last ∙ known.places;
      near = λ s l. elim (ℕ_discrete s r) [
        | yes same ↦ omega (arith, near, ap (of_rank keys (set lasts (number_at keys r) last)) same, put_own keys lasts r last known.places)
        | no other ↦ omega (arith, put_others keys lasts r last count s apart inside l other, known.near s l)
      ];
      unmet = λ s l. elim (ℕ_discrete s r) [
        | yes same ↦ (λ w k. own s same w k)
        | no other ↦ (λ w k. known.unmet s l w (omega (arith, k, put_others keys lasts r last count s apart inside l other)))
      ];
    }
  where
    own : (s : ℕ) → s ≡ r → UnmetBelow (asked_by rows (s + 1)) (blocking_in rows count s) (of_rank keys (set lasts (number_at keys r) last) s)
    own s same = subst (λ (x : ℕ). UnmetBelow (asked_by rows (x + 1)) (blocking_in rows count x) (of_rank keys (set lasts (number_at keys r) last) x)) (sym same)
        (λ w k. unmet w (omega (arith, k, put_own keys lasts r last known.places)))

module _ (rows : Rows) (keys : List ℕ) (count from : ℕ) (apart : Apart keys count) (results₀ : Results ℕ) where
  pub tested_none : Bounds rows keys count results₀.lasts → length results₀.worsts ≡ most_tasks → TestedFrom rows keys count from from results₀ true results₀
  tested_none known places =
      let none : from - from ≡ 0 = omega arith in
      record {
        all_pass = sym (ap (every (λ x. passes_at rows count (from + x))) none ∙ every_none (λ x. passes_at rows count (from + x)));
        bounds = known;
        places = places;
        responses = λ p r f t. absurd (omega (arith, f, t));
        other_lasts = λ j outside. refl;
        other_worsts = λ j outside. refl;
      }

  module _ (rank : ℕ) (results : Results ℕ) (le : from ≤ rank) (inside : rank < count) (known : TestedFrom rows keys count from rank results₀ true results)
      (t : Tested) (is : TestedAs rows rank (blocking_in rows count rank) t) where
    pub tested_more : (worst : ℕ) → t.worst ≡ Some worst →
        TestedFrom rows keys count from (rank + 1) results₀ true (with_result results (number_at keys rank) t.last worst)
    tested_more worst p =
        let f : ℕ → Bool = λ x. passes_at rows count (from + x) in
        let more : rank + 1 - from ≡ rank - from + 1 = omega arith in
        let here : from + (rank - from) ≡ rank = omega arith in
        record {
          all_pass = sym (ap (every f) more ∙ every_more f (rank - from) (sym known.all_pass) (ap (passes_at rows count) here ∙ passes_told (verdict_at rows count rank) worst (sym is.worst ∙ p)));
          bounds = bounds_put rows keys count results.lasts rank t.last apart inside is.near is.unmet known.bounds;
          places = length-set results.worsts (number_at keys rank) worst ∙ known.places;
          responses = λ q r a b. elim (ℕ_discrete r rank) [
            | yes same ↦ own r same
            | no other ↦ put_others keys results.worsts rank worst count r apart inside (omega (arith, inside, b, other)) other ∙ known.responses refl r a (omega (arith, b, other))
          ];
          other_lasts = only-put keys results.lasts rank t.last from results₀.lasts le known.other_lasts;
          other_worsts = only-put keys results.worsts rank worst from results₀.worsts le known.other_worsts;
        }
      where
        own : (r : ℕ) → r ≡ rank → of_rank keys (set results.worsts (number_at keys rank) worst) r ≡ response_of (verdict_at rows count r)
        own r same = ap (of_rank keys (set results.worsts (number_at keys rank) worst)) same ∙ put_own keys results.worsts rank worst known.places ∙ response_told (verdict_at rows count rank) worst (sym is.worst ∙ p) ∙ ap (λ (x : ℕ). response_of (verdict_at rows count x)) (sym same)

    pub tested_stops : (to : ℕ) → rank < to → t.worst ≡ None → TestedFrom rows keys count from to results₀ false results
    tested_stops to before p =
        let f : ℕ → Bool = λ x. passes_at rows count (from + x) in
        let here : from + (rank - from) ≡ rank = omega arith in
        record {
          all_pass = sym (every_stop f (to - from) (rank - from) (omega (arith, le, before)) (ap (passes_at rows count) here ∙ fails_told (verdict_at rows count rank) (sym is.worst ∙ p)));
          bounds = known.bounds;
          places = known.places;
          responses = λ q. clash q;
          other_lasts = only_wider keys from rank from to results₀.lasts results.lasts (omega arith) (omega (arith, before)) known.other_lasts;
          other_worsts = only_wider keys from rank from to results₀.worsts results.worsts (omega arith) (omega (arith, before)) known.other_worsts;
        }
