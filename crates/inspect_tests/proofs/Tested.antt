-- The members of a partition tested, rank by rank.
use mathlib.Core.Path.{◌≡◌, refl, sym, ap, ◌∙◌, subst}
use mathlib.Core.List.{List}
use mathlib.Core.Bool.{Bool}
use Rattle.std.specs.Prelude.{Some, None, Option}
use mathlib.Core.Logic.{◌≢◌, ◌⊎◌, inl, inr, ⊎_elim}
use Prim.Native.Nat.{ℕ, ◌+◌, ◌-◌, ◌≤◌, ◌<◌, min}
use native.Mathlib.Decide.{dec_lt, ℕ_discrete}
use native.Mathlib.Omega.{arith}
use lib.ListN.{length, set, length-set}
use lib.Seq.{get_or-set_same, get_or-set_other}
use borrow.Author.Tests.{lt-ltb, le-ltb}
use Rattle.laws.specs.Choice.{pick}
use Rattle.model.specs.Limits.{most_tasks}
use Rattle.asked.specs.Rows.{RowsFit, asked_by, blocking_in}
use Rattle.asked.specs.Met.{UnmetBelow}
use Rattle.verdict.specs.declared.Tested.{Tested}
use Rattle.verdict.specs.Tested.{TestedAs, worst_of}
use Rattle.roster.specs.Keys.{number_at}
use Rattle.trial.specs.Known.{of_rank, Apart, Bounds, with_result, verdict_at}
use Rattle.trial.proofs.Heads.{taken_over}
use Rattle.trial.proofs.Testing.{only-put, bounds_put}
use Rattle.inspect_tests.specs.Results.{last_above, TestedBelow, lowest_failing, worst_at, OnlyWorsts, FailsAmong, TestedRanks}
use Rattle.asked.specs.declared.rows.Rows.{Rows}
use Rattle.trial.specs.declared.Results.{Results}

-- a member left out: its window closes no earlier than the one above it
module _ (rows : Rows) (keys : List ℕ) (count rank lowest : ℕ) (lasts : List ℕ) (inside : rank < count) (fit : RowsFit rows count) (known : Bounds rows keys count lasts) where
  abbrev Kept : ℕ → Type 0
  Kept last = (last ≤ 2_000_000) × UnmetBelow (asked_by rows (rank + 1)) (blocking_in rows count rank) last

  above_kept : Kept (last_above keys lasts rank)
  above_kept = elim (dec_lt 0 rank) [
    | yes some ↦ (let there : last_above keys lasts rank ≡ of_rank keys lasts (rank - 1) = ap (λ (x : Bool). pick x (of_rank keys lasts (rank - 1)) 0) (lt-ltb 0 rank some) in
        let same : rank - 1 + 1 ≡ rank = omega (arith, some) in
        let unmet = subst (λ (x : ℕ). UnmetBelow (asked_by rows x) (blocking_in rows count (rank - 1)) (of_rank keys lasts (rank - 1))) same (known.unmet (rank - 1) (omega (arith, inside))) in
        subst Kept (sym there) (known.near (rank - 1) (omega (arith, inside)), taken_over rows count fit rank (of_rank keys lasts (rank - 1)) some inside unmet))
    | no highest ↦ (let there : last_above keys lasts rank ≡ 0 = ap (λ (x : Bool). pick x (of_rank keys lasts (rank - 1)) 0) (le-ltb 0 rank (omega (arith, highest))) in
        subst Kept (sym there) (omega arith, λ s l. absurd (omega (arith, l))))
  ]

  pub left_out_as : lowest ≤ number_at keys rank → (last : ℕ) → last ≡ last_above keys lasts rank → TestedBelow rows keys count rank lowest (record { worst = None; last = last })
  left_out_as above last e =
      let kept = subst Kept (sym e) above_kept in
      record { near = kept.0; unmet = kept.1; worst = λ l. absurd (omega (arith, above, l)); left_out = λ l. refl }

  pub tested_as : number_at keys rank < lowest → (t : Tested) → TestedAs rows rank (blocking_in rows count rank) t → TestedBelow rows keys count rank lowest t
  tested_as below t is = record { near = is.near; unmet = is.unmet; worst = λ l. is.worst; left_out = λ l. absurd (omega (arith, below, l)) }

-- a worst response written over
module _ (keys : List ℕ) (worsts : List (Option ℕ)) (r : ℕ) (v : Option ℕ) where
  worst_own : length worsts ≡ most_tasks → worst_at (set worsts (number_at keys r) v) (number_at keys r) ≡ v
  worst_own places = get_or-set_same worsts (number_at keys r) v None (omega (arith, places))

  worst_others : (number : ℕ) → number ≢ number_at keys r → worst_at (set worsts (number_at keys r) v) number ≡ worst_at worsts number
  worst_others number other = get_or-set_other worsts (number_at keys r) number v None other

  only_worsts : (before : List (Option ℕ)) → OnlyWorsts keys 0 r before worsts → OnlyWorsts keys 0 (r + 1) before (set worsts (number_at keys r) v)
  only_worsts before same j outside = worst_others j (λ e. outside r (omega arith) (omega arith) (sym e)) ∙ same j (λ s f t. outside s f (omega arith))

module _ (rows : Rows) (keys : List ℕ) (count : ℕ) (apart : Apart keys count) (lowest₀ : ℕ) (results₀ : Results (Option ℕ)) where
  pub ranks_none : Bounds rows keys count results₀.lasts → length results₀.worsts ≡ most_tasks → worst_at results₀.worsts lowest₀ ≡ None → TestedRanks rows keys count 0 lowest₀ results₀ lowest₀ results₀
  ranks_none known places none =
      record { bounds = known; places = places; lower = omega arith; fails = inl refl; none = none; responses = λ r l. absurd (omega (arith, l)); other_lasts = λ j outside. refl; other_worsts = λ j outside. refl }

  module _ (rank lowest : ℕ) (results : Results (Option ℕ)) (inside : rank < count) (known : TestedRanks rows keys count rank lowest₀ results₀ lowest results)
      (t : Tested) (is : TestedBelow rows keys count rank lowest t) (lowest' : ℕ) (down : lowest' ≡ lowest_failing lowest (number_at keys rank) t.worst) where
    abbrev number : ℕ
    number = number_at keys rank

    abbrev results' : Results (Option ℕ)
    results' = with_result results number t.last t.worst

    -- where it stays, or falls to one that fails
    falls : (lowest' ≡ lowest) ⊎ ((lowest' ≡ number) × (number < lowest) × (t.worst ≡ None))
    falls = go t.worst refl
      where
        go : (w : Option ℕ) → t.worst ≡ w → (lowest' ≡ lowest) ⊎ ((lowest' ≡ number) × (number < lowest) × (t.worst ≡ None))
        go (Some worst) e = inl (down ∙ ap (lowest_failing lowest number) e)
        go None e =
            let least : lowest' ≡ min lowest number = down ∙ ap (lowest_failing lowest number) e in
            elim (dec_lt number lowest) [
              | yes below ↦ inr (omega (arith, least, below), below, e)
              | no above ↦ inl (omega (arith, least, above))
            ]

    falls_to : lowest' ≤ lowest
    falls_to = ⊎_elim (λ e. omega (arith, e)) (λ f. omega (arith, f.0, f.1)) falls

    still_none : (lowest' ≡ lowest) → worst_at results'.worsts lowest' ≡ None
    still_none e = elim (ℕ_discrete number lowest) [
      | yes same ↦ ap (worst_at results'.worsts) (e ∙ sym same) ∙ worst_own keys results.worsts rank t.worst known.places ∙ is.left_out (omega (arith, same))
      | no other ↦ ap (worst_at results'.worsts) e ∙ worst_others keys results.worsts rank t.worst lowest (λ s. other (sym s)) ∙ known.none
    ]

    none_there : worst_at results'.worsts lowest' ≡ None
    none_there = ⊎_elim still_none (λ f. ap (worst_at results'.worsts) f.0 ∙ worst_own keys results.worsts rank t.worst known.places ∙ f.2) falls

    some_fails : (lowest' ≡ lowest₀) ⊎ FailsAmong rows keys count lowest'
    some_fails =
        ⊎_elim
        (λ e. subst (λ (x : ℕ). (x ≡ lowest₀) ⊎ FailsAmong rows keys count x) (sym e) known.fails)
        (λ f. inr (rank, inside, sym f.0, sym (is.worst f.1) ∙ f.2))
        falls

    pub ranks_more : TestedRanks rows keys count (rank + 1) lowest₀ results₀ lowest' results'
    ranks_more =
        record {
          bounds = bounds_put rows keys count results.lasts rank t.last apart inside is.near is.unmet known.bounds;
          places = length-set results.worsts number t.worst ∙ known.places;
          lower = omega (arith, falls_to, known.lower);
          fails = some_fails;
          none = none_there;
          responses = λ r l below. elim (ℕ_discrete r rank) [
            | yes same ↦ (let mine : number < lowest = omega (arith, below, ap (number_at keys) same, falls_to) in
                ap (λ (x : ℕ). worst_at results'.worsts (number_at keys x)) same ∙ worst_own keys results.worsts rank t.worst known.places ∙ is.worst mine ∙ ap (λ (x : ℕ). worst_of (verdict_at rows count x)) (sym same))
            | no other ↦ worst_others keys results.worsts rank t.worst (number_at keys r) (λ e. other (apart r rank (omega (arith, inside, l, other)) inside e)) ∙ known.responses r (omega (arith, l, other)) (omega (arith, below, falls_to))
          ];
          other_lasts = only-put keys results.lasts rank t.last 0 results₀.lasts (omega arith) known.other_lasts;
          other_worsts = only_worsts keys results.worsts rank t.worst results₀.worsts known.other_worsts;
        }
