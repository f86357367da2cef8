-- A newcomer tried: one that fails is enough; and where all are tested or stand, all is known.
use Rattle.std.specs.Prelude.{Some, None, Ok}
use mathlib.Core.Path.{◌≡◌, refl, sym, ap, ◌∙◌, subst}
use mathlib.Core.Bool.{Bool, true, false}
use mathlib.Core.List.{List}
use mathlib.Core.Logic.{◌≢◌}
use Prim.Native.Nat.{ℕ, ◌+◌, ◌-◌, ◌≤◌, ◌<◌, min}
use native.Mathlib.Decide.{dec_lt, ℕ_discrete}
use native.Mathlib.Omega.{arith}
use lib.ListN.{length, set, length-set}
use lib.Seq.{get_or-set_other}
use Rattle.laws.specs.Every.{every}
use Rattle.laws.proofs.Every.{clash, every_at, every_all, every_stop}
use Rattle.model.specs.Limits.{most_tasks}
use Rattle.demand.specs.Test.{does_pass, response_of}
use Rattle.asked.specs.Rows.{RowsFit, blocking_in, whole}
use Rattle.asked.specs.Lines.{line_in}
use Rattle.verdict.specs.declared.Tested.{Tested}
use Rattle.verdict.specs.Tested.{TestedAs}
use Rattle.verdict.proofs.Full.{overfull_open, unmet_fails}
use Rattle.verdict.proofs.Told.{passes_told, response_told, fails_told}
use Rattle.roster.specs.Keys.{number_at}
use Rattle.trial.specs.Known.{of_rank, Bounds, passes_at, verdict_at, OnlyRanks, with_result, TestedFrom, Shielded, OthersTested, KnownBefore, TriedAs}
use Rattle.trial.proofs.Testing.{passes_is, put_own, put_others, rank_kept, bounds_put}
use Rattle.asked.specs.declared.rows.Rows.{Rows}
use Rattle.trial.specs.declared.Results.{Results}

-- one that fails among some is enough
pub every-part : (passes : ℕ → Bool) (n from k : ℕ) → from + k ≤ n → every (λ x. passes (from + x)) k ≡ false → every passes n ≡ false
every-part passes n from k le fails = go (every passes n) refl
  where
    go : (b : Bool) → every passes n ≡ b → every passes n ≡ false
    go true p = clash (sym fails ∙ every_all (λ x. passes (from + x)) k (λ x l. every_at passes n p (from + x) (omega arith)))
    go false p = p

pub refused_as : (rows : Rows) (keys : List ℕ) (count : ℕ) (results : Results ℕ) → every (passes_at rows count) count ≡ false → TriedAs rows keys count results false results
refused_as rows keys count results fails = record { all_pass = sym fails; taken = λ p. clash p; refused = λ p. refl }

-- where all ask for more than there is, the lowest fails
pub overfull_fails : (rows : Rows) (count : ℕ) → RowsFit rows count → 0 < count → whole < (line_in rows count 0 1_000_000).slope + min 0 1 → every (passes_at rows count) count ≡ false
overfull_fails rows count fit some over =
    let lowest = count - 1 in
    let same : lowest + 1 ≡ count = omega (arith, some) in
    let fit_same = subst (RowsFit rows) (sym same) fit in
    let blocked = blocking_in rows count lowest in
    let more : whole < (line_in rows (lowest + 1) 0 1_000_000).slope + min blocked 1 = omega (arith, over, ap (λ (n : ℕ). (line_in rows n 0 1_000_000).slope) same) in
    every_stop (passes_at rows count) count lowest (omega (arith, some)) (fails_told (verdict_at rows count lowest) (unmet_fails rows lowest fit_same blocked (overfull_open rows lowest fit_same blocked more)))

-- the others tested, higher and lower
module _ (rows : Rows) (keys : List ℕ) (count newcomer : ℕ) (results : Results ℕ) (inside : newcomer < count) (first : ℕ) (upto : first ≤ newcomer) (shields : (h : ℕ) → h < first → Shielded rows count newcomer h)
    (p₁ : Bool) (results₁ : Results ℕ) (one : TestedFrom rows keys count first newcomer results p₁ results₁) where
  pub higher_fails : p₁ ≡ false → OthersTested rows keys count newcomer results false results₁
  higher_fails p =
      record {
        first = first;
        upto = upto;
        shields = shields;
        fails = λ x. every-part (passes_at rows count) count first (newcomer - first) (omega (arith, inside, upto)) (sym one.all_pass ∙ p);
        between = results₁;
        higher = λ x. clash x;
        lower = λ x. clash x;
      }

  pub lower_tested : (p₂ : Bool) (results₂ : Results ℕ) → p₁ ≡ true → TestedFrom rows keys count (newcomer + 1) count results₁ p₂ results₂ → OthersTested rows keys count newcomer results p₂ results₂
  lower_tested p₂ results₂ p two =
      record {
        first = first;
        upto = upto;
        shields = shields;
        fails = λ x. every-part (passes_at rows count) count (newcomer + 1) (count - (newcomer + 1)) (omega (arith, inside)) (sym two.all_pass ∙ x);
        between = results₁;
        higher = λ x. subst (λ (b : Bool). TestedFrom rows keys count first newcomer results b results₁) p one;
        lower = λ x. subst (λ (b : Bool). TestedFrom rows keys count (newcomer + 1) count results₁ b results₂) x two;
      }

module _ (rows : Rows) (keys : List ℕ) (count newcomer : ℕ) (results : Results ℕ) (inside : newcomer < count) (known : KnownBefore rows keys count newcomer results)
    (t : Tested) (is : TestedAs rows newcomer (blocking_in rows count newcomer) t) where
  pub newcomer_fails : t.worst ≡ None → TriedAs rows keys count results false results
  newcomer_fails p = refused_as rows keys count results (every_stop (passes_at rows count) count newcomer inside (fails_told (verdict_at rows count newcomer) (sym is.worst ∙ p)))

module _ (rows : Rows) (keys : List ℕ) (count newcomer : ℕ) (results : Results ℕ) (inside : newcomer < count) (known : KnownBefore rows keys count newcomer results)
    (t : Tested) (is : TestedAs rows newcomer (blocking_in rows count newcomer) t) (worst : ℕ) (told : t.worst ≡ Some worst) where
  abbrev pub results_first : Results ℕ
  results_first = with_result results (number_at keys newcomer) t.last worst

  pub bounds_first : Bounds rows keys count results_first.lasts
  bounds_first = bounds_put rows keys count results.lasts newcomer t.last known.apart inside is.near is.unmet known.bounds

  pub places_first : length results_first.worsts ≡ most_tasks
  places_first = length-set results.worsts (number_at keys newcomer) worst ∙ known.places

  module _ (results₂ : Results ℕ) (p₂ : Bool) (others : OthersTested rows keys count newcomer results_first p₂ results₂) where
    pub others_fail : p₂ ≡ false → TriedAs rows keys count results false results
    others_fail p = refused_as rows keys count results (others.fails p)

    module _ (q : p₂ ≡ true) where
      abbrev first : ℕ
      first = others.first

      abbrev results₁ : Results ℕ
      results₁ = others.between

      abbrev one : TestedFrom rows keys count first newcomer results_first true results₁
      one = others.higher q

      abbrev two : TestedFrom rows keys count (newcomer + 1) count results₁ true results₂
      two = others.lower q

      -- those up to the newcomer keep what is known of them
      kept_below : (h : ℕ) → h ≤ newcomer → of_rank keys results₂.worsts h ≡ of_rank keys results₁.worsts h
      kept_below h l = rank_kept keys count (newcomer + 1) count results₁.worsts results₂.worsts known.apart (omega arith) two.other_worsts h (omega (arith, l, inside)) (λ r f u e. omega (arith, f, e, l))

      -- and so do those that were not tested with the higher
      kept_above : (h : ℕ) → h < count → ((r : ℕ) → first ≤ r → r < newcomer → r ≢ h) → of_rank keys results₁.worsts h ≡ of_rank keys results_first.worsts h
      kept_above h l outside = rank_kept keys count first newcomer results_first.worsts results₁.worsts known.apart (omega (arith, inside)) one.other_worsts h l outside

      stand_from : (h : ℕ) → passes_at rows count h ≡ true → of_rank keys results₂.worsts h ≡ response_of (verdict_at rows count h) → verdict_at rows count h ≡ Ok (of_rank keys results₂.worsts h)
      stand_from h p e = passes_is (verdict_at rows count h) p ∙ ap Ok (sym e)

      only_all : (before after₁ after₂ : List ℕ) (v : ℕ) → OnlyRanks keys first newcomer (set before (number_at keys newcomer) v) after₁ → OnlyRanks keys (newcomer + 1) count after₁ after₂ → OnlyRanks keys 0 count before after₂
      only_all before after₁ after₂ v a b j outside =
          b j (λ r f u. outside r (omega arith) u) ∙ a j (λ r f u. outside r (omega arith) (omega (arith, u, inside)))
          ∙ get_or-set_other before (number_at keys newcomer) j v 0 (λ e. outside newcomer (omega arith) inside (sym e))

      stands_first : (h : ℕ) → h < first → verdict_at rows count h ≡ Ok (of_rank keys results₂.worsts h)
      stands_first h l =
          known.stands h (omega (arith, l, others.upto)) (others.shields h l)
          ∙ ap Ok (sym (kept_below h (omega (arith, l, others.upto)) ∙ kept_above h (omega (arith, l, others.upto, inside)) (λ r f u e. omega (arith, f, e, l)) ∙ put_others keys results.worsts newcomer worst count h known.apart inside (omega (arith, l, others.upto, inside)) (λ e. omega (arith, e, l, others.upto))))

      stands_higher : (h : ℕ) → first ≤ h → h < newcomer → verdict_at rows count h ≡ Ok (of_rank keys results₂.worsts h)
      stands_higher h f l =
          let here : first + (h - first) ≡ h = omega arith in
          stand_from h (sym (ap (passes_at rows count) here) ∙ every_at (λ x. passes_at rows count (first + x)) (newcomer - first) (sym one.all_pass) (h - first) (omega (arith, f, l)))
          (kept_below h (omega (arith, l)) ∙ one.responses refl h f l)

      stands_newcomer : verdict_at rows count newcomer ≡ Ok (of_rank keys results₂.worsts newcomer)
      stands_newcomer =
          stand_from newcomer (passes_told (verdict_at rows count newcomer) worst (sym is.worst ∙ told))
          (kept_below newcomer (omega arith) ∙ kept_above newcomer inside (λ r f u e. omega (arith, u, e)) ∙ put_own keys results.worsts newcomer worst known.places ∙ response_told (verdict_at rows count newcomer) worst (sym is.worst ∙ told))

      stands_lower : (h : ℕ) → newcomer < h → h < count → verdict_at rows count h ≡ Ok (of_rank keys results₂.worsts h)
      stands_lower h f l =
          let here : newcomer + 1 + (h - (newcomer + 1)) ≡ h = omega arith in
          stand_from h (sym (ap (passes_at rows count) here) ∙ every_at (λ x. passes_at rows count (newcomer + 1 + x)) (count - (newcomer + 1)) (sym two.all_pass) (h - (newcomer + 1)) (omega (arith, f, l)))
          (two.responses refl h (omega (arith, f)) l)

      stands_all : (h : ℕ) → h < count → verdict_at rows count h ≡ Ok (of_rank keys results₂.worsts h)
      stands_all h l = elim (dec_lt h first) [
        | yes before ↦ stands_first h before
        | no later ↦ elim (dec_lt h newcomer) [
          | yes higher ↦ stands_higher h (omega (arith, later)) higher
          | no not_higher ↦ elim (ℕ_discrete newcomer h) [
            | yes same ↦ subst (λ (x : ℕ). verdict_at rows count x ≡ Ok (of_rank keys results₂.worsts x)) same stands_newcomer
            | no other ↦ stands_lower h (omega (arith, not_higher, other)) l
          ]
        ]
      ]

      pub all_stand : TriedAs rows keys count results true results₂
      all_stand =
          record {
            all_pass = sym (every_all (passes_at rows count) count (λ h l. ap does_pass (stands_all h l)));
            taken = λ x. record {
              bounds = two.bounds;
              places = two.places;
              stand = stands_all;
              other_lasts = only_all results.lasts results₁.lasts results₂.lasts t.last one.other_lasts two.other_lasts;
              other_worsts = only_all results.worsts results₁.worsts results₂.worsts worst one.other_worsts two.other_worsts;
            };
            refused = λ x. clash (sym x);
          }
