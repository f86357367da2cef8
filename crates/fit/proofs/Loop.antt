-- The turns, as the code takes them: before, in and after its loop.
use Rattle.std.specs.Prelude.{Result, Ok, Err, Option, None, is_none}
use mathlib.Core.Path.{◌≡◌, refl, sym, ap, ◌∙◌, subst}
use mathlib.Core.Bool.{true, not}
use Prim.Native.Nat.{ℕ, suc, ◌+◌, ◌-◌, ◌≤◌, ◌<◌}
use native.Mathlib.Omega.{arith}
use Rattle.laws.proofs.Every.{clash}
use Rattle.laws.proofs.Filled.{get_or_alike}
use Rattle.model.specs.declared.order.Order.{Order}
use Rattle.model.specs.declared.answer.Refusal.{Refusal}
use Rattle.model.specs.Limits.{most_tasks}
use Rattle.model.specs.Rules.{WithinLimits}
use Rattle.roster.proofs.Lining.{lined_none}
use Rattle.turns.specs.Turns.{home_at, is_unplaced}
use Rattle.fitting.specs.declared.Placing.{Placing}
use Rattle.fitting.specs.Steps.{nothing_placed, told, turn_taken, turns_taken, first_fit}
use Rattle.fitting.proofs.Turning.{told_on, steps_none, steps_on, steps_end}
use Rattle.fitting.proofs.Claims.{start}
use Rattle.placing.specs.declared.TaskLine.{TaskLine}
use Rattle.placing.specs.Known.{no_line}
use Rattle.fit.specs.Taking.{Lines, Taken, AllTaken}

module _ (o : Order) (limits : WithinLimits o) where
  -- what is known between turns: the lines, and what the other turns come to
  pub record Between (s : Placing) (line : TaskLine) : Type 0 where
    pub upto : line.placed ≤ o.tasks
    pub lines : Lines o s line
    pub others : turns_taken o (o.tasks - line.placed) s ≡ first_fit o

  waits : (j : ℕ) → j < o.tasks → is_unplaced nothing_placed.homes j ≡ true
  unfolding is_unplaced
  waits j l = ap (λ (home : Option ℕ). is_none home) (get_or_alike most_tasks j None)

  pub at_first : (s : Placing) (line : TaskLine) → s ≡ nothing_placed → line ≡ no_line → Between s line
  unfolding first_fit
  at_first s line e none =
      subst (λ (x : TaskLine). Between s x) (sym none)
      (subst (λ (x : Placing). Between x no_line) (sym e)
      (record {
        upto = omega arith;
        lines = record {
          stands = start o limits;
          key_places = refl;
          in_line = lined_none o limits (λ j. not (is_unplaced nothing_placed.homes j)) (home_at nothing_placed.homes) no_line.keys (λ j l. ap not (waits j l));
          known = record {
            last_places = refl;
            worst_places = refl;
            homes_there = λ j l p. clash (sym p ∙ waits j l);
            waiting = λ j l u. get_or_alike most_tasks j 0;
            near = λ j l. subst (λ (x : ℕ). x ≤ 2_000_000) (sym (get_or_alike {A = ℕ} most_tasks j 0)) (omega arith);
            unclosed = λ j l p. clash (sym p ∙ waits j l);
            passing = λ j l p. clash (sym p ∙ waits j l);
          };
        };
        others = ap (λ (k : ℕ). turns_taken o k nothing_placed) (omega arith);
      }))

  module _ (s : Placing) (line : TaskLine) (is : Between s line) where
    pub all_done : o.tasks ≤ line.placed → AllTaken o (Ok s) line
    all_done le =
        let all : line.placed ≡ o.tasks = omega (arith, is.upto) in
        let none : o.tasks - line.placed ≡ 0 = omega arith in
        record {
          answer = ap told (sym (steps_none o s) ∙ ap (λ (k : ℕ). turns_taken o k s) (sym none) ∙ is.others);
          lines = λ t done. (let same : s ≡ t = cc done in subst (λ (x : Placing). Lines o x line) same is.lines);
          all = λ t done. all;
        }

    module _ (early : line.placed < o.tasks) (r : Result Placing Refusal) (after : TaskLine) (taken : Taken o s line r after) where
      left : o.tasks - line.placed ≡ suc (o.tasks - (line.placed + 1))
      left = omega arith

      pub one_refused : (cause : Refusal) → r ≡ Err cause → AllTaken o (Err cause) after
      one_refused cause e =
          record {
            answer = sym (steps_end o (o.tasks - (line.placed + 1)) s cause (sym taken.answer ∙ e)) ∙ ap told (ap (λ (k : ℕ). turns_taken o k s) (sym left) ∙ is.others);
            lines = λ t done. absurd (cc done);
            all = λ t done. absurd (cc done);
          }

      pub one_more : (t : Placing) → r ≡ Ok t → Between t after
      one_more t e =
          let more = taken.one_more t e in
          record {
            upto = omega (arith, more);
            lines = taken.lines t e;
            others = ap (λ (n : ℕ). turns_taken o (o.tasks - n) t) more
                ∙ sym (steps_on o (o.tasks - (line.placed + 1)) s t (told_on (turn_taken o s) t (sym taken.answer ∙ e))) ∙ ap (λ (k : ℕ). turns_taken o k s) (sym left) ∙ is.others;
          }
