-- A run that is lent the counted front of the output alone is a run of the whole.
use Rattle.std.specs.Prelude.{Ok, Err}
use Prim.Native.Nat.{ℕ, ◌≤◌, ◌<◌, min}
use mathlib.Core.Path.{◌≡◌, refl, sym, ap, ◌∙◌}
use mathlib.Core.List.{List, [], ◌++◌, append-nil}
use native.Mathlib.Omega.{arith}
use borrow.Author.Tests.{le-leb}
use native.Mathlib.Decide.{dec_lt}
use lib.ListN.{length, take, drop, take-append-drop, drop_of_length-le}
use lib.Seq.{length-take-le, take_all}
use Rattle.model.specs.declared.order.Order.{Order}
use Rattle.model.specs.declared.build.Build.{Build}
use Rattle.model.specs.Kinds.{Answer}
use Rattle.model.specs.Answer.{output_after}
use Rattle.model.specs.Rules.{first_broken}
use Rattle.model.proofs.Output.{after_refused, after_done}
use Rattle.model.proofs.Rules.{done_count}
use Rattle.script.specs.Script.{records_in, script_of, script_rules}
use Rattle.finish.specs.Finish.{finish_ticks}
use Rattle.run.specs.Run.{RanScript}

-- 46 asks no more than a place for each record
enough : (o : Order) (script : List ℕ) (one other count : ℕ) → records_in script ≤ one → records_in script ≤ other
    → first_broken count (script_rules o script one) ≡ first_broken count (script_rules o script other)
unfolding first_broken script_rules
enough o script one other count a b = rw (le-leb (records_in script) one a, le-leb (records_in script) other b) refl

module _ (o : Order) (b : Build) (script output : List ℕ) (k : ℕ) (is : k ≡ records_in script) (within : k ≤ length output) where
  abbrev ticks : List ℕ
  ticks = finish_ticks o b (script_of script)

  front_length : length (take k output) ≡ k
  front_length = length-take-le k output (omega arith)

  nothing_behind : drop k (take k output) ≡ []
  nothing_behind = drop_of_length-le (take k output) {i = k} (omega (arith, front_length))

  joins : (answer : Answer) (front : List ℕ) → answer ≡ first_broken (records_in script) (script_rules o script (length (take k output))) → front ≡ output_after answer ticks (take k output)
      → front ++ drop k output ≡ output_after answer ticks output
  joins (Err cause) front a e =
      ap (λ (xs : List ℕ). xs ++ drop k output) (e ∙ after_refused cause ticks (take k output)) ∙ take-append-drop k output ∙ sym (after_refused cause ticks output)
  joins (Ok count) front a e =
      let same : count ≡ k = done_count (records_in script) (script_rules o script (length (take k output))) (sym a) ∙ sym is in
      ap (λ (xs : List ℕ). xs ++ drop k output) (e ∙ after_done count ticks (take k output) ∙ ap (λ (n : ℕ). ticks ++ drop n (take k output)) same ∙ ap (λ (xs : List ℕ). ticks ++ xs) nothing_behind ∙ append-nil ticks)
      ∙ ap (λ (n : ℕ). ticks ++ drop n output) (sym same) ∙ sym (after_done count ticks output)

  pub ran_front : (answer : Answer) (front : List ℕ) → RanScript o b script (take k output) answer front → RanScript o b script output answer (front ++ drop k output)
  ran_front answer front ran =
      record {
        script_answer = ran.script_answer ∙ enough o script (length (take k output)) (length output) (records_in script) (omega (arith, front_length, is)) (omega (arith, is));
        script_output = joins answer front ran.script_answer ran.script_output;
      }

-- the same where the whole output is lent
pub ran_lent : (o : Order) (b : Build) (script output : List ℕ) (answer : Answer) (front : List ℕ) (k : ℕ) → k ≡ min (length output) (records_in script)
    → RanScript o b script (take k output) answer front → RanScript o b script output answer (front ++ drop k output)
ran_lent o b script output answer front k is ran = go (dec_lt (length output) (records_in script))
  where
    go : Dec (length output < records_in script) → RanScript o b script output answer (front ++ drop k output)
    go (no n) = ran_front o b script output k (omega arith) (omega arith) answer front ran
    go (yes l) =
        let all : length output ≤ k = omega arith in
        let whole : take k output ≡ output = take_all k output all in
        let none : drop k output ≡ [] = drop_of_length-le output {i = k} all in
        rw (none, append-nil front) (rw whole at ran)
