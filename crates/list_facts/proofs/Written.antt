-- What is written: the runs of a set, as its list and in one way.
use Rattle.std.specs.Prelude.{Ok}
use mathlib.Core.Path.{◌≡◌, refl, sym, ap, ◌∙◌, subst}
use mathlib.Core.List.{List, []}
use Prim.Native.Nat.{ℕ}
use lib.ListN.{length, take, drop}
use lib.Seq.{take_at}
use Rattle.model.specs.Kinds.{Answer}
use Rattle.model.specs.Answer.{output_after}
use Rattle.model.specs.Rules.{first_broken, OneRightAnswer, TestsTell, room_rules}
use Rattle.model.proofs.Rules.{room_tells, one_right_answer}
use Rattle.model.proofs.Wrote.{wrote_count, wrote_front, wrote_only}
use Rattle.list_form.specs.Items.{items_set, IsList}
use Rattle.list_form.specs.Runs.{runs_of}
use Rattle.list_form.specs.ListText.{list_text}
use Rattle.list_form.proofs.Lists.{list_once}
use Rattle.list_form.proofs.Runs.{all_runs, runs_rise, runs_list}
use Rattle.list_form.proofs.Once.{runs_once}
use Rattle.list_form.proofs.Listed.{items_set_is_set, set_is_listed, runs_mean}
use Rattle.list_form.proofs.ListText.{list_is_list}
use Rattle.list_form.proofs.Short.{list_short}
use Rattle.list_out.specs.Write.{write_list_rules, write_list_answer, WritesList}
use Rattle.list_facts.specs.Claims.{SetIsListed, WritesRuns, RunsOnce, WrittenListShort, SameBytesExactly, OneListWriting, WriteListKeeps, WriteListUnique}

pub set_is_listed_exactly : SetIsListed
set_is_listed_exactly items right = (items_set_is_set items, set_is_listed items right)

pub writes_runs : WritesRuns
writes_runs set is_set = (record { runs = all_runs set is_set; rising = runs_rise set is_set; all = runs_list set is_set }, list_is_list set is_set)

pub one_row : RunsOnce
one_row set one other written written' =
    runs_once set one other 0 0 written.runs written'.runs written.rising written'.rising
    (λ k listed. (written'.all k).0 ((written.all k).1 listed)) (λ k listed. (written.all k).0 ((written'.all k).1 listed))

pub written_list_short : WrittenListShort
written_list_short = list_short

pub same_bytes_exactly : SameBytesExactly
same_bytes_exactly one other is_set is-set' = (
  λ same.
      (let runs : runs_of one ≡ runs_of other = list_once (list_text one) (runs_of one) (runs_of other) (list_is_list one is_set) (subst (λ text. IsList text (runs_of other)) (sym same) (list_is_list other is-set')) in
      sym (runs_mean one is_set) ∙ ap items_set runs ∙ runs_mean other is-set'),
  λ same. ap list_text same,
)

write_list_tells : (set room : ℕ) → TestsTell (write_list_rules set room)
unfolding write_list_rules
write_list_tells set room = room_tells (length (list_text set)) room

pub one_list_writing : OneListWriting
unfolding OneRightAnswer write_list_answer
one_list_writing set room answer = one_right_answer _ (write_list_rules set room) (write_list_tells set room) answer

-- a list that is written
module _ (set : ℕ) (output : List ℕ) (answer : Answer) (after : List ℕ) (w : WritesList set output answer after) where
  answered_by : answer ≡ first_broken (length (list_text set)) (room_rules (length (list_text set)) (length output))
  unfolding write_list_answer write_list_rules
  answered_by = w.answered

  -- the counted front is the list
  pub list_front : (count : ℕ) → answer ≡ Ok count → take count after ≡ list_text set
  list_front count e =
      ap (take count) (wrote_front [] _ (list_text set) output answer after answered_by w.written count e)
      ∙ take_at (list_text set) (drop count output) count (sym (wrote_count [] _ (list_text set) output answer after answered_by w.written count e))

pub write_list_keeps : WriteListKeeps
write_list_keeps set output answer after w = wrote_only [] _ (list_text set) output answer after (answered_by set output answer after w) w.written refl

pub write_list_unique : WriteListUnique
write_list_unique set output one other after after' w v =
    let same : one ≡ other = w.answered ∙ sym v.answered in
    (same, w.written ∙ ap (λ (a : Answer). output_after a (list_text set) output) same ∙ sym v.written)
