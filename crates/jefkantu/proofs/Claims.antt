-- The claims of specs/Claims.antt, proved.
use mathlib.Core.Path.{sym, ◌∙◌}
use lib.ListN.{length}
use Rattle.jefkantu.specs.Word.{WordTells}
use Rattle.jefkantu.specs.Claims.{ReadUnique, WriteUnique, PlanUnique, CheckUnique, RunUnique, ReadFormUnique, WriteFormUnique, WriteSetUnique, ReadSetUnique, PartitionSetsUnique, LateUnique, ReadTells, WriteTells, PlanTells, CheckTells, RunTells, ReadFormTells, WriteFormTells, WriteSetTells, ReadSetTells, PartitionSetsTell, LateTells}
use Rattle.jefkantu.proofs.Word.{word_tells}
use Rattle.jefkantu.proofs.Places.{read_fits, write_fits, plan_fits, check_fits, run_fits, read_text_fits, write_text_fits}
use Rattle.jefkantu.proofs.Listed.{list_fits, write_list_fits, sets_fit}
use Rattle.jefkantu.proofs.Shown.{late_fits}

pub read_unique : ReadUnique
unfolding ReadUnique
read_unique order numbers word other after others r s = (r.answered ∙ sym s.answered, r.written ∙ sym s.written)

pub write_unique : WriteUnique
unfolding WriteUnique
write_unique processors c output word other after others r s = (r.answered ∙ sym s.answered, r.written ∙ sym s.written)

pub plan_unique : PlanUnique
unfolding PlanUnique
plan_unique order output word other after others r s = (r.answered ∙ sym s.answered, r.written ∙ sym s.written)

pub check_unique : CheckUnique
unfolding CheckUnique
check_unique order build word other r s = r ∙ sym s

pub run_unique : RunUnique
unfolding RunUnique
run_unique order build script output word other after others r s = (r.answered ∙ sym s.answered, r.written ∙ sym s.written)

pub read_form_unique : ReadFormUnique
unfolding ReadFormUnique
read_form_unique processors text output word other after others r s = (r.answered ∙ sym s.answered, r.written ∙ sym s.written)

pub write_form_unique : WriteFormUnique
unfolding WriteFormUnique
write_form_unique order output word other after others r s = (r.answered ∙ sym s.answered, r.written ∙ sym s.written)

pub write_set_unique : WriteSetUnique
unfolding WriteSetUnique
write_set_unique set output word other after others r s = (r.answered ∙ sym s.answered, r.written ∙ sym s.written)

pub read_set_unique : ReadSetUnique
unfolding ReadSetUnique
read_set_unique text set word other after others r s = (r.answered ∙ sym s.answered, r.written ∙ sym s.written)

pub partition_sets_unique : PartitionSetsUnique
unfolding PartitionSetsUnique
partition_sets_unique order build output word other after others r s = (r.answered ∙ sym s.answered, r.written ∙ sym s.written)

pub late_unique : LateUnique
unfolding LateUnique
late_unique order build output word other after others r s = (r.answered ∙ sym s.answered, r.written ∙ sym s.written)

pub read_tells : ReadTells
unfolding ReadTells WordTells
read_tells order numbers word after r = word_tells _ (read_fits order) word r.answered

pub write_tells : WriteTells
unfolding WriteTells WordTells
write_tells processors c output word after r = word_tells _ (write_fits processors c (length output)) word r.answered

pub plan_tells : PlanTells
unfolding PlanTells WordTells
plan_tells order output word after r = word_tells _ (plan_fits order (length output)) word r.answered

pub check_tells : CheckTells
unfolding CheckTells WordTells
check_tells order build word r = word_tells _ (check_fits order build) word r

pub run_tells : RunTells
unfolding RunTells WordTells
run_tells order build script output word after r = word_tells _ (run_fits order build script (length output)) word r.answered

pub read_form_tells : ReadFormTells
unfolding ReadFormTells WordTells
read_form_tells processors text output word after r = word_tells _ (read_text_fits processors text (length output)) word r.answered

pub write_form_tells : WriteFormTells
unfolding WriteFormTells WordTells
write_form_tells order output word after r = word_tells _ (write_text_fits order (length output)) word r.answered

pub write_set_tells : WriteSetTells
unfolding WriteSetTells WordTells
write_set_tells set output word after is r = word_tells _ (write_list_fits set (length output) is) word r.answered

pub read_set_tells : ReadSetTells
unfolding ReadSetTells WordTells
read_set_tells text set word after r = word_tells _ (list_fits text) word r.answered

pub partition_sets_tell : PartitionSetsTell
unfolding PartitionSetsTell WordTells
partition_sets_tell order build output word after r = word_tells _ (sets_fit order build (length output)) word r.answered

pub late_tells : LateTells
unfolding LateTells WordTells
late_tells order build output word after r = word_tells _ (late_fits order build (length output)) word r.answered
