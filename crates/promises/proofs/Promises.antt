-- Every promise is kept, by the theorem that its claim names.
use Rattle.order_facts.proofs.Facts.{one_reading, one_writing, refused_reads_zero, accepted_exactly, reading_gives_back, bytes_back, writes_only_counted_front, reading_unique, writing_unique}
use Rattle.text_facts.proofs.Once.{one_value, one_time, one_task, one_text}
use Rattle.text_facts.proofs.Read.{text_accepted_exactly, one_text_reading, read_text_keeps, read_text_unique}
use Rattle.text_facts.proofs.Refused.{lines_are, lines_refused_exactly, shape_refused_exactly, number_refused_exactly}
use Rattle.text_facts.proofs.Write.{one_text_writing, write_text_keeps, write_text_unique, text_of_order, short_text, no_leading_zeros}
use Rattle.text_facts.proofs.Back.{text_read_back}
use Rattle.text_facts.proofs.Cases.{cases}
use Rattle.sets.proofs.Claims.{same_processors_are}
use Rattle.list_facts.proofs.Read.{list_accepted_exactly, one_list, list_answers, read_list_unique}
use Rattle.list_facts.proofs.Refused.{list_refuses, length_refused_exactly, break_refused_exactly, over_refused_exactly, fall_refused_exactly}
use Rattle.list_facts.proofs.Written.{set_is_listed_exactly, writes_runs, one_row, written_list_short, same_bytes_exactly, one_list_writing, write_list_keeps, write_list_unique}
use Rattle.list_facts.proofs.Back.{list_read_back}
use Rattle.list_facts.proofs.Cases.{list_cases}
use Rattle.partition_sets.proofs.Claims.{sets_given_exactly, sets_right, sets_apart, one_sets_answer, sets_keep, sets_unique}
use Rattle.build_facts.proofs.Back.{length_right, reads_back}
use Rattle.build_facts.proofs.Forth.{writes_back}
use Rattle.demand.proofs.Meaning.{every_verdict_means, no_start_never}
use Rattle.demand.proofs.Membership.{every_alone_passes}
use Rattle.turns.proofs.Turns.{turn_before_means, next_means}
use Rattle.fitting.proofs.Accepts.{accepts_means}
use Rattle.fitting.proofs.Claims.{first_fit_places, first_fit_refuses, first_fit_ends}
use Rattle.fit.proofs.Built.{fitted_is_built}
use Rattle.plan.proofs.Claims.{one_plan_answer, plans_only_counted_front, refuses_where_fit_runs_out, sound_is_planned, planning_unique}
use Rattle.inspect.proofs.Claims.{done_exactly, one_check_answer, checking_unique}
use Rattle.agree.proofs.Agree.{planned_is_accepted}
use Rattle.script.proofs.Accepted.{rules_of_scripts}
use Rattle.script.proofs.Tells.{one_script_answer}
use Rattle.script.proofs.Bytes.{script_bytes_lem}
use Rattle.run.proofs.Claims.{run_done_exactly, one_run_answer, runs_only_front, writes_finishes, runs_isolated, empty_script, running_unique}
use Rattle.finish.proofs.Finish.{every_job_finishes, finish_tick_is_one}
use Rattle.condition.proofs.Kept.{accepted_is_kept}
use Rattle.condition.proofs.Runs.{runs_in_time}
use Rattle.critical.proofs.Blocker.{blocker_is_there}
use Rattle.critical.proofs.Legal.{critical_is_legal}
use Rattle.critical.proofs.Exact.{critical_is_exact}
use Rattle.critical.proofs.Late.{too_late_has_first, too_late_misses}
use Rattle.late.proofs.Answers.{shows_the_named}
use Rattle.late.proofs.Claims.{shown_exactly, one_late_answer, shows_only_front, showing_unique}
use Rattle.late.proofs.Box.{refused_late_is_late, written_is_late}
use Rattle.late.proofs.Exact.{worst_is_exact, exact_where_windows_close}
use Rattle.points.proofs.Points as table
use Rattle.points.proofs.Late.{p5_late}
use Rattle.promises.specs.Promises.{Condition1, Condition2, Condition3, OrderForm, ProcessorLists, LateFrame, Promises}

pub condition_1 : Condition1
condition_1 =
    record {
      read = one_reading;
      written = one_writing;
      planned = one_plan_answer;
      checked = one_check_answer;
      script = one_script_answer;
      run = one_run_answer;
      writer_keeps = writes_only_counted_front;
      planner_keeps = plans_only_counted_front;
      runner_keeps = runs_only_front;
      reader_clears = refused_reads_zero;
      one_reading = reading_unique;
      one_writing = writing_unique;
      one_plan = planning_unique;
      one_check = checking_unique;
      one_run = running_unique;
    }

pub condition_2 : Condition2
condition_2 =
    record {
      order_layout = accepted_exactly;
      order_back = bytes_back;
      written_back = reading_gives_back;
      build_length_lem = length_right;
      build_back = reads_back;
      build_bytes_lem = writes_back;
      script_bytes_lem = script_bytes_lem;
      turns = turn_before_means;
      next = next_means;
      takes = accepts_means;
      places = first_fit_places;
      refuses = first_fit_refuses;
      ends = first_fit_ends;
      build = fitted_is_built;
      test = every_verdict_means;
      starts = no_start_never;
      alone = every_alone_passes;
      sound = sound_is_planned;
      runs_out = refuses_where_fit_runs_out;
      check = done_exactly;
      agrees = planned_is_accepted;
      accepted_run = run_done_exactly;
      accepted_script = rules_of_scripts;
      finishes = writes_finishes;
      every-job = every_job_finishes;
      one_tick = finish_tick_is_one;
      isolated = runs_isolated;
      empty = empty_script;
    }

pub condition_3 : Condition3
condition_3 = record { any_build = accepted_is_kept; any_run = runs_in_time }

pub order_form : OrderForm
order_form =
    record {
      as_typed = text_accepted_exactly;
      one_value = one_value;
      one_time = one_time;
      one_task = one_task;
      one_text = one_text;
      read = one_text_reading;
      lines = lines_are;
      too_many = lines_refused_exactly;
      unshaped = shape_refused_exactly;
      over = number_refused_exactly;
      written = one_text_writing;
      text = text_of_order;
      digits = no_leading_zeros;
      longest = short_text;
      back = text_read_back;
      reader_keeps = read_text_keeps;
      writer_keeps = write_text_keeps;
      one_reading = read_text_unique;
      one_writing = write_text_unique;
      accident = cases;
    }

pub processor_lists : ProcessorLists
processor_lists =
    record {
      given = sets_given_exactly;
      partitions = sets_right;
      apart = sets_apart;
      same_set = same_processors_are;
      runs = writes_runs;
      one_row = one_row;
      longest = written_list_short;
      same_bytes = same_bytes_exactly;
      as_listed = list_accepted_exactly;
      its_set = set_is_listed_exactly;
      one_list = one_list;
      back = list_read_back;
      counts = list_answers;
      refuses = list_refuses;
      too_long = length_refused_exactly;
      broken = break_refused_exactly;
      over = over_refused_exactly;
      falling = fall_refused_exactly;
      written = one_list_writing;
      checked = one_sets_answer;
      writer_keeps = write_list_keeps;
      giver_keeps = sets_keep;
      one_reading = read_list_unique;
      one_writing = write_list_unique;
      one_giving = sets_unique;
      worked_out = list_cases;
    }

pub late_frame : LateFrame
late_frame =
    record {
      late = refused_late_is_late;
      given = shown_exactly;
      named = shows_the_named;
      written = written_is_late;
      blocker = blocker_is_there;
      first = too_late_has_first;
      legal = critical_is_legal;
      to_the_tick = critical_is_exact;
      misses = too_late_misses;
      worst = worst_is_exact;
      exact = exact_where_windows_close;
      refuses = one_late_answer;
      keeps = shows_only_front;
      one_showing = showing_unique;
      worked_out = p5_late;
    }

pub promises : Promises
promises = record { condition_1 = condition_1; condition_2 = condition_2; condition_3 = condition_3; order_form = order_form; processor_lists = processor_lists; late_frame = late_frame; points = table.points }
