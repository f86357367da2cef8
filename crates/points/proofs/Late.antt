-- P5 as a late frame, computed.
use Rattle.std.specs.Prelude.{Ok}
use Prim.Native.Nat.{ℕ, ◌≤◌}
use mathlib.Core.Path.{◌≡◌, refl, sym, ap, ◌∙◌, subst₂}
use native.Mathlib.Omega.{arith}
use mathlib.Core.List.{List, [], ◌∷◌, ◌++◌}
use lib.ListN.{length, drop}
use Rattle.laws.specs.Sums.{sum, largest}
use Rattle.laws.specs.Every.{every}
use Rattle.laws.specs.Joined.{joined as laid}
use Rattle.search.specs.Smallest.{smallest, first_of}
use Rattle.bits.specs.Field.{bit_at, field}
use Rattle.bits.specs.Layout.{packed, record_bytes, numbers_at}
use Rattle.model.specs.declared.order.Order.{Order}
use Rattle.model.specs.declared.build.Build.{Build}
use Rattle.model.specs.declared.build.Release.{Release}
use Rattle.model.specs.Layouts.{script_length}
use Rattle.model.specs.Limits.{cost}
use Rattle.model.specs.Processors.{volume_of}
use Rattle.model.specs.Rules.{first_broken, range_rules}
use Rattle.model.proofs.Output.{after_done}
use Rattle.model.proofs.Rules.{pass_done}
use Rattle.order.specs.Order.{header_of, task_fields, table_bytes, order_bytes, order_at, header_rules, spare_rules, layout_rules, order_rules}
use Rattle.build.specs.Build.{build_header_of, partition_fields, member_fields, partition_bytes, member_bytes, build_bytes, build_at}
use Rattle.build.specs.Taken.{partitions_clear, members_clear}
use Rattle.demand.specs.Priority.{members_of, outranks, higher, lower, rank}
use Rattle.demand.specs.Releases.{ceil_div, releases_in, releases_by, work_in, work_by, jobs}
use Rattle.demand.specs.Test.{first_met, blocking, window_demand, window, higher_work, start_demand, start, largest_found, response, worst, verdict}
use Rattle.machine.specs.Step.{ended, released, of_members, joining, better, highest, replaced, oldest_starts, starts, starts_if_free, during_tick, passed, occupancy, step, state_before}
use Rattle.machine.specs.Pattern.{joins_at, pattern_of, LegalScript}
use Rattle.finish.specs.Finish.{used_up, finish_found, finish_of, finish_ticks}
use Rattle.inspect_layout.specs.Rules.{header_matches, build_layout_rules}
use Rattle.inspect_places.specs.Rules.{has_processor, taken_below, partition_right, place_rules}
use Rattle.inspect_members.specs.Rules.{wide_enough, width_rules, rank_rules}
use Rattle.inspect_tests.specs.Rules.{test_rules}
use Rattle.inspect.specs.Rules.{build_record_rules, build_rules, check_rules, check_answer}
use Rattle.comings.specs.Comings.{comes_at, coming_pattern}
use Rattle.comings.specs.Listed.{record_at, records_below}
use Rattle.critical.specs.Pattern.{longest_lower, blocks, begin, comes_from, comes_up_to}
use Rattle.critical.specs.Late.{late_job, late_start}
use Rattle.script.specs.Script.{script_bytes}
use Rattle.late.specs.Shown.{RefusedLate, late_task, script_showing, shown_script, show_rules, ShowsLate}
use Rattle.late.proofs.Named.{order_passes}
use Rattle.late.proofs.Answers.{shows_the_named, late_on, shown as in-room}
use Rattle.late.proofs.Box.{refused_late_is_late}
use Rattle.points.specs.Points.{alone, five}
use Rattle.points.specs.Late.{five_order, five_built, five_build, five_releases, P5Late}

shown : script_showing (alone (five 13)) five_built 2 ≡ five_releases
unfolding late_job late_start begin comes_from comes_up_to blocks longest_lower record_at records_below comes_at coming_pattern laid smallest first_of sum largest members_of outranks higher lower cost ceil_div releases_in releases_by work_in work_by first_met blocking higher_work start_demand start response
shown = refl

finish : finish_ticks (alone (five 13)) five_built five_releases ≡ 4 ∷ 8 ∷ 12 ∷ 16 ∷ 20 ∷ 28 ∷ 24 ∷ []
unfolding finish_ticks finish_of finish_found used_up smallest first_of state_before step during_tick starts_if_free ended passed starts oldest_starts occupancy highest better joining released of_members replaced members_of outranks pattern_of joins_at laid
finish = refl

order_read : order_at five_order ≡ alone (five 13)
unfolding order_at header_of task_fields order_bytes table_bytes record_bytes packed numbers_at laid field bit_at
order_read = refl

build_read : build_at five_build ≡ five_built
unfolding build_at build_header_of partition_fields member_fields build_bytes partition_bytes member_bytes record_bytes packed numbers_at laid field bit_at
build_read = refl

-- 1 to 26 hold, 27 to 30 of tasks 0 and 1, 27 and 28 of task 2
refused : RefusedLate five_order five_build 2
unfolding check_answer check_rules build_rules build_layout_rules build_record_rules place_rules width_rules rank_rules test_rules header_matches partitions_clear members_clear has_processor taken_below partition_right volume_of every wide_enough first_broken order_rules layout_rules header_rules spare_rules range_rules order_at header_of task_fields order_bytes table_bytes record_bytes packed numbers_at laid field bit_at build_at build_header_of partition_fields member_fields build_bytes partition_bytes member_bytes smallest first_of sum largest members_of outranks higher lower rank cost ceil_div releases_in releases_by work_in work_by jobs first_met blocking window_demand window higher_work start_demand start largest_found response worst verdict
refused = refl

-- what is shown for these bytes
shown_here : shown_script five_order five_build ≡ five_releases
shown_here =
    shows_the_named five_order five_build 2 refused
    ∙ ap (λ (o : Order). script_showing o (build_at five_build) 2) order_read
    ∙ ap (λ (b : Build). script_showing (alone (five 13)) b 2) build_read
    ∙ shown

gives : (output : List ℕ) → 42 ≤ length output → ShowsLate five_order five_build output (Ok 42) (script_bytes five_releases ++ drop 42 output)
gives output room =
    record {
      answered = sym (
          late_on five_order five_build (length output) 2 (pass_done 0 (order_rules five_order) (order_passes five_order five_build 2 refused)) (ap late_task refused)
          ∙ ap (λ (script : List Release). first_broken (script_length 1 (length script)) (show_rules script (length output))) shown_here
          ∙ in-room 42 five_releases (length output) (omega arith) room);
      written = sym (after_done 42 (script_bytes (shown_script five_order five_build)) output ∙ ap (λ (script : List Release). script_bytes script ++ drop 42 output) shown_here);
    }

legal : LegalScript (alone (five 13)) five_releases
legal = subst₂ LegalScript order_read (sym (shows_the_named five_order five_build 2 refused) ∙ shown_here) (refused_late_is_late five_order five_build 2 refused).legal

pub p5_late : P5Late
p5_late = record { refused = refused; shown = shown; gives = gives; legal = legal; finish = finish; late = refl }
