-- The table, computed; that a window is missing is an argument.
use Rattle.std.specs.Prelude.{None}
use mathlib.Core.Path.{◌≡◌, refl}
use Prim.Native.Nat.{ℕ, ◌≤◌, ◌<◌}
use native.Mathlib.Omega.{arith}
use Rattle.laws.specs.Sums.{sum, largest}
use Rattle.laws.specs.Every.{every}
use Rattle.laws.specs.Joined.{joined}
use Rattle.search.specs.Smallest.{first_of, smallest}
use Rattle.bits.specs.Field.{bit_at, field}
use Rattle.bits.specs.Layout.{packed, record_bytes, numbers_at}
use Rattle.model.specs.declared.answer.Refusal.TheVariants.{OfOrder, OfCall}
use Rattle.model.specs.declared.answer.OrderCause.TheVariants.{Width, Period, RunTime}
use Rattle.model.specs.declared.answer.CallCause.TheVariants.{FirstFit}
use Rattle.model.specs.Limits.{cost}
use Rattle.model.specs.Rules.{first_broken, range_rules}
use Rattle.order.specs.Order.{header_of, task_fields, table_bytes, order_bytes, order_at, header_rules, spare_rules, layout_rules, order_rules, read_order}
use Rattle.build.specs.Build.{partition_bytes, member_bytes, build_bytes}
use Rattle.demand.specs.Priority.{outranks, higher, lower, rank}
use Rattle.demand.specs.Releases.{ceil_div, releases_in, releases_by, work_in, work_by, jobs}
use Rattle.demand.specs.Test.{first_met, blocking, window_demand, window, higher_work, start_demand, start, largest_found, response, worst, verdict}
use Rattle.demand.proofs.FirstMet.{met_never}
use Rattle.demand.proofs.Meaning.{verdict_none}
use Rattle.turns.specs.Turns.{is_unplaced, goes_before, turn_before, next_task}
use Rattle.fitting.specs.Steps.{living_in, member_passes, members_pass, accepts, lowest_accepting, opening, turn_taken, unless_refused, turns_taken, first_fit}
use Rattle.fit.specs.Recorded.{recorded_as, build_of, recorded, fitted_of}
use Rattle.points.specs.Sample.{sample_on, sample_order, sample_build_on, sample_build, single_build}
use Rattle.points.specs.Points.{alone, together, seven, Points}
use Rattle.points.proofs.Gives.{order_refused, fit_refused, plans_build, order_accepted}
use Rattle.points.proofs.Runs.{p9}

-- P8: eleven of every ten ticks are asked for
eight_asks : (t : ℕ) → 1 ≤ t → t < window_demand (alone (seven 5)) together 1 t
unfolding cost window_demand blocking largest lower higher outranks sum work_in releases_in ceil_div
eight_asks t h = omega arith

eight_window : window (alone (seven 5)) together 1 ≡ None
unfolding window
eight_window = met_never (window_demand (alone (seven 5)) together 1) 1 (λ t a b. eight_asks t a)

pub points : Points
unfolding sum largest every joined smallest first_of living_in outranks higher lower rank cost ceil_div releases_in releases_by work_in work_by jobs first_met blocking window_demand window higher_work start_demand start largest_found response worst verdict is_unplaced goes_before turn_before next_task member_passes members_pass accepts lowest_accepting opening turn_taken unless_refused turns_taken first_fit recorded_as build_of recorded fitted_of read_order first_broken order_rules layout_rules header_rules spare_rules range_rules order_at header_of task_fields field bit_at order_bytes table_bytes build_bytes record_bytes partition_bytes member_bytes packed numbers_at
points =
    record {
      p1 = record { order_bytes_lem = refl; build_bytes_lem = refl; gives = order_accepted _ _ refl (sample_build_on 4) refl };
      p2 = record { refused = fit_refused _ (sample_on 2) refl (OfCall (FirstFit 2)) refl; accepted = order_accepted _ _ refl (sample_build_on 3) refl };
      p3 = refl;
      p4 = record { first = refl; second = refl; third = refl; last_start = refl };
      p5 = record { third_window = refl; third_jobs = refl; third_first = refl; third_second = refl; third = refl };
      p6 = refl;
      p7 = record { first = refl; second = refl };
      p8 = record { first = refl; second_window = eight_window; second = verdict_none (alone (seven 5)) together 1 eight_window };
      p9 = p9 refl (plans_build sample_order (sample_on 4) refl (sample_build_on 4) refl sample_build (omega arith));
      p10 = record { accepted = order_accepted _ _ refl (single_build 4 10) refl; refused = order_refused _ (OfOrder (Width 0)) refl };
      p11 = record { accepted = order_accepted _ _ refl (single_build 1 10) refl; refused = order_refused _ (OfOrder (Period 0)) refl };
      p12 = record { accepted = order_accepted _ _ refl (single_build 1 10) refl; refused = order_refused _ (OfOrder (RunTime 0)) refl };
    }
