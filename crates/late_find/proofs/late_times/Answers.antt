use Rattle.std.proofs.Common.{◌≡◌, ℕ, ◌+◌, ◌*◌, min, Option, sym, ap, ◌∙◌, subst, arith}
use mathlib.Core.Path.{fun_ext, subst₂}
use Rattle.model.specs.Limits.{task_of}
use Rattle.demand.specs.Releases.{period_of}
use Rattle.demand.specs.Test.{blocking, higher_work}
use Rattle.demand.proofs.Demands.{blocking_most}
use Rattle.late_find.specs.Found.{LateOver, FirstLateOver, TimedBy, besides}
use Rattle.late_find.proofs.Asked.{higher_fit, higher_asked}
use Rattle.late_find.proofs.Blocker.{blocking_is}
use Rattle.late_find.proofs.Named.{late_over}
use Rattle.late_find.proofs.Times.{late_times}
use Rattle.late_find.proofs.late_times.Goals as goal

pub late_job-job-requires-clause-rows_fit : goal.late_job-job-requires-clause-rows_fit
late_job-job-requires-clause-rows_fit c =
    higher_fit c.args.order.now c.args.build.now c.requires.limits c.args.named c.requires.known _ _ _ _ c.higher_of-count.result c.keys_by_number-keys.ensures c.row_table-by_number.ensures c.higher_of-count.ensures c.fill_rows.ensures

pub late_job-job-requires-clause-small : goal.late_job-job-requires-clause-small
late_job-job-requires-clause-small c =
    let o = c.args.order.now in
    let b = c.args.build.now in
    let blocked = blocking_is o b c.requires.limits c.args.named c.requires.known _ _ c.longest_below-longest.result c.keys_by_number-keys.ensures c.row_table-by_number.ensures c.longest_below-longest.ensures in
    omega (arith, c.blocking_of-blocking.ensures, blocked, blocking_most o (besides b c.args.named) c.args.named c.requires.limits)

pub late_job-job-requires-clause-late : goal.late_job-job-requires-clause-late
late_job-job-requires-clause-late c =
    let o = c.args.order.now in
    let b = c.args.build.now in
    let i = c.args.named in
    let blocked = c.blocking_of-blocking.ensures ∙ blocking_is o b c.requires.limits i c.requires.known _ _ c.longest_below-longest.result c.keys_by_number-keys.ensures c.row_table-by_number.ensures c.longest_below-longest.ensures in
    let asked = fun_ext (higher_asked o b c.requires.limits i c.requires.known _ _ _ _ c.higher_of-count.result c.keys_by_number-keys.ensures c.row_table-by_number.ensures c.higher_of-count.ensures c.fill_rows.ensures) in
    subst (λ (work : ℕ → ℕ). LateOver work c.blocking_of-blocking.result (task_of o i)) (sym asked)
    (subst (λ (B : ℕ). LateOver (higher_work o (besides b i) i) B (task_of o i)) (sym blocked) (late_over o (besides b i) i c.requires.limits c.requires.known c.requires.late))

pub returns : goal.returns
returns c =
    let o = c.args.order.now in
    let b = c.args.build.now in
    let i = c.args.named in
    let q = c.late_job-job.result.number in
    let w = c.late_job-job.result.start in
    let blocked = c.blocking_of-blocking.ensures ∙ blocking_is o b c.requires.limits i c.requires.known _ _ c.longest_below-longest.result c.keys_by_number-keys.ensures c.row_table-by_number.ensures c.longest_below-longest.ensures in
    let asked = fun_ext (higher_asked o b c.requires.limits i c.requires.known _ _ _ _ c.higher_of-count.result c.keys_by_number-keys.ensures c.row_table-by_number.ensures c.higher_of-count.ensures c.fill_rows.ensures) in
    let first = subst (λ (B : ℕ). FirstLateOver (higher_work o (besides b i) i) B (task_of o i) q w) blocked
    (subst (λ (work : ℕ → ℕ). FirstLateOver work c.blocking_of-blocking.result (task_of o i) q w) asked c.late_job-job.ensures) in
    let begins : c.min-begin.result ≡ min (blocking o (besides b i) i) 1 = c.min-begin.ensures ∙ ap (λ (x : ℕ). min x 1) blocked in
    let timed = subst₂ (λ (begin : ℕ) (blocker : Option ℕ). TimedBy c.keys_by_number-keys.result o.tasks (record { named = i; begin = begin; last = begin + q * period_of o i; start = begin + w; blocker = blocker }) c.times_by.result)
    begins c.blocker_of.ensures c.times_by.ensures in
    late_times o b i c.requires _ _ c.longest_below-longest.result c.keys_by_number-keys.ensures c.row_table-by_number.ensures c.longest_below-longest.ensures q w first c.times_by.result timed
