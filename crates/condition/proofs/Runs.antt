-- Every finish tick that an accepted run writes is in time: the job that the machine finishes then is one of condition 3's.
use Rattle.std.specs.Prelude.{Ok}
use Prim.Native.Nat.{ℕ, ◌<◌}
use mathlib.Core.Path.{◌≡◌, sym, subst}
use mathlib.Core.List.{List}
use native.Mathlib.Omega.{arith}
use lib.ListN.{length, get_or}
use Rattle.model.specs.Kinds.{Answer}
use Rattle.order.specs.Order.{order_at}
use Rattle.build.specs.Build.{build_at}
use Rattle.machine.specs.Pattern.{record_of, pattern_of}
use Rattle.machine.specs.Box.{Finishes}
use Rattle.machine.proofs.Box.{finishes_once}
use Rattle.busy.proofs.Passing.{records_are_in_time}
use Rattle.inspect.proofs.Claims.{done_accepts}
use Rattle.script.specs.Script.{records_in, script_of}
use Rattle.script.proofs.Records.{script_length_lem}
use Rattle.run.specs.Run.{Ran}
use Rattle.run.proofs.Claims.{done_parts, writes_finishes}
use Rattle.condition.specs.Runs.{FinishedInTime, RunsInTime}

module _ (order build script output : List ℕ) (count : ℕ) (after : List ℕ) (ran : Ran order build script output (Ok count) after) where
  in_time_lem : (i : ℕ) → i < count → FinishedInTime order build (record_of (script_of script) i) (get_or after i 0)
  unfolding Finishes
  in_time_lem i below =
      let o = order_at order in
      let b = build_at build in
      let r = record_of (script_of script) i in
      let parts = done_parts order build script (length output) (sym ran.answers) in
      let accepted = done_accepts order build parts.0 in
      let legal = parts.1.legal in
      let written = writes_finishes order build script output count after ran in
      let record-there : i < records_in script = omega (arith, written.counts) in
      let here : i < length (script_of script) = omega (arith, script_length_lem script) in
      let f = records_are_in_time o b (script_of script) accepted.limits legal i _ here (accepted.passing r.task (legal.known i here)) in
      let same : f.finish ≡ get_or after i 0 = finishes_once o b (pattern_of (script_of script)) r.task r.tick f.finish (get_or after i 0) f.finishes (written.finishes i record-there) in
      record { by_deadline = omega (arith, same, f.in_deadline); within-response = omega (arith, same, f.in_response) }

pub runs_in_time : RunsInTime
runs_in_time order build script output answer after count ran e =
    in_time_lem order build script output count after (subst (λ (x : Answer). Ran order build script output x after) e ran)
