use mathlib.Core.Path.{◌≡◌, refl}
use Prim.Native.Nat.{ℕ, ◌/◌}
use mathlib.Core.List.{List}
use lib.ListN.{length}
use native.Mathlib.Omega.{arith}
use Rattle.script.specs.Script.{records_in}
use Rattle.model.proofs.Rules.{handed_on}
use Rattle.inspect.proofs.Handed.{handed_accepted}
use Rattle.run.proofs.Chain.{ran_not, ran_handed}
use Rattle.run.proofs.Front.{ran_lent}
use Rattle.run.proofs.run.Goals as goal

-- how many records the script has
records_are : (s : List ℕ) → length s / 6 ≡ records_in s
unfolding records_in
records_are s = refl

pub returns-in_err-accepted : goal.returns-in_err-accepted
returns-in_err-accepted c =
    rw (handed_on _ c.from_residual.ensures.1) (ran_not c.args.order.now c.args.build.now c.args.script.now c.args.out.now c.check_both.ensures c.in_err-accepted.was)

pub run_checked-requires : goal.run_checked-requires
run_checked-requires c = handed_accepted c.args.order.now c.args.build.now c.check_both.ensures c.in_ok-accepted.was

pub returns : goal.returns
unfolding records_in
returns c =
    let a = c.args in
    let accepted = c.in_ok-accepted.accepted in
    ran_handed a.order.now a.build.now a.script.now a.out.now c.check_both.ensures c.in_ok-accepted.was
    (ran_lent accepted.order accepted.build a.script.now a.out.now c.run_checked.result _ _ (omega arith) c.run_checked.ensures)
