use Prim.Native.Nat.{ℕ}
use mathlib.Core.Path.{◌≡◌, subst}
use native.Mathlib.Omega.{arith}
use Rattle.course.proofs.Lines.{LinedFrom, lined_none, lined_all, lined_back}
use Rattle.course.proofs.chains.line_up.Goals as goal

pub loop-i-init : goal.loop-i-init
loop-i-init c = λ so. lined_none so.group so.script so.few c.args.records c.args.next.now so.count c.requires.places

pub loop-i-preserved : goal.loop-i-preserved
loop-i-preserved c = λ so. lined_back so c.loop-i.i c.loop-i.first c.loop-i.next (omega arith) (omega arith) (c.loop-i.invariant so)

pub returns : goal.returns
returns c = λ so.
    let none : c.loop-i.i ≡ 0 = omega arith in
    lined_all so.group so.script so.few c.loop-i.first c.loop-i.next (subst (λ (x : ℕ). LinedFrom so.group so.script x c.loop-i.first c.loop-i.next) none (c.loop-i.invariant so))
