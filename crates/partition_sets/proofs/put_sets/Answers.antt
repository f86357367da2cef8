use mathlib.Core.Path.{sym, ap, ◌∙◌}
use Prim.Native.Nat.{ℕ}
use native.Mathlib.Omega.{arith}
use native.Mathlib.Nat.{le_antisymm}
use lib.ListN.{length}
use Rattle.laws.specs.Joined.{overlaid}
use Rattle.laws.proofs.Overlaid.{overlaid_none, length-overlaid}
use Rattle.model.specs.Limits.{place_of}
use Rattle.sets.specs.Sets.{partition_set}
use Rattle.partition_sets.specs.Given.{build_sets}
use Rattle.partition_sets.proofs.Given.{set_next}
use Rattle.partition_sets.proofs.put_sets.Goals as goal

pub loop-i-init : goal.loop-i-init
loop-i-init c = (omega arith, sym (overlaid_none _ _))

pub partition_set-requires : goal.partition_set-requires
partition_set-requires c = c.requires.fit.each c.loop-i.i c.loop-i-test.true

pub bounds-out-i : goal.bounds-out-i
bounds-out-i c =
    let room = c.requires.room in
    let same = ap length c.loop-i.invariant.1 ∙ length-overlaid _ _ c.loop-i.i (omega (arith, c.loop-i.invariant.0, room)) in
    omega (arith, same, c.loop-i-test.true, room)

pub loop-i-preserved : goal.loop-i-preserved
loop-i-preserved c =
    let more = c.loop-i-test.true in
    let room = c.requires.room in
    (omega (arith, more), set_next _ _ _ c.loop-i.i _ c.loop-i.invariant.1 c.partition_set.ensures (omega (arith, more, room)))

pub shape_of-out : goal.shape_of-out
shape_of-out c =
    ap length c.loop-i.invariant.1 ∙ length-overlaid _ _ c.loop-i.i (omega (arith, c.loop-i.invariant.0, c.requires.room))

pub returns : goal.returns
unfolding build_sets
returns c =
    c.loop-i.invariant.1 ∙ ap (λ (k : ℕ). overlaid (λ p. partition_set (place_of c.args.build.now p)) k c.args.out.now) (le_antisymm c.loop-i.invariant.0 c.loop-i-test.false)
