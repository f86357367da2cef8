use native.Mathlib.Nat.{le_antisymm}
use native.Mathlib.Omega.{arith}
use mathlib.Core.Path.{◌≡◌, refl, sym, ap, ◌∙◌}
use mathlib.Core.Bool.{Bool, true, false}
use Prim.Native.Nat.{◌≤◌}
use lib.Dec.{ltb}
use mir.Val.{bool_byte}
use Rattle.laws.specs.Choice.{pick}
use Rattle.laws.specs.Sums.{only}
use Rattle.laws.proofs.Sums.{sum_none, sum_more}
use Rattle.laws.proofs.Only.{only_le}
use Rattle.model.specs.Limits.{most_processors}
use Rattle.sets.specs.Sets.{has}
use Rattle.sets.proofs.Chosen.{chosen_below, chosen_none, chosen_more, is_low, processors_most, lowest_all}
use Rattle.sets.proofs.lowest.Goals as goal
use Rattle.sets.proofs.lowest.Goals.{then-there, else-there}

-- a test as the number that it is taken as
byte_is : (test : Bool) → bool_byte test ≡ only test 1
byte_is true = refl
byte_is false = refl

byte_few : (test : Bool) → bool_byte test ≤ 1
byte_few test = omega (arith, byte_is test, only_le test 1)

pub loop-processor-init : goal.loop-processor-init
loop-processor-init c = (chosen_none (is_low c.args.set c.args.count), sym (sum_none _))

pub span-requires : goal.span-requires
span-requires c = omega (arith, c.loop-processor-test.true, c.from.ensures, byte_few c.if-there.taken)

pub overflow_add-below : goal.overflow_add-below
overflow_add-below c =
    record { fits = omega (arith, c.loop-processor-test.true, c.loop-processor.invariant.1, processors_most c.args.set c.loop-processor.processor, c.from-below.ensures, byte_few c.has-there.result) }

pub loop-processor-preserved : goal.loop-processor-preserved
loop-processor-preserved c =
    let low = is_low c.args.set c.args.count in
    let there = c.has-there.ensures in
    let both : c.if-there.taken ≡ pick c.has-there.result (ltb c.loop-processor.below c.args.count) false =
    elim c.if-there.branch [ then-there w ↦ rw w.if-there.true w.taken-is | else-there w ↦ rw w.if-there.false (w.taken-is ∙ w.if-there.false) ] in
    let taken : c.from.result ≡ only (low c.loop-processor.processor) 1 = cc (c.from.ensures, byte_is c.if-there.taken, both, there, c.loop-processor.invariant.1) in (
      cc (chosen_more low c.loop-processor.processor, taken, c.union-chosen.ensures, c.span.ensures, c.loop-processor.invariant.0),
      cc (sum_more (λ j. only (has c.args.set j) 1) c.loop-processor.processor, c.from-below.ensures, byte_is c.has-there.result, there, c.loop-processor.invariant.1),
    )

pub returns : goal.returns
returns c =
    let all : c.loop-processor.processor ≡ most_processors = le_antisymm c.loop-processor.auto.processor-end c.loop-processor-test.false in
    c.loop-processor.invariant.0 ∙ ap (chosen_below _) all ∙ lowest_all c.args.set c.args.count
