use Rattle.std.proofs.Common.{◌≡◌, ◌<◌, length, length-take, ap, sym, ◌∙◌, arith}
use Rattle.std.proofs.lemmas.List.{get_or-take}
use Rattle.laws.proofs.Joined.{length-listed}
use Rattle.model.specs.Limits.{most_processors}
use Rattle.model.proofs.Rules.{each_none, each_more, each_stop, pass_done, given_refused, given_done}
use Rattle.inspect_places.specs.Rules.{place_rules}
use Rattle.inspect_places.proofs.Flags.{flags_none, flags_more, right_same}
use Rattle.inspect_places.proofs.judge_places.Goals as goal

pub loop-i-init : goal.loop-i-init
loop-i-init c = record { passed = each_none _ _; flags = flags_none c.args.build.now }

pub returns-then-not-partition_right : goal.returns-then-not-partition_right
unfolding place_rules
returns-then-not-partition_right c =
    let b = c.args.build.now in
    let i = c.loop-i.i in
    let below : i < b.partitions = omega (arith, length-take b.partitions b.places) in
    let judged = right_same b i _ c.loop-i.invariant.flags _ (get_or-take b.partitions b.places i _ below) c.args.order.now.processors c.requires.processors in
    sym (given_refused tt _ (each_stop _ _ 0 b.partitions i below c.loop-i.invariant.passed (sym judged ∙ sym c.partition_right.ensures ∙ c.if-not-partition_right.true)))

pub take_all-requires-clause-one_a_processor : goal.take_all-requires-clause-one_a_processor
take_all-requires-clause-one_a_processor c = ap length c.loop-i.invariant.flags ∙ length-listed _ most_processors

pub loop-i-preserved : goal.loop-i-preserved
loop-i-preserved c =
    let b = c.args.build.now in
    let i = c.loop-i.i in
    let below : i < b.partitions = omega (arith, length-take b.partitions b.places) in
    let here = get_or-take b.partitions b.places i _ below in
    let judged = right_same b i _ c.loop-i.invariant.flags _ here c.args.order.now.processors c.requires.processors in
    record {
      passed = each_more _ _ i c.loop-i.invariant.passed (sym judged ∙ sym c.partition_right.ensures ∙ c.if-not-partition_right.false);
      flags = c.take_all.ensures ∙ flags_more b i _ c.loop-i.invariant.flags _ here;
    }

pub returns : goal.returns
unfolding place_rules
returns c =
    let b = c.args.build.now in
    let all : c.loop-i.i ≡ b.partitions = omega (arith, length-take b.partitions b.places) in
    sym (given_done tt _ (pass_done 0 _ (rw all at c.loop-i.invariant.passed)))
