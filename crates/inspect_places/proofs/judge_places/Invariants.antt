use Rattle.std.proofs.Common.{◌≡◌}
use Rattle.laws.specs.Joined.{joined}
use Rattle.model.specs.declared.answer.Refusal.TheVariants.{OfBuild}
use Rattle.model.specs.declared.answer.BuildCause.TheVariants.{PartitionPlace}
use Rattle.model.proofs.Rules.{AllPass, each_rule}
use Rattle.inspect_places.specs.Rules.{well_placed}
use Rattle.inspect_places.proofs.Flags.{flags_of}
use Rattle.inspect_places.proofs.judge_places.Given as goal

abbrev pub invariant-loop-i : goal.invariant-loop-i
invariant-loop-i l =
    record { passed : AllPass (joined (each_rule (λ p. well_placed l.order.processors l.build p) (λ p. OfBuild (PartitionPlace p))) l.i); flags : l.taken ≡ flags_of l.build l.i }
