-- The script of the pattern gives every job its response of the test, to the tick.
use mathlib.Core.Path.{ap, ◌∙◌}
use Rattle.machine.specs.Step.{State}
use Rattle.machine.specs.Pattern.{pattern_of}
use Rattle.machine.proofs.Isolation.{state_same}
use Rattle.critical.specs.Pattern.{critical_pattern, critical_script}
use Rattle.critical.specs.Claims.{CriticalIsExact}
use Rattle.critical.proofs.Legal.{critical_is_legal}
use Rattle.critical.proofs.Starts.{ends_exactly}

pub critical_is_exact : CriticalIsExact
critical_is_exact o member i q w of job p v le starts =
    let legal = critical_is_legal o member i q w of job in
    ap (λ (s : State). s.running)
    (state_same o member (pattern_of (critical_script o member i q w)) (critical_pattern o member i q w) (λ tick task mine. legal.same tick task) _)
    ∙ ends_exactly o member i q w of job legal.pattern p v le starts
