-- What the test says of a member: its worst response, or why it does not pass.
use Rattle.std.specs.Prelude.{ℕ, Result}
use Rattle.demand.specs.declared.Failing.{Failing}

abbrev pub Verdict : Type 0
Verdict = Result ℕ Failing
