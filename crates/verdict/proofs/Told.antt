-- What a worst response, or none, tells of the verdict.
use Rattle.std.specs.Prelude.{Some, None, Ok, Err, true, false}
use Rattle.std.proofs.Common.{◌≡◌, ℕ, refl}
use Rattle.demand.specs.Verdict.{Verdict}
use Rattle.demand.specs.declared.Failing.TheVariants.{NoWindow, NoStart, TooLate}
use Rattle.demand.specs.Test.{does_pass, response_of}
use Rattle.verdict.specs.Tested.{worst_of}

pub passes_told : (v : Verdict) (worst : ℕ) → worst_of v ≡ Some worst → does_pass v ≡ true
passes_told (Ok worst) w told = refl
passes_told (Err failing) w told = (cc)

pub response_told : (v : Verdict) (worst : ℕ) → worst_of v ≡ Some worst → worst ≡ response_of v
response_told (Ok worst) w told = (cc)
response_told (Err failing) w told = (cc)

pub fails_told : (v : Verdict) → worst_of v ≡ None → does_pass v ≡ false
fails_told (Ok worst) told = (cc)
fails_told (Err NoWindow) told = refl
fails_told (Err NoStart) told = refl
fails_told (Err TooLate) told = refl

pub passed_told : (v : Verdict) (worst : ℕ) → worst_of v ≡ Some worst → v ≡ Ok worst
passed_told (Ok worst) w told = (cc)
passed_told (Err failing) w told = (cc)
