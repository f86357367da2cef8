use Rattle.std.proofs.Common.{◌+◌, true, false, ◌≡◌, rules, tests, arith}
use Rattle.std.specs.List.{between}
use Rattle.std.proofs.lemmas.Iterator.{cases_from_all, YieldsList-from_slice}
use Rattle.model.specs.Processors.{processor_of}
use Rattle.inspect_places.proofs.Flags.{free_all}
use Rattle.inspect_places.proofs.all_free.Goals as goal

pub returns : goal.returns
unfolding processor_of
returns c =
    let first = c.args.place.first in
    let volume = c.args.place.volume in
    let own = between first (first + volume) c.args.taken.now in
    free_all c.args.taken.now first volume (omega arith) c.all.result
    (cases_from_all _ _ _ (λ x. x ≡ false) (λ x. x ≡ true) c.all.ensures.ran (YieldsList-from_slice own cc) (λ x q k. search (rules, tests)) (λ x q k. search (rules, tests)))
