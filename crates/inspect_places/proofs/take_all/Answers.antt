use Rattle.inspect_places.specs.Rules.{has_processor}
use Rattle.inspect_places.proofs.Flags.{mark_all}
use Rattle.inspect_places.proofs.take_all.Goals as goal

pub returns : goal.returns
unfolding has_processor
returns c =
    mark_all c.args.taken.now c.args.place.first c.args.place.volume c.requires.one_a_processor c.requires.fits c.fill.new.self (c.fill.ensures.after (λ y e. e))
