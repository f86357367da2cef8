use mathlib.Core.Path.{sym}
use native.Mathlib.Omega.{arith}
use Rattle.text.proofs.Feeds.{none_unfinished, last_unfinished}
use Rattle.text.proofs.is_unfinished.Goals as goal

pub returns-in-Some : goal.returns-in-Some
returns-in-Some c =
    let last = c.in-Some.ensures.item.3 in
    last_unfinished c.args.text.now c.is_line_feed.result (omega (arith, last.0)) (rw (sym (last.1 0)) (sym c.is_line_feed.ensures))

pub returns-in-None : goal.returns-in-None
returns-in-None c = none_unfinished _ (omega (arith, c.in-None.ensures.item.3))
