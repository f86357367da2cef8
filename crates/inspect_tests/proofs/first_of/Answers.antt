use Rattle.std.proofs.Common.{◌≡◌, sym, ◌∙◌, arith}
use borrow.Author.Tests.{lt-ltb, le-ltb}
use Rattle.roster.specs.Keys.{home_in, key_at}
use Rattle.inspect_tests.proofs.Looked.{looked_none, looked_more, looked_stop, looked_all}
use Rattle.inspect_tests.proofs.first_of.Goals as goal

pub loop-first-init : goal.loop-first-init
loop-first-init c = looked_none _ _

pub returns-then-home-home_in : goal.returns-then-home-home_in
returns-then-home-home_in c =
    looked_stop _ _ _ c.loop-first-test.true (le-ltb (home_in (key_at c.args.keys.now c.loop-first.first)) c.args.home (omega (arith, c.home_in.ensures))) c.loop-first.invariant

pub loop-first-preserved : goal.loop-first-preserved
loop-first-preserved c =
    looked_more _ _ _ c.loop-first-test.true (lt-ltb (home_in (key_at c.args.keys.now c.loop-first.first)) c.args.home (omega (arith, c.home_in.ensures))) c.loop-first.invariant

pub returns : goal.returns
returns c =
    let all : c.loop-first.first ≡ c.args.tasks = omega arith in
    sym all ∙ looked_all _ _ _ (omega arith) c.loop-first.invariant
