use mathlib.Core.Path.{sym, ap}
use borrow.Author.Tests.{ltb-false}
use lib.ListN.{get_or-eq_default}
use Rattle.typed.specs.Kinds.{kind_of}
use Rattle.typed.proofs.reader.Reader.kind.Goals as goal

pub returns-in-None : goal.returns-in-None
unfolding kind_of
returns-in-None c = sym (ap kind_of (get_or-eq_default c.args.self.now.text.now 0 (ltb-false _ _ (sym c.in-None.ensures.lookup.0))))
