use mathlib.Core.Path.{◌≡◌, sym, ◌∙◌}
use native.Mathlib.Omega.{arith}
use lib.ListN.{length}
use Rattle.std.proofs.lemmas.Grind.{common_steps}
use Rattle.model.proofs.Rules.{given_refused}
use Rattle.list.proofs.Items.{too_long, read_none, read_items}
use Rattle.list.proofs.take_list.Goals as goal

pub returns-then-text-gt-MOST_TEXT : goal.returns-then-text-gt-MOST_TEXT
returns-then-text-gt-MOST_TEXT c = sym (given_refused _ _ (too_long c.args.text.now c.if-text-gt-MOST_TEXT.true))

pub returns-then-is_empty : goal.returns-then-is_empty
returns-then-is_empty c = let none : length c.args.text.now ≡ 0 = grind (arith, common_steps) in sym (read_none c.args.text.now none)

pub returns : goal.returns
returns c =
    let some : length c.args.text.now ≡ 0 → ⊥ = grind (arith, common_steps) in
    c.take_items.ensures ∙ sym (read_items c.args.text.now c.if-text-gt-MOST_TEXT.false some)
