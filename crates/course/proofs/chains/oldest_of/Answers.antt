use mathlib.Core.Path.{refl, sym, ap, ◌∙◌}
use mathlib.Core.List.{List}
use Prim.Native.Nat.{ℕ}
use lib.ListN.{get_or, set}
use Rattle.course.specs.Ahead.{heads_of}
use Rattle.course.proofs.Heads.{heads_here, heads_elsewhere}
use Rattle.course.proofs.chains.oldest_of.Goals as goal
use Rattle.course.proofs.chains.oldest_of.Goals.{then-homes-k, else-homes-k}

pub loop-k-init : goal.loop-k-init
unfolding heads_of
loop-k-init c = refl

pub loop-k-preserved : goal.loop-k-preserved
loop-k-preserved c =
    let a = c.args in
    let k = c.loop-k.k in
    elim c.if-homes-k.branch [
      | then-homes-k w ↦
          w.oldest-is
          ∙ (ap (λ (xs : List ℕ). set xs (get_or a.ranks.now k 0) (get_or a.first.now k 0)) c.loop-k.invariant
          ∙ sym (heads_here a.first.now a.homes.now a.ranks.now a.partition k w.if-homes-k.true))
      | else-homes-k w ↦ w.oldest-is ∙ (c.loop-k.invariant ∙ sym (heads_elsewhere a.first.now a.homes.now a.ranks.now a.partition k w.if-homes-k.false))
    ]
