use Rattle.std.proofs.Common.{arith, ◌≡◌, ◌<◌, ℕ, List, take, length, get_or, ap, ◌∙◌, replicate, refl}
use Rattle.std.proofs.lemmas.List.{get_or-take, length-take}
use borrow.Author.Tests.{eq-eqb, ne_eqb}
use Rattle.model.specs.declared.build.Member.{Member}
use Rattle.roster.specs.Keys.{home_in, key_number}
use Rattle.fit.proofs.Writing.{filling_none, few_tasks, filling_next, filling_all}
use Rattle.fit.proofs.records.records_of.Goals as goal
use Rattle.fit.proofs.records.records_of.Goals.{then-home_in-home, else-home_in-home}

pub loop-place-init : goal.loop-place-init
loop-place-init c = filling_none _ _ (ap (λ (x : Member). replicate 32 x) c.zero-members.ensures)

inside : (keys : List ℕ) (tasks place : ℕ) → place < length (take tasks keys) → place < tasks
inside keys tasks place l = omega (arith, length-take tasks keys)

key_here : (keys : List ℕ) (tasks place : ℕ) → place < length (take tasks keys) → get_or (take tasks keys) place 0 ≡ get_or keys place 0
key_here keys tasks place l = get_or-take tasks keys place 0 (inside keys tasks place l)

pub loop-place-preserved : goal.loop-place-preserved
loop-place-preserved c =
    let keys = c.args.line.now.keys in
    let place = c.loop-place.place in
    let below : place < c.args.line.now.placed = inside keys c.args.line.now.placed place c.loop-place-test.true in
    let key : get_or (take c.args.line.now.placed keys) place 0 ≡ get_or keys place 0 = key_here keys c.args.line.now.placed place c.loop-place-test.true in
    let there : c.number_in-number.result ≡ key_number (get_or keys place 0) = c.number_in-number.ensures ∙ ap key_number key in
    let home : c.home_in.result ≡ home_in (get_or keys place 0) = c.home_in.ensures ∙ ap home_in key in
    elim c.if-home_in-home.branch [
      | then-home_in-home w ↦
          filling_next _ c.requires _ _ _ _ _ c.loop-place.invariant below (w.first-is ∙ rw (ne_eqb _ _ (λ e. w.if-home_in-home.true (home ∙ e))) refl)
          _ _ (w.home-is ∙ w.home_in-home.ensures ∙ ap home_in key) there
      | else-home_in-home w ↦
          (let same : home_in (get_or keys place 0) ≡ c.loop-place.home = cc (home, w.if-home_in-home.false) in
          filling_next _ c.requires _ _ _ _ _ c.loop-place.invariant below (w.first-is ∙ rw (eq-eqb _ _ same) refl)
          _ _ (cc (w.home-is, same)) there)
    ]

pub returns : goal.returns
returns c = λ so.
    filling_all _ so _ _ _ _ c.loop-place.invariant (omega (arith, length-take c.args.line.now.placed c.args.line.now.keys, few_tasks _ so))
