use borrow.Author.Rules.{rules}
use mathlib.Core.Path.{◌≡◌, refl, subst}
use mathlib.Core.List.{List}
use Prim.Native.Nat.{ℕ, ◌+◌, ◌-◌, ◌≤◌, ◌/◌, ◌%◌}
use native.Mathlib.Omega.{arith}
use lib.ListN.{length, set, length-set}
use Rattle.form.specs.Written.{digit_for}
use Rattle.form.proofs.Written.{length-last_digits}
use Rattle.put.specs.Put.{HasRoom}
use Rattle.form.specs.Written.{last_digits}
use Rattle.put.proofs.Put.{DigitsFrom, digits_none, digits_more, digits_all}
use Rattle.put.proofs.Output.put_digits.Goals as goal

-- the room for so many digits
room : (at digits number : ℕ) (output : List ℕ) → HasRoom at (last_digits digits number) output → at + digits ≤ length output
room at digits number output has = omega (arith, has.fits, length-last_digits digits number)

pub overflow_add-end : goal.overflow_add-end
overflow_add-end c = let fits = room _ _ _ _ c.requires in search rules

pub loop-place-init : goal.loop-place-init
loop-place-init c =
    let self = c.args.self.now in
    let all : self.at + c.args.digits - self.at ≡ c.args.digits = omega arith in
    (omega arith, refl, refl, rw all (digits_none self.at c.args.digits c.args.number self.bytes.now (room _ _ _ _ c.requires)))

pub bounds-self-place : goal.bounds-self-place
bounds-self-place c = let fits = room _ _ _ _ c.requires in omega (arith, c.loop-place.auto.place, c.loop-place-test.true, c.loop-place.invariant.2, fits)

pub loop-place-preserved : goal.loop-place-preserved
loop-place-preserved c =
    let self = c.args.self.now in
    let l = c.loop-place in
    let some = c.loop-place-test.true in
    let now : List ℕ = l.self.bytes.now in
    let here : self.at + (l.place - self.at - 1) ≡ l.place - 1 = omega (arith, some) in
    let more = digits_more self.at c.args.digits c.args.number self.bytes.now (room _ _ _ _ c.requires) now l.left (l.place - self.at) (omega (arith, some)) (omega (arith, l.auto.place)) l.invariant.3 in
    let put = subst (λ (k : ℕ). DigitsFrom self.at c.args.digits c.args.number self.bytes.now (set now k (digit_for (l.left % 10))) (l.left / 10) (l.place - self.at - 1)) here more in (
      omega (arith, some),
      l.invariant.1,
      simp length-set l.invariant.2,
      subst (λ (i : ℕ). DigitsFrom self.at c.args.digits c.args.number self.bytes.now (set now (l.place - 1) (digit_for (l.left % 10))) (l.left / 10) i) (omega arith) put,
    )

pub returns-clause-put : goal.returns-clause-put
returns-clause-put c =
    let self = c.args.self.now in
    let l = c.loop-place in
    digits_all self.at c.args.digits c.args.number self.bytes.now (room _ _ _ _ c.requires) l.self.bytes.now l.left (l.place - self.at) (omega (arith, c.loop-place-test.false)) l.invariant.3
