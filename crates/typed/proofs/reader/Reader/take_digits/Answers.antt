use mathlib.Core.Path.{◌≡◌, refl, sym, ap, ◌∙◌, subst}
use Prim.Native.Nat.{ℕ, ◌+◌}
use native.Mathlib.Omega.{arith}
use lib.ListN.{length, drop}
use Rattle.form.proofs.Digits.{digits_stopped, digits_past}
use Rattle.typed.specs.declared.reader.Reader.{Reader}
use Rattle.typed.specs.Taken.{TakesDigits}
use Rattle.typed.proofs.Digits.{Taking, taking_first, taking_more, taking_last}
use Rattle.typed.proofs.reader.Reader.take_digits.Goals as goal

pub loop-next-init : goal.loop-next-init
loop-next-init c = let reader = c.args.self.now in (refl, taking_first _ _ reader.inside)

pub returns-then-not-is_digit-clause-digits : goal.returns-then-not-is_digit-clause-digits
returns-then-not-is_digit-clause-digits c =
    let l = c.loop-next in
    let stopped = sym c.is_digit.ensures ∙ c.if-not-is_digit.true in
    taking_last _ _ _ _ l.invariant.1 (digits_stopped c.args.self.now.text.now l.next stopped)

pub returns-then-not-is_digit-clause-text : goal.returns-then-not-is_digit-clause-text
returns-then-not-is_digit-clause-text c = ap (λ (reader : Reader). reader.text) c.loop-next.invariant.0

pub loop-next-preserved : goal.loop-next-preserved
loop-next-preserved c =
    let l = c.loop-next in
    let reader = c.args.self.now in
    let digit = sym c.is_digit.ensures ∙ c.if-not-is_digit.false in
    let step = taking_more reader.text.now reader.at l.value l.next l.invariant.1 c.loop-next-test.true digit in
    let worth = c.with_digit-value.ensures in
    (l.invariant.0, subst (λ (v : ℕ). Taking reader.text.now reader.at v (l.next + 1)) (sym worth) step)

pub returns-clause-digits : goal.returns-clause-digits
returns-clause-digits c = let l = c.loop-next in taking_last _ _ _ _ l.invariant.1 (digits_past _ _ c.loop-next-test.false)

pub returns-clause-text : goal.returns-clause-text
returns-clause-text c = ap (λ (reader : Reader). reader.text) c.loop-next.invariant.0
