-- How often a task comes that comes every T: "floor(x/T)+1", counted tick by tick.
use Prim.Native.Nat.{ℕ, zero, suc, ◌+◌, ◌-◌, ◌*◌, ◌/◌, ◌%◌, ◌≤◌, ◌<◌}
use mathlib.Core.Path.{◌≡◌, sym, ap, ◌∙◌}
use mathlib.Core.Bool.{◌&&◌}
use native.Mathlib.Decide.{dec_lt}
use native.Mathlib.Nat.{div-add-mod, div-eq_of_lt-le, mod-lt, mul_comm, add-mul, one-mul, zero-div, zero-mod, add-zero}
use native.Mathlib.Omega.{arith}
use lib.Arith.{digits_mod}
use lib.Dec.{eqb}
use borrow.Author.Tests.{ne_eqb, lt-leb}
use Rattle.laws.specs.Choice.{within}
use Rattle.laws.specs.Sums.{only, sum}
use Rattle.laws.proofs.Choice.{true_within}
use Rattle.laws.proofs.Sums.{sum_zero}
use Rattle.laws.proofs.Growth.{sum_further}

-- one more of a multiple just where the remainder is 0
div_steps : (period x c : ℕ) → 0 < period → (suc x / period + 1) * c ≡ (x / period + 1) * c + only (eqb (suc x % period) 0) c
div_steps period x c some = elim (dec_lt (suc (x % period)) period) [
  | yes inside ↦ (
      let whole : q * period + suc (x % period) ≡ suc x = omega (arith, split) in
      let same : suc x / period ≡ q = div-eq_of_lt-le period (omega (arith, whole)) (omega (arith, whole, add-mul q 1 period, one-mul period)) in
      let rest : suc x % period ≡ suc (x % period) = sym (ap (◌% period) whole) ∙ digits_mod q inside in
      rw (same, rest, ne_eqb (suc (x % period)) 0 (λ e. absurd (omega arith))) (omega arith))
  | no full ↦ (
      let full-rest : suc (x % period) ≡ period = omega (arith, mod-lt x some) in
      let whole : (q + 1) * period + 0 ≡ suc x = omega (arith, split, add-mul q 1 period, one-mul period) in
      let next : suc x / period ≡ q + 1 = div-eq_of_lt-le period (omega (arith, whole)) (omega (arith, whole, add-mul (q + 1) 1 period, one-mul period)) in
      let rest : suc x % period ≡ 0 = sym (ap (◌% period) whole) ∙ digits_mod (q + 1) some in
      rw (next, rest) (omega (arith, add-mul (q + 1) 1 c, one-mul c)))
]
  where
    q : ℕ
    q = x / period

    split : q * period + x % period ≡ x
    split = ap (◌+ x % period) (mul_comm q period) ∙ div-add-mod x period

module _ (first last period c : ℕ) where
  -- what comes at a tick
  abbrev comes : ℕ → ℕ
  comes tick = only (within first last tick && eqb ((tick - first) % period) 0) c

  comes_before_lem : (tick : ℕ) → tick < first → comes tick ≡ 0
  comes_before_lem tick early = rw (lt-leb first tick early)

  comes_from_lem : (x : ℕ) → first + x ≤ last → comes (first + x) ≡ only (eqb (x % period) 0) c
  comes_from_lem x inside =
      let e : first + x - first ≡ x = omega arith in
      rw (true_within first last (first + x) (omega arith) inside, e)

-- the releases from the first to a tick x later, both counted, each of a length c
pub come_count : (first last period x c : ℕ) → 0 < period → first + x ≤ last → sum (λ tick. only (within first last tick && eqb ((tick - first) % period) 0) c) (first + suc x) ≡ (x / period + 1) * c
come_count first last period zero c some inside =
    let before = sum_zero (comes first last period c) first (λ t l. comes_before_lem first last period c t l) in
    let one : only (eqb (0 % period) 0) c ≡ c = rw zero-mod in
    sum_further (comes first last period c) first 0
    ∙ rw (comes_from_lem first last period c 0 inside, one, add-zero, before, zero-div) (omega arith)
come_count first last period (suc x) c some inside =
    sum_further (comes first last period c) first (suc x)
    ∙ rw (come_count first last period x c some (omega arith), comes_from_lem first last period c (suc x) inside) (sym (div_steps period x c some))
