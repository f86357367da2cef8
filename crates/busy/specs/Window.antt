-- The busy window as a theory of counts: it sees what is released and what is served, and no machine.
-- Task i is the one whose jobs are followed; `higher` picks, among the tasks below n, those that may go before it.
use Rattle.std.specs.Prelude.{ℕ, suc, ◌+◌, ◌*◌, ◌-◌, ◌≤◌, ◌<◌, ◌≡◌, Bool}
use Rattle.laws.specs.Sums.{only, sum}

-- "the sum over higher members", and "the sum over i and higher members"
abbrev pub over_higher : (ℕ → Bool) → ℕ → (ℕ → ℕ) → ℕ
over_higher higher n f = sum (λ k. only (higher k) (f k)) n

abbrev pub over_both : (ℕ → Bool) → ℕ → ℕ → (ℕ → ℕ) → ℕ
over_both higher i n f = f i + over_higher higher n f

-- What a partition does. `releases t k` is the work that task k releases at tick t; `serves k t` is 1 if k is served while
-- tick t lasts, else 0; `pending k t` is the work of k that is pending before tick t; `carried t` is how long a job that is
-- neither of i nor of a higher task still holds the partition before tick t.
pub record Service (higher : ℕ → Bool) (i n blocking : ℕ) (releases pending serves : ℕ → ℕ → ℕ) (carried : ℕ → ℕ) : Type 0 where
  -- conservation: what was released is pending or served
  pub conserved : (k t : ℕ) → pending k t + sum (serves k) t ≡ sum (λ u. releases u k) t
  pub unit : (k t : ℕ) → serves k t ≤ 1
  -- no idling, and priority: while i or a higher task has work, a tick serves one of them or is one that a carried job takes
  pub working : (t : ℕ) → 0 < over_both higher i n (λ k. pending k t + releases t k)
      → 1 + carried (suc t) ≤ carried t + over_both higher i n (λ k. serves k t)
  pub carried_most : (t : ℕ) → carried t ≤ blocking

-- What a release pattern keeps to. `most k x` bounds the work that task k releases within any x + 1 ticks. The response of the
-- job that i releases at tick a is measured from `base a`, which is a where jobs join as they arrive (and `jitter` is 0).
pub record Arrivals (i : ℕ) (most : ℕ → ℕ → ℕ) (period cost jitter : ℕ) (releases : ℕ → ℕ → ℕ) (base : ℕ → ℕ) : Type 0 where
  pub few : (k t x : ℕ) → sum (λ u. releases u k) (t + suc x) ≤ sum (λ u. releases u k) t + most k x
  pub short : (a : ℕ) → releases a i ≤ cost
  pub near : (a : ℕ) → 0 < releases a i → base a ≤ a + jitter
  -- the jobs of i from tick t up to the one of tick a are so many, and they are a period apart
  pub own : (t a : ℕ) → t ≤ a → 0 < releases a i
      → (q : ℕ) × (sum (λ u. releases u i) a ≤ sum (λ u. releases u i) t + q * cost) × (t + q * period ≤ base a)

-- What the response test found. That window and starts are the smallest is not needed.
pub record Tested (higher : ℕ → Bool) (i n blocking : ℕ) (most : ℕ → ℕ → ℕ) (period cost jitter response : ℕ) : Type 0 where
  pub window : ℕ
  pub from_1 : 1 ≤ window
  pub closes : blocking + over_both higher i n (λ k. most k (window - 1)) ≤ window
  pub starts : (q : ℕ) → q * period < window + jitter
      → (start : ℕ) × (blocking + q * cost + over_higher higher n (λ k. most k start) ≤ start) × (start + cost ≤ q * period + response)

-- The job that i releases at tick a: when just the work that i released before it has been served, i is served next, at a tick
-- from which a job of the longest cost still ends within the response.
pub record StartsInTime (i cost response : ℕ) (releases serves : ℕ → ℕ → ℕ) (base : ℕ → ℕ) (a : ℕ) : Type 0 where
  pub start : ℕ
  pub not_before : a ≤ start
  pub next_in_line : sum (serves i) start ≡ sum (λ u. releases u i) a
  pub served : serves i start ≡ 1
  pub in_time_lem : start + cost ≤ base a + response

-- the theory: a task that is tested, on a partition that serves so, with a pattern that keeps to its counts, starts every job in time
abbrev pub BusyWindow : Type 0
BusyWindow = (higher : ℕ → Bool) (i n blocking : ℕ) (most : ℕ → ℕ → ℕ) (period cost jitter response : ℕ) (releases pending serves : ℕ → ℕ → ℕ) (carried base : ℕ → ℕ)
    → Service higher i n blocking releases pending serves carried → Arrivals i most period cost jitter releases base
    → Tested higher i n blocking most period cost jitter response → (a : ℕ) → 0 < releases a i → StartsInTime i cost response releases serves base a
