-- The busy window: from the last tick before which nothing of i and the higher tasks was pending.
use Prim.Native.Nat.{ℕ, zero, suc, ◌+◌, ◌*◌, ◌-◌, ◌≤◌, ◌<◌}
use mathlib.Core.Path.{◌≡◌, refl, sym, ◌∙◌}
use mathlib.Core.Bool.{Bool}
use native.Mathlib.Nat.{add-suc, add-zero}
use native.Mathlib.Decide.{dec_le, dec_lt}
use native.Mathlib.Omega.{arith}
use Rattle.laws.specs.Sums.{sum}
use Rattle.laws.proofs.Sums.{sum_none, sum_suc}
use Rattle.laws.proofs.Growth.{sum_grows, sum_crosses}
use Rattle.busy.specs.Window.{over_higher, over_both, Service, Arrivals, Tested, StartsInTime, BusyWindow}
use Rattle.busy.proofs.Over.{higher_add, higher_same, higher_le, higher_zero, both_add, both_same}

module _ {higher : ℕ → Bool} {i n blocking : ℕ} {releases pending serves : ℕ → ℕ → ℕ} {carried : ℕ → ℕ}
    (S : Service higher i n blocking releases pending serves carried) where
  -- there is work for i or a higher task
  abbrev Busy : ℕ → Type 0
  Busy u = 0 < over_both higher i n (λ k. pending k u + releases u k)

  -- their service before t, their work released before t, and what is pending
  abbrev pub served : ℕ → ℕ
  served t = over_both higher i n (λ k. sum (serves k) t)

  abbrev pub released : ℕ → ℕ
  released t = over_both higher i n (λ k. sum (λ u. releases u k) t)

  abbrev pub waits : ℕ → ℕ
  waits t = over_both higher i n (λ k. pending k t)

  pub served_suc : (t : ℕ) → served (suc t) ≡ served t + over_both higher i n (λ k. serves k t)
  served_suc t = both_same higher i n _ _ (λ k. sum_suc (serves k) t) ∙ both_add higher i n (λ k. sum (serves k) t) (λ k. serves k t)

  released_suc : (t : ℕ) → released (suc t) ≡ released t + over_both higher i n (λ k. releases t k)
  released_suc t = both_same higher i n _ _ (λ k. sum_suc (λ u. releases u k) t) ∙ both_add higher i n (λ k. sum (λ u. releases u k) t) (λ k. releases t k)

  pub totals : (t : ℕ) → waits t + served t ≡ released t
  totals t = sym (both_add higher i n (λ k. pending k t) (λ k. sum (serves k) t)) ∙ both_same higher i n _ _ (λ k. S.conserved k t)

  busy_parts : (t : ℕ) → over_both higher i n (λ k. pending k t + releases t k) ≡ waits t + over_both higher i n (λ k. releases t k)
  busy_parts t = both_add higher i n (λ k. pending k t) (λ k. releases t k)

  -- every tick of a busy interval serves one of them, or a carried job takes it
  supply : (t x : ℕ) → ((u : ℕ) → t ≤ u → u < t + x → Busy u) → x + served t + carried (t + x) ≤ carried t + served (t + x)
  supply t zero h = rw add-zero (omega arith)
  supply t (suc x) h =
      let ih = supply t x (λ u p q. h u p (omega arith)) in
      let b = S.working (t + x) (h (t + x) (omega arith) (omega arith)) in
      rw add-suc (omega (arith, ih, b, served_suc (t + x)))

  waits_first : waits 0 ≡ 0
  waits_first = omega (arith, none i, higher_zero higher n (λ k. pending k 0) none)
    where
      none : (k : ℕ) → pending k 0 ≡ 0
      none k = omega (arith, S.conserved k 0, sum_none (λ u. releases u k))

  -- the last tick up to a before which nothing was pending
  last_idle : (a : ℕ) → (t : ℕ) × (t ≤ a) × (waits t ≡ 0) × ((u : ℕ) → t < u → u ≤ a → 0 < waits u)
  last_idle zero = (0, omega arith, waits_first, λ u p q. absurd (omega arith))
  last_idle (suc a) = go (last_idle a) (waits (suc a)) refl
    where
      go : ((t : ℕ) × (t ≤ a) × (waits t ≡ 0) × ((u : ℕ) → t < u → u ≤ a → 0 < waits u)) → (x : ℕ) → waits (suc a) ≡ x
          → (t : ℕ) × (t ≤ suc a) × (waits t ≡ 0) × ((u : ℕ) → t < u → u ≤ suc a → 0 < waits u)
      go r zero e = (suc a, omega arith, e, λ u p q. absurd (omega arith))
      go r (suc x) e = (r.0, omega arith, r.2, λ u p q. at u p (dec_le u a) q)
        where
          at : (u : ℕ) → r.0 < u → Dec (u ≤ a) → u ≤ suc a → 0 < waits u
          at u p (yes h) q = r.3 u p h
          at u p (no h) q = let e' : u ≡ suc a = omega arith in rw e' (omega arith)

module _ {higher : ℕ → Bool} {i n blocking : ℕ} {most : ℕ → ℕ → ℕ} {period cost jitter : ℕ} {releases pending serves : ℕ → ℕ → ℕ} {carried base : ℕ → ℕ}
    (S : Service higher i n blocking releases pending serves carried) (F : Arrivals i most period cost jitter releases base) (a : ℕ) (job : 0 < releases a i) where
  abbrev pub own_work : ℕ → ℕ
  own_work t = sum (λ u. releases u i) t

  abbrev pub own_served : ℕ → ℕ
  own_served t = sum (serves i) t

  -- what higher tasks release in x + 1 ticks
  higher_few : (t x : ℕ) → over_higher higher n (λ k. sum (λ u. releases u k) (t + suc x)) ≤ over_higher higher n (λ k. sum (λ u. releases u k) t) + over_higher higher n (λ k. most k x)
  higher_few t x = rw (← higher_add higher n (λ k. sum (λ u. releases u k) t) (λ k. most k x)) (higher_le higher n _ _ (λ k. F.few k t x))

  higher_totals : (t : ℕ) → over_higher higher n (λ k. pending k t) + over_higher higher n (λ k. sum (serves k) t) ≡ over_higher higher n (λ k. sum (λ u. releases u k) t)
  higher_totals t = sym (higher_add higher n _ _) ∙ higher_same higher n _ _ (λ k. S.conserved k t)

  -- from t₀, the last tick before which nothing was pending
  module _ (t₀ : ℕ) (t₀≤a : t₀ ≤ a) (idle : waits S t₀ ≡ 0) (after : (u : ℕ) → t₀ < u → u ≤ a → 0 < waits S u) where
    busy_within : (u : ℕ) → t₀ < u → u ≤ a → Busy S u
    busy_within u p q = omega (arith, after u p q, busy_parts S u)

    busy_first : t₀ < a → Busy S t₀
    busy_first p =
        omega (
          arith,
          after (suc t₀) (omega arith) p,
          busy_parts S t₀,
          totals S t₀,
          totals S (suc t₀),
          served_suc S t₀,
          released_suc S t₀,
        )

    busy_to_a : (u : ℕ) → t₀ ≤ u → u ≤ a → Busy S u
    busy_to_a u p q = go (dec_lt t₀ u) (dec_lt t₀ a)
      where
        go : Dec (t₀ < u) → Dec (t₀ < a) → Busy S u
        go (yes h) d = busy_within u h q
        go (no h) (yes g) = let e : u ≡ t₀ = omega arith in rw e (busy_first g)
        go (no h) (no g) = let e : u ≡ a = omega arith in rw e (omega arith)

    busy_past_a : (u : ℕ) → a < u → own_served u < own_work (suc a) → Busy S u
    busy_past_a u p q = omega (arith, S.conserved i u, sum_grows (λ v. releases v i) (suc a) u p)

    in_window : (L : ℕ) → 1 ≤ L → blocking + over_both higher i n (λ k. most k (L - 1)) ≤ L → a < t₀ + L
    in_window L pos fits = go (dec_lt a (t₀ + L))
      where
        go : Dec (a < t₀ + L) → a < t₀ + L
        go (yes h) = h
        go (no h) =
            let e : suc (L - 1) ≡ L = omega arith in
            omega (
              arith,
              supply S t₀ L (λ u p q. busy_to_a u p (omega arith)),
              after (t₀ + L) (omega arith) (omega arith),
              totals S t₀,
              totals S (t₀ + L),
              rw e at (F.few i t₀ (L - 1)),
              rw e at (higher_few t₀ (L - 1)),
              S.carried_most t₀,
            )

    -- while task i has not been served all of its work up to and with the job, x + 1 ticks after t₀
    module _ (x : ℕ) (open-still : own_served (t₀ + suc x) < own_work (suc a)) where
      busy_till : (u : ℕ) → t₀ ≤ u → u < t₀ + suc x → Busy S u
      busy_till u p q = at (dec_le u a)
        where
          at : Dec (u ≤ a) → Busy S u
          at (yes g) = busy_to_a u p g
          at (no g) = busy_past_a u (omega arith) (omega (arith, sum_grows (serves i) u (t₀ + suc x) (omega arith)))

      -- those ticks are few
      pub few_ticks : suc x + own_work t₀ ≤ blocking + own_served (t₀ + suc x) + over_higher higher n (λ k. most k x)
      few_ticks =
          omega (
            arith,
            supply S t₀ (suc x) busy_till,
            S.conserved i t₀,
            higher_totals t₀,
            higher_totals (t₀ + suc x),
            higher_few t₀ x,
            S.carried_most t₀,
          )

    -- by w ticks after t₀ task i has been served more than its earlier jobs hold
    pub begun_by : (q w : ℕ) → own_work a ≤ own_work t₀ + q * cost → blocking + q * cost + over_higher higher n (λ k. most k w) ≤ w → own_work a < own_served (t₀ + suc w)
    begun_by q w few fits = go (dec_lt (own_work a) (own_served (t₀ + suc w)))
      where
        go : Dec (own_work a < own_served (t₀ + suc w)) → own_work a < own_served (t₀ + suc w)
        go (yes h) = h
        go (no h) = omega (arith, few_ticks w (omega (arith, sum_suc (λ u. releases u i) a)))

    -- the number of the job in its window
    number : (L : ℕ) → 1 ≤ L → blocking + over_both higher i n (λ k. most k (L - 1)) ≤ L
        → (q : ℕ) × (own_work a ≤ own_work t₀ + q * cost) × (t₀ + q * period ≤ base a) × (q * period < L + jitter)
    number L pos fits = let r = F.own t₀ a t₀≤a job in (r.0, r.1, r.2, omega (arith, in_window L pos fits, r.2, F.near a job))

  -- a tick that serves i, when it has been served what was released before a, comes at a or later
  pub not_early : (s : ℕ) → own_work a ≤ own_served s → serves i s ≡ 1 → a ≤ s
  not_early s h one = go (dec_le a s)
    where
      go : Dec (a ≤ s) → a ≤ s
      go (yes p) = p
      go (no p) = omega (arith, sum_grows (λ u. releases u i) (suc s) a (omega arith), sum_suc (serves i) s, S.conserved i (suc s))

  starts-in_time : {response : ℕ} → Tested higher i n blocking most period cost jitter response → StartsInTime i cost response releases serves base a
  starts-in_time {response} K = go (last_idle S a)
    where
      go : (t : ℕ) × (t ≤ a) × (waits S t ≡ 0) × ((u : ℕ) → t < u → u ≤ a → 0 < waits S u) → StartsInTime i cost response releases serves base a
      go t =
          let r = number t.0 t.1 t.2 t.3 K.window K.from_1 (omega (arith, K.closes)) in
          let w = K.starts r.0 (omega (arith, r.3)) in
          let h = begun_by t.0 t.1 t.2 t.3 r.0 w.0 r.1 (omega (arith, w.1)) in
          let c = sum_crosses (serves i) (S.unit i) (t.0 + suc w.0) (own_work a) h in
          record {
            start = c.0;
            not_before = not_early c.0 (omega (arith, c.2)) c.3;
            next_in_line = c.2;
            served = c.3;
            in_time_lem = omega (arith, c.1, w.2, r.2);
          }

pub busy_window : BusyWindow
busy_window higher i n blocking most period cost jitter response releases pending serves carried base S F K a job = starts-in_time S F a job K
