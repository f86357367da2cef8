-- Where more is asked in every tick than the tick itself, no window closes; and the window as a search over one row more.
use Rattle.std.specs.Prelude.{Some, None, Ok, Err}
use mathlib.Core.Path.{◌≡◌, sym, ap, subst}
use Prim.Native.Nat.{ℕ, ◌+◌, ◌-◌, ◌*◌, ◌≤◌, ◌<◌, min}
use native.Mathlib.Nat.{mul_comm, mul-le-mul_left, mul-add}
use native.Mathlib.Decide.{dec_le}
use native.Mathlib.Omega.{arith}
use Rattle.model.specs.Limits.{horizon}
use Rattle.demand.specs.declared.Failing.TheVariants.{NoWindow}
use Rattle.demand.specs.Releases.{work_by}
use Rattle.demand.specs.Meaning.{NeverMet}
use Rattle.demand.specs.Over.{window_over, verdict_over}
use Rattle.demand.proofs.FirstMet.{met_at, met_never}
use Rattle.asked.specs.Rows.{RowsFit, row_task, asked_by, whole}
use Rattle.asked.specs.Lines.{line_in}
use Rattle.asked.specs.Met.{met_by, UnmetBelow}
use Rattle.asked.proofs.RowLaws.{asked_more}
use Rattle.asked.proofs.Slopes.{line_later}
use Rattle.asked.proofs.Said as said
use Rattle.verdict.specs.Tested.{worst_of, window_of, verdict_in, TestedAs}
use Rattle.verdict.specs.declared.Tested.{Tested}
use Rattle.verdict.proofs.InTurn.{OpenTo, Fails}
use Rattle.asked.specs.declared.rows.Rows.{Rows}

module _ (rows : Rows) (rank : ℕ) (fit : RowsFit rows (rank + 1)) (B : ℕ) where
  -- what a window asks is what one row more asks
  pub asks : (w : ℕ) → window_over (asked_by rows rank) B (row_task rows rank) (w + 1) ≡ B + asked_by rows (rank + 1) w
  unfolding window_over
  asks w =
      let same : w + 1 - 1 ≡ w = omega arith in
      omega (arith, asked_more rows rank w, ap (asked_by rows rank) same, ap (work_by (row_task rows rank)) same)

  none_closes : UnmetBelow (asked_by rows (rank + 1)) B horizon → NeverMet (window_over (asked_by rows rank) B (row_task rows rank)) 1
  none_closes unmet t a b =
      let same : t - 1 + 1 ≡ t = omega arith in
      omega (arith, unmet (t - 1) (omega arith), asks (t - 1), ap (window_over (asked_by rows rank) B (row_task rows rank)) same)

  -- what is asked in a tick is more than the tick
  pub overfull_open : whole < (line_in rows (rank + 1) 0 1_000_000).slope + min B 1 → UnmetBelow (asked_by rows (rank + 1)) B horizon
  overfull_open over s l =
      let slope = (line_in rows (rank + 1) 0 1_000_000).slope in
      let later = line_later rows 0 1_000_000 (rank + 1) fit s (omega arith) in
      let full : (s + 1) * whole ≤ (s + 1) * slope = mul-le-mul_left (s + 1) (omega arith) in
      elim (dec_le slope whole) [
        | yes le ↦ omega (arith, later, full, mul_comm (s + 1) whole)
        | no gt ↦ (let fuller : (s + 1) * (whole + 1) ≤ (s + 1) * slope = mul-le-mul_left (s + 1) (omega arith) in omega (arith, later, fuller, mul_comm (s + 1) whole, mul-add (s + 1) whole 1))
      ]

  pub unmet_window : UnmetBelow (asked_by rows (rank + 1)) B horizon → window_of (asked_by rows rank) B (row_task rows rank) ≡ None
  unfolding window_of
  unmet_window unmet = met_never (window_over (asked_by rows rank) B (row_task rows rank)) 1 (none_closes unmet)

  no_window : UnmetBelow (asked_by rows (rank + 1)) B horizon → verdict_in rows rank B ≡ Err NoWindow
  unfolding verdict_over
  no_window unmet = rw (met_never (window_over (asked_by rows rank) B (row_task rows rank)) 1 (none_closes unmet))

  pub unmet_fails : UnmetBelow (asked_by rows (rank + 1)) B horizon → Fails (asked_by rows rank) B (row_task rows rank)
  unmet_fails unmet = ap worst_of (no_window unmet)

  -- a window that stays open, as the search sees it
  pub open_unmet : (t : ℕ) → t ≤ horizon → OpenTo (asked_by rows rank) B (row_task rows rank) t → UnmetBelow (asked_by rows (rank + 1)) B t
  open_unmet t near opened s l = omega (arith, opened (s + 1) (omega arith) (omega arith) (omega arith), asks s)

  pub asked_unmet : (t : ℕ) → ((s : ℕ) → s < t → s + 1 < window_over (asked_by rows rank) B (row_task rows rank) (s + 1)) → UnmetBelow (asked_by rows (rank + 1)) B t
  asked_unmet t over s l = omega (arith, over s l, asks s)

  -- a member that fails, and one that passes
  pub failed_as : (last : ℕ) → Fails (asked_by rows rank) B (row_task rows rank) → last ≤ 2_000_000 → UnmetBelow (asked_by rows (rank + 1)) B last →
      (r : Tested) → r ≡ record { worst = None; last = last } → TestedAs rows rank B r
  failed_as last fails near unmet r e =
      subst (TestedAs rows rank B) (sym e) (record { worst = sym fails; near = near; unmet = unmet })

  pub passed_as : (worst last : ℕ) → verdict_in rows rank B ≡ Ok worst → last ≤ 2_000_000 → UnmetBelow (asked_by rows (rank + 1)) B last →
      TestedAs rows rank B (record { worst = Some worst; last = last })
  passed_as worst last e near unmet = record { worst = sym (ap worst_of e); near = near; unmet = unmet }

  -- the window by the search
  pub met_window : (w : ℕ) → met_by (asked_by rows (rank + 1)) B (horizon - 1) ≡ Some w → window_of (asked_by rows rank) B (row_task rows rank) ≡ Some (w + 1)
  unfolding window_of
  met_window w e =
      let m = said.met_says (asked_by rows (rank + 1)) B (horizon - 1) (Some w) e in
      met_at (window_over (asked_by rows rank) B (row_task rows rank)) 1 (w + 1)
      (record {
        from = omega arith;
        upto = omega (arith, m.upto);
        met = omega (arith, m.met, asks w);
        earlier = λ t a l. (let same : t - 1 + 1 ≡ t = omega arith in
            omega (arith, m.unmet (t - 1) (omega arith), asks (t - 1), ap (window_over (asked_by rows rank) B (row_task rows rank)) same));
      })

  pub met_no_window : met_by (asked_by rows (rank + 1)) B (horizon - 1) ≡ None → window_of (asked_by rows rank) B (row_task rows rank) ≡ None
  met_no_window e = unmet_window (λ s l. said.met_says (asked_by rows (rank + 1)) B (horizon - 1) None e s (omega arith))
