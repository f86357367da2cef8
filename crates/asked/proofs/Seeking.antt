-- The search on its way: what is known at its tick, and what its answers say.
use Rattle.std.specs.Prelude.{Some, None, Option}
use mathlib.Core.Path.{◌≡◌, refl, sym, ap, ◌∙◌, subst}
use mathlib.Core.Bool.{Bool, true, false}
use mathlib.Core.List.{List}
use Prim.Native.Nat.{ℕ, ◌+◌, ◌-◌, ◌≤◌, ◌<◌, max}
use native.Mathlib.Decide.{dec_le, dec_lt}
use native.Mathlib.Omega.{arith}
use lib.Dec.{leb}
use lib.ListN.{length, get_or}
use borrow.Author.Tests.{le-leb, lt-leb}
use Rattle.laws.specs.Choice.{pick}
use Rattle.laws.specs.Sums.{least}
use Rattle.laws.specs.Joined.{overlaid}
use Rattle.laws.proofs.Sums.{least_above}
use Rattle.laws.proofs.Overlaid.{overlaid_in, length-overlaid}
use Rattle.model.specs.Limits.{most_tasks}
use Rattle.search.proofs.Smallest.{smallest_at, smallest_none}
use Rattle.asked.specs.declared.Searched.{Searched}
use Rattle.asked.specs.Rows.{RowsFit, asked_by}
use Rattle.asked.specs.Steps.{far, due_after}
use Rattle.asked.specs.Met.{met_by, UnmetBelow, StillFrom}
use Rattle.asked.proofs.RowLaws.{asked_grows}
use Rattle.asked.proofs.Dues.{due_later, asked_still}
use Rattle.asked.specs.declared.rows.Rows.{Rows}

-- what is known at tick w
pub record Seeking (rows : Rows) (count base : ℕ) (due : List ℕ) (all next w : ℕ) : Type 0 where
  pub unmet : UnmetBelow (asked_by rows count) base w
  pub asked : all ≡ asked_by rows count w
  pub next_is : next ≡ least far (due_after rows w) count
  pub places : length due ≡ most_tasks
  pub dues : (r : ℕ) → r < count → get_or due r 0 ≡ due_after rows w r

-- from releases that were written over others
pub seeking : (rows : Rows) (count base : ℕ) (due was : List ℕ) (all next w : ℕ) → count ≤ most_tasks → length was ≡ most_tasks → UnmetBelow (asked_by rows count) base w → all ≡ asked_by rows count w →
    next ≡ least far (due_after rows w) count → due ≡ overlaid (due_after rows w) count was → Seeking rows count base due all next w
seeking rows count base due was all next w few size unmet asked next_is over =
    record {
      unmet = unmet;
      asked = asked;
      next_is = next_is;
      places = ap (λ (xs : List ℕ). length xs) over ∙ length-overlaid (due_after rows w) was count (omega arith) ∙ size;
      dues = λ r l. ap (λ (xs : List ℕ). get_or xs r 0) over ∙ overlaid_in (due_after rows w) was count r 0 l;
    }

module _ (work : ℕ → ℕ) (base limit : ℕ) where
  pub met_here : (t : ℕ) → t ≤ limit → UnmetBelow work base t → base + work t ≤ t + 1 → met_by work base limit ≡ Some t
  unfolding met_by
  met_here t le unmet met = smallest_at _ 0 limit t (omega arith) le (le-leb _ _ met) (λ s a b. lt-leb _ _ (unmet s b))

  pub met_nowhere : (t : ℕ) → limit < t → UnmetBelow work base t → met_by work base limit ≡ None
  unfolding met_by
  met_nowhere t gt unmet = smallest_none _ 0 limit (λ s a b. lt-leb _ _ (unmet s (omega arith)))

  -- it is met at a tick, unless that lies past the limit
  found_by : (t : ℕ) → UnmetBelow work base t → (t ≤ limit → base + work t ≤ t + 1) → pick (leb t limit) (Some t) None ≡ met_by work base limit
  found_by t unmet met = elim (dec_le t limit) [
    | yes le ↦ rw (le-leb t limit le) (sym (met_here t le unmet (met le)))
    | no gt ↦ rw (lt-leb t limit (omega arith)) (sym (met_nowhere t (omega arith) unmet))
  ]

  still : (t next : ℕ) → ((s : ℕ) → t ≤ s → s < next → work s ≡ work t) → StillFrom work (pick (leb t limit) (Some t) None) next
  still t next same = go (leb t limit)
    where
      go : (b : Bool) → StillFrom work (pick b (Some t) None) next
      go true = same
      go false = tt

  -- what a search promises
  abbrev pub Promised : Searched → Type 0
  Promised r = (r.found ≡ met_by work base limit) × StillFrom work r.found r.next

  pub past : (t next : ℕ) → limit < t → UnmetBelow work base t → (r : Searched) → r ≡ record { found = pick (leb t limit) (Some t) None; next = next } → Promised r
  past t next gt unmet r e =
      let none : pick (leb t limit) (Some t) None ≡ None = rw (lt-leb t limit gt) refl in
      subst Promised (sym e) (found_by t unmet (λ le. absurd (omega arith)), subst (λ (f : Option ℕ). StillFrom work f next) (sym none) tt)

module _ (rows : Rows) (count base : ℕ) (fit : RowsFit rows count) (due : List ℕ) (all next w : ℕ) (at : Seeking rows count base due all next w) where
  -- the tick at which what is asked now would be met
  abbrev on : ℕ
  on = max (base + all) (w + 1) - 1

  -- nothing before it is
  pub unmet_on : UnmetBelow (asked_by rows count) base on
  unmet_on s l = elim (dec_lt s w) [
    | yes early ↦ at.unmet s early
    | no late ↦ omega (arith, at.asked, asked_grows rows count fit w s (omega arith))
  ]

  -- and it is met there, where no release comes before
  pub here : (limit : ℕ) → on < next → (r : Searched) → r ≡ record { found = pick (leb on limit) (Some on) None; next = next } → Promised (asked_by rows count) base limit r
  here limit l r e =
      let same : (s : ℕ) → w ≤ s → s < next → asked_by rows count s ≡ asked_by rows count w = λ s a b. asked_still rows count fit w s a (omega (arith, at.next_is)) in
      let met : base + asked_by rows count on ≤ on + 1 = omega (arith, same on (omega arith) l, at.asked) in
      subst (Promised (asked_by rows count) base limit) (sym e)
      (found_by (asked_by rows count) base limit on unmet_on (λ le. met), still (asked_by rows count) base limit on next (λ s a b. same s (omega arith) b ∙ sym (same on (omega arith) l)))

  -- the next release lies ahead
  pub next_later : w ≤ 2_000_000 → w < next
  next_later near = omega (arith, at.next_is, least_above far (due_after rows w) count w (omega arith) (λ r l. due_later rows count fit w r l))
