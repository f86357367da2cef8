-- The longest of the members below the named one, task by task.
use Rattle.std.specs.Prelude.{Option, Some, None}
use mathlib.Core.Path.{◌≡◌, refl, sym, ap, ◌∙◌, subst}
use mathlib.Core.Bool.{Bool, true, false}
use mathlib.Core.List.{List}
use Prim.Native.Nat.{ℕ, ◌+◌, ◌≤◌, ◌<◌}
use mathlib.Core.Logic.{⊎_elim}
use native.Mathlib.Nat.{eq-or-lt_of_le}
use native.Mathlib.Omega.{arith}
use borrow.Author.Tests.{ltb-true, ltb-false}
use Rattle.laws.proofs.Every.{clash}
use Rattle.laws.specs.Sums.{only}
use Rattle.laws.proofs.Only.{only_true, only_false}
use Rattle.laws.proofs.Sums.{largest_none, largest_more, largest_in}
use Rattle.asked.specs.Rows.{cost_at}
use Rattle.roster.specs.Keys.{key_at}
use Rattle.late_find.specs.declared.Longest.{Longest}
use Rattle.late_find.specs.Found.{above, longest_cost, is_longer, LongestBelow}
use Rattle.asked.specs.declared.rows.Rows.{Rows}

none_some : {A : Type 0} {longest : Longest} → None ≡ Some longest → A
none_some e = let z : ◌≡◌ {A = ℕ} 0 1 = cc in absurd (omega arith)

module _ (table : Rows) (keys : List ℕ) (named : ℕ) where
  abbrev below : ℕ → Bool
  below j = above (key_at keys named) (key_at keys j)

  -- what a task counts
  abbrev cost_below : ℕ → ℕ
  cost_below j = only (below j) (cost_at table j)

  pub longest_none : LongestBelow table keys 0 named None
  longest_none =
      record { cost_is = omega (arith, largest_none cost_below); its_cost = λ longest e. none_some e; lowest = λ longest e. none_some e; none = λ e j l. absurd (omega (arith, l)) }

  module _ (i : ℕ) (r : Option Longest) (is : LongestBelow table keys i named r) where
    -- a task that is not below
    pub longest_other : below i ≡ false → LongestBelow table keys (i + 1) named r
    longest_other out =
        record {
          cost_is = omega (arith, largest_more cost_below i, is.cost_is, only_false (below i) (cost_at table i) out);
          its_cost = λ longest e. (let its = is.its_cost longest e in (omega (arith, its.0), its.1, its.2));
          lowest = is.lowest;
          none = λ e j l. ⊎_elim (λ same. ap below same ∙ out) (λ earlier. is.none e j earlier) (eq-or-lt_of_le (omega (arith, l)));
        }

    -- one that counts no more
    pub longest_stays : below i ≡ true → is_longer (cost_at table i) r ≡ false → LongestBelow table keys (i + 1) named r
    longest_stays passes short =
        record {
          cost_is = omega (arith, largest_more cost_below i, is.cost_is, only_true (below i) (cost_at table i) passes, no_more r refl);
          its_cost = λ longest e. (let its = is.its_cost longest e in (omega (arith, its.0), its.1, its.2));
          lowest = is.lowest;
          none = λ e j l. clash (sym short ∙ ap (is_longer (cost_at table i)) e);
        }
      where
        no_more : (o : Option Longest) → r ≡ o → cost_at table i ≤ longest_cost o
        no_more (Some longest) e = ltb-false longest.cost (cost_at table i) (sym (ap (is_longer (cost_at table i)) e) ∙ short)
        no_more None e = clash (sym short ∙ ap (is_longer (cost_at table i)) e)

    -- a longer one, or the first
    module _ (passes : below i ≡ true) (longer : is_longer (cost_at table i) r ≡ true) where
      more : (longest : Longest) → r ≡ Some longest → longest.cost < cost_at table i
      more longest e = ltb-true longest.cost (cost_at table i) (sym (ap (is_longer (cost_at table i)) e) ∙ longer)

      at_most : longest_cost r ≤ cost_at table i
      at_most = go r refl
        where
          go : (o : Option Longest) → r ≡ o → longest_cost o ≤ cost_at table i
          go (Some longest) e = omega (arith, more longest e)
          go None e = omega arith

      less : (j : ℕ) → j < i → below j ≡ true → cost_at table j < cost_at table i
      less j l its = go r refl
        where
          go : (o : Option Longest) → r ≡ o → cost_at table j < cost_at table i
          go (Some longest) e = omega (arith, only_true (below j) (cost_at table j) its, largest_in cost_below i j l, is.cost_is, ap longest_cost e, more longest e)
          go None e = clash (sym (is.none e j l) ∙ its)

      pub longest_next : LongestBelow table keys (i + 1) named (Some (record { number = i; cost = cost_at table i }))
      longest_next =
          record {
            cost_is = omega (arith, largest_more cost_below i, is.cost_is, only_true (below i) (cost_at table i) passes, at_most);
            its_cost = λ longest e. let same : record { number = i; cost = cost_at table i } ≡ longest = cc in
                subst (λ (l : Longest). (l.number < i + 1) × (below l.number ≡ true) × (cost_at table l.number ≡ l.cost)) same (omega arith, passes, refl);
            lowest = λ longest e. let same : record { number = i; cost = cost_at table i } ≡ longest = cc in
                subst (λ (l : Longest). (j : ℕ) → j < l.number → below j ≡ true → cost_at table j < l.cost) same less;
            none = λ e. none_some (sym e);
          }
