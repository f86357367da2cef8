-- The rules of an item hold just where its bytes are an item within the limits, and it is the one that is taken.
use mathlib.Core.Path.{◌≡◌, refl, sym, ap, ◌∙◌, subst}
use mathlib.Core.Bool.{Bool, true, false}
use mathlib.Core.List.{List, [], ◌∷◌, ◌++◌, append-nil}
use mathlib.Core.Logic.{◌⊎◌, inl, inr}
use Prim.Native.Nat.{ℕ, suc, ◌+◌, ◌≤◌, ◌<◌}
use native.Mathlib.Omega.{arith}
use lib.Dec.{eqb}
use lib.ListN.{length, get_or, drop}
use borrow.Author.Tests.{eqb-true}
use Rattle.laws.specs.Choice.{pick}
use Rattle.laws.proofs.Every.{clash}
use Rattle.model.specs.Rules.{AllKept}
use Rattle.form.specs.Numbers.{digits_of, behind_digits, value_of, IsNumber}
use Rattle.form.proofs.Digits.{digits_cut}
use Rattle.list_form.specs.Items.{dash, Item, IsItem, IsItems, ItemRight, most_listed}
use Rattle.list_form.proofs.Items.{Follows, Ranged, Begins, items_begin, number_front, item_eq}
use Rattle.list.specs.Read.{is_dashed, behind_dash, number_rules, end_rules, last_rules, more_rules, item_rules, item_of}

pub none_left : (left : List ℕ) → length left ≤ 0 → left ≡ []
none_left [] none = refl
none_left (b ∷ left) none = absurd (omega (arith, none))

-- a dash stands first
pub dash_first : (left : List ℕ) → eqb (get_or left 0 0) dash ≡ true → left ≡ dash ∷ drop 1 left
dash_first [] e = clash e
dash_first (b ∷ left) e = ap (◌∷ left) (eqb-true b dash e)

-- digits alone
all_digits_lem : (s : List ℕ) → length (behind_digits s) ≤ 0 → digits_of s ≡ s
all_digits_lem s none = sym (digits_cut s ∙ ap (digits_of s ++◌) (none_left (behind_digits s) none) ∙ append-nil (digits_of s))

-- the item that stands in bytes of its shape
alone_item : (s : List ℕ) → 0 < length (digits_of s) → length (behind_digits s) ≤ 0 → IsItem s (record { first = value_of (digits_of s); last = value_of (digits_of s) })
alone_item s some none = inl (subst (λ (d : List ℕ). IsNumber d (value_of (digits_of s))) (all_digits_lem s none) (number_front s some), refl)

range_item : (s : List ℕ) → 0 < length (digits_of s) → is_dashed s ≡ true → 0 < length (digits_of (behind_dash s)) → length (behind_digits (behind_dash s)) ≤ 0
    → IsItem s (record { first = value_of (digits_of s); last = value_of (digits_of (behind_dash s)) })
range_item s some dashed some_high none =
    inr (record {
      low = digits_of s;
      high = digits_of (behind_dash s);
      bytes = digits_cut s ∙ ap (digits_of s ++◌) (dash_first (behind_digits s) dashed ∙ ap (dash ∷◌) (sym (all_digits_lem (behind_dash s) none)));
      from = number_front s some;
      to = number_front (behind_dash s) some_high;
    })

-- such bytes are an item
pub kept_item : (at : ℕ) (s : List ℕ) → AllKept (item_rules at s) → IsItem s (item_of s) × ItemRight (item_of s)
unfolding item_rules more_rules last_rules number_rules end_rules AllKept item_of
kept_item at s (some, (listed, more)) = go (is_dashed s) refl more
  where
    go : (b : Bool) → is_dashed s ≡ b → AllKept (more_rules b (value_of (digits_of s)) (at + length (digits_of s)) (behind_digits s))
        → IsItem s (record { first = value_of (digits_of s); last = pick b (value_of (digits_of (behind_dash s))) (value_of (digits_of s)) })
        × ItemRight (record { first = value_of (digits_of s); last = pick b (value_of (digits_of (behind_dash s))) (value_of (digits_of s)) })
    go true e (some_high, (listed-high, (rises, (none, _)))) = (range_item s some e some_high none, record { listed = listed-high; rises = rises })
    go false e (none, _) = (alone_item s some none, record { listed = listed; rises = omega arith })

-- an item within the limits keeps them, and it is the one that is taken
pub item_kept : (at : ℕ) (s : List ℕ) (item : Item) → IsItem s item → ItemRight item → AllKept (item_rules at s) × (item_of s ≡ item)
unfolding item_rules more_rules last_rules number_rules end_rules AllKept item_of IsItems Follows
item_kept at s item is right = go begins.goes
  where
    begins : Begins s item []
    begins = items_begin item [] s is

    listed : value_of (digits_of s) ≤ most_listed
    listed = omega (arith, begins.first_is, right.listed, right.rises)

    go : ((item.last ≡ item.first) × (behind_digits s ≡ [])) ⊎ Ranged s item.last [] → AllKept (item_rules at s) × (item_of s ≡ item)
    go (inl (alone, ends)) =
        let dashed : is_dashed s ≡ false = ap (λ (left : List ℕ). eqb (get_or left 0 0) dash) ends in
        let last : (item_of s).last ≡ item.last = ap (λ (b : Bool). pick b (value_of (digits_of (behind_dash s))) (value_of (digits_of s))) dashed ∙ sym begins.first_is ∙ sym alone in
        let none : length (behind_digits s) ≤ 0 = omega (arith, ap length ends) in (
          (begins.some, (listed, subst (λ (b : Bool). AllKept (more_rules b (value_of (digits_of s)) (at + length (digits_of s)) (behind_digits s))) (sym dashed) (none, tt))),
          item_eq (item_of s) item (sym begins.first_is) last,
        )
    go (inr range) =
        let dashed : is_dashed s ≡ true = ap (λ (left : List ℕ). eqb (get_or left 0 0) dash) range.dashed in
        let high : behind_dash s ≡ range.high = ap (drop 1) range.dashed in
        let last : (item_of s).last ≡ item.last = ap (λ (b : Bool). pick b (value_of (digits_of (behind_dash s))) (value_of (digits_of s))) dashed ∙ ap (λ (h : List ℕ). value_of (digits_of h)) high ∙ sym range.last_is in
        let listed-high : value_of (digits_of range.high) ≤ most_listed = omega (arith, range.last_is, right.listed) in
        let rises : value_of (digits_of s) ≤ value_of (digits_of range.high) = omega (arith, range.last_is, begins.first_is, right.rises) in
        let none : length (behind_digits range.high) ≤ 0 = omega (arith, ap length range.follows) in
        let kept : AllKept (last_rules (value_of (digits_of s)) (suc (at + length (digits_of s))) (behind_dash s)) =
        subst (λ (h : List ℕ). AllKept (last_rules (value_of (digits_of s)) (suc (at + length (digits_of s))) h)) (sym high) (range.some_high, (listed-high, (rises, (none, tt)))) in (
          (begins.some, (listed, subst (λ (b : Bool). AllKept (more_rules b (value_of (digits_of s)) (at + length (digits_of s)) (behind_digits s))) (sym dashed) kept)),
          item_eq (item_of s) item (sym begins.first_is) last,
        )
