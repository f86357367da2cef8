-- Items read from their front: the digits, what follows them, and that an item has one reading.
use mathlib.Core.Path.{◌≡◌, refl, sym, ap, ◌∙◌, subst}
use mathlib.Core.Bool.{false}
use mathlib.Core.List.{List, [], ◌∷◌, ◌++◌, append_assoc, append-nil}
use mathlib.Core.Logic.{◌⊎◌, inl, inr}
use Prim.Native.Nat.{ℕ, ◌<◌}
use native.Mathlib.Omega.{arith}
use lib.ListN.{length, get_or, drop}
use lib.Seq.{drop-append_seam}
use Rattle.laws.proofs.Choice.{true_within}
use Rattle.form.specs.Bytes.{zero_digit, nine_digit, comma, is_digit}
use Rattle.form.specs.Numbers.{Digits, digits_of, behind_digits, value_of, IsNumber}
use Rattle.form.proofs.Digits.{digits_more, digits_stop, digits_none, digits_are, digits_cut, digits_over}
use Rattle.list_form.specs.Items.{dash, Item, IsItem, IsItems}

-- no digits begin where the first byte is none
digits_closed : (rest : List ℕ) → is_digit (get_or rest 0 0) ≡ false → digits_of rest ≡ []
digits_closed [] closed = digits_none
digits_closed (b ∷ rest) closed = digits_stop b rest closed

digits_until : (digits rest : List ℕ) → Digits digits → is_digit (get_or rest 0 0) ≡ false → digits_of (digits ++ rest) ≡ digits
unfolding Digits
digits_until [] rest are closed = digits_closed rest closed
digits_until (b ∷ digits) rest are closed =
    digits_more b (digits ++ rest) (true_within zero_digit nine_digit b are.0.0 are.0.1) ∙ ap (b ∷◌) (digits_until digits rest are.1 closed)

pub after_until : (digits rest : List ℕ) → Digits digits → is_digit (get_or rest 0 0) ≡ false → behind_digits (digits ++ rest) ≡ rest
after_until digits rest are closed =
    ap (λ (front : List ℕ). drop (length front) (digits ++ rest)) (digits_until digits rest are closed) ∙ drop-append_seam digits rest

-- digits end where no digit follows
closed_append : (one other : List ℕ) → is_digit (get_or one 0 0) ≡ false → is_digit (get_or other 0 0) ≡ false → is_digit (get_or (one ++ other) 0 0) ≡ false
closed_append [] other p q = q
closed_append (b ∷ one) other p q = p

module _ (head rest : List ℕ) (closed : is_digit (get_or rest 0 0) ≡ false) where
  cut_front : head ++ rest ≡ digits_of head ++ (behind_digits head ++ rest)
  cut_front = ap (◌++ rest) (digits_cut head) ∙ append_assoc (digits_of head) (behind_digits head) rest

  pub digits_front : digits_of (head ++ rest) ≡ digits_of head
  digits_front = ap digits_of cut_front ∙ digits_until (digits_of head) (behind_digits head ++ rest) (digits_are head) (closed_append (behind_digits head) rest (digits_over head) closed)

-- what follows an item: nothing, or a comma and the items behind it
unfoldable pub Follows : List ℕ → List Item → Type 0
Follows rest [] = rest ≡ []
Follows rest (next ∷ more) = (tail : List ℕ) × (rest ≡ comma ∷ tail) × IsItems tail next more

follows_closed : (rest : List ℕ) (more : List Item) → Follows rest more → is_digit (get_or rest 0 0) ≡ false
unfolding Follows
follows_closed rest [] ends = ap (λ (s : List ℕ). is_digit (get_or s 0 0)) ends
follows_closed rest (next ∷ more) goes = ap (λ (s : List ℕ). is_digit (get_or s 0 0)) goes.1

pub follows_comma : (b : ℕ) (rest : List ℕ) (more : List Item) → Follows (b ∷ rest) more → b ≡ comma
unfolding Follows
follows_comma b rest [] ends = absurd (omega (arith, ap length ends))
follows_comma b rest (next ∷ more) goes = ap (λ (s : List ℕ). get_or s 0 0) goes.1

pub follows_no_dash : (high : List ℕ) (more : List Item) → Follows (dash ∷ high) more → ⊥
follows_no_dash high more follows = let z : ◌≡◌ {A = ℕ} dash comma = follows_comma dash high more follows in omega arith

-- a dash and a second number, then what follows the item
pub record Ranged (s : List ℕ) (last : ℕ) (more : List Item) : Type 0 where
  pub high : List ℕ
  pub dashed : behind_digits s ≡ dash ∷ high
  pub some_high : 0 < length (digits_of high)
  pub last_is : last ≡ value_of (digits_of high)
  pub follows : Follows (behind_digits high) more

-- items from the front: a number, then what follows it, or a range
pub record Begins (s : List ℕ) (item : Item) (more : List Item) : Type 0 where
  pub some : 0 < length (digits_of s)
  pub first_is : item.first ≡ value_of (digits_of s)
  pub goes : ((item.last ≡ item.first) × Follows (behind_digits s) more) ⊎ Ranged s item.last more

-- one item or more are an item and what follows it
cut_first : (s : List ℕ) (item : Item) (more : List Item) → IsItems s item more → (head : List ℕ) × (rest : List ℕ) × (s ≡ head ++ rest) × IsItem head item × Follows rest more
unfolding IsItems Follows
cut_first s item [] is = (s, [], sym (append-nil s), is, refl)
cut_first s item (next ∷ more) (head, tail, bytes, first, others) = (head, comma ∷ tail, bytes, first, (tail, refl, others))

pub join_first : (head rest : List ℕ) (item : Item) (more : List Item) → IsItem head item → Follows rest more → IsItems (head ++ rest) item more
unfolding IsItems Follows
join_first head rest item [] is ends = subst (λ (s : List ℕ). IsItem s item) (sym (ap (head ++◌) ends ∙ append-nil head)) is
join_first head rest item (next ∷ more) is (tail, bytes, others) = (head, tail, ap (head ++◌) bytes, is, others)

module _ (item : Item) (more : List Item) where
  begin-alone : (s rest : List ℕ) → IsNumber s item.first → item.last ≡ item.first → Follows rest more → Begins (s ++ rest) item more
  begin-alone s rest number alone follows =
      let closed = follows_closed rest more follows in
      let digits = digits_until s rest number.digits closed in
      record {
        some = subst (λ (d : List ℕ). 0 < length d) (sym digits) number.some;
        first_is = number.valued ∙ ap value_of (sym digits);
        goes = inl (alone, subst (λ (left : List ℕ). Follows left more) (sym (after_until s rest number.digits closed)) follows);
      }

  begin_range : (low high rest : List ℕ) → IsNumber low item.first → IsNumber high item.last → Follows rest more → Begins (low ++ (dash ∷ (high ++ rest))) item more
  begin_range low high rest from to follows =
      let closed = follows_closed rest more follows in
      let digits = digits_until low (dash ∷ (high ++ rest)) from.digits refl in
      let second = digits_until high rest to.digits closed in
      record {
        some = subst (λ (d : List ℕ). 0 < length d) (sym digits) from.some;
        first_is = from.valued ∙ ap value_of (sym digits);
        goes = inr (record {
          high = high ++ rest;
          dashed = after_until low (dash ∷ (high ++ rest)) from.digits refl;
          some_high = subst (λ (d : List ℕ). 0 < length d) (sym second) to.some;
          last_is = to.valued ∙ ap value_of (sym second);
          follows = subst (λ (left : List ℕ). Follows left more) (sym (after_until high rest to.digits closed)) follows;
        });
      }

  begin_item : (head rest : List ℕ) → IsItem head item → Follows rest more → Begins (head ++ rest) item more
  begin_item head rest (inl alone) follows = begin-alone head rest alone.0 alone.1 follows
  begin_item head rest (inr range) follows =
      subst (λ (s : List ℕ). Begins s item more) (sym (ap (◌++ rest) range.bytes ∙ append_assoc range.low (dash ∷ range.high) rest))
      (begin_range range.low range.high rest range.from range.to follows)

  pub items_begin : (s : List ℕ) → IsItems s item more → Begins s item more
  items_begin s is = let r = cut_first s item more is in subst (λ (t : List ℕ). Begins t item more) (sym r.2) (begin_item r.0 r.1 r.3 r.4)

-- the digits that s begins with, as a number
pub number_front : (s : List ℕ) → 0 < length (digits_of s) → IsNumber (digits_of s) (value_of (digits_of s))
number_front s some = record { some = some; digits = digits_are s; valued = refl }

pub item_eq : (one other : Item) → one.first ≡ other.first → one.last ≡ other.last → one ≡ other
item_eq one other first last = ap (λ (x : ℕ). made x one.last) first ∙ ap (made other.first) last
  where
    made : ℕ → ℕ → Item
    made x y = record { first = x; last = y }

-- two readings from one front are of one item, and go on alike
pub begins_once : (s : List ℕ) (one other : Item) (more more' : List Item) → Begins s one more → Begins s other more'
    → (one ≡ other) × ((rest : List ℕ) × Follows rest more × Follows rest more')
begins_once s one other more more' p q = go p.goes q.goes
  where
    same : one.first ≡ other.first
    same = p.first_is ∙ sym q.first_is

    go : ((one.last ≡ one.first) × Follows (behind_digits s) more) ⊎ Ranged s one.last more → ((other.last ≡ other.first) × Follows (behind_digits s) more') ⊎ Ranged s other.last more'
        → (one ≡ other) × ((rest : List ℕ) × Follows rest more × Follows rest more')
    go (inl a) (inl b) = (item_eq one other same (a.0 ∙ same ∙ sym b.0), (behind_digits s, a.1, b.1))
    go (inl a) (inr b) = absurd (follows_no_dash b.high more (subst (λ (left : List ℕ). Follows left more) b.dashed a.1))
    go (inr a) (inl b) = absurd (follows_no_dash a.high more' (subst (λ (left : List ℕ). Follows left more') a.dashed b.1))
    go (inr a) (inr b) =
        let high : a.high ≡ b.high = ap (drop 1) (sym a.dashed ∙ b.dashed) in (
          item_eq one other same (a.last_is ∙ ap (λ (h : List ℕ). value_of (digits_of h)) high ∙ sym b.last_is),
          (behind_digits b.high, subst (λ (h : List ℕ). Follows (behind_digits h) more) high a.follows, b.follows),
        )
