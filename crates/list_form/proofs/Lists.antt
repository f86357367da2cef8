-- A text has one reading as a list.
use mathlib.Core.Path.{◌≡◌, refl, sym, ap, ◌∙◌, subst}
use mathlib.Core.List.{List, [], ◌∷◌}
use Prim.Native.Nat.{ℕ}
use native.Mathlib.Omega.{arith}
use lib.ListN.{length, drop}
use Rattle.form.specs.Numbers.{digits_of}
use Rattle.form.proofs.Digits.{digits_none}
use Rattle.list_form.specs.Items.{Item, IsItems, IsList}
use Rattle.list_form.proofs.Items.{Follows, items_begin, begins_once}

follows_once : (more more' : List Item) (rest : List ℕ) → Follows rest more → Follows rest more' → more ≡ more'
unfolding Follows
follows_once [] [] rest p q = refl
follows_once [] (next ∷ more) rest p q = absurd (omega (arith, ap length (sym p ∙ q.1)))
follows_once (next ∷ more) [] rest p q = absurd (omega (arith, ap length (sym q ∙ p.1)))
follows_once (next ∷ more) (next' ∷ more') rest p q =
    let tails : p.0 ≡ q.0 = ap (drop 1) (sym p.1 ∙ q.1) in
    let r = begins_once q.0 next next' more more' (items_begin next more q.0 (subst (λ (s : List ℕ). IsItems s next more) tails p.2)) (items_begin next' more' q.0 q.2) in
    let others = follows_once more more' r.1.0 r.1.1 r.1.2 in
    cc (r.0, others)

-- one item or more are no empty text
pub items_some : (s : List ℕ) (item : Item) (more : List Item) → IsItems s item more → s ≡ [] → ⊥
items_some s item more is none =
    let none_left : digits_of s ≡ [] = ap digits_of none ∙ digits_none in
    omega (arith, (items_begin item more s is).some, ap length none_left)

-- "its set": one meaning
pub list_once : (text : List ℕ) (one other : List Item) → IsList text one → IsList text other → one ≡ other
unfolding IsList
list_once text [] [] p q = refl
list_once text [] (item ∷ more) p q = absurd (items_some text item more q p)
list_once text (item ∷ more) [] p q = absurd (items_some text item more p q)
list_once text (item ∷ more) (item' ∷ more') p q =
    let r = begins_once text item item' more more' (items_begin item more text p) (items_begin item' more' text q) in
    let others = follows_once more more' r.1.0 r.1.1 r.1.2 in
    cc (r.0, others)
