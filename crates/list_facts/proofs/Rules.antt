-- 60, 61, 62 and 65 test what they say.
use mathlib.Core.Bool.{Bool, true, false}
use mathlib.Core.List.{List, [], ◌∷◌}
use Prim.Native.Nat.{ℕ, zero, suc, ◌+◌}
use lib.ListN.{length, drop}
use Rattle.model.specs.Rules.{TestsTell}
use Rattle.model.proofs.Rules.{tell_append, tell_one, at_most_tells}
use Rattle.form.specs.Parts.{count, up_to, behind}
use Rattle.form.specs.Numbers.{digits_of, value_of}
use Rattle.list.specs.Read.{is_comma, is_dashed, most_list_text, number_rules, end_rules, last_rules, more_rules, item_rules, items_rules, content_rules, list_rules}

number_tells : (at digits value : ℕ) → TestsTell (number_rules at digits value)
unfolding number_rules TestsTell
number_tells at digits value = (at_most_tells _ _, λ _. (at_most_tells _ _, λ _. tt))

end_tells : (at : ℕ) (left : List ℕ) → TestsTell (end_rules at left)
unfolding end_rules
end_tells at left = tell_one _ _ (at_most_tells _ _)

last_tells : (first at : ℕ) (s : List ℕ) → TestsTell (last_rules first at s)
unfolding last_rules TestsTell
last_tells first at s = tell_append (number_rules at (length (digits_of s)) (value_of (digits_of s))) _ (number_tells _ _ _) (λ _. (at_most_tells _ _, λ _. end_tells _ _))

more_tells : (dashed : Bool) (first at : ℕ) (left : List ℕ) → TestsTell (more_rules dashed first at left)
unfolding more_rules
more_tells true first at left = last_tells first (suc at) (drop 1 left)
more_tells false first at left = end_tells at left

item_tells : (at : ℕ) (s : List ℕ) → TestsTell (item_rules at s)
unfolding item_rules
item_tells at s = tell_append (number_rules at (length (digits_of s)) (value_of (digits_of s))) _ (number_tells _ _ _) (λ _. more_tells (is_dashed s) _ _ _)

items_tell : (at commas : ℕ) (s : List ℕ) → TestsTell (items_rules at commas s)
unfolding items_rules
items_tell at zero s = item_tells at s
items_tell at (suc commas) s = tell_append (item_rules at (up_to is_comma s)) _ (item_tells at (up_to is_comma s)) (λ _. items_tell (at + suc (length (up_to is_comma s))) commas (behind is_comma s))

content_tells : (text : List ℕ) → TestsTell (content_rules text)
unfolding content_rules TestsTell
content_tells [] = tt
content_tells (b ∷ s) = items_tell 0 (count is_comma (b ∷ s)) (b ∷ s)

pub list_tells : (text : List ℕ) → TestsTell (list_rules text)
unfolding list_rules TestsTell
list_tells text = (at_most_tells (length text) most_list_text, λ _. content_tells text)
