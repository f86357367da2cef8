-- What is wrong with a text that is no such list, and where: "60 .., 61 .., 62 ..; the lowest place decides".
use Rattle.std.specs.Prelude.{ℕ, suc, ◌+◌, ◌≤◌, ◌<◌, ◌≡◌, false, List, ◌++◌, ◌⊎◌, length, get_or, take, drop}
use Rattle.form.specs.Bytes.{is_digit}
use Rattle.form.specs.Numbers.{digits_of, IsNumber}
use Rattle.list_form.specs.Items.{dash, Item, IsList, most_listed}

-- the front of a list: something can follow so that it is one; how large a number is, and whether a range falls, plays no part
pub record IsFront (front : List ℕ) : Type 0 where
  pub rest : List ℕ
  pub items : List Item
  pub goes_on_lem : IsList (front ++ rest) items

-- a "byte that no list could have there": no list goes on from the bytes up to and with it
abbrev pub NoListThere : List ℕ → ℕ → Type 0
NoListThere text at = (at < length text) × (IsFront (take (suc at) text) → ⊥)

-- "when it stops short": the text is no list, and its length is the place
abbrev pub StopsShort : List ℕ → ℕ → Type 0
StopsShort text at = (at ≡ length text) × ((items : List Item) → IsList text items → ⊥)

-- 60: "at the first byte that no list could have there, or at the text's length when it stops short"; every shorter front is one of a list
pub record BreaksAt (text : List ℕ) (at : ℕ) : Type 0 where
  pub shorter : (k : ℕ) → k ≤ at → IsFront (take k text)
  pub broken : NoListThere text at ⊎ StopsShort text at

-- a number that stands at a place with all its digits: the byte before it is no digit
pub record NumberAt (text : List ℕ) (at value : ℕ) : Type 0 where
  pub begins : (before : ℕ) → at ≡ suc before → is_digit (get_or text before 0) ≡ false
  pub number : IsNumber (digits_of (drop at text)) value

-- 61: "a number over 63, at its first digit"
pub record NumberOver (text : List ℕ) (at : ℕ) : Type 0 where
  pub value : ℕ
  pub stands : NumberAt text at value
  pub over : most_listed < value

-- 62: "a range that falls, at its second number"
pub record RangeFalls (text : List ℕ) (at : ℕ) : Type 0 where
  pub first_at : ℕ
  pub first : ℕ
  pub last : ℕ
  pub stands : NumberAt text first_at first
  pub follows : NumberAt text at last
  pub behind-dash : at ≡ suc (first_at + length (digits_of (drop first_at text)))
  pub dashed : get_or text (first_at + length (digits_of (drop first_at text))) 0 ≡ dash
  pub falls : last < first

-- nothing is wrong at a place
pub record SoundAt (text : List ℕ) (at : ℕ) : Type 0 where
  pub not_broken : BreaksAt text at → ⊥
  pub not_over : NumberOver text at → ⊥
  pub not_falling : RangeFalls text at → ⊥

-- "the lowest place decides": nothing is wrong below it
abbrev pub SoundBelow : List ℕ → ℕ → Type 0
SoundBelow text at = (k : ℕ) → k < at → SoundAt text k
