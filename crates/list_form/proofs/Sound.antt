-- Nothing is wrong below a place; and what cannot be wrong at one place.
use mathlib.Core.Path.{◌≡◌, sym, ap, subst}
use mathlib.Core.List.{List, [], ◌++◌, append-nil}
use mathlib.Core.Logic.{⊎_elim}
use Prim.Native.Nat.{ℕ, suc, ◌<◌}
use native.Mathlib.Omega.{arith}
use native.Mathlib.Decide.{dec_le}
use lib.ListN.{length}
use Rattle.form.proofs.Digits.{digits_past}
use Rattle.list_form.specs.Items.{Item, IsList}
use Rattle.list_form.specs.Offences.{IsFront, NoListThere, StopsShort, NumberOver, RangeFalls, SoundAt, SoundBelow}
use Rattle.list_form.proofs.Fronts.{not_broken_below}
use Rattle.list_form.proofs.Places.{NumbersBelow}

pub sound_below : (text front after : List ℕ) → text ≡ front ++ after → IsFront front → NumbersBelow text (length front) → SoundBelow text (length front)
sound_below text front after bytes is numbers k below =
    record { not_broken = not_broken_below text front after bytes is k below; not_over = (numbers k below).no_over; not_falling = (numbers k below).no_fall }

-- a list whose numbers are right has nothing wrong anywhere
pub sound_list : (text : List ℕ) (items : List Item) → IsList text items → NumbersBelow text (length text) → (at : ℕ) → SoundAt text at
sound_list text items list numbers at = go (dec_le (suc at) (length text))
  where
    front : IsFront text
    front = record { rest = []; items = items; goes_on_lem = subst (λ (t : List ℕ). IsList t items) (sym (append-nil text)) list }

    go : Dec (at < length text) → SoundAt text at
    go (yes below) = sound_below text text [] (sym (append-nil text)) front numbers at below
    go (no past) =
        let none = ap length (digits_past text at (omega (arith, past))) in
        record {
          not_broken = λ breaks. ⊎_elim (λ (there : NoListThere text at). past there.0) (λ (short : StopsShort text at). short.1 items list) breaks.broken;
          not_over = λ over. omega (arith, over.stands.number.some, none);
          not_falling = λ fall. omega (arith, fall.follows.number.some, none);
        }

-- the second number of a range that falls is over 63 only where the first one is
pub over_falls : (text : List ℕ) (at : ℕ) → SoundBelow text at → NumberOver text at → RangeFalls text at → ⊥
over_falls text at sound over fall =
    let earlier : fall.first_at < at = omega (arith, fall.behind-dash) in
    (sound fall.first_at earlier).not_over
    (record { value = fall.first; stands = fall.stands; over = omega (arith, over.over, over.stands.number.valued, fall.follows.number.valued, fall.falls) })
