-- Laws of answers: what a done and a refused call leave in the output.
use Rattle.std.specs.Prelude.{Ok, Err}
use mathlib.Core.Path.{◌≡◌, refl}
use mathlib.Core.List.{List, ◌++◌}
use Prim.Native.Nat.{ℕ, ◌≤◌}
use native.Mathlib.Omega.{arith}
use lib.ListN.{length, drop, length-append, length-drop}
use lib.Seq.{drop_at}
use Rattle.model.specs.Kinds.{Answer, Refusal}
use Rattle.model.specs.Answer.{answer_count, output_after, OnlyCountedFront}

pub after_done : (count : ℕ) (front output : List ℕ) → output_after (Ok count) front output ≡ front ++ drop count output
unfolding output_after
after_done count front output = refl

pub after_refused : (cause : Refusal) (front output : List ℕ) → output_after (Err cause) front output ≡ output
unfolding output_after
after_refused cause front output = refl

-- where a done call counts the front that it writes, and the output has room for it
pub only_counted_front : (answer : Answer) (front output : List ℕ) → ((count : ℕ) → answer ≡ Ok count → (length front ≡ count) × (count ≤ length output)) →
    OnlyCountedFront answer output (output_after answer front output)
unfolding output_after answer_count
only_counted_front (Ok count) front output room =
    let r = room count refl in
    record {
      same_length = rw (length-append, length-drop) (omega arith);
      rest_unchanged = drop_at front (drop count output) count r.0;
    }
only_counted_front (Err cause) front output room = record { same_length = refl; rest_unchanged = refl }
