-- What is still to be put of a list, from a place and a processor on.
use mathlib.Core.Path.{◌≡◌, sym, ap, ◌∙◌, subst}
use mathlib.Core.List.{List, ◌++◌}
use Prim.Native.Nat.{ℕ, ◌+◌, ◌^◌, ◌≤◌, ◌<◌}
use lib.ListN.{length}
use Rattle.model.specs.Limits.{most_processors}
use Rattle.put.specs.Put.{put_at, HasRoom, PutsAt}
use Rattle.put.proofs.Put.{put_none, put_two, room_first, room_next}
use Rattle.list_form.specs.ListText.{list_text}
use Rattle.list_out.specs.Parts.{run_text}
use Rattle.list_out.proofs.Parts.{rest_text, rest_all, rest_more, rest_none}

-- the rest has its room, and with it the output is the whole
pub record Ahead (set : ℕ) (whole : List ℕ) (at k : ℕ) (output : List ℕ) : Type 0 where
  pub room : HasRoom at (rest_text at set k) output
  pub comes : put_at at (rest_text at set k) output ≡ whole

pub all_ahead : (set : ℕ) (output : List ℕ) → HasRoom 0 (list_text set) output → Ahead set (put_at 0 (list_text set) output) 0 0 output
all_ahead set output fits = record { room = rw (rest_all set) fits; comes = rw (rest_all set) }

module _ (set : ℕ) (whole : List ℕ) (at k : ℕ) (output : List ℕ) (ahead : Ahead set whole at k output) where
  pub none_ahead : (end : ℕ) → set < 2 ^ end → end ≤ k → output ≡ whole
  none_ahead end few above = sym (put_none at output) ∙ ap (λ (b : List ℕ). put_at at b output) (sym (rest_none at set k end few above)) ∙ ahead.comes

  module _ (below : k < most_processors) where
    abbrev rest : List ℕ
    rest = rest_text (at + length (run_text at set k)) set (k + 1)

    split_room : HasRoom at (run_text at set k ++ rest) output
    split_room = subst (λ (b : List ℕ). HasRoom at b output) (rest_more at set k below) ahead.room

    pub run_room : HasRoom at (run_text at set k) output
    run_room = room_first rest split_room

    pub less_ahead : (next : ℕ) (middle : List ℕ) → PutsAt at (run_text at set k) output next middle → Ahead set whole next (k + 1) middle
    less_ahead next middle put =
        record {
          room = subst (λ (n : ℕ). HasRoom next (rest_text n set (k + 1)) middle) (sym put.next_at) (room_next rest split_room put);
          comes = rw (put.next_at, put.written) (put_two at (run_text at set k) rest output run_room.fits) ∙ ap (λ (b : List ℕ). put_at at b output) (sym (rest_more at set k below)) ∙ ahead.comes;
        }
