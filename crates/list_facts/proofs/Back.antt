-- "Read any such list back": reading what was written gives the set.
use mathlib.Core.Path.{◌≡◌, sym, subst}
use mathlib.Core.List.{List}
use Prim.Native.Nat.{ℕ}
use native.Mathlib.Omega.{arith}
use lib.ListN.{take}
use Rattle.sets.specs.Sets.{IsSet}
use Rattle.list_form.specs.Runs.{runs_of}
use Rattle.list_form.specs.ListText.{list_text}
use Rattle.list_form.proofs.Runs.{runs_of_right}
use Rattle.list_form.proofs.Listed.{runs_mean}
use Rattle.list_form.proofs.ListText.{list_is_list}
use Rattle.list_form.proofs.Short.{list_short}
use Rattle.list_facts.specs.Claims.{Lists, ListReadBack}
use Rattle.list_facts.proofs.Read.{list_accepted_exactly}
use Rattle.list_facts.proofs.Written.{list_front}

-- what is written is a list within the limits
written_lists : (set : ℕ) → IsSet set → Lists (list_text set) (runs_of set)
written_lists set is = record { short = omega (arith, list_short set is); list = list_is_list set is; right = runs_of_right set is }

pub list_read_back : ListReadBack
list_read_back set output written after count reading is w e reads =
    let front : take count after ≡ list_text set = list_front set output written after w count e in
    (list_accepted_exactly (take count after) reading set reads).1
    (runs_of set, subst (λ (text : List ℕ). Lists text (runs_of set)) (sym front) (written_lists set is), sym (runs_mean set is))
