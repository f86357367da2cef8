use mathlib.Core.Path.{◌≡◌}
use Rattle.put.specs.Put.{put_at}
use Rattle.list_form.specs.ListText.{list_text}
use Rattle.list_out.proofs.Ahead.{Ahead}
use Rattle.list_out.proofs.put_list.Given as goal

abbrev pub invariant-loop-processor : goal.invariant-loop-processor
invariant-loop-processor l =
    (l.output.bytes.ghost_name ≡ l.initial.output.bytes.ghost_name)
    × Ahead l.set (put_at 0 (list_text l.set) l.fn.out) l.output.at l.processor l.output.bytes.now
