use Rattle.std.proofs.Common.{arith, refl, sym, ap, ◌∙◌, Ok}
use Rattle.fit.proofs.Turn.{few_tasks, idle_turn, task_small, trying, deadline_near, opened_few, seated_there, found_few, room_there, none_takes}
use Rattle.fit.proofs.taking.take_turn.Goals as goal

pub next_task-requires : goal.next_task-requires
next_task-requires c = few_tasks _ _ _ _ c.requires

pub returns-in_default : goal.returns-in_default
returns-in_default c = idle_turn _ _ _ _ c.requires _ (sym c.next_task.ensures ∙ c.in_default.is) _

pub offset_bounds-table-task : goal.offset_bounds-table-task
offset_bounds-table-task c = omega (arith, task_small _ _ _ _ c.requires _ (sym c.in-Some.ensures))

pub bounds-table-task : goal.bounds-table-task
bounds-table-task c = omega (arith, task_small _ _ _ _ c.requires _ (sym c.in-Some.ensures))

pub lowest_accepting-requires : goal.lowest_accepting-requires
lowest_accepting-requires c = (trying _ _ _ _ c.requires _ (sym c.in-Some.ensures), omega (arith, opened_few _ _ _ _ c.requires _ (sym c.in-Some.ensures)))

-- the partition that takes it
pub seat-requires : goal.seat-requires
seat-requires c =
    let lowest = c.lowest_accepting.ensures (trying _ _ _ _ c.requires _ (sym c.in-Some.ensures)) in
    let room = room_there _ _ _ _ c.requires _ (sym c.in-Some.ensures) _ _ lowest in
    (found_few _ _ _ _ c.requires _ (sym c.in-Some.ensures) _ _ _ lowest c.in-Some-lowest_accepting.is, deadline_near _ _ _ _ c.requires _ (sym c.in-Some.ensures), task_small _ _ _ _ c.requires _ (sym c.in-Some.ensures), room.0, room.1)

pub put-requires : goal.put-requires
put-requires c = task_small _ _ _ _ c.requires _ (sym c.in-Some.ensures)

pub returns-in-Some-lowest_accepting : goal.returns-in-Some-lowest_accepting
returns-in-Some-lowest_accepting c = seated_there _ _ _ _ c.requires _ (sym c.in-Some.ensures) _ _ _ _ _ _ (c.lowest_accepting.ensures (trying _ _ _ _ c.requires _ (sym c.in-Some.ensures))) c.in-Some-lowest_accepting.is refl c.seat.ensures (ap Ok c.put.ensures)

-- none takes it
pub offset_bounds-table-task-2 : goal.offset_bounds-table-task-2
offset_bounds-table-task-2 c = omega (arith, task_small _ _ _ _ c.requires _ (sym c.in-Some.ensures))

pub bounds-table-task-2 : goal.bounds-table-task-2
bounds-table-task-2 c = omega (arith, task_small _ _ _ _ c.requires _ (sym c.in-Some.ensures))

pub offset_bounds-line-task : goal.offset_bounds-line-task
offset_bounds-line-task c = omega (arith, task_small _ _ _ _ c.requires _ (sym c.in-Some.ensures))

pub bounds-line-task : goal.bounds-line-task
bounds-line-task c = omega (arith, task_small _ _ _ _ c.requires _ (sym c.in-Some.ensures))

pub seat-requires-2 : goal.seat-requires-2
seat-requires-2 c =
    let room = room_there _ _ _ _ c.requires _ (sym c.in-Some.ensures) _ _ (c.lowest_accepting.ensures (trying _ _ _ _ c.requires _ (sym c.in-Some.ensures))) in
    (opened_few _ _ _ _ c.requires _ (sym c.in-Some.ensures), deadline_near _ _ _ _ c.requires _ (sym c.in-Some.ensures), task_small _ _ _ _ c.requires _ (sym c.in-Some.ensures), room.0, room.1)

pub open_for-requires : goal.open_for-requires
open_for-requires c = (task_small _ _ _ _ c.requires _ (sym c.in-Some.ensures), opened_few _ _ _ _ c.requires _ (sym c.in-Some.ensures), c.requires.lines.stands.laid.inside, c.requires.limits.processors.1)

pub returns : goal.returns
returns c = none_takes _ _ _ _ c.requires _ (sym c.in-Some.ensures) _ _ _ _ _ (c.lowest_accepting.ensures (trying _ _ _ _ c.requires _ (sym c.in-Some.ensures))) c.in_default-lowest_accepting.is refl c.seat-2.ensures c.open_for.ensures
