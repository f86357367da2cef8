use native.Mathlib.Omega.{arith}
use Rattle.course.proofs.Turning.{ends_soon, event_soon, gathers_before, gathers_due, ready_so, turned_so}
use Rattle.course.proofs.turns.Tables.turn.Goals as goal

pub event-tick-requires : goal.event-tick-requires
event-tick-requires c = (ends_soon c.requires.0.lined.legal_run c.requires.0.short c.requires.0.partition c.args.m c.requires.0.so_far.follows c.requires.0.so_far.soon, c.requires.1, c.requires.0.lined.laid.held.sizes.0)

pub gather-before-requires : goal.gather-before-requires
gather-before-requires c = gathers_before c.requires.0 c.event-tick.result c.event-tick.ensures c.requires.1

pub overflow_add-tick : goal.overflow_add-tick
overflow_add-tick c = record { fits = omega (arith, event_soon c.requires.0 c.event-tick.result c.event-tick.ensures c.requires.1) }

pub gather-due-requires : goal.gather-due-requires
gather-due-requires c = gathers_due c.requires.0 c.event-tick.result c.event-tick.ensures c.requires.1 c.gather-before.result (c.gather-before.ensures (gathers_before c.requires.0 c.event-tick.result c.event-tick.ensures c.requires.1))

pub tick-requires : goal.tick-requires
tick-requires c = ready_so c.requires.0 c.event-tick.result c.event-tick.ensures c.requires.1 c.gather-before.result c.gather-due.result c.gather-before.ensures c.gather-due.ensures

pub returns : goal.returns
returns c = λ so. turned_so so c.event-tick.result c.event-tick.ensures c.requires.1 c.gather-before.result c.gather-due.result c.gather-before.ensures c.gather-due.ensures c.tick.result c.tick.ensures.0 c.tick.ensures.1 c.tick.ensures.2
