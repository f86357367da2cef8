use mathlib.Core.Path.{sym, ◌∙◌, subst}
use native.Mathlib.Omega.{arith}
use Rattle.course.proofs.Turning.{job_runs, ends_soon}
use Rattle.course.proofs.Done.{NotedSo, noted_none, noted_more, noted_all, turns_now}
use Rattle.course.proofs.turns.Tables.run.Goals as goal

pub loop-m-init : goal.loop-m-init
loop-m-init c = λ so. (so.turns.so_far, noted_none so.turns.lined.legal_run so.turns.short so.turns.partition c.args.start c.args.out.now so.none_started)

pub turn-m-requires : goal.turn-m-requires
turn-m-requires c = (turns_now c.requires c.loop-m.m (c.loop-m.invariant c.requires).0, sym c.goes_on.ensures ∙ c.loop-m-test.true)

pub note-requires : goal.note-requires
note-requires c =
    let so = c.requires in
    let t = c.turn-m.ensures (turns_now so c.loop-m.m (c.loop-m.invariant so).0) in
    let r = c.turn-m.result in (
      ends_soon so.turns.lined.legal_run so.turns.short so.turns.partition r t.so_far.follows t.so_far.soon,
      λ q. omega (arith, (job_runs so.turns.lined.legal_run so.turns.short so.turns.partition r t.so_far.follows q).there, so.room, (c.loop-m.invariant so).1.places),
    )

pub loop-m-smaller : goal.loop-m-smaller
loop-m-smaller c =
    let so = c.requires in
    let t = c.turn-m.ensures (turns_now so c.loop-m.m (c.loop-m.invariant so).0) in
    omega (arith, t.later, t.so_far.soon)

pub loop-m-preserved : goal.loop-m-preserved
loop-m-preserved c = λ so.
    let was = c.loop-m.invariant so in
    let t = c.turn-m.ensures (turns_now so c.loop-m.m was.0) in (
      t.so_far,
      subst (NotedSo so.turns.order so.turns.build so.turns.script so.turns.partition c.turn-m.result c.args.out.now) (sym c.note.ensures)
          (noted_more so.turns.lined.legal_run so.turns.short so.turns.partition c.loop-m.m c.turn-m.result c.args.out.now c.loop-m.out so.room was.1 t),
    )

pub shape_of-out : goal.shape_of-out
shape_of-out c = (c.loop-m.invariant c.requires).1.places

pub returns : goal.returns
returns c = λ so.
    let was = c.loop-m.invariant so in
    noted_all so.turns.lined.legal_run so.turns.short so.turns.partition c.loop-m.m c.args.out.now c.loop-m.out was.0 (sym c.goes_on.ensures ∙ c.loop-m-test.false) was.1
