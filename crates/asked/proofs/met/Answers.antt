use Rattle.std.proofs.Common.{◌≡◌, ℕ, ◌+◌, ◌-◌, ◌<◌, max, refl, sym, ap, ◌∙◌, arith}
use Rattle.asked.specs.Rows.{asked_by}
use Rattle.asked.specs.Met.{UnmetBelow}
use Rattle.asked.proofs.RowLaws.{asked_most}
use Rattle.asked.proofs.Seeking.{seeking, unmet_on, here, past, next_later}
use Rattle.asked.proofs.met.Goals as goal
use Rattle.asked.proofs.met.Goals.{After-max-on, Then-on-from, Else-from-onward}

pub loop-w-init : goal.loop-w-init
loop-w-init c =
    let a = c.args in
    let begun = c.begin-begun in
    record {
      seeking = seeking a.rows.now a.count a.base begun.new.due _ begun.result.all begun.result.next a.from c.requires.0.few refl c.requires.4 begun.ensures.all begun.ensures.next begun.ensures.dues;
      pace = omega arith;
    }

pub overflow_add-base : goal.overflow_add-base
overflow_add-base c =
    let a = c.args in
    record { fits = omega (arith, c.loop-w.invariant.seeking.asked, asked_most a.rows.now a.count c.requires.0 c.loop-w.w (omega arith), c.requires.0.few) }

-- the tick at which what is asked now would be met
on-is : (c : After-max-on) → c.max-on.result - 1 ≡ max (c.args.base + c.loop-w.all) (c.loop-w.w + 1) - 1
on-is c = ap (λ (x : ℕ). x - 1) (c.max-on.ensures ∙ ap (λ (x : ℕ). max (c.args.base + c.loop-w.all) (x + 1)) c.from.ensures)

unmet-then : (c : After-max-on) → UnmetBelow (asked_by c.args.rows.now c.args.count) c.args.base (c.max-on.result - 1)
unmet-then c = rw (on-is c) (unmet_on c.args.rows.now c.args.count c.args.base c.requires.0 c.loop-w.due c.loop-w.all c.loop-w.next c.loop-w.w c.loop-w.invariant.seeking)

pub returns-then-on-from : goal.returns-then-on-from
returns-then-on-from c =
    let a = c.args in
    let k = on-is (goal.at.returns-then-on-from c).After-max-on in
    let kept = here a.rows.now a.count a.base c.requires.0 c.loop-w.due c.loop-w.all c.loop-w.next c.loop-w.w c.loop-w.invariant.seeking a.limit (omega (arith, k)) c.unless_past.result (rw (sym k) c.unless_past.ensures) in
    record { found = kept.0; still = kept.1 }

pub go_ahead-onward-requires : goal.go_ahead-onward-requires
go_ahead-onward-requires c =
    let k = (goal.at.go_ahead-onward-requires c).After-max-on in
    (c.requires.0, c.requires.1, omega arith, omega (arith, on-is k), c.loop-w.invariant.pace, unmet-then k)

pub returns-then-from-onward : goal.returns-then-from-onward
returns-then-from-onward c =
    let a = c.args in
    let kept = past (asked_by a.rows.now a.count) a.base a.limit c.go_ahead-onward.result.to c.loop-w.next (omega arith) c.go_ahead-onward.ensures.1 c.unless_past-then-from-onward.result c.unless_past-then-from-onward.ensures in
    record { found = kept.0; still = kept.1 }

-- the search goes on past w
goes_on : (c : Else-from-onward) → c.loop-w.w < c.go_ahead-onward.result.to
goes_on c =
    let a = c.args in
    let later = next_later a.rows.now a.count a.base c.requires.0 c.loop-w.due c.loop-w.all c.loop-w.next c.loop-w.w c.loop-w.invariant.seeking (omega arith) in
    omega arith

pub go_on-step-requires : goal.go_on-step-requires
go_on-step-requires c =
    let at = c.loop-w.invariant.seeking in
    (c.requires.0, omega arith, record { earlier = c.loop-w.w; before = omega (arith, goes_on (goal.at.go_on-step-requires c).Else-from-onward); asked = at.asked; places = at.places; dues = at.dues })

pub overflow_sub-pace : goal.overflow_sub-pace
overflow_sub-pace c = omega (arith, goes_on (goal.at.overflow_sub-pace c).Else-from-onward)

pub loop-w-smaller : goal.loop-w-smaller
loop-w-smaller c = omega (arith, goes_on (goal.at.loop-w-smaller c).Else-from-onward)

pub loop-w-preserved : goal.loop-w-preserved
loop-w-preserved c =
    let a = c.args in
    let step = c.go_on-step in
    record {
      seeking = seeking a.rows.now a.count a.base step.new.due c.loop-w.due step.result.all step.result.next c.go_ahead-onward.result.to c.requires.0.few c.loop-w.invariant.seeking.places c.go_ahead-onward.ensures.1 step.ensures.all step.ensures.next step.ensures.dues;
      pace = c.go_ahead-onward.ensures.2;
    }

pub returns : goal.returns
returns c =
    let a = c.args in
    let kept = past (asked_by a.rows.now a.count) a.base a.limit c.loop-w.w c.loop-w.next c.loop-w-test.false c.loop-w.invariant.seeking.unmet c.unless_past-2.result (rw (sym c.from-2.ensures) c.unless_past-2.ensures) in
    record { found = kept.0; still = kept.1 }
