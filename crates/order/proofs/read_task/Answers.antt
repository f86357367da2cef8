use Rattle.std.specs.Prelude.{Ok}
use Rattle.std.proofs.Common.{◌≡◌, ◌+◌, arith, sym, ap, ◌∙◌}
use Rattle.bits.specs.Layout.{numbers_at}
use Rattle.order.specs.Order.{task_start, task_fields, task_at, task_spare_at}
use Rattle.order.proofs.Rules.{task_done, task_stops}
use Rattle.order.proofs.read_task.Goals as goal

pub returns-then-take-ne0-clause-task : goal.returns-then-take-ne0-clause-task
unfolding task_fields numbers_at
returns-then-take-ne0-clause-task c =
    let s = c.args.reader.now.order.now in
    let i = c.args.number in
    let at-five : c.take-4.new.self.at ≡ task_start i + 7 + 20 + 20 + 20 = omega arith in
    let spare : c.take-5.result ≡ task_spare_at s i = cc in
    sym (task_stops s i (λ e. c.if-take-ne0.true (spare ∙ e)))

pub returns-clause-task : goal.returns-clause-task
unfolding task_fields numbers_at
returns-clause-task c =
    let s = c.args.reader.now.order.now in
    let i = c.args.number in
    let at-two : c.take.new.self.at ≡ task_start i + 7 = omega arith in
    let at-three : c.take-2.new.self.at ≡ task_start i + 7 + 20 = omega arith in
    let at-four : c.take-3.new.self.at ≡ task_start i + 7 + 20 + 20 = omega arith in
    let at-five : c.take-4.new.self.at ≡ task_start i + 7 + 20 + 20 + 20 = omega arith in
    let task : record { width = c.take.result; period = c.take-2.result; deadline = c.take-3.result; run = c.take-4.result } ≡ task_at s i = cc in
    let spare : c.take-5.result ≡ task_spare_at s i = cc in
    ap Ok task ∙ sym (task_done s i (sym spare ∙ c.if-take-ne0.false))
