use Rattle.model.specs.Rules.{first_broken, given}
use Rattle.model.proofs.Contained.{contained}
use Rattle.model.proofs.order.Task.judge.Goals as goal

pub returns-then-not-contains : goal.returns-then-not-contains
unfolding first_broken given
returns-then-not-contains c =
    let width = contained c.new.result c.args.self.width c.new.ensures.start c.new.ensures.end c.new.ensures.exhausted c.if-not-contains.ensures.value in
    rw width

pub returns-then-not-contains-2 : goal.returns-then-not-contains-2
unfolding first_broken given
returns-then-not-contains-2 c =
    let width = contained c.new.result c.args.self.width c.new.ensures.start c.new.ensures.end c.new.ensures.exhausted c.if-not-contains.ensures.value in
    let period = contained c.new-2.result c.args.self.period c.new-2.ensures.start c.new-2.ensures.end c.new-2.ensures.exhausted c.if-not-contains-2.ensures.value in
    simp (width, period)

pub returns-then-not-contains-3 : goal.returns-then-not-contains-3
unfolding first_broken given
returns-then-not-contains-3 c =
    let width = contained c.new.result c.args.self.width c.new.ensures.start c.new.ensures.end c.new.ensures.exhausted c.if-not-contains.ensures.value in
    let period = contained c.new-2.result c.args.self.period c.new-2.ensures.start c.new-2.ensures.end c.new-2.ensures.exhausted c.if-not-contains-2.ensures.value in
    let deadline = contained c.new-3.result c.args.self.deadline c.new-3.ensures.start c.new-3.ensures.end c.new-3.ensures.exhausted c.if-not-contains-3.ensures.value in
    simp (width, period, deadline)

pub returns-then-not-contains-4 : goal.returns-then-not-contains-4
unfolding first_broken given
returns-then-not-contains-4 c =
    let width = contained c.new.result c.args.self.width c.new.ensures.start c.new.ensures.end c.new.ensures.exhausted c.if-not-contains.ensures.value in
    let period = contained c.new-2.result c.args.self.period c.new-2.ensures.start c.new-2.ensures.end c.new-2.ensures.exhausted c.if-not-contains-2.ensures.value in
    let deadline = contained c.new-3.result c.args.self.deadline c.new-3.ensures.start c.new-3.ensures.end c.new-3.ensures.exhausted c.if-not-contains-3.ensures.value in
    let run = contained c.new-4.result c.cost.result c.new-4.ensures.start c.new-4.ensures.end c.new-4.ensures.exhausted c.if-not-contains-4.ensures.value in
    simp (width, period, deadline, rw c.cost.ensures at run)

pub returns : goal.returns
unfolding first_broken given
returns c =
    let width = contained c.new.result c.args.self.width c.new.ensures.start c.new.ensures.end c.new.ensures.exhausted c.if-not-contains.ensures.value in
    let period = contained c.new-2.result c.args.self.period c.new-2.ensures.start c.new-2.ensures.end c.new-2.ensures.exhausted c.if-not-contains-2.ensures.value in
    let deadline = contained c.new-3.result c.args.self.deadline c.new-3.ensures.start c.new-3.ensures.end c.new-3.ensures.exhausted c.if-not-contains-3.ensures.value in
    let run = contained c.new-4.result c.cost.result c.new-4.ensures.start c.new-4.ensures.end c.new-4.ensures.exhausted c.if-not-contains-4.ensures.value in
    simp (width, period, deadline, rw c.cost.ensures at run)
