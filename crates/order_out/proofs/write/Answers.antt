use mathlib.Core.Path.{sym, ◌∙◌}
use native.Mathlib.Omega.{arith}
use lib.ListN.{length}
use Rattle.laws.proofs.Choice.{within_true}
use Rattle.model.specs.Limits.{most_tasks, most_processors}
use Rattle.model.specs.Rules.{first_broken}
use Rattle.model.proofs.Contained.{contained}
use Rattle.model.proofs.Rules.{done_pass, refused_given, done_given, handed_on}
use Rattle.model.proofs.Output.{after_refused}
use Rattle.order_out.specs.Write.{written_rules}
use Rattle.order_out.proofs.Rules.{order_fits, written_stop, written_on}
use Rattle.order_out.proofs.write.Goals as goal

pub returns-then-not-contains : goal.returns-then-not-contains
unfolding written_rules first_broken
returns-then-not-contains c =
    let processors-in = contained c.new.result c.args.order.processors c.new.ensures.start c.new.ensures.end c.new.ensures.exhausted c.if-not-contains.ensures.value in
    record { answered = rw processors-in; written = sym (after_refused _ _ c.args.out.now) }

pub returns-then-not-contains-2 : goal.returns-then-not-contains-2
unfolding written_rules first_broken
returns-then-not-contains-2 c =
    let processors-in = contained c.new.result c.args.order.processors c.new.ensures.start c.new.ensures.end c.new.ensures.exhausted c.if-not-contains.ensures.value in
    let tasks-in = contained c.new-2.result c.args.order.tasks c.new-2.ensures.start c.new-2.ensures.end c.new-2.ensures.exhausted c.if-not-contains-2.ensures.value in
    record { answered = rw (processors-in, tasks-in); written = sym (after_refused _ _ c.args.out.now) }

-- 3 and 4 passed
pub judge-requires : goal.judge-requires
judge-requires c =
    let tasks-in = contained c.new-2.result c.args.order.tasks c.new-2.ensures.start c.new-2.ensures.end c.new-2.ensures.exhausted c.if-not-contains-2.ensures.value in
    (within_true 1 most_tasks _ tasks-in).1

pub returns-in_err-judge : goal.returns-in_err-judge
returns-in_err-judge c =
    let a = c.args in
    let processors-in = contained c.new.result a.order.processors c.new.ensures.start c.new.ensures.end c.new.ensures.exhausted c.if-not-contains.ensures.value in
    let tasks-in = contained c.new-2.result a.order.tasks c.new-2.ensures.start c.new-2.ensures.end c.new-2.ensures.exhausted c.if-not-contains-2.ensures.value in
    let refused = handed_on c.from_residual.result c.from_residual.ensures.1 in
    let judged = refused_given tt _ (sym c.judge.ensures ∙ c.in_err-judge.was) in
    rw refused record {
      answered = sym (written_stop a.order (length a.out.now) processors-in tasks-in judged);
      written = sym (after_refused _ _ a.out.now);
    }

pub put_if_room-requires : goal.put_if_room-requires
put_if_room-requires c =
    let processors-in = contained c.new.result c.args.order.processors c.new.ensures.start c.new.ensures.end c.new.ensures.exhausted c.if-not-contains.ensures.value in
    let tasks-in = contained c.new-2.result c.args.order.tasks c.new-2.ensures.start c.new-2.ensures.end c.new-2.ensures.exhausted c.if-not-contains-2.ensures.value in
    let judged = done_given tt _ (sym c.judge.ensures ∙ c.in_ok-judge.was) in
    (order_fits _ (within_true 1 most_processors _ processors-in).1 (within_true 1 most_tasks _ tasks-in).1 (done_pass 0 _ judged.1), omega arith)

pub returns : goal.returns
returns c =
    let put = c.put_if_room.ensures in
    let a = c.args in
    let processors-in = contained c.new.result a.order.processors c.new.ensures.start c.new.ensures.end c.new.ensures.exhausted c.if-not-contains.ensures.value in
    let tasks-in = contained c.new-2.result a.order.tasks c.new-2.ensures.start c.new-2.ensures.end c.new-2.ensures.exhausted c.if-not-contains-2.ensures.value in
    let judged = done_given tt _ (sym c.judge.ensures ∙ c.in_ok-judge.was) in
    let e = written_on a.order (length a.out.now) processors-in tasks-in judged.1 in
    record { answered = put.answered ∙ sym e; written = put.written }
