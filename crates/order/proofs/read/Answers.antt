use mathlib.Core.Path.{sym, ◌∙◌}
use Rattle.model.proofs.Rules.{handed_on}
use Rattle.order.proofs.Rules.{tasks_small, header_stops, tasks_few, table_stops, table_taken, range_stops, read_done}
use Rattle.order.proofs.read.Goals as goal

pub judge_header-requires : goal.judge_header-requires
judge_header-requires c = rw c.read_header-header.ensures (tasks_small c.args.order.now)

pub returns-in_err-judge_header : goal.returns-in_err-judge_header
returns-in_err-judge_header c =
    let judged = rw c.read_header-header.ensures at c.judge_header.ensures in
    handed_on c.from_residual.result c.from_residual.ensures.1 ∙ sym (header_stops c.args.order.now (sym judged ∙ c.in_err-judge_header.was))

pub read_table-requires : goal.read_table-requires
read_table-requires c =
    let judged = rw c.read_header-header.ensures at c.judge_header.ensures in
    rw c.read_header-header.ensures (tasks_few c.args.order.now (sym judged ∙ c.in_ok-judge_header.was))

pub returns-in_err-read_table : goal.returns-in_err-read_table
returns-in_err-read_table c =
    let judged = rw c.read_header-header.ensures at c.judge_header.ensures in
    let taken = rw c.read_header-header.ensures at c.read_table.ensures in
    let refused = table_stops c.args.order.now (sym judged ∙ c.in_ok-judge_header.was) (sym taken ∙ c.in_err-read_table.was) in
    handed_on c.from_residual-in_err-read_table.result c.from_residual-in_err-read_table.ensures.1 ∙ sym refused

pub judge-requires : goal.judge-requires
judge-requires c =
    let judged = rw c.read_header-header.ensures at c.judge_header.ensures in
    rw c.read_header-header.ensures (tasks_few c.args.order.now (sym judged ∙ c.in_ok-judge_header.was))

pub returns-in_err-judge : goal.returns-in_err-judge
returns-in_err-judge c =
    let s = c.args.order.now in
    let judged = rw c.read_header-header.ensures at c.judge_header.ensures in
    let accepted = sym judged ∙ c.in_ok-judge_header.was in
    let taken = sym (rw c.read_header-header.ensures at c.read_table.ensures) ∙ c.in_ok-read_table.was in
    let ranges = rw (c.read_header-header.ensures, table_taken s accepted taken) at c.judge.ensures in
    handed_on c.from_residual-in_err-judge.result c.from_residual-in_err-judge.ensures.1 ∙ sym (range_stops s accepted taken (sym ranges ∙ c.in_err-judge.was))

pub returns : goal.returns
returns c =
    let s = c.args.order.now in
    let judged = rw c.read_header-header.ensures at c.judge_header.ensures in
    let accepted = sym judged ∙ c.in_ok-judge_header.was in
    let taken = sym (rw c.read_header-header.ensures at c.read_table.ensures) ∙ c.in_ok-read_table.was in
    let ranges = rw (c.read_header-header.ensures, table_taken s accepted taken) at c.judge.ensures in
    rw (c.read_header-header.ensures, table_taken s accepted taken) (sym (read_done s accepted taken (sym ranges ∙ c.in_ok-judge.was)))
