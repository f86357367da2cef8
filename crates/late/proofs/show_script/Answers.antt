use Rattle.late.proofs.Written.{records_listed, shows_many, shows_no_room, shows_bytes}
use Rattle.late.proofs.show_script.Goals as goal

pub returns-then-records-gt-MOST : goal.returns-then-records-gt-MOST
returns-then-records-gt-MOST c =
    shows_many c.args.order.now c.args.build.now c.args.task c.requires c.late_times-times.result c.late_times-times.ensures c.count-records.result c.count-records.ensures _ c.if-records-gt-MOST.true

pub returns-then-out-size : goal.returns-then-out-size
returns-then-out-size c =
    shows_no_room c.args.order.now c.args.build.now c.args.task c.requires c.late_times-times.result c.late_times-times.ensures c.count-records.result c.count-records.ensures _ c.if-records-gt-MOST.false c.if-out-size.true

pub put_script-requires-clause-all : goal.put_script-requires-clause-all
put_script-requires-clause-all c =
    records_listed c.args.order.now c.args.build.now c.args.task c.requires c.late_times-times.result c.late_times-times.ensures c.count-records.result c.count-records.ensures

pub returns : goal.returns
returns c =
    shows_bytes c.args.order.now c.args.build.now c.args.task c.requires c.late_times-times.result c.late_times-times.ensures c.count-records.result c.count-records.ensures _ c.if-records-gt-MOST.false _ c.if-out-size.false c.put_script.ensures
