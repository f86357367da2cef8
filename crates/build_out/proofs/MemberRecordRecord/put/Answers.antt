use Rattle.build_out.proofs.Numbers.{member_number}
use Rattle.build_out.proofs.MemberRecordRecord.put.Goals as goal

pub returns : goal.returns
returns c = cc (member_number c.args.member)
