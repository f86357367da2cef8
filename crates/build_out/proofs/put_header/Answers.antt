use Rattle.build_out.proofs.Numbers.{header_number}
use Rattle.build_out.proofs.put_header.Goals as goal

pub returns : goal.returns
returns c = cc (header_number c.args.header)
