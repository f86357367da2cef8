use Rattle.order_out.proofs.Bytes.{header_bytes_lem}
use Rattle.order_out.proofs.put_header.Goals as goal

pub returns : goal.returns
returns c =
    let a = c.args in
    cc (header_bytes_lem a.processors a.tasks)
