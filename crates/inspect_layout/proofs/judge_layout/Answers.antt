use Rattle.std.proofs.Common.{arith, sym, ◌∙◌}
use Rattle.inspect_layout.proofs.Rules.{matching_tells}
use Rattle.inspect_layout.proofs.judge_layout.Goals as goal

pub bytes-requires : goal.bytes-requires
bytes-requires c =
    let matched = (matching_tells _ _).0 (sym c.header_matches.ensures ∙ c.if-not-header_matches.false) in
    omega (arith, matched.tasks, matched.partitions)

pub take_build-taken-requires : goal.take_build-taken-requires
take_build-taken-requires c =
    let matched = (matching_tells _ _).0 (sym c.header_matches.ensures ∙ c.if-not-header_matches.false) in
    (c.read_build_header-header.ensures, matched.partitions.1, omega (arith, matched.tasks))
