use mathlib.Core.Path.{sym, ap, ◌∙◌}
use native.Mathlib.Nat.{div-one}
use Rattle.model.specs.Layouts.{build_header}
use Rattle.build.specs.Build.{build_header_from, build_header_of}
use Rattle.build.proofs.Records.{cut_at}
use Rattle.build.proofs.read_build_header.Goals as goal

pub returns : goal.returns
unfolding build_header_of
returns c =
    let cut = cut_at c.args.build.now 0 build_header c.number_at-number.result c.number_at-number.ensures in
    sym (ap build_header_from cut ∙ rw (div-one c.number_at-number.result))
