use Rattle.std.specs.Prelude.{Ok}
use mathlib.Core.Path.{sym, ap, ◌∙◌}
use native.Mathlib.Omega.{arith}
use lib.ListN.{length}
use Rattle.model.specs.declared.answer.Refusal.TheVariants.{OfCall}
use Rattle.model.specs.declared.answer.CallCause.TheVariants.{Output}
use Rattle.model.proofs.Output.{after_done, after_refused}
use Rattle.model.proofs.Rules.{room_stop, room_on}
use Rattle.build.specs.Build.{build_bytes}
use Rattle.plan.proofs.put_build.Goals as goal

pub bytes-size-requires : goal.bytes-size-requires
bytes-size-requires c = let p = c.requires in (omega (arith, p.partitions), omega (arith, p.tasks))

pub returns-then-out-size : goal.returns-then-out-size
returns-then-out-size c =
    let a = c.args in
    let size = c.bytes-size.ensures in
    record {
      answered = sym (room_stop _ _ (length a.out.now) (rw size at c.if-out-size.true));
      written = sym (after_refused (OfCall Output) (build_bytes a.build) a.out.now);
    }

pub write_build-requires : goal.write_build-requires
write_build-requires c =
    (c.requires, rw c.bytes-size.ensures at c.if-out-size.false)

pub returns : goal.returns
returns c =
    let a = c.args in
    let size = c.bytes-size.ensures in
    record {
      answered = ap Ok size ∙ sym (room_on _ _ (length a.out.now) (rw size at c.if-out-size.false));
      written = c.write_build.ensures ∙ rw size (sym (after_done _ (build_bytes a.build) a.out.now));
    }
