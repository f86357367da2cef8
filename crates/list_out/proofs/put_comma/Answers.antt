use mathlib.Core.Path.{subst}
use mathlib.Core.List.{List}
use Prim.Native.Nat.{ℕ}
use Rattle.put.specs.Put.{HasRoom}
use Rattle.list_out.proofs.Parts.{comma_none, comma_one, puts_none}
use Rattle.list_out.proofs.put_comma.Goals as goal

pub returns-then-out-eq0-clause-put : goal.returns-then-out-eq0-clause-put
returns-then-out-eq0-clause-put c = rw (comma_none _ c.if-out-eq0.true) (puts_none _ _)

pub put_byte-requires : goal.put_byte-requires
put_byte-requires c =
    let out = c.args.out.now in subst (λ (b : List ℕ). HasRoom out.at b out.bytes.now) (comma_one _ c.if-out-eq0.false) c.requires

pub returns-clause-put : goal.returns-clause-put
returns-clause-put c = rw (comma_one _ c.if-out-eq0.false) c.put_byte.ensures.put
