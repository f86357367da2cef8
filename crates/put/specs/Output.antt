-- What is put into the caller's output, behind what is written.
use Rattle.std.specs.Prelude.{ℕ, List}
use Rattle.put.specs.declared.Output.{Output}
use Rattle.put.specs.Put.{HasRoom, PutsAt}

-- there is room for some bytes
abbrev pub HasRoomFor : List ℕ → Output → Type 0
HasRoomFor bytes output = HasRoom output.at bytes output.bytes.now

-- they are put behind what is written, and count as written
abbrev pub Puts : List ℕ → (before after : Output) → Type 0
Puts bytes before after = PutsAt before.at bytes before.bytes.now after.at after.bytes.now
