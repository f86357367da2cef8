-- What 40 to 46 say of a script; proved in proofs/.
use Rattle.std.specs.Prelude.{ℕ, ◌≤◌, ◌<◌, ◌≡◌, List, ◌↔◌, length}
use Rattle.bits.specs.Layout.{Bytes}
use Rattle.model.specs.declared.order.Order.{Order}
use Rattle.model.specs.Kinds.{Answer}
use Rattle.model.specs.Limits.{most_records}
use Rattle.model.specs.Layouts.{script_length}
use Rattle.model.specs.Rules.{AllKept, RightAnswer, first_broken}
use Rattle.machine.specs.Pattern.{LegalScript}
use Rattle.script.specs.Script.{spare_at, records_in, script_of, script_bytes, script_rules}

-- the bytes are whole records, few enough, with a place for each finish tick and no spare bit set, and the script is legal
pub record ScriptAccepted (o : Order) (s : List ℕ) (places : ℕ) : Type 0 where
  pub whole : length s ≡ script_length 1 (records_in s)
  pub few : records_in s ≤ most_records
  pub room : records_in s ≤ places
  pub spares : (i : ℕ) → i < records_in s → spare_at s i ≡ 0
  pub legal : LegalScript o (script_of s)

-- 40 to 46 hold exactly then
abbrev pub RulesOfScripts : Type 0
RulesOfScripts = (o : Order) (s : List ℕ) (places : ℕ) → AllKept (script_rules o s places) ↔ ScriptAccepted o s places

-- a script's answer is the right one, by the rule that is broken first, and no other is
abbrev pub OneScriptAnswer : Type 0
OneScriptAnswer = (o : Order) (s : List ℕ) (places : ℕ) (answer : Answer)
    → (answer ≡ first_broken (records_in s) (script_rules o s places)) ↔ RightAnswer (records_in s) (script_rules o s places) answer

-- the bytes of an accepted script are those of its records, and of no others
abbrev pub ScriptBytes : Type 0
ScriptBytes = (o : Order) (s : List ℕ) (places : ℕ) → Bytes s → ScriptAccepted o s places → s ≡ script_bytes (script_of s)
