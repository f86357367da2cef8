-- Rules in document order, each with what it says; the answer that they give: the first broken one refuses.
use Rattle.std.specs.Prelude.{ℕ, ◌≤◌, ◌<◌, leb, eqb, length, ◌≡◌, Bool, true, List, [], ◌∷◌, ◌↔◌, ◌⊎◌, Ok, Err, Result}
use Rattle.laws.specs.Choice.{pick, within}
use Rattle.laws.specs.Joined.{joined}
use Rattle.model.specs.Kinds.{Task, Order, Answer, Refusal, OfOrder, OfCall, Width, Period, Deadline, RunTime, Output}
use Rattle.model.specs.Limits.{most_tasks, most_processors, most_period, zero_task, task_of, cost}

-- what a rule asks: what it says, and the test of it
pub record Fact : Type 1 where
  pub says : Type 0
  pub test : Bool

-- a rule, and the refusal where it is broken
pub record Rule : Type 1 where
  pub fact : Fact
  pub refusal : Refusal

abbrev pub rule : Fact → Refusal → Rule
rule fact refusal = record { fact = fact; refusal = refusal }

-- done with the count if every rule's test passes, else refused by the first that does not
unfoldable pub first_broken : ℕ → List Rule → Answer
first_broken count [] = Ok count
first_broken count (r ∷ rules) = pick r.fact.test (first_broken count rules) (Err r.refusal)

-- what an answer gives: a value where it is done, else its refusal
unfoldable pub given : {A : Type 0} → A → Answer → Result A Refusal
given value (Ok count) = Ok value
given value (Err refusal) = Err refusal

-- every rule holds
unfoldable pub AllKept : List Rule → Type 0
AllKept [] = Unit
AllKept (r ∷ rules) = r.fact.says × AllKept rules

-- "for that cause only": a rule with this refusal is broken, and every rule before it holds
unfoldable pub FirstOffence : List Rule → Refusal → Type 0
FirstOffence [] refusal = ⊥
FirstOffence (r ∷ rules) refusal = ((r.fact.says → ⊥) × (r.refusal ≡ refusal)) ⊎ (r.fact.says × FirstOffence rules refusal)

-- done with the count where every rule holds; refused by the first that does not
unfoldable pub RightAnswer : ℕ → List Rule → Answer → Type 0
RightAnswer count rules (Ok written) = (written ≡ count) × AllKept rules
RightAnswer count rules (Err refusal) = FirstOffence rules refusal

-- a test tells whether what it tests is so
abbrev pub Tells : Fact → Type 0
Tells fact = (fact.test ≡ true) ↔ fact.says

-- each rule's test tells, where those of the rules before it passed
unfoldable pub TestsTell : List Rule → Type 0
TestsTell [] = Unit
TestsTell (r ∷ rules) = Tells r.fact × (r.fact.test ≡ true → TestsTell rules)

-- where the tests tell, the first broken rule gives the right answer, and no other answer is right
unfoldable pub OneRightAnswer : Type 1
OneRightAnswer = (count : ℕ) (rules : List Rule) → TestsTell rules → (answer : Answer) → (answer ≡ first_broken count rules) ↔ RightAnswer count rules answer

-- two numbers are equal
abbrev pub equal : ℕ → ℕ → Fact
equal x y = record { says = x ≡ y; test = eqb x y }

-- one number is at most the other
abbrev pub at_most : ℕ → ℕ → Fact
at_most x most = record { says = x ≤ most; test = leb x most }

-- a number is from least to most, both counted
abbrev pub InRange : ℕ → ℕ → ℕ → Type 0
InRange least most x = (least ≤ x) × (x ≤ most)

abbrev pub in_range : ℕ → ℕ → ℕ → Fact
in_range least most x = record { says = InRange least most x; test = within least most x }

-- "m 1 .. M", "T 1 .. 1,000,000", "D 1 .. T", "C 1 .. D", in the order of 7 to 10
abbrev pub task_rules : ℕ → Task → ℕ → List Rule
task_rules processors t i =
    rule (in_range 1 processors t.width) (OfOrder (Width i))
    ∷ rule (in_range 1 most_period t.period) (OfOrder (Period i))
    ∷ rule (in_range 1 t.period t.deadline) (OfOrder (Deadline i))
    ∷ rule (in_range 1 t.deadline (cost t)) (OfOrder (RunTime i))
    ∷ []

-- "then task by task 7 to 10"
unfoldable pub range_rules : Order → List Rule
range_rules o = joined (λ i. task_rules o.processors (task_of o i) i) o.tasks

-- 12: "output shorter than the order or build"
unfoldable pub room_rules : ℕ → ℕ → List Rule
room_rules size room = rule (at_most size room) (OfCall Output) ∷ []

-- what 7 to 10 ask of a task
pub record TaskInRange (processors : ℕ) (t : Task) : Type 0 where
  pub width_in : InRange 1 processors t.width
  pub period_in : InRange 1 most_period t.period
  pub deadline_in : InRange 1 t.period t.deadline
  pub cost_in : InRange 1 t.deadline (cost t)

-- what the test needs of a task in range
pub record Sized (t : Task) : Type 0 where
  pub cost-least : 1 ≤ cost t
  pub cost_most : cost t ≤ t.deadline
  pub deadline_most : t.deadline ≤ t.period
  pub period_least : 1 ≤ t.period
  pub period_most : t.period ≤ most_period

-- an order within the limits of the document's table, zero past its n tasks
pub record WithinLimits (o : Order) : Type 0 where
  pub processors : InRange 1 most_processors o.processors
  pub tasks : InRange 1 most_tasks o.tasks
  pub places : length o.table ≡ most_tasks
  pub each : (i : ℕ) → i < o.tasks → TaskInRange o.processors (task_of o i)
  pub zero_past : (i : ℕ) → o.tasks ≤ i → task_of o i ≡ zero_task
