-- What a verdict says, in the document's words: claims, proved in proofs/Meaning.antt.
use Rattle.std.specs.Prelude.{◌≡◌, false, ◌↔◌, ℕ, ◌+◌, ◌*◌, ◌≤◌, ◌<◌, Ok, Err}
use Rattle.model.specs.declared.order.Order.{Order}
use Rattle.model.specs.Limits.{horizon}
use Rattle.model.specs.Rules.{WithinLimits}
use Rattle.demand.specs.Priority.{Members, deadline_of, rank}
use Rattle.demand.specs.Releases.{period_of, cost_of}
use Rattle.demand.specs.Test.{NoWindow, NoStart, TooLate, window_demand, start_demand, verdict}

-- t is "the smallest t from least to H with asked t ≤ t"
pub record FirstMetAt (asked : ℕ → ℕ) (least t : ℕ) : Type 0 where
  pub from : least ≤ t
  pub upto : t ≤ horizon
  pub met : asked t ≤ t
  pub earlier : (s : ℕ) → least ≤ s → s < t → s < asked s

-- there is none
abbrev pub NeverMet : (ℕ → ℕ) → ℕ → Type 0
NeverMet asked least = (s : ℕ) → least ≤ s → s ≤ horizon → s < asked s

module _ (o : Order) (member : Members) (i : ℕ) where
  -- "Window L is the smallest t from 1 to H with .."
  abbrev pub IsWindow : ℕ → Type 0
  IsWindow L = FirstMetAt (window_demand o member i) 1 L

  -- "start w_q is the smallest w from 0 to H with .."
  abbrev pub IsStart : ℕ → ℕ → Type 0
  IsStart q w = FirstMetAt (start_demand o member i q) 0 w

  -- "Its response is w_q + C_i − q·T_i."
  pub record IsResponse (q response : ℕ) : Type 0 where
    pub start : ℕ
    pub start_is : IsStart q start
    pub response_is : response + q * period_of o i ≡ start + cost_of o i

  -- it passes: its worst response is the largest of its jobs', and at most D
  pub record IsPassing (worst : ℕ) : Type 0 where
    pub size : ℕ
    pub window : IsWindow size
    pub each : (q : ℕ) → q * period_of o i < size → (response : ℕ) × (IsResponse q response) × (response ≤ worst)
    pub attained : (q : ℕ) × (q * period_of o i < size) × (IsResponse q worst)
    pub in_time_lem : worst ≤ deadline_of o i

  -- a window, but one of its starts is missing
  pub record IsWithoutStart : Type 0 where
    pub size : ℕ
    pub window : IsWindow size
    pub missing : (q : ℕ) × (q * period_of o i < size) × NeverMet (start_demand o member i q) 0

  -- a window and all its starts, but a response over D
  pub record IsLate : Type 0 where
    pub size : ℕ
    pub window : IsWindow size
    pub each : (q : ℕ) → q * period_of o i < size → (response : ℕ) × IsResponse q response
    pub late : (q : ℕ) × (q * period_of o i < size) × ((response : ℕ) × (IsResponse q response) × (deadline_of o i < response))

  -- what each verdict says
  pub record VerdictMeans : Type 0 where
    pub passes : (worst : ℕ) → (verdict o member i ≡ Ok worst) ↔ IsPassing worst
    pub no_window : (verdict o member i ≡ Err NoWindow) ↔ NeverMet (window_demand o member i) 1
    pub no_start : (verdict o member i ≡ Err NoStart) ↔ IsWithoutStart
    pub late : (verdict o member i ≡ Err TooLate) ↔ IsLate

-- every verdict says just that
abbrev pub EveryVerdictMeans : Type 0
EveryVerdictMeans = (o : Order) (member : Members) (i : ℕ) → WithinLimits o → i < o.tasks → VerdictMeans o member i

-- a window that closes by H gives every needed start by H too
abbrev pub NoStartNever : Type 0
NoStartNever = (o : Order) (member : Members) (i : ℕ) → WithinLimits o → i < o.tasks → verdict o member i ≡ Err NoStart → ⊥

-- "A task alone always passes.", with its cost for a response
abbrev pub AlonePasses : Type 0
AlonePasses =
    (o : Order) (member : Members) (i : ℕ) → WithinLimits o → i < o.tasks →
    ((j : ℕ) → j < o.tasks → (j ≡ i → ⊥) → member j ≡ false) → verdict o member i ≡ Ok (cost_of o i)

-- rank and verdict look at nothing but who is in the partition
abbrev pub OnlyMembersCount : Type 0
OnlyMembersCount =
    (o : Order) (member others : Members) (i : ℕ) → ((j : ℕ) → j < o.tasks → member j ≡ others j) →
    (rank o member i ≡ rank o others i) × (verdict o member i ≡ verdict o others i)
