-- Condition 3: "For any build the check accepts, whoever drew it, and any legal arrivals with jobs from one tick to their run time:
-- no accelerator serves two jobs at once, each job runs on enough accelerators of its own partition, and finishes by its deadline
-- and within the recorded response."
use Rattle.std.specs.Prelude.{ℕ, ◌+◌, ◌≤◌, ◌<◌, ◌≡◌, List, Ok}
use Rattle.model.specs.declared.order.Order.{Order}
use Rattle.model.specs.declared.build.Build.{Build}
use Rattle.model.specs.Limits.{task_of, place_of, member_of, home_of}
use Rattle.model.specs.Processors.{volume_of, processor_of, OfPartition}
use Rattle.order.specs.Order.{order_at}
use Rattle.build.specs.Build.{build_at}
use Rattle.demand.specs.Priority.{deadline_of}
use Rattle.machine.specs.Step.{Pattern}
use Rattle.machine.specs.Pattern.{LegalPattern}
use Rattle.machine.specs.Box.{Finishes, RunsAt, Occupies, Serves}
use Rattle.inspect.specs.Rules.{check_answer}

-- the box that an order and a build make, with what is released to it
module _ (o : Order) (b : Build) (releases : Pattern) where
  -- "each job runs on enough accelerators of its own partition": it occupies as many different processors as its width, each of them its partition's, and below M
  pub record OnEnough (task : ℕ) : Type 0 where
    pub enough : (k : ℕ) → k < (task_of o task).width → Occupies o b task (processor_of (place_of b (home_of b task)) k)
    pub different : (k l : ℕ) → k < volume_of (place_of b (home_of b task)) → l < volume_of (place_of b (home_of b task))
        → processor_of (place_of b (home_of b task)) k ≡ processor_of (place_of b (home_of b task)) l → k ≡ l
    pub of_its_own : (processor : ℕ) → Occupies o b task processor → OfPartition (place_of b (home_of b task)) processor
    pub below-M : (processor : ℕ) → Occupies o b task processor → processor < o.processors

  -- "finishes by its deadline and within the recorded response"
  pub record FinishesSoon (task release : ℕ) : Type 0 where
    pub finish : ℕ
    pub finishes : Finishes o b releases task release finish
    pub by_deadline : finish ≤ release + deadline_of o task
    pub within-response : finish ≤ release + (member_of b task).response

  pub record Kept : Type 0 where
    -- "no accelerator serves two jobs at once"
    pub one_job : (tick processor task release task' release' : ℕ) → Serves o b releases tick processor task release → Serves o b releases tick processor task' release' → (task ≡ task') × (release ≡ release')
    -- it runs in the partition that the build records for its task, on enough of its processors
    pub own_partition : (tick task release : ℕ) → (job : RunsAt o b releases tick task release) → (job.partition ≡ home_of b task) × OnEnough task
    pub in_time_lem : (task release : ℕ) → 0 < releases release task → FinishesSoon task release

-- every order and build that the check accepts, and every legal release pattern, endless ones too
abbrev pub AcceptedIsKept : Type 0
AcceptedIsKept = (order build : List ℕ) → check_answer order build ≡ Ok 0
    → (releases : Pattern) → LegalPattern (order_at order) releases → Kept (order_at order) (build_at build) releases
