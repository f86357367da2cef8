-- What it says that a partition takes a task, and that none does.
use Rattle.std.specs.Prelude.{Some, Ok, Err}
use mathlib.Core.Path.{◌≡◌, refl, sym, ap, ◌∙◌}
use mathlib.Core.Bool.{Bool, true, false}
use Prim.Native.Nat.{ℕ, ◌<◌}
use lib.ListN.{set}
use Rattle.laws.proofs.Every.{clash, every_at, every_all, every_stop}
use Rattle.search.proofs.First.{Firstly, first_says}
use Rattle.demand.specs.Test.{verdict, does_pass}
use Rattle.turns.specs.Turns.{Homes}
use Rattle.fitting.specs.Kinds.{Order, Verdict, NoWindow, NoStart, TooLate, Placing}
use Rattle.fitting.specs.Steps.{living_in, member_passes, members_pass, accepts, lowest_accepting}
use Rattle.fitting.specs.Claims.{AcceptsMeans}

pub pass_says : (v : Verdict) → does_pass v ≡ true → (worst : ℕ) × (v ≡ Ok worst)
pass_says (Ok worst) e = (worst, refl)
pass_says (Err NoWindow) e = clash e
pass_says (Err NoStart) e = clash e
pass_says (Err TooLate) e = clash e

module _ (o : Order) (homes : Homes) (k : ℕ) where
  pub member_of_lem : (j : ℕ) → living_in homes k j ≡ true → member_passes o homes k j ≡ does_pass (verdict o (living_in homes k) j)
  unfolding member_passes
  member_of_lem j e = rw e refl

  pub stranger : (j : ℕ) → living_in homes k j ≡ false → member_passes o homes k j ≡ true
  unfolding member_passes
  stranger j e = rw e refl

  pub members_say : members_pass o homes k ≡ true → (j : ℕ) → j < o.tasks → living_in homes k j ≡ true → does_pass (verdict o (living_in homes k) j) ≡ true
  unfolding members_pass
  members_say e j l m = sym (member_of_lem j m) ∙ every_at (member_passes o homes k) o.tasks e j l

  pub say_members : ((j : ℕ) → j < o.tasks → living_in homes k j ≡ true → does_pass (verdict o (living_in homes k) j) ≡ true) → members_pass o homes k ≡ true
  unfolding members_pass
  say_members each = every_all (member_passes o homes k) o.tasks (λ j l. go j l (living_in homes k j) refl)
    where
      go : (j : ℕ) → j < o.tasks → (b : Bool) → living_in homes k j ≡ b → member_passes o homes k j ≡ true
      go j l true e = member_of_lem j e ∙ each j l e
      go j l false e = stranger j e

  -- one member that fails is enough
  pub members_not : (j : ℕ) → j < o.tasks → living_in homes k j ≡ true → does_pass (verdict o (living_in homes k) j) ≡ false → members_pass o homes k ≡ false
  unfolding members_pass
  members_not j l m e = every_stop (member_passes o homes k) o.tasks j l (member_of_lem j m ∙ e)

pub accepts_means : AcceptsMeans
unfolding accepts
accepts_means o homes i k = (
  λ e j l m. pass_says (verdict o (living_in (set homes i (Some k)) k) j) (members_say o (set homes i (Some k)) k e j l m),
  λ each. say_members o (set homes i (Some k)) k (λ j l m. ap does_pass (each j l m).1),
)

-- the lowest partition that takes a task
module _ (o : Order) (s : Placing) (i : ℕ) where
  pub lowest_says : Firstly (accepts o s.homes i) s.opened (lowest_accepting o s i)
  unfolding lowest_accepting
  lowest_says = first_says (accepts o s.homes i) s.opened
