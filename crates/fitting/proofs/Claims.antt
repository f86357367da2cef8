-- What first fit's placing, refusal and build say: the claims of specs/Claims.antt about a whole order.
use mathlib.Core.Path.{◌≡◌, sym, ap, ◌∙◌, subst}
use mathlib.Core.Bool.{false}
use mathlib.Core.List.{List}
use mathlib.Core.Logic.{◌⊎◌, inl, inr}
use Prim.Native.Nat.{ℕ, ◌+◌, ◌≤◌, ◌<◌}
use native.Mathlib.Omega.{arith}
use Rattle.laws.proofs.Sums.{sum_more}
use Rattle.laws.proofs.Growth.{sum_grows}
use Rattle.model.specs.Rules.{WithinLimits}
use Rattle.demand.specs.Priority.{rank}
use Rattle.demand.specs.Test.{verdict}
use Rattle.demand.proofs.Membership.{rank_same, verdict_same}
use Rattle.turns.specs.Turns.{Homes, home_at, is_unplaced}
use Rattle.fitting.specs.Kinds.{Order, Partition, Placing}
use Rattle.fitting.specs.Steps.{nothing_placed, RefusedAt, going_on, refusing, living_in, turns_taken, first_fit}
use Rattle.fitting.specs.Claims.{volume_at, Placed, FirstFitPlaces, RefusedIn, FirstFitRefuses, FirstFitEnds}
use Rattle.fitting.specs.Standing.{Stands}
use Rattle.fitting.proofs.Put.{living_same, none_waits}
use Rattle.fitting.proofs.Accepts.{pass_says}
use Rattle.fitting.proofs.Standing.{stands_none}
use Rattle.fitting.proofs.Turning.{widths, steps_none, refused_says, Ends, all_placed, one_refused, ends}

-- all tasks are placed
pub placed_all : (o : Order) (s : Placing) → 1 ≤ o.tasks → Stands o o.tasks s → Placed o s.homes s.places s.opened
placed_all o s some is =
    record {
      some = omega (arith, in_one 0 some);
      few = is.numbered.few;
      in_one = in_one;
      passes = λ i l. pass_says (verdict o (living_in s.homes (home_at s.homes i)) i) (is.numbered.passes i l (placed i l));
      wide = λ i l. is.wide.for_members i l (placed i l);
      volume_least = is.laid.volume_least;
      lowest = is.laid.lowest;
      apart = λ j k l m.
          omega (arith, is.laid.lowest j (omega arith), is.laid.lowest k m, sum_more volumes j, sum_grows volumes (j + 1) k (omega arith));
      inside = λ k l.
          omega (arith, is.laid.lowest k l, sum_more volumes k, sum_grows volumes (k + 1) s.opened (omega arith), is.laid.used_by, is.laid.inside);
      zero_past = is.laid.zero_past;
    }
  where
    volumes : ℕ → ℕ
    volumes k = volume_at s.places k

    placed : (i : ℕ) → i < o.tasks → is_unplaced s.homes i ≡ false
    placed i l = none_waits s.homes o.tasks (omega (arith, is.numbered.count)) i l

    in_one : (i : ℕ) → i < o.tasks → home_at s.homes i < s.opened
    in_one i l = is.numbered.in_one i l (placed i l)

-- partition numbers that agree on the order's tasks
module _ (o : Order) (a b : Homes) (agree : (i : ℕ) → i < o.tasks → home_at b i ≡ home_at a i) where
  pub verdict_agrees : (i : ℕ) → i < o.tasks → verdict o (living_in b (home_at b i)) i ≡ verdict o (living_in a (home_at a i)) i
  verdict_agrees i l = verdict_same o (living_in b (home_at b i)) (living_in a (home_at a i)) i (λ j m. living_same b a (home_at b i) (home_at a i) j (agree j m) (agree i l))

  pub rank_agrees : (i : ℕ) → i < o.tasks → rank o (living_in b (home_at b i)) i ≡ rank o (living_in a (home_at a i)) i
  rank_agrees i l = rank_same o (living_in b (home_at b i)) (living_in a (home_at a i)) i (λ j m. living_same b a (home_at b i) (home_at a i) j (agree j m) (agree i l))

  pub placed_agrees : (places : List Partition) (opened : ℕ) → Placed o a places opened → Placed o b places opened
  placed_agrees places opened p =
      record {
        some = p.some;
        few = p.few;
        in_one = λ i l. omega (arith, agree i l, p.in_one i l);
        passes = λ i l. ((p.passes i l).0, verdict_agrees i l ∙ (p.passes i l).1);
        wide = λ i l. omega (arith, ap (volume_at places) (agree i l), p.wide i l);
        volume_least = p.volume_least;
        lowest = p.lowest;
        apart = p.apart;
        inside = p.inside;
        zero_past = p.zero_past;
      }

module _ (o : Order) (limits : WithinLimits o) where
  pub start : Stands o 0 nothing_placed
  start = stands_none o limits (widths o limits)

  abbrev End : Type 0
  End = Ends o limits o.tasks nothing_placed

  pub end : End
  end = ends o limits o.tasks 0 nothing_placed (omega arith) start (steps_none o nothing_placed)

  fits_not_refused : {A : Type 0} (s t : Placing) (i : ℕ) → going_on s ≡ refusing t i → A
  fits_not_refused s t i e = absurd (cc e)

  pub places : (s : Placing) → first_fit o ≡ going_on s → Stands o o.tasks s
  unfolding first_fit
  places s e = go end
    where
      go : End → Stands o o.tasks s
      go (all_placed t is p) = let same : t ≡ s = cc (sym p ∙ e) in subst (Stands o o.tasks) same is
      go (one_refused t i is p) = fits_not_refused s t i (sym e ∙ p)

  pub refuses : (s : Placing) (i : ℕ) → first_fit o ≡ refusing s i → RefusedIn o s i
  unfolding first_fit
  refuses s i e = go end
    where
      go : End → RefusedIn o s i
      go (all_placed t is p) = fits_not_refused t s i (sym p ∙ e)
      go (one_refused t j is p) =
          let same : refusing t j ≡ refusing s i = sym p ∙ e in
          let at : ◌≡◌ {A = RefusedAt} (record { placing = t; task = j }) (record { placing = s; task = i }) = cc same in
          subst (λ (x : RefusedAt). RefusedIn o x.placing x.task) at is

  pub one_of_two : ((s : Placing) × (first_fit o ≡ going_on s)) ⊎ ((s : Placing) × ((i : ℕ) × (first_fit o ≡ refusing s i)))
  unfolding first_fit
  one_of_two = go end
    where
      go : End → ((s : Placing) × (turns_taken o o.tasks nothing_placed ≡ going_on s)) ⊎ ((s : Placing) × ((i : ℕ) × (turns_taken o o.tasks nothing_placed ≡ refusing s i)))
      go (all_placed t is p) = inl (t, p)
      go (one_refused t i is p) = inr (t, (i, p))

pub first_fit_places : FirstFitPlaces
first_fit_places o s limits e =
    placed_all o s limits.tasks.0 (places o limits s e)

pub first_fit_refuses : FirstFitRefuses
first_fit_refuses o s i limits = (refuses o limits s i, refused_says o limits s i)

pub first_fit_ends : FirstFitEnds
first_fit_ends o limits = one_of_two o limits
