-- Laws of rules in order: their tests part by part, a scan index by index, and what the first broken one means.
use Rattle.std.specs.Prelude.{Result, Ok, Err}
use Rattle.std.specs.Result.{IsErrAnd}
use Rattle.std.proofs.lemmas.Result.{err_from_is_err_and}
use mathlib.Core.Path.{◌≡◌, refl, sym, ap, ◌∙◌}
use mathlib.Core.Bool.{Bool, true, false}
use mathlib.Core.List.{List, [], ◌∷◌, ◌++◌}
use mathlib.Core.Logic.{◌⊎◌, inl, inr, ⊎_elim}
use Prim.Native.Nat.{ℕ, zero, suc, ◌+◌, ◌≤◌, ◌<◌}
use native.Mathlib.Omega.{arith}
use borrow.Author.Tests.{le-leb, lt-leb, leb-true, eq-eqb, eqb-true}
use Rattle.laws.specs.Choice.{pick}
use Rattle.laws.specs.Joined.{joined}
use Rattle.laws.proofs.Choice.{within_true, true_within}
use Rattle.laws.proofs.Every.{clash}
use Rattle.laws.proofs.Joined.{joined_none, joined_more, joined_at}
use Rattle.model.specs.Kinds.{Answer, Refusal, OfCall, Output}
use Rattle.model.specs.Rules.{Fact, Rule, rule, first_broken, given, AllKept, FirstOffence, RightAnswer, Tells, TestsTell, OneRightAnswer, equal, at_most, in_range, room_rules}

pub never : {A : Type 0} {cause : Refusal} {count : ℕ} → Err cause ≡ Ok count → A
never e = let z : ◌≡◌ {A = ℕ} 0 1 = cc in absurd (omega arith)

-- what is given, by the answer that gives it
module _ {V : Type 0} (value : V) where
  pub given_done : {count : ℕ} (answer : Answer) → answer ≡ Ok count → given value answer ≡ Ok value
  unfolding given
  given_done (Ok count) e = refl
  given_done (Err refusal) e = never e

  pub given_refused : (answer : Answer) {refusal : Refusal} → answer ≡ Err refusal → given value answer ≡ Err refusal
  unfolding given
  given_refused answer e = ap (given value) e

  pub refused_given : (answer : Answer) {refusal : Refusal} → given value answer ≡ Err refusal → answer ≡ Err refusal
  unfolding given
  refused_given (Ok count) e = let z : ◌≡◌ {A = ℕ} 0 1 = cc in absurd (omega arith)
  refused_given (Err refusal) e = cc

  pub done_given : (answer : Answer) {read : V} → given value answer ≡ Ok read → (count : ℕ) × (answer ≡ Ok count) × (read ≡ value)
  unfolding given
  done_given (Ok count) e = (count, refl, cc)
  done_given (Err refusal) e = let z : ◌≡◌ {A = ℕ} 0 1 = cc in absurd (omega arith)

-- what `?` hands on: the refusal that it met
pub handed_on : {V : Type 0} (answer : Result V Refusal) {refusal : Refusal} → IsErrAnd answer (λ x. x ≡ refusal) → answer ≡ Err refusal
handed_on answer is = let met = err_from_is_err_and answer is in met.1 ∙ ap Err met.2

-- every test passes
unfoldable pub AllPass : List Rule → Type 0
AllPass [] = Unit
AllPass (r ∷ rules) = (r.fact.test ≡ true) × AllPass rules

module _ (count : ℕ) where
  pub pass_done : (rules : List Rule) → AllPass rules → first_broken count rules ≡ Ok count
  unfolding first_broken AllPass
  pass_done [] all = refl
  pass_done (r ∷ rules) all = rw all.0 (pass_done rules all.1)

  pub done_pass : (rules : List Rule) {other : ℕ} → first_broken count rules ≡ Ok other → AllPass rules
  unfolding first_broken AllPass
  done_pass [] e = tt
  done_pass (r ∷ rules) {other} e = go (λ (d : first_broken count rules ≡ Ok other). done_pass rules d) r.fact.test refl e
    where
      go : (first_broken count rules ≡ Ok other → AllPass rules) → (b : Bool) → r.fact.test ≡ b →
          pick b (first_broken count rules) (Err r.refusal) ≡ Ok other → (r.fact.test ≡ true) × AllPass rules
      go rest true h e = (h, rest e)
      go rest false h e = never e

  pub done_count : (rules : List Rule) {other : ℕ} → first_broken count rules ≡ Ok other → other ≡ count
  done_count rules e = let d = pass_done rules (done_pass rules e) in cc

  -- what passes is passed over
  pub pass_on : (a b : List Rule) → AllPass a → first_broken count (a ++ b) ≡ first_broken count b
  unfolding first_broken AllPass
  pass_on [] b all = refl
  pass_on (r ∷ a) b all = rw all.0 (pass_on a b all.1)

  -- a refusal stands, whatever rules follow
  pub stop : (a b : List Rule) (refusal : Refusal) → first_broken count a ≡ Err refusal → first_broken count (a ++ b) ≡ Err refusal
  unfolding first_broken
  stop [] b refusal e = never (sym e)
  stop (r ∷ a) b refusal e = go (λ (d : first_broken count a ≡ Err refusal). stop a b refusal d) r.fact.test e
    where
      go : (first_broken count a ≡ Err refusal → first_broken count (a ++ b) ≡ Err refusal) → (test : Bool) →
          pick test (first_broken count a) (Err r.refusal) ≡ Err refusal → pick test (first_broken count (a ++ b)) (Err r.refusal) ≡ Err refusal
      go rest true e = rest e
      go rest false e = e

-- a count plays no part in a refusal
pub any_count : (count other : ℕ) (rules : List Rule) (refusal : Refusal) → first_broken count rules ≡ Err refusal → first_broken other rules ≡ Err refusal
unfolding first_broken
any_count count other [] refusal e = never (sym e)
any_count count other (r ∷ rules) refusal e = go (λ (d : first_broken count rules ≡ Err refusal). any_count count other rules refusal d) r.fact.test e
  where
    go : (first_broken count rules ≡ Err refusal → first_broken other rules ≡ Err refusal) → (test : Bool) →
        pick test (first_broken count rules) (Err r.refusal) ≡ Err refusal → pick test (first_broken other rules) (Err r.refusal) ≡ Err refusal
    go rest true e = rest e
    go rest false e = e

pub pass_append : (a b : List Rule) → AllPass a → AllPass b → AllPass (a ++ b)
unfolding AllPass
pass_append [] b x y = y
pass_append (r ∷ a) b x y = (x.0, pass_append a b x.1 y)

pub pass_front : (a b : List Rule) → AllPass (a ++ b) → AllPass a
unfolding AllPass
pass_front [] b all = tt
pass_front (r ∷ a) b all = (all.0, pass_front a b all.1)

pub pass_rest : (a b : List Rule) → AllPass (a ++ b) → AllPass b
unfolding AllPass
pass_rest [] b all = all
pass_rest (r ∷ a) b all = pass_rest a b all.1

-- a scan of f 0, f 1, .. up to i
module _ (f : ℕ → List Rule) where
  pub scan_none : AllPass (joined f 0)
  unfolding AllPass
  scan_none = rw joined_none tt

  pub scan_more : (i : ℕ) → AllPass (joined f i) → AllPass (f i) → AllPass (joined f (i + 1))
  scan_more i all here = rw joined_more (pass_append (joined f i) (f i) all here)

  pub scan_stop : (count n i : ℕ) (refusal : Refusal) → i < n → AllPass (joined f i) → first_broken count (f i) ≡ Err refusal → first_broken count (joined f n) ≡ Err refusal
  scan_stop count n i refusal below all e =
      let r = joined_at f n i below in
      rw r.1 (pass_on count (joined f i) (f i ++ r.0) all ∙ stop count (f i) r.0 refusal e)

  pub scan_at : (n i : ℕ) → i < n → AllPass (joined f n) → AllPass (f i)
  scan_at n i below all =
      let r = joined_at f n i below in
      pass_front (f i) r.0 (pass_rest (joined f i) (f i ++ r.0) (rw r.1 at all))

  pub scan_all : (n : ℕ) → ((i : ℕ) → i < n → AllPass (f i)) → AllPass (joined f n)
  unfolding joined
  scan_all zero each = scan_none
  scan_all (suc n) each = pass_append (joined f n) (f n) (scan_all n (λ i l. each i (omega arith))) (each n (omega arith))

-- a scan with one rule at each turn
module _ (fact : ℕ → Fact) (refusal : ℕ → Refusal) where
  abbrev pub each_rule : ℕ → List Rule
  each_rule i = rule (fact i) (refusal i) ∷ []

  pub each_none : AllPass (joined each_rule 0)
  each_none = scan_none each_rule

  pub each_more : (i : ℕ) → AllPass (joined each_rule i) → (fact i).test ≡ true → AllPass (joined each_rule (i + 1))
  unfolding AllPass
  each_more i all passes = scan_more each_rule i all (passes, tt)

  pub each_stop : (count n i : ℕ) → i < n → AllPass (joined each_rule i) → (fact i).test ≡ false → first_broken count (joined each_rule n) ≡ Err (refusal i)
  unfolding first_broken
  each_stop count n i below all breaks = scan_stop each_rule count n i (refusal i) below all (rw breaks)

-- what they say, part by part
pub kept_append : (a b : List Rule) → AllKept a → AllKept b → AllKept (a ++ b)
unfolding AllKept
kept_append [] b x y = y
kept_append (r ∷ a) b x y = (x.0, kept_append a b x.1 y)

pub kept_front : (a b : List Rule) → AllKept (a ++ b) → AllKept a
unfolding AllKept
kept_front [] b all = tt
kept_front (r ∷ a) b all = (all.0, kept_front a b all.1)

pub kept_rest : (a b : List Rule) → AllKept (a ++ b) → AllKept b
unfolding AllKept
kept_rest [] b all = all
kept_rest (r ∷ a) b all = kept_rest a b all.1

pub kept_at : (f : ℕ → List Rule) (n i : ℕ) → i < n → AllKept (joined f n) → AllKept (f i)
kept_at f n i below all =
    let r = joined_at f n i below in
    kept_front (f i) r.0 (kept_rest (joined f i) (f i ++ r.0) (rw r.1 at all))

pub kept_all : (f : ℕ → List Rule) (n : ℕ) → ((i : ℕ) → i < n → AllKept (f i)) → AllKept (joined f n)
unfolding joined AllKept
kept_all f zero each = tt
kept_all f (suc n) each = kept_append (joined f n) (f n) (kept_all f n (λ i l. each i (omega arith))) (each n (omega arith))

-- tests that tell, part by part
pub tell_append : (a b : List Rule) → TestsTell a → (AllPass a → TestsTell b) → TestsTell (a ++ b)
unfolding TestsTell AllPass
tell_append [] b x y = y tt
tell_append (r ∷ a) b x y = (x.0, λ h. tell_append a b (x.1 h) (λ all. y (h, all)))

pub tell_all : (f : ℕ → List Rule) (n : ℕ) → ((i : ℕ) → i < n → TestsTell (f i)) → TestsTell (joined f n)
unfolding joined TestsTell
tell_all f zero each = tt
tell_all f (suc n) each = tell_append (joined f n) (f n) (tell_all f n (λ i l. each i (omega arith))) (λ _. each n (omega arith))

pub tell_one : (fact : Fact) (refusal : Refusal) → Tells fact → TestsTell (rule fact refusal ∷ [])
unfolding TestsTell
tell_one fact refusal tells = (tells, λ _. tt)

pub pass_kept : (rules : List Rule) → TestsTell rules → AllPass rules → AllKept rules
unfolding TestsTell AllPass AllKept
pass_kept [] tell all = tt
pass_kept (r ∷ rules) tell all = (tell.0.0 all.0, pass_kept rules (tell.1 all.0) all.1)

pub kept_pass : (rules : List Rule) → TestsTell rules → AllKept rules → AllPass rules
unfolding TestsTell AllPass AllKept
kept_pass [] tell all = tt
kept_pass (r ∷ rules) tell all = let h = tell.0.1 all.0 in (h, kept_pass rules (tell.1 h) all.1)

-- the first offence of two parts is in the first, or in the second where the first holds
pub offence_cut : (a b : List Rule) (refusal : Refusal) → FirstOffence (a ++ b) refusal → FirstOffence a refusal ⊎ (AllKept a × FirstOffence b refusal)
unfolding FirstOffence AllKept
offence_cut [] b refusal offence = inr (tt, offence)
offence_cut (r ∷ a) b refusal offence =
    ⊎_elim
    (λ (first : (r.fact.says → ⊥) × (r.refusal ≡ refusal)). inl (inl first))
    (λ (later : r.fact.says × FirstOffence (a ++ b) refusal).
    ⊎_elim
    (λ (front : FirstOffence a refusal). inl (inr (later.0, front)))
    (λ (rest : AllKept a × FirstOffence b refusal). inr ((later.0, rest.0), rest.1))
    (offence_cut a b refusal later.1))
    offence

-- the first offence of a scan is at one of its turns
pub offence_at : (f : ℕ → List Rule) (n : ℕ) (refusal : Refusal) → FirstOffence (joined f n) refusal → (i : ℕ) × (i < n) × AllKept (joined f i) × FirstOffence (f i) refusal
unfolding joined FirstOffence
offence_at f zero refusal offence = absurd offence
offence_at f (suc n) refusal offence =
    ⊎_elim
    (λ (front : FirstOffence (joined f n) refusal). let r = offence_at f n refusal front in (r.0, omega (arith, r.1), r.2, r.3))
    (λ (last : AllKept (joined f n) × FirstOffence (f n) refusal). (n, omega arith, last.0, last.1))
    (offence_cut (joined f n) (f n) refusal offence)

module _ (count : ℕ) where
  pub refused_offence : (rules : List Rule) (refusal : Refusal) → TestsTell rules → first_broken count rules ≡ Err refusal → FirstOffence rules refusal
  unfolding TestsTell first_broken FirstOffence
  refused_offence [] refusal tell e = never (sym e)
  refused_offence (r ∷ rules) refusal tell e = go (λ (t : TestsTell rules) (d : first_broken count rules ≡ Err refusal). refused_offence rules refusal t d) r.fact.test refl e
    where
      go : (TestsTell rules → first_broken count rules ≡ Err refusal → FirstOffence rules refusal) → (b : Bool) → r.fact.test ≡ b →
          pick b (first_broken count rules) (Err r.refusal) ≡ Err refusal → ((r.fact.says → ⊥) × (r.refusal ≡ refusal)) ⊎ (r.fact.says × FirstOffence rules refusal)
      go rest true h e = inr (tell.0.0 h, rest (tell.1 h) e)
      go rest false h e = let same : r.refusal ≡ refusal = cc in inl ((λ says. clash (sym h ∙ tell.0.1 says)), same)

  pub offence_refused : (rules : List Rule) (refusal : Refusal) → TestsTell rules → FirstOffence rules refusal → first_broken count rules ≡ Err refusal
  unfolding TestsTell first_broken FirstOffence
  offence_refused [] refusal tell offence = absurd offence
  offence_refused (r ∷ rules) refusal tell offence =
      ⊎_elim
      (λ (first : (r.fact.says → ⊥) × (r.refusal ≡ refusal)). here first.0 first.1 r.fact.test refl)
      (λ (later : r.fact.says × FirstOffence rules refusal). let h = tell.0.1 later.0 in rw h (offence_refused rules refusal (tell.1 h) later.1))
      offence
    where
      here : (r.fact.says → ⊥) → r.refusal ≡ refusal → (b : Bool) → r.fact.test ≡ b → pick r.fact.test (first_broken count rules) (Err r.refusal) ≡ Err refusal
      here broken same true h = absurd (broken (tell.0.0 h))
      here broken same false h = rw h (ap Err same)

  right_answer : (rules : List Rule) → TestsTell rules → (answer : Answer) → answer ≡ first_broken count rules → RightAnswer count rules answer
  unfolding RightAnswer
  right_answer rules tell (Ok written) e = (done_count count rules (sym e), pass_kept rules tell (done_pass count rules (sym e)))
  right_answer rules tell (Err refusal) e = refused_offence rules refusal tell (sym e)

  answer_right : (rules : List Rule) → TestsTell rules → (answer : Answer) → RightAnswer count rules answer → answer ≡ first_broken count rules
  unfolding RightAnswer
  answer_right rules tell (Ok written) right = ap Ok right.0 ∙ sym (pass_done count rules (kept_pass rules tell right.1))
  answer_right rules tell (Err refusal) right = sym (offence_refused rules refusal tell right)

pub one_right_answer : OneRightAnswer
unfolding OneRightAnswer
one_right_answer count rules tell answer = (right_answer count rules tell answer, answer_right count rules tell answer)

-- the simple facts' tests tell
pub equal_tells : (x y : ℕ) → Tells (equal x y)
equal_tells x y = (eqb-true x y, eq-eqb x y)

pub at_most_tells : (x most : ℕ) → Tells (at_most x most)
at_most_tells x most = (leb-true x most, le-leb x most)

pub in_range_tells : (least most x : ℕ) → Tells (in_range least most x)
in_range_tells least most x = (within_true least most x, λ r. true_within least most x r.0 r.1)

-- 12
pub room_stop : (count size room : ℕ) → room < size → first_broken count (room_rules size room) ≡ Err (OfCall Output)
unfolding room_rules first_broken
room_stop count size room short = rw (lt-leb _ _ short)

pub room_on : (count size room : ℕ) → size ≤ room → first_broken count (room_rules size room) ≡ Ok count
unfolding room_rules first_broken
room_on count size room fits = rw (le-leb _ _ fits)

pub room_fits : (size room : ℕ) → AllPass (room_rules size room) → size ≤ room
unfolding room_rules AllPass
room_fits size room all = leb-true _ _ all.0

pub room_tells : (size room : ℕ) → TestsTell (room_rules size room)
unfolding room_rules
room_tells size room = tell_one _ _ (at_most_tells size room)
