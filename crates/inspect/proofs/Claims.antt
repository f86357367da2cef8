-- The check answers as specs/Claims.antt says.
use Rattle.std.specs.Prelude.{Ok, Err}
use mathlib.Core.Path.{◌≡◌, refl, sym, ap, ◌∙◌}
use mathlib.Core.List.{List, ◌++◌}
use Prim.Native.Nat.{ℕ, ◌<◌}
use lib.ListN.{length}
use Rattle.model.specs.declared.order.Order.{Order}
use Rattle.model.specs.declared.build.Build.{Build}
use Rattle.model.specs.Kinds.{Answer}
use Rattle.model.specs.Limits.{task_of, member_of, home_of}
use Rattle.model.specs.Answer.{answer_count}
use Rattle.model.specs.Rules.{WithinLimits, AllKept, RightAnswer, OneRightAnswer, task_rules, range_rules}
use Rattle.model.proofs.Rules.{done_pass, pass_done, pass_front, kept_append, kept_front, kept_rest, kept_at, kept_all, pass_kept, kept_pass, one_right_answer}
use Rattle.order.specs.Order.{header_of, order_at, header_rules, spare_rules, layout_rules, order_rules}
use Rattle.order.proofs.Reading.{within_limits}
use Rattle.build.specs.Build.{build_at}
use Rattle.demand.specs.Priority.{members_of}
use Rattle.demand.specs.Test.{verdict}
use Rattle.demand.specs.Meaning.{IsPassing}
use Rattle.demand.proofs.Meaning.{every_verdict_means}
use Rattle.inspect_layout.specs.Rules.{build_layout_rules}
use Rattle.inspect_places.specs.Rules.{place_rules}
use Rattle.inspect_members.specs.Rules.{width_rules, rank_rules}
use Rattle.inspect_tests.specs.Rules.{test_rules}
use Rattle.inspect_tests.proofs.Verdicts.{passing_worst, worst_passing, passing_starts, worst_one}
use Rattle.inspect.specs.Rules.{build_record_rules, build_rules, check_rules, check_answer}
use Rattle.inspect.specs.Claims.{OrderRight, LayoutRight, RecordsRight, EveryRule, DoneExactly, RefusedExactly, OneCheckAnswer, NoOtherCheckAnswer, CheckingUnique, CheckedUnique, CountsNothing, AcceptedBuild, DoneAccepts, AcceptedDone}
use Rattle.inspect.proofs.Turn.{check_tells}

module _ (order : List ℕ) where
  abbrev o : Order
  o = order_at order

  order_right : AllKept (order_rules order) → OrderRight order
  unfolding AllKept order_rules layout_rules header_rules spare_rules range_rules
  order_right kept =
      let n = (header_of order).tasks in
      let layout = kept_front (layout_rules order) (range_rules o) kept in
      let h = kept_front (header_rules (length order) (header_of order)) (spare_rules order n) layout in
      let spares = kept_rest (header_rules (length order) (header_of order)) (spare_rules order n) layout in
      let tasks = kept_rest (layout_rules order) (range_rules o) kept in
      record {
        long = h.0;
        version = h.1.0;
        processors = h.1.1.0;
        tasks = h.1.1.1.0;
        size = h.1.1.1.1.0;
        header_spare = h.1.1.1.1.1.0;
        task_spares = λ i l. (kept_at _ n i l spares).0;
        ranges = λ i l.
            (let t = kept_at (λ j. task_rules o.processors (task_of o j) j) o.tasks i l tasks in
            record { width_in = t.0; period_in = t.1.0; deadline_in = t.1.1.0; cost_in = t.1.1.1.0 });
      }

  pub order_kept : OrderRight order → AllKept (order_rules order)
  unfolding AllKept order_rules layout_rules header_rules spare_rules range_rules
  order_kept r =
      let n = (header_of order).tasks in
      kept_append (layout_rules order) (range_rules o)
      (kept_append (header_rules (length order) (header_of order)) (spare_rules order n)
      (r.long, (r.version, (r.processors, (r.tasks, (r.size, (r.header_spare, tt))))))
      (kept_all _ n (λ i l. (r.task_spares i l, tt))))
      (kept_all _ o.tasks (λ i l. (let t = r.ranges i l in (t.width_in, (t.period_in, (t.deadline_in, (t.cost_in, tt)))))))

module _ (o : Order) (s : List ℕ) where
  layout_right : AllKept (build_layout_rules o s) → LayoutRight o s
  unfolding AllKept build_layout_rules
  layout_right kept = record { long = kept.0; header = kept.1.0; size = kept.1.1.0; spares = kept.1.1.1.0 }

  layout_kept : LayoutRight o s → AllKept (build_layout_rules o s)
  unfolding AllKept build_layout_rules
  layout_kept r = (r.long, (r.header, (r.size, (r.spares, tt))))

module _ (o : Order) (b : Build) where
  records_right : AllKept (build_record_rules o b) → RecordsRight o b
  unfolding AllKept build_record_rules place_rules width_rules rank_rules test_rules
  records_right kept =
      let n = o.tasks in
      let after_places = kept_rest (place_rules o b) (width_rules o b ++ (rank_rules o b ++ test_rules o b)) kept in
      let after-widths = kept_rest (width_rules o b) (rank_rules o b ++ test_rules o b) after_places in
      let tests = kept_rest (rank_rules o b) (test_rules o b) after-widths in
      record {
        places = λ p l. (kept_at _ b.partitions p l (kept_front (place_rules o b) (width_rules o b ++ (rank_rules o b ++ test_rules o b)) kept)).0;
        widths = λ i l. (kept_at _ n i l (kept_front (width_rules o b) (rank_rules o b ++ test_rules o b) after_places)).0;
        ranks = λ i l. (kept_at _ n i l (kept_front (rank_rules o b) (test_rules o b) after-widths)).0;
        windows = λ i l. (kept_at _ n i l tests).0;
        starts = λ i l. (kept_at _ n i l tests).1.0;
        in_time_lem = λ i l. (kept_at _ n i l tests).1.1.0;
        responses = λ i l. (kept_at _ n i l tests).1.1.1.0;
      }

  records_kept : RecordsRight o b → AllKept (build_record_rules o b)
  unfolding AllKept build_record_rules place_rules width_rules rank_rules test_rules
  records_kept r =
      let n = o.tasks in
      kept_append (place_rules o b) (width_rules o b ++ (rank_rules o b ++ test_rules o b))
      (kept_all _ b.partitions (λ p l. (r.places p l, tt)))
      (kept_append (width_rules o b) (rank_rules o b ++ test_rules o b) (kept_all _ n (λ i l. (r.widths i l, tt)))
      (kept_append (rank_rules o b) (test_rules o b) (kept_all _ n (λ i l. (r.ranks i l, tt)))
      (kept_all _ n (λ i l. (r.windows i l, (r.starts i l, (r.in_time_lem i l, (r.responses i l, tt))))))))

module _ (order build : List ℕ) where
  every-rule : AllKept (check_rules order build) → EveryRule order build
  unfolding check_rules build_rules
  every-rule kept =
      let o = order_at order in
      let rest = kept_rest (order_rules order) (build_rules o build) kept in
      let layout = build_layout_rules o build in
      record {
        order_right = order_right order (kept_front (order_rules order) (build_rules o build) kept);
        layout_right = layout_right o build (kept_front layout (build_record_rules o (build_at build)) rest);
        records_right = records_right o (build_at build) (kept_rest layout (build_record_rules o (build_at build)) rest);
      }

  every_kept : EveryRule order build → AllKept (check_rules order build)
  unfolding check_rules build_rules
  every_kept r =
      let o = order_at order in
      kept_append (order_rules order) (build_rules o build) (order_kept order r.order_right)
      (kept_append (build_layout_rules o build) (build_record_rules o (build_at build)) (layout_kept o build r.layout_right) (records_kept o (build_at build) r.records_right))

pub done_exactly : DoneExactly
unfolding check_answer
done_exactly order build =
    let rules = check_rules order build in
    let tell = check_tells order build in (
      λ e. every-rule order build (pass_kept rules tell (done_pass 0 rules e)),
      λ r. pass_done 0 rules (kept_pass rules tell (every_kept order build r)),
    )

pub one_check_answer : OneCheckAnswer
unfolding check_answer OneRightAnswer
one_check_answer order build answer = one_right_answer 0 (check_rules order build) (check_tells order build) answer

pub refused_exactly : RefusedExactly
unfolding RightAnswer
refused_exactly order build refusal =
    let one = one_check_answer order build (Err refusal) in
    (λ e. one.0 (sym e), λ first. sym (one.1 first))

pub no_other_check_answer : NoOtherCheckAnswer
no_other_check_answer order build one other a b = (one_check_answer order build one).1 a ∙ sym ((one_check_answer order build other).1 b)

pub checking_unique : CheckingUnique
checking_unique order build one other a b = a ∙ sym b

pub checked_unique : CheckedUnique
checked_unique order build one other a b = a ∙ sym b

pub counts_nothing : CountsNothing
unfolding answer_count RightAnswer
counts_nothing order build = go (check_answer order build) refl
  where
    go : (answer : Answer) → answer ≡ check_answer order build → answer_count answer ≡ 0
    go (Ok count) e = ((one_check_answer order build (Ok count)).0 e).0
    go (Err refusal) e = refl

-- 27 to 30 of a member say that its verdict is to pass with the response that is recorded
module _ (o : Order) (b : Build) (limits : WithinLimits o) where
  records_passing : RecordsRight o b → (i : ℕ) → i < o.tasks → verdict o (members_of b (home_of b i)) i ≡ Ok (member_of b i).response
  records_passing r i l =
      let member = members_of b (home_of b i) in
      let t = r.in_time_lem i l in
      let e = ((every_verdict_means o member i limits l).passes t.worst).1 (worst_passing o member i t.worst t.worst_is t.at_most) in
      e ∙ ap Ok (sym (worst_one o member i limits l t.worst (member_of b i).response e (r.responses i l)))

  passing_records : AcceptedBuild o b → RecordsRight o b
  passing_records a =
      let passing : (i : ℕ) → i < o.tasks → IsPassing o (members_of b (home_of b i)) i (member_of b i).response =
      λ i l. ((every_verdict_means o (members_of b (home_of b i)) i limits l).passes (member_of b i).response).0 (a.passing i l) in
      record {
        places = a.places;
        widths = a.widths;
        ranks = a.ranks;
        windows = λ i l. (let p = passing i l in (p.size, p.window));
        starts = λ i l. passing_starts o (members_of b (home_of b i)) i (member_of b i).response (passing i l);
        in_time_lem = λ i l. (let p = passing i l in record { worst = (member_of b i).response; worst_is = passing_worst o (members_of b (home_of b i)) i (member_of b i).response p; at_most = p.in_time_lem });
        responses = λ i l. passing_worst o (members_of b (home_of b i)) i (member_of b i).response (passing i l);
      }

pub done_accepts : DoneAccepts
unfolding build_at check_answer check_rules
done_accepts order build e =
    let r = (done_exactly order build).0 e in
    let limits = within_limits order (pass_front (order_rules order) (build_rules (order_at order) build) (done_pass 0 (check_rules order build) e)) in
    let header = r.layout_right.header in
    let records = r.records_right in
    record {
      limits = limits;
      processors = header.processors;
      tasks = header.tasks;
      partitions = header.partitions;
      places = records.places;
      widths = records.widths;
      ranks = records.ranks;
      passing = records_passing (order_at order) (build_at build) limits records;
    }

pub accepted_done : AcceptedDone
accepted_done order build right layout accepted =
    (done_exactly order build).1
    (record { order_right = right; layout_right = layout; records_right = passing_records (order_at order) (build_at build) accepted.limits accepted })
