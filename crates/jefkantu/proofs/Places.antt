-- Every place and count that the functions of orders, builds, runs and texts answer fits its part of the word.
use Rattle.std.specs.Prelude.{Result, Ok, Err}
use mathlib.Core.Path.{◌≡◌, refl}
use mathlib.Core.List.{List, [], ◌∷◌}
use Prim.Native.Nat.{ℕ, ◌%◌, ◌≤◌, ◌<◌}
use native.Mathlib.Omega.{arith}
use lib.ListN.{length}
use lib.Dec.{eqb, leb}
use borrow.Author.Tests.{leb-true}
use mathlib.Core.Bool.{true}
use Rattle.laws.specs.Joined.{joined}
use Rattle.laws.proofs.Every.{and_both}
use Rattle.model.specs.declared.order.Order.{Order}
use Rattle.model.specs.declared.build.Build.{Build}
use Rattle.model.specs.declared.answer.Refusal.{Refusal}
use Rattle.model.specs.Layouts.{order_length}
use Rattle.model.specs.Rules.{range_rules, room_rules, WithinLimits}
use Rattle.model.proofs.Rules.{AllPass}
use Rattle.order.specs.declared.Header.{Header}
use Rattle.order.specs.Order.{header_of, order_at, header_rules, spare_rules, layout_rules, order_rules, read_order}
use Rattle.order.proofs.Rules.{tasks_small}
use Rattle.order.proofs.Reading.{read_answer, within_limits}
use Rattle.order_out.specs.Write.{TaskColumns, column_order, written_rules, write_rules, write_answer}
use Rattle.form.specs.Text.{line_count, text_order}
use Rattle.form.proofs.Written.{written_is_short}
use Rattle.text.specs.Read.{line_rules, text_rules, read_text_rules, read_text_answer}
use Rattle.text_out.specs.Write.{text_of, write_text_rules, write_text_answer}
use Rattle.build.specs.Build.{build_at}
use Rattle.build.proofs.Fits.{header_fits}
use Rattle.fit.specs.Recorded.{fitted_of, build_in}
use Rattle.fit.proofs.Built.{fitted_is_refused}
use Rattle.fit.proofs.Fields.{fitted_fits_fields}
use Rattle.plan.specs.Plan.{fit_rules, size_of, fitted_rules, plan_rules, plan_answer}
use Rattle.inspect_layout.specs.Rules.{build_layout_rules}
use Rattle.inspect_places.specs.Rules.{place_rules}
use Rattle.inspect_members.specs.Rules.{width_rules, rank_rules}
use Rattle.inspect_tests.specs.Rules.{test_rules}
use Rattle.inspect.specs.Rules.{build_record_rules, build_rules, check_rules, check_answer}
use Rattle.script.specs.Script.{records_in, whole_records, release_rules, script_rules}
use Rattle.run.specs.Run.{run_rules, run_answer}
use Rattle.jefkantu.specs.Word.{FitsWord}
use Rattle.jefkantu.proofs.Fits.{PlacesFit, places_append, places_joined, answer_fits, alone_fits}

range_places : (o : Order) → o.tasks ≤ 65_536 → PlacesFit (range_rules o)
unfolding PlacesFit range_rules
range_places o few = places_joined _ o.tasks (λ i l. let p : i < 65_536 = omega arith in (p, (p, (p, (p, tt)))))

header_places : (size : ℕ) (header : Header) → PlacesFit (header_rules size header)
unfolding PlacesFit header_rules
header_places size header = (omega arith, (omega arith, (omega arith, (omega arith, (omega arith, (omega arith, tt))))))

spare_places : (s : List ℕ) (tasks : ℕ) → tasks ≤ 65_536 → PlacesFit (spare_rules s tasks)
unfolding PlacesFit spare_rules
spare_places s tasks few = places_joined _ tasks (λ i l. (omega arith, tt))

pub room_places : (size room : ℕ) → PlacesFit (room_rules size room)
unfolding PlacesFit room_rules
room_places size room = (omega arith, tt)

-- whatever bytes are read
pub order_places : (s : List ℕ) → PlacesFit (order_rules s)
unfolding order_rules layout_rules order_at
order_places s =
    let few : (header_of s).tasks ≤ 65_536 = omega (arith, tasks_small s) in
    let layout = places_append (header_rules (length s) (header_of s)) (spare_rules s (header_of s).tasks) (header_places (length s) (header_of s)) (spare_places s (header_of s).tasks few) in
    places_append (layout_rules s) _ layout (range_places (order_at s) few)

pub read_fits : (s : List ℕ) → FitsWord (read_order s).answer
read_fits s = rw (read_answer s) (alone_fits 0 (order_rules s) (order_places s) (omega arith))

-- whatever columns are written: an order of at most 33 rows comes of them
pub write_fits : (processors : ℕ) (c : TaskColumns) (room : ℕ) → FitsWord (write_answer processors c room)
unfolding write_answer write_rules written_rules column_order PlacesFit
write_fits processors c room =
    let o = column_order processors c in
    let few : o.tasks ≤ 33 = omega arith in
    let size = order_length 1 o.tasks in
    let rest = places_append (range_rules o) (room_rules size room) (range_places o (omega arith)) (room_places size room) in
    alone_fits size (write_rules processors c room) (omega arith, (omega arith, (omega arith, rest))) (omega arith)

-- the task that first fit names is one of the order's
fit_places : (o : Order) → WithinLimits o → PlacesFit (fit_rules o (fitted_of o))
unfolding PlacesFit
fit_places o limits = go (fitted_of o) refl
  where
    go : (a : Result Build Refusal) → fitted_of o ≡ a → PlacesFit (fit_rules o a)
    go (Ok build) e = tt
    go (Err cause) e =
        let r = (fitted_is_refused o cause limits e).1 in
        (rw r.1 (omega (arith, r.2.next.below, limits.tasks)), tt)

pub plan_fits : (order : List ℕ) (room : ℕ) → FitsWord (plan_answer order room)
unfolding plan_answer plan_rules fitted_rules
plan_fits order room =
    let o = order_at order in
    let found = fitted_of o in
    let size = size_of (build_in found) in
    answer_fits size (order_rules order) _ (order_places order)
    (λ all.
    let limits = within_limits order all in
    let fields = fitted_fits_fields o limits in
    alone_fits size _ (places_append (fit_rules o found) (room_rules size room) (fit_places o limits) (room_places size room)) (omega (arith, fields.partitions, fields.tasks)))

layout_places : (o : Order) (s : List ℕ) → PlacesFit (build_layout_rules o s)
unfolding PlacesFit build_layout_rules
layout_places o s = (omega arith, (omega arith, (omega arith, (omega arith, tt))))

record_places : (o : Order) (b : Build) → o.tasks ≤ 65_536 → b.partitions ≤ 65_536 → PlacesFit (build_record_rules o b)
unfolding PlacesFit build_record_rules place_rules width_rules rank_rules test_rules
record_places o b few small =
    places_append (place_rules o b) _ (places_joined _ b.partitions (λ i l. (omega arith, tt)))
    (places_append (width_rules o b) _ (places_joined _ o.tasks (λ i l. (omega arith, tt)))
    (places_append (rank_rules o b) _ (places_joined _ o.tasks (λ i l. (omega arith, tt)))
    (places_joined _ o.tasks (λ i l. let p : i < 65_536 = omega arith in (p, (p, (p, (p, tt))))))))

-- whatever bytes are checked
pub check_places : (order build : List ℕ) → PlacesFit (check_rules order build)
unfolding check_rules build_rules order_at build_at
check_places order build =
    let records = record_places (order_at order) (build_at build) (omega (arith, tasks_small order)) (omega (arith, (header_fits build).1.1.1.0)) in
    places_append (order_rules order) _ (order_places order)
    (places_append (build_layout_rules (order_at order) build) _ (layout_places (order_at order) build) records)

pub check_fits : (order build : List ℕ) → FitsWord (check_answer order build)
unfolding check_answer
check_fits order build = alone_fits 0 (check_rules order build) (check_places order build) (omega arith)

whole_few : (script : List ℕ) → (whole_records script).test ≡ true → records_in script ≤ 1_024
unfolding records_in
whole_few script e = let most = leb-true (length script) 6144 (and_both (eqb (length script % 6) 0) (leb (length script) 6144) e).1 in omega arith

-- whatever script is run: past 1,024 records it is refused
pub run_fits : (order build script : List ℕ) (places : ℕ) → FitsWord (run_answer order build script places)
unfolding run_answer run_rules script_rules release_rules PlacesFit AllPass
run_fits order build script places =
    let count = records_in script in
    answer_fits count (check_rules order build) _ (check_places order build)
    (λ checked.
    answer_fits count (_ ∷ []) _ (omega arith, tt)
    (λ all.
    let few : count ≤ 1_024 = whole_few script all.0 in
    alone_fits count _ (omega arith, places_joined _ count (λ i l. let p : i < 65_536 = omega arith in (p, (p, (p, (p, (p, tt))))))) (omega arith)))

-- whatever text is read: past 32 lines it is refused
pub read_text_fits : (processors : ℕ) (text : List ℕ) (room : ℕ) → FitsWord (read_text_answer processors text room)
unfolding read_text_answer read_text_rules text_rules line_rules written_rules text_order PlacesFit AllPass
read_text_fits processors text room =
    let o = text_order processors text in
    let size = order_length 1 (line_count text) in
    answer_fits size (_ ∷ []) _ (omega arith, tt)
    (λ all.
    let few : line_count text ≤ 32 = leb-true (line_count text) 32 all.0 in
    let lines = places_joined (line_rules text) (line_count text) (λ i l. let p : i < 65_536 = omega arith in (p, (p, tt))) in
    let written = places_append (range_rules o) (room_rules size room) (range_places o (omega arith)) (room_places size room) in
    alone_fits size _ (places_append (joined (line_rules text) (line_count text)) _ lines (omega arith, (omega arith, written))) (omega arith))

pub write_text_fits : (order : List ℕ) (room : ℕ) → FitsWord (write_text_answer order room)
unfolding write_text_answer write_text_rules
write_text_fits order room =
    let size = length (text_of order) in
    answer_fits size (order_rules order) _ (order_places order)
    (λ all. alone_fits size (room_rules size room) (room_places size room) (omega (arith, written_is_short (order_at order) (within_limits order all))))
