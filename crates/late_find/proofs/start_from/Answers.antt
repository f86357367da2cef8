use Rattle.std.proofs.Common.{◌+◌, ℕ, sym, ap, ◌∙◌, arith}
use Rattle.model.specs.Limits.{horizon}
use Rattle.asked.specs.Rows.{asked_by}
use Rattle.asked.specs.Met.{met_by}
use Rattle.late_find.proofs.Jobs.{unmet_before, start_found, start_some}
use Rattle.late_find.proofs.start_from.Goals as goal

pub met-search-requires : goal.met-search-requires
met-search-requires c =
    (c.requires.rows_fit, omega (arith, c.requires.small), c.requires.near, omega arith, λ s l. omega (arith, unmet_before _ _ _ c.requires.starts s l))

pub unwrap-requires : goal.unwrap-requires
unwrap-requires c =
    let its = c.requires.starts in
    let answer = c.met-search.ensures.found ∙ ap (λ (x : ℕ). met_by (asked_by c.args.rows.now c.args.count) (x + 1) horizon) c.from.ensures in
    start_some (asked_by c.args.rows.now c.args.count) c.args.base its.start its.starts c.met-search.result.found answer

pub returns : goal.returns
returns c =
    let its = c.requires.starts in
    let answer = c.met-search.ensures.found ∙ ap (λ (x : ℕ). met_by (asked_by c.args.rows.now c.args.count) (x + 1) horizon) c.from.ensures in
    start_found (asked_by c.args.rows.now c.args.count) c.args.base horizon its.start c.unwrap.result its.starts (sym answer ∙ c.unwrap.ensures)
