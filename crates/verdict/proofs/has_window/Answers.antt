use Rattle.std.specs.Prelude.{Some, None, Option}
use Rattle.std.proofs.Common.{◌≡◌, ℕ, ◌+◌, sym, ap, ◌∙◌}
use Rattle.std.specs.Option.{is_some}
use Rattle.asked.specs.Rows.{RowsFit, row_task, asked_by}
use Rattle.asked.specs.Met.{met_by}
use Rattle.verdict.specs.Tested.{is_there, window_of}
use Rattle.verdict.proofs.Full.{met_window, met_no_window}
use Rattle.verdict.proofs.has_window.Goals as goal
use Rattle.asked.specs.declared.rows.Rows.{Rows}

-- the search finds something where there is a window
there : (rows : Rows) (rank : ℕ) (fit : RowsFit rows (rank + 1)) (B : ℕ) (found : Option ℕ) → found ≡ met_by (asked_by rows (rank + 1)) B 999_999 → is_some found ≡ is_there (window_of (asked_by rows rank) B (row_task rows rank))
there rows rank fit B (Some w) e = sym (ap is_there (met_window rows rank fit B w (sym e)))
there rows rank fit B None e = sym (ap is_there (met_no_window rows rank fit B (sym e)))

pub returns : goal.returns
returns c =
    let a = c.args in
    c.is_some.ensures ∙ there a.rows.now a.rank c.requires.0 a.blocking c.met.result.found (c.met.ensures.found ∙ ap (λ x. met_by (asked_by a.rows.now (a.rank + 1)) x 999_999) c.from.ensures)
