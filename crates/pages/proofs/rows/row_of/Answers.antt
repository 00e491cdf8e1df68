-- `pages::rows::row_of` meets its contract. Assumes nothing.
use Rattle.pages.proofs.laws.RowLaws.{row_idle, its_window, told, answer_steps, row_active}
use Rattle.std.proofs.Common.{◌≡◌, ◌∙◌}
use borrow.Author.Rules.{rules}
use Rattle.pages.proofs.rows.row_of.Goals as goal

pub returns-then-one-eq0 : goal.returns-then-one-eq0
returns-then-one-eq0 c =
    let a = c.args in
    let zeros : c.default.result ≡ record { phase = 0; left = 0; right = 0; first = 0; second = 0; over = 0; steps = 0 } = search rules in
    zeros ∙ row_idle a.settings a.one c.if-one-eq0.true

pub window_pieces-pieces-requires : goal.window_pieces-pieces-requires
window_pieces-pieces-requires c =
    let a = c.args in
    let readable = c.requires in
    its_window a.settings a.one a.last readable.0 readable.1 c.if-one-eq0.false

pub pieces_steps-requires : goal.pieces_steps-requires
pieces_steps-requires c =
    let a = c.args in
    let readable = c.requires in
    let is = told a.settings a.one a.last readable.0 readable.1 c.if-one-eq0.false _ c.window_pieces-pieces.ensures in
    let pieces = answer_steps a.settings a.one a.last readable.0 readable.1 c.if-one-eq0.false _ is in
    search (rules, readable.0, pieces.0, pieces.1)

pub returns : goal.returns
returns c =
    let a = c.args in
    let readable = c.requires in
    let is = told a.settings a.one a.last readable.0 readable.1 c.if-one-eq0.false _ c.window_pieces-pieces.ensures in
    row_active a.settings a.one a.last readable.0 readable.1 c.if-one-eq0.false _ is _ c.pieces_steps.ensures
