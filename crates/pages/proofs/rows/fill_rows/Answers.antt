-- `pages::rows::fill_rows` meets its contract: a turn writes the row of one client more. Assumes nothing.
use Rattle.std.proofs.Common.{◌≡◌, ℕ, zero-add, List, [], ◌++◌, ◌+◌, length, get_or, set, drop, drop_of_length-le, append-nil, sym, ap, ◌∙◌, arith}
use Rattle.std.proofs.lemmas.List.{get_or-map, length-map}
use Rattle.std.proofs.lemmas.List.Edits.{paste_more, paste_all}
use lib.Seq.{paste}
use Rattle.lock.specs.declared.Client.{Client}
use Rattle.pages.specs.declared.Row.{Row}
use Rattle.pages.specs.rules.Pages.{row_of, rows_of}
use Rattle.pages.proofs.laws.RowLaws.{each_readable}
use Rattle.pages.proofs.rows.fill_rows.Goals as goal

pub row_of-requires : goal.row_of-requires
row_of-requires c =
    (c.args.settings.settled, each_readable c.args.settings.values c.args.clients.now c.requires.1 c.loop-at.at _ c.loop-at-test.true)

pub loop-at-preserved : goal.loop-at-preserved
unfolding rows_of
loop-at-preserved c =
    let s = c.args.settings.values in
    let clients = c.args.clients.now in
    let rows = c.args.rows.now in
    let at = c.loop-at.at in
    let made = rows_of s clients in
    let b = c.loop-at-test.true in
    let f = λ (one : Client). row_of s one.«record» in
    ap (λ (l : List Row). set l at c.row_of.result) c.loop-at.invariant
    ∙ ap (set (paste rows 0 made at) at) (c.row_of.ensures ∙ sym (get_or-map f clients at _ c.row_of.result b))
    ∙ ap (λ (k : ℕ). set (paste rows 0 made at) k (get_or made at c.row_of.result)) (sym (zero-add at))
    ∙ paste_more rows 0 made at c.row_of.result (omega (arith, c.requires.0)) (omega (arith, length-map clients f))

pub returns : goal.returns
unfolding rows_of
returns c =
    let s = c.args.settings.values in
    let clients = c.args.clients.now in
    let rows = c.args.rows.now in
    let made = rows_of s clients in
    let f = λ (one : Client). row_of s one.«record» in
    let whole : c.loop-at.at ≡ length made = omega (arith, length-map clients f, c.loop-at-test.false) in
    let none : drop (0 + c.loop-at.at) rows ≡ [] = drop_of_length-le rows {i = 0 + c.loop-at.at} (omega (arith, c.requires.0, c.loop-at-test.false)) in
    c.loop-at.invariant ∙ paste_all rows 0 made c.loop-at.at whole ∙ ap (λ (l : List Row). made ++ l) none ∙ append-nil made
