-- `lock::Record::step` meets its contract. Assumes nothing.
use mathlib.Core.Path.{refl, sym, ap, ◌∙◌}
use Rattle.std.proofs.lemmas.Result.{err_from_is_err_and}
use Prim.Native.Nat.{ℕ}
use native.Mathlib.Omega.{arith}
use Rattle.lock.specs.rules.Records.{written}
use Rattle.lock.specs.laws.Rows.{leaves}
use Rattle.lock.proofs.laws.CallLaws.{cause_some}
use Rattle.lock.proofs.laws.PatienceLaws.{own_touched_lem}
use Rattle.lock.proofs.laws.Touched.{touched_counted, readable}
use Rattle.lock.proofs.laws.ByKind.{step_work, step_refused, step_taken, step_sent_back}
use Rattle.lock.proofs.Record.step.Goals as goal

pub out_of_patience-requires : goal.out_of_patience-requires
out_of_patience-requires c =
    let a = c.args in
    let q = c.requires in
    let f = readable a.settings.values a.self a.last c.args.settings.settled q.1 in
    omega (arith, f.taken_past, q.2)

pub returns-then-out_of_patience : goal.returns-then-out_of_patience
returns-then-out_of_patience c =
    let a = c.args in
    let all = step_sent_back a.settings.values a.self a.words.now a.clock (sym c.out_of_patience.ensures ∙ c.if-out_of_patience.true) _ c.sent_back.ensures in record { number = all.0; next = all.1; words = all.2 }

pub own_touched-n-requires : goal.own_touched-n-requires
own_touched-n-requires c =
    let a = c.args in
    let q = c.requires in
    let f = readable a.settings.values a.self a.last c.args.settings.settled q.1 in
    f.sound

pub word_at-requires : goal.word_at-requires
word_at-requires c =
    let a = c.args in
    let q = c.requires in
    let f = readable a.settings.values a.self a.last c.args.settings.settled q.1 in
    omega (arith, touched_counted a.settings.values a.self c.args.settings.settled f.sound, c.own_touched-n.ensures, q.0)

pub own_moved-requires : goal.own_moved-requires
own_moved-requires c =
    let a = c.args in
    let q = c.requires in
    let f = readable a.settings.values a.self a.last c.args.settings.settled q.1 in
    (f.sound, omega (arith, f.t1_past, q.2), omega (arith, f.t0_past, q.2), c.own_touched-n.ensures)

pub returns-in_err-moved : goal.returns-in_err-moved
returns-in_err-moved c =
    let a = c.args in
    let e = sym c.out_of_patience.ensures ∙ c.if-out_of_patience.false in
    let both = step_refused a.settings.values a.self a.words.now a.clock _ (step_work a.settings.values a.self a.words.now a.clock e _ _ _ c.own_touched-n.ensures c.word_at.ensures c.in_err-moved.ensures) (cause_some _) in
    let p = err_from_is_err_and c.from_residual.result c.from_residual.ensures.1 in
    rw (p.1, p.2) (record { number = both.0; next = tt; words = both.1 })

pub put_word-requires : goal.put_word-requires
put_word-requires c =
    let a = c.args in
    let q = c.requires in
    let f = readable a.settings.values a.self a.last c.args.settings.settled q.1 in
    omega (arith, touched_counted a.settings.values a.self c.args.settings.settled f.sound, c.own_touched-n.ensures, q.0)

pub returns : goal.returns
returns c =
    let s = c.args.settings.values in
    let own = c.args.self in
    let ws = c.args.words.now in
    let t = c.args.clock in
    let p = sym c.out_of_patience.ensures ∙ c.if-out_of_patience.false in
    let all = step_taken s own ws t (leaves c.in_ok-moved.moved.word c.in_ok-moved.moved.next) (step_work s own ws t p _ _ _ c.own_touched-n.ensures c.word_at.ensures c.in_ok-moved.ensures) _ refl (c.put_word.ensures ∙ ap (λ (x : ℕ). written ws x c.in_ok-moved.moved.word) (c.own_touched-n.ensures ∙ sym (own_touched_lem s own t p))) in record { number = all.0; next = all.1; words = all.2 }
