-- `runs::posted::operation_ahead` meets its contract. Assumes nothing.
use mathlib.Core.Path.{sym, ap, ◌∙◌, subst}
use mathlib.Core.Logic.{inr}
use mathlib.Core.List.{List}
use Rattle.lock.specs.declared.Operation.{Operation}
use Prim.Native.Nat.{◌+◌, ◌<◌}
use native.Mathlib.Omega.{arith}
use lib.ListN.{length, get_or}
use Rattle.base.specs.rules.Choice.{choose}
use Rattle.lock.specs.rules.Records.{Phase, phase_of}
use Rattle.lock.specs.rules.Unreadable.{list_length}
use Rattle.lock.proofs.laws.Placed.{sound_placed}
use Rattle.lock.proofs.laws.Phases.{at_ticket, at_turn, at_blocked, at_claim, at_returning}
use Rattle.runs.specs.rules.Ahead.{ahead_in}
use Rattle.runs.specs.laws.AheadLaws.{turn_count, blocked_count, claim_within, walks_on, phase_some}
use Rattle.runs.specs.laws.Standing.{no_operation, stands_in, stands_first, walk_at, list_short}
use Rattle.runs.proofs.posted.operation_ahead.Goals as goal

pub behind_ticket-requires : goal.behind_ticket-requires
behind_ticket-requires c =
    let a = c.args in let e = c.in-1.is in (sound_placed a.settings.values a.own c.requires.0 (omega arith), subst (λ (q : Phase). a.i < length (ahead_in a.settings.values a.own q)) (at_ticket a.own.phase e) c.requires.1)

pub before_list-requires : goal.before_list-requires
unfolding phase_of choose
before_list-requires c =
    let a = c.args in let e = c.in-2.is in let g = sound_placed a.settings.values a.own c.requires.0 (omega arith) in let b = subst (λ (q : Phase). a.i < length (ahead_in a.settings.values a.own q)) (at_turn a.own.phase e) c.requires.1 in (g, stands_first a.settings.values a.own g 2 0 (λ f. omega arith) (λ f. omega arith) (λ f. omega arith) (λ f. omega arith) (λ f. omega arith), omega (arith, b, turn_count a.settings.values a.own))

pub before_list-requires-in-4 : goal.before_list-requires-in-4
unfolding phase_of choose list_length
before_list-requires-in-4 c =
    let a = c.args in let e = c.in-4.is in let g = sound_placed a.settings.values a.own c.requires.0 (omega arith) in let b = subst (λ (q : Phase). a.i < length (ahead_in a.settings.values a.own q)) (at_blocked a.own.phase e) c.requires.1 in (g, stands_in a.settings.values a.own g 4 a.own.place (g.climbing (inr e)), omega (arith, b, blocked_count a.settings.values a.own))

pub before_list-requires-in-5 : goal.before_list-requires-in-5
unfolding phase_of choose
before_list-requires-in-5 c =
    let a = c.args in let e = c.in-5.is in let g = sound_placed a.settings.values a.own c.requires.0 (omega arith) in let b = subst (λ (q : Phase). a.i < length (ahead_in a.settings.values a.own q)) (at_claim a.own.phase e) c.requires.1 in (g, stands_first a.settings.values a.own g 5 0 (λ f. omega arith) (λ f. omega arith) (λ f. omega arith) (λ f. omega arith) (λ f. omega arith), (claim_within a.settings.values a.own a.i b).0)

pub given_back-requires : goal.given_back-requires
given_back-requires c =
    let a = c.args in let e = c.in-10.is in (sound_placed a.settings.values a.own c.requires.0 (omega arith), e, subst (λ (q : Phase). a.i < length (ahead_in a.settings.values a.own q)) (at_returning a.own.phase e) c.requires.1)

pub overflow_add-place : goal.overflow_add-place
overflow_add-place c =
    let a = c.args in let w = walks_on a.settings.values a.own a.i (λ e. omega (arith, e)) (λ e. omega (arith, e)) (λ e. omega (arith, e)) (λ e. omega (arith, e)) (λ e. omega (arith, e)) c.requires.1 in let g = sound_placed a.settings.values a.own c.requires.0 (phase_some a.settings.values a.own a.i c.requires.1) in omega (arith, w.0, list_short a.settings.values a.own c.args.settings.settled g (phase_of a.own.phase))

pub standing-requires : goal.standing-requires
standing-requires c =
    let a = c.args in let w = walks_on a.settings.values a.own a.i (λ e. omega (arith, e)) (λ e. omega (arith, e)) (λ e. omega (arith, e)) (λ e. omega (arith, e)) (λ e. omega (arith, e)) c.requires.1 in let g = sound_placed a.settings.values a.own c.requires.0 (phase_some a.settings.values a.own a.i c.requires.1) in (stands_in a.settings.values a.own g a.own.phase (a.own.place + a.i) (omega (arith, w.0)))

pub returns-in-1 : goal.returns-in-1
returns-in-1 c =
    let a = c.args in c.behind_ticket.ensures ∙ ap (λ (q : Phase). get_or (ahead_in a.settings.values a.own q) a.i no_operation) (sym (at_ticket a.own.phase c.in-1.is))

pub returns-in-2 : goal.returns-in-2
unfolding phase_of choose ahead_in
returns-in-2 c =
    let a = c.args in c.before_list.ensures ∙ ap (λ (q : Phase). get_or (ahead_in a.settings.values a.own q) a.i no_operation) (sym (at_turn a.own.phase c.in-2.is))

pub returns-in-4 : goal.returns-in-4
unfolding phase_of choose ahead_in
returns-in-4 c =
    let a = c.args in c.before_list-in-4.ensures ∙ ap (λ (q : Phase). get_or (ahead_in a.settings.values a.own q) a.i no_operation) (sym (at_blocked a.own.phase c.in-4.is))

pub returns-in-5 : goal.returns-in-5
unfolding phase_of choose
returns-in-5 c =
    let a = c.args in let e = c.in-5.is in let b = subst (λ (q : Phase). a.i < length (ahead_in a.settings.values a.own q)) (at_claim a.own.phase e) c.requires.1 in c.before_list-in-5.ensures ∙ (claim_within a.settings.values a.own a.i b).1 ∙ ap (λ (q : Phase). get_or (ahead_in a.settings.values a.own q) a.i no_operation) (sym (at_claim a.own.phase e))

pub returns-in-10 : goal.returns-in-10
returns-in-10 c =
    let a = c.args in c.given_back.ensures ∙ ap (λ (q : Phase). get_or (ahead_in a.settings.values a.own q) a.i no_operation) (sym (at_returning a.own.phase c.in-10.is))

pub returns-in_default : goal.returns-in_default
returns-in_default c =
    let a = c.args in let w = walks_on a.settings.values a.own a.i (λ e. omega (arith, e)) (λ e. omega (arith, e)) (λ e. omega (arith, e)) (λ e. omega (arith, e)) (λ e. omega (arith, e)) c.requires.1 in c.standing.ensures ∙ sym (ap (λ (l : List Operation). get_or l a.i no_operation) w.1 ∙ walk_at a.settings.values a.own (phase_of a.own.phase) a.own.place a.i no_operation w.0)
