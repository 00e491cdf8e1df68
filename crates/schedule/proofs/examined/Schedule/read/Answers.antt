-- The file's cause, and behind it the opening's.
use Rattle.std.proofs.Common.{◌≡◌, ℕ, length, drop, List, sym, ap, ◌∙◌, arith, rules}
use Rattle.base.specs.rules.Refusals.{number_of, number_in}
use Rattle.lock.specs.rules.Table.{opening}
use Rattle.lock.proofs.laws.CallLaws.{cause_some}
use Rattle.schedule.specs.declared.format.Header.{Header}
use Rattle.schedule.specs.rules.Format.{lent_for, count_in, offset_in}
use Rattle.schedule.specs.rules.Running.{opening_in}
use Rattle.schedule.specs.laws.FormatLaws.{header_in, count_chunks}
use Rattle.schedule.specs.laws.Refusing.{file_refuses, opening_tells}
use Rattle.schedule.specs.laws.RunLaws.{opening_number_lem}
use Rattle.schedule.specs.laws.WellFormed.{well_formed, few_calls}
use Rattle.schedule.proofs.examined.Schedule.read.Goals as goal

-- the number that the opening's tests give is the opening's
opening_told : (bytes : List ℕ) (header : Header) → header ≡ header_in bytes → (n : ℕ) → n ≡ (opening header.settings (lent_for header.settings header.clients)).number → n ≡ (opening_in bytes).number
unfolding opening_in
opening_told bytes header e n f = f ∙ ap (λ (h : Header). (opening h.settings (lent_for h.settings h.clients)).number) e

pub returns-in_err-header-clause-number : goal.returns-in_err-header-clause-number
returns-in_err-header-clause-number c =
    let told : number_in c.from_residual.result ≡ number_of c.in_err-header.field-0.0 = search rules in
    told ∙ file_refuses _ _ c.in_err-header.ensures.cause (cause_some c.in_err-header.field-0.0)

pub word_count-words-requires : goal.word_count-words-requires
word_count-words-requires c = omega (arith, ap (λ (h : Header). h.settings.levels) c.in_ok-header.ensures.parts.0, (well_formed _ (sym c.in_ok-header.ensures.cause)).levels)

pub returns-in_err-opening_cause-clause-number : goal.returns-in_err-opening_cause-clause-number
returns-in_err-opening_cause-clause-number c =
    let told : number_in c.from_residual-in_err-opening_cause.result ≡ number_of c.in_err-opening_cause.field-0.0 = search rules in
    let parts = c.in_ok-header.ensures in
    told ∙ opening_tells _ (sym parts.cause) _ (opening_told _ _ parts.parts.0 _ (opening_number_lem _ _ _ _ c.word_count-words.ensures.0 c.in_err-opening_cause.ensures))

pub invariant_of-result : goal.invariant_of-result
invariant_of-result c =
    let parts = c.in_ok-header.ensures in
    let right = well_formed _ (sym parts.cause) in
    record {
      few_calls = omega (arith, ap length parts.parts.1, count_chunks 24 (count_in c.args.bytes.now) (drop (offset_in c.args.bytes.now) c.args.bytes.now), few_calls _ right);
      few_levels = omega (arith, ap (λ (h : Header). h.settings.levels) parts.parts.0, right.levels);
      few_clients = omega (arith, ap (λ (h : Header). h.clients) parts.parts.0, right.clients);
      opened = sym (opening_number_lem _ _ _ _ c.word_count-words.ensures.0 c.in_ok-opening_cause.ensures);
    }

pub returns-clause-number : goal.returns-clause-number
returns-clause-number c =
    let parts = c.in_ok-header.ensures in
    opening_tells _ (sym parts.cause) _ (opening_told _ _ parts.parts.0 _ (opening_number_lem _ _ _ _ c.word_count-words.ensures.0 c.in_ok-opening_cause.ensures))
