-- A file is refused by 10 at the first test that finds something, and by 11 behind them.
use Rattle.std.proofs.Common.{rules, ◌<◌, ◌≡◌, Bool, true, false, ◌||◌, ltb, List, ℕ, ◌+◌, ◌*◌, ◌≤◌, length, drop, sym, ap, ◌∙◌, lt-ltb, le-ltb}
use Rattle.std.specs.List.{list_any}
use Rattle.std.specs.Simd.{first_chunks}
use Rattle.base.specs.rules.Refusals.{number_in}
use Rattle.base.specs.laws.TestLaws.{true_first, true_later, next_test}
use Rattle.schedule.specs.declared.format.Header.{Header}
use Rattle.schedule.specs.rules.Format.{settings_in, offset_in, malformed, too_large}
use Rattle.schedule.specs.laws.FormatLaws.{wrong, header_in, calls_end, calls_behind, any_chunk}
use Rattle.schedule.specs.laws.WellFormed.{too_long, too_short, offset_low, calls_outside, calls_tested, large_tested, cause_malformed, cause_large, cause_none}
use Rattle.schedule.proofs.examined.parts.Goals as goal
use Rattle.schedule.proofs.examined.parts.Goals.{then-header-gt6-via-then-header-gt6, then-header-gt6-via-else-header-gt6+then-header-gt64}

-- a header that was read, and calls that were
abbrev Headed : List ℕ → Header → Type 0
Headed bytes header = (20 ≤ length bytes) × (header ≡ header_in bytes)

abbrev Inside : List ℕ → Header → List (List ℕ) → Type 0
Inside bytes header calls = (header.offset + 24 * header.count ≤ length bytes) × (calls ≡ first_chunks 24 header.count (drop header.offset bytes))

offset : (bytes : List ℕ) (header : Header) → header ≡ header_in bytes → header.offset ≡ offset_in bytes
offset bytes header e = ap (λ (h : Header). h.offset) e

-- what the code finds in the calls, behind the first tests
found : (bytes : List ℕ) → length bytes ≤ 65536 → (header : Header) → 20 ≤ length bytes → header ≡ header_in bytes → 20 ≤ header.offset → (calls : List (List ℕ))
    → header.offset + 24 * header.count ≤ length bytes → calls ≡ first_chunks 24 header.count (drop header.offset bytes) → (x : Bool) → x ≡ list_any wrong calls → x ≡ malformed bytes
found bytes short header long e high calls inside f x g =
    calls_tested bytes short long header.offset (offset bytes header e) high _ (calls_end bytes header e) inside x
    (g ∙ ap (list_any wrong) (calls_behind bytes header e calls f) ∙ any_chunk bytes)

large : (bytes : List ℕ) (header : Header) → header ≡ header_in bytes → (ltb 6 header.settings.levels || ltb 64 header.clients) ≡ too_large bytes
unfolding settings_in
large bytes header e = large_tested bytes header.settings.levels header.clients (ap (λ (h : Header). h.settings.levels) e) (ap (λ (h : Header). h.clients) e)

pub returns-then-bytes-gt65536-clause-cause : goal.returns-then-bytes-gt65536-clause-cause
returns-then-bytes-gt65536-clause-cause c = cause_malformed _ (sym (too_long _ c.if-bytes-gt65536.true))

pub returns-in_err-header-clause-cause : goal.returns-in_err-header-clause-cause
returns-in_err-header-clause-cause c =
    let told : number_in c.from_residual.result ≡ 10 = search rules in
    let short : length c.args.bytes.now < 20 = search rules in
    told ∙ cause_malformed _ (sym (too_short _ c.if-bytes-gt65536.false short))

pub returns-then-header-lt20-clause-cause : goal.returns-then-header-lt20-clause-cause
returns-then-header-lt20-clause-cause c =
    let h : Headed c.args.bytes.now c.in_ok-header.header = search rules in
    cause_malformed _ (sym (offset_low _ c.if-bytes-gt65536.false h.0 _ (offset _ _ h.1) c.if-header-lt20.true))

pub returns-in_err-calls-clause-cause : goal.returns-in_err-calls-clause-cause
returns-in_err-calls-clause-cause c =
    let h : Headed c.args.bytes.now c.in_ok-header.header = search rules in
    let told : number_in c.from_residual-in_err-calls.result ≡ 10 = search rules in
    let outside : length c.args.bytes.now < c.in_ok-header.header.offset + 24 * c.in_ok-header.header.count = search rules in
    told ∙ cause_malformed _ (sym (calls_outside _ c.if-bytes-gt65536.false h.0 _ (offset _ _ h.1) c.if-header-lt20.false _ (calls_end _ _ h.1) outside))

pub returns-then-any_wrong-clause-cause : goal.returns-then-any_wrong-clause-cause
returns-then-any_wrong-clause-cause c =
    let h : Headed c.args.bytes.now c.in_ok-header.header = search rules in
    let calls : Inside c.args.bytes.now c.in_ok-header.header c.in_ok-calls.calls.now = search rules in
    cause_malformed _ (sym (found _ c.if-bytes-gt65536.false _ h.0 h.1 c.if-header-lt20.false _ calls.0 calls.1 true (sym c.if-any_wrong.true ∙ c.any_wrong.ensures)))

pub returns-then-header-gt6-clause-cause : goal.returns-then-header-gt6-clause-cause
returns-then-header-gt6-clause-cause c =
    let h : Headed c.args.bytes.now c.in_ok-header.header = search rules in
    let calls : Inside c.args.bytes.now c.in_ok-header.header c.in_ok-calls.calls.now = search rules in
    let header = c.in_ok-header.header in
    let over : true ≡ (ltb 6 header.settings.levels || ltb 64 header.clients)
    = elim c.then-header-gt6.branch [
      | then-header-gt6-via-then-header-gt6 w ↦ true_first _ _ (lt-ltb _ _ w.if-header-gt6.true)
      | then-header-gt6-via-else-header-gt6+then-header-gt64 w ↦ true_later _ _ (sym (lt-ltb _ _ w.if-header-gt64.true))
    ] in
    cause_large _ (sym (found _ c.if-bytes-gt65536.false _ h.0 h.1 c.if-header-lt20.false _ calls.0 calls.1 false (sym c.if-any_wrong.false ∙ c.any_wrong.ensures)))
    (sym (large _ _ h.1) ∙ sym over)

pub returns-clause-cause : goal.returns-clause-cause
returns-clause-cause c =
    let h : Headed c.args.bytes.now c.in_ok-header.header = search rules in
    let calls : Inside c.args.bytes.now c.in_ok-header.header c.in_ok-calls.calls.now = search rules in
    cause_none _ (sym (found _ c.if-bytes-gt65536.false _ h.0 h.1 c.if-header-lt20.false _ calls.0 calls.1 false (sym c.if-any_wrong.false ∙ c.any_wrong.ensures)))
    (sym (large _ _ h.1) ∙ sym (next_test false _ _ (le-ltb _ _ c.if-header-gt6.false) (sym (le-ltb _ _ c.if-header-gt64.false))))
