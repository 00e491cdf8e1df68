-- Laws: what is known of a run of a schedule that is not refused, and its pages' text. Assumes nothing.
use Rattle.std.specs.Prelude.{◌≡◌, ℕ, suc, ◌+◌, ◌≤◌, length, take}
use Rattle.std.proofs.Common.{ap₂, ◌∙◌, arith}
use Rattle.std.proofs.Math.Path.{ap}
use mathlib.Core.List.{List, ◌++◌}
use Rattle.std.proofs.Math.ListN.{length-replicate}
use Rattle.lock.specs.declared.Client.{Client}
use Rattle.lock.specs.declared.Record.{Record}
use Rattle.lock.specs.declared.Settings.{Settings}
use Rattle.lock.specs.rules.Records.{idle_client}
use Rattle.lock.specs.rules.Table.{State, Call, opening}
use Rattle.lock.specs.rules.History.{AllReadable, run}
use Rattle.lock.proofs.laws.Accepted.{opened_accepted}
use Rattle.lock.specs.laws.Active.{Settled}
use Rattle.lock.proofs.claim.Readable.{every_readable}
use Rattle.pages.specs.declared.Row.{Row}
use Rattle.pages.specs.rules.Pages.{row_of, in_phase9, held_count}
use Rattle.pages.proofs.laws.Histories.{same_count}
use Rattle.pages.proofs.laws.CountLaws.{phase_9_most, held_most}
use Rattle.schedule.specs.rules.Format.{settings_in, clients_in, calls_in, lent_for}
use Rattle.schedule.specs.rules.Running.{opening_in, after_calls}
use Rattle.schedule.specs.rules.Refusal.{refusal}
use Rattle.schedule.specs.laws.RunLaws.{fresh, all_made}
use Rattle.schedule.specs.laws.Refusing.{opening_passes, run_whole}
use Rattle.schedule.specs.laws.Appended.{Appended, joined}
use Rattle.rangepages.specs.rules.Printed.{row_text, row_line, record_line, line_each, pages_text, pages_of}

-- the count of the first i, and one client more
pub held_few : (l : List Client) (i n m : ℕ) (r : Record) → n ≡ held_count (take i l) → m ≡ in_phase9 r.phase → n + m ≤ suc i
held_few l i n m r e f = omega (arith, e, f, held_most l i, phase_9_most r.phase)

-- a line with the client and the row as the code has them
pub row_put : (s : Settings) (client : ℕ) (own c : Client) (w : Row) → own ≡ c → w ≡ row_of s own.«record» → row_text client w ≡ row_line s client c.«record»
unfolding row_line
row_put s client own c w e f = ap (row_text client) (f ∙ ap (λ (x : Client). row_of s x.«record») e)

-- ---- a schedule that is not refused

module _ (s : Settings) (clients : ℕ) (opened : (opening s (lent_for s clients)).number ≡ 0) where
  pub settled : Settled s
  unfolding opening
  settled = (opened_accepted s (lent_for s clients) opened).0

  -- no history meets cause 6
  pub readable_after : (calls : List Call) → AllReadable s (run s (fresh s clients) calls)
  readable_after = every_readable s (lent_for s clients) opened

pub count_after : (bytes : List ℕ) → refusal bytes ≡ 0 → length (after_calls bytes).clients ≡ clients_in bytes
unfolding after_calls opening_in lent_for
count_after bytes z =
    same_count (settings_in bytes) (lent_for (settings_in bytes) (clients_in bytes)) (opening_passes bytes z) (calls_in bytes) ∙ length-replicate (clients_in bytes) idle_client

-- both pages, one behind the other
pub pages_whole : (s : Settings) (clients : List Client) (held : ℕ) → held ≡ held_count clients → (old mid out : List ℕ) (at end : ℕ)
    → Appended old 0 mid at (line_each (row_line s) 0 clients) → Appended mid at out end (line_each (record_line held) 0 clients) → take end out ≡ pages_text s clients
unfolding pages_text
pages_whole s clients held g old mid out at end rows records =
    (joined rows records).text ∙ ap (λ (n : ℕ). line_each (row_line s) 0 clients ++ line_each (record_line n) 0 clients) g

-- where they are of the clients after a file's last call, they are its text
pub pages_of_file : (bytes : List ℕ) → refusal bytes ≡ 0 → (s : Settings) → s ≡ settings_in bytes → (clients : List Client) → clients ≡ (after_calls bytes).clients
    → (held : ℕ) → held ≡ held_count clients → (old mid out : List ℕ) (at end : ℕ)
    → Appended old 0 mid at (line_each (row_line s) 0 clients) → Appended mid at out end (line_each (record_line held) 0 clients) → take end out ≡ pages_of bytes
unfolding pages_of
pages_of_file bytes z s e clients f held g old mid out at end rows records =
    run_whole bytes (pages_text (settings_in bytes) (after_calls bytes).clients) z (take end out) (pages_whole s clients held g old mid out at end rows records ∙ ap₂ pages_text e f)

-- they are the text of the file
pub pages_run : (bytes : List ℕ) → refusal bytes ≡ 0 → (s : Settings) (clients : ℕ) (cs : List Call) → s ≡ settings_in bytes → clients ≡ clients_in bytes → cs ≡ calls_in bytes
    → (whole : List ℕ) → whole ≡ pages_text s (run s (fresh s clients) cs).clients → whole ≡ pages_of bytes
unfolding pages_of
pages_run bytes z s clients cs e f g whole t =
    run_whole bytes (pages_text (settings_in bytes) (after_calls bytes).clients) z whole
    (t ∙ ap₂ (λ (x : Settings) (st : State). pages_text x st.clients) e (all_made bytes s clients cs e f g))
