-- Laws: the lines that the calls of a schedule add to its log. Assumes nothing.
use Rattle.std.specs.Prelude.{◌≡◌, List, ◌++◌, ℕ, suc, ◌+◌, ◌≤◌, ◌<◌, length, take, drop, get_or, map}
use Rattle.std.proofs.Common.{sym, ap, ap₂, ◌∙◌, add-one, append_assoc, append-nil, drop-cons}
use Rattle.std.proofs.lemmas.List.{drop_all}
use Rattle.lock.specs.declared.Call.{Call as CallStruct}
use Rattle.lock.specs.declared.Client.{Client}
use Rattle.lock.specs.declared.Record.{Record}
use Rattle.lock.specs.declared.Settings.{Settings}
use Rattle.lock.specs.rules.ByValue.{call_of}
use Rattle.lock.specs.rules.Table.{State, Call, client_of, client_at, record_at, Out, call}
use Rattle.lock.proofs.laws.ByKind.{client_of_kind}
use Rattle.schedule.specs.rules.Format.{settings_in, clients_in, calls_in}
use Rattle.schedule.specs.rules.Running.{opening_in}
use Rattle.schedule.specs.rules.Refusal.{refusal}
use Rattle.schedule.specs.rules.Log.{kind_text, header_line, line, lines, log_of}
use Rattle.schedule.specs.rules.Text.{text, decimal, spaced}
use Rattle.schedule.specs.laws.Appended.{Appended}
use Rattle.schedule.specs.laws.FormatLaws.{CallRead, call_of_bytes, call_read}
use Rattle.schedule.specs.laws.RunLaws.{fresh}
use Rattle.schedule.specs.laws.Refusing.{run_whole}

-- ---- one line

-- with the client's number in the call's place
pub line_of_lem : (k : ℕ) (c : Call) (client number : ℕ) (r : Record) → client_of c ≡ client
    → decimal k ++ (text " " ++ (kind_text c ++ (spaced client ++ (spaced number ++ (spaced r.phase ++ (spaced r.left ++ (spaced r.right ++ text "\n"))))))) ≡ line k c number r
unfolding line
line_of_lem k c client number r e = rw e

-- with the call as the code reads it, and its client
pub line_in : (k number : ℕ) (bytes : List ℕ) (c : CallStruct) (st : State) (own : Client) → CallRead bytes c → own ≡ client_at st c.client
    → line k (call_of c.kind c.client c.a c.b) number own.«record» ≡ line k (call_of_bytes bytes) number (record_at st (client_of (call_of_bytes bytes)))
line_in k number bytes c st own r e =
    ap (λ (x : Client). line k (call_of c.kind c.client c.a c.b) number x.«record») (e ∙ ap (client_at st) (sym (client_of_kind c.kind c.client c.a c.b)))
    ∙ ap (λ (z : Call). line k z number (record_at st (client_of z))) (call_read bytes c r)

-- ---- all calls: what is written so far, and the lines of the calls from k on, are the whole text

module _ (s : Settings) (calls : List (List ℕ)) where
  abbrev pub lines_from : State → ℕ → List ℕ
  lines_from st k = lines s st k (map call_of_bytes (drop k calls))

  -- call k is made, and its line written
  pub written_more : (whole out new : List ℕ) (st : State) (k at end : ℕ) (d : List ℕ) → take at out ++ lines_from st k ≡ whole → k < length calls → (o : Out) → call s st (call_of_bytes (get_or calls k d)) ≡ o
      → Appended out at new end (line k (call_of_bytes (get_or calls k d)) o.number (record_at o.state (client_of (call_of_bytes (get_or calls k d))))) → take end new ++ lines_from o.state (k + 1) ≡ whole
  unfolding lines
  written_more whole out new st k at end d e h o f a =
      let c = call_of_bytes (get_or calls k d) in
      let rest = map call_of_bytes (drop (suc k) calls) in
      let line_of : Out → List ℕ = λ x. line k c x.number (record_at x.state (client_of c)) in
      ap₂ (λ (l : List ℕ) (n : ℕ). l ++ lines_from o.state n) a.text (add-one k)
      ∙ append_assoc (take at out) (line_of o) (lines s o.state (suc k) rest)
      ∙ ap (λ (x : Out). take at out ++ (line_of x ++ lines s x.state (suc k) rest)) (sym f)
      ∙ ap (λ (l : List (List ℕ)). take at out ++ lines s st k (map call_of_bytes l)) (sym (drop-cons calls k d h)) ∙ e

  -- all calls are made
  pub written_all : (whole out : List ℕ) (st : State) (k at : ℕ) → take at out ++ lines_from st k ≡ whole → length calls ≤ k → take at out ≡ whole
  unfolding lines
  written_all whole out st k at e h =
      sym (append-nil (take at out)) ∙ ap (λ (l : List (List ℕ)). take at out ++ lines s st k (map call_of_bytes l)) (sym (drop_all k calls h)) ∙ e

-- ---- the whole log of a file that is not refused

pub log_run : (bytes : List ℕ) → refusal bytes ≡ 0 → (s : Settings) (clients : ℕ) (cs : List Call) → s ≡ settings_in bytes → clients ≡ clients_in bytes → cs ≡ calls_in bytes
    → (whole : List ℕ) → whole ≡ header_line s clients ++ lines s (fresh s clients) 0 cs → whole ≡ log_of bytes
unfolding log_of opening_in
log_run bytes z s clients cs e f g whole t =
    run_whole bytes (header_line (settings_in bytes) (clients_in bytes) ++ lines (settings_in bytes) (opening_in bytes).state 0 (calls_in bytes)) z whole
    (t ∙ ap₂ (λ (x : Settings) (y : ℕ). header_line x y ++ lines x (fresh x y) 0 cs) e f
    ∙ ap (λ (l : List Call). header_line (settings_in bytes) (clients_in bytes) ++ lines (settings_in bytes) (opening_in bytes).state 0 l) g)
