-- No history meets cause 6 on a page: after every list of calls from an accepted opening neither page is refused by 6, and the planners' page, lent one row a client, and the page of every
-- client are given. Assumes nothing.
use Rattle.std.specs.Prelude.{◌≡◌, refl, ◌≢◌, Bool, false, ◌||◌, List, [], ◌∷◌, ℕ, suc, ◌<◌, eqb}
use Rattle.std.proofs.Math.Path.{sym, ap}
use Rattle.std.proofs.Common.{ap₂, ◌∙◌, inl, inr, arith}
use Rattle.std.proofs.Math.ListN.{length, length-replicate}
use Rattle.base.specs.rules.Choice.{choose}
use Rattle.base.specs.laws.ChoiceLaws.{on_choose}
use Rattle.lock.specs.declared.Client.{Client}
use Rattle.lock.specs.declared.Settings.{Settings}
use Rattle.lock.specs.rules.Records.{idle_client}
use Rattle.lock.specs.rules.Unreadable.{unreadable}
use Rattle.lock.specs.rules.Calls.{settings_outside, clients_outside, client_tests}
use Rattle.lock.specs.rules.Table.{State, Call, client_at, opened, opening}
use Rattle.lock.specs.rules.History.{run}
use Rattle.lock.proofs.laws.CallLaws.{NotNamed, never_named}
use Rattle.lock.proofs.laws.Accepted.{opening_tested}
use Rattle.lock.proofs.claim.HistoryRecord.{count_run}
use Rattle.lock.proofs.claim.Readable.{every_readable}
use Rattle.pages.specs.declared.Row.{Row}
use Rattle.pages.specs.rules.Pages.{rows_of, any_unreadable, planners_tests, planners_number, page, planners_page, held_count, own_client, run_tests, run_number, run_page}
use Rattle.pages.proofs.laws.CauseLaws.{planners_passed, run_passed}
use Rattle.pages.proofs.laws.PlannersLaws.{planners_takes}
use Rattle.pages.specs.laws.RunLaws.{refused_page, accepted_page, own_page}
use Rattle.pages.proofs.laws.RunLaws.{run_takes}

none_unreadable : (s : Settings) (cs : List Client) → ((i : ℕ) → unreadable s (own_client cs i).«record» (own_client cs i).clock ≡ false) → any_unreadable s cs ≡ false
unfolding any_unreadable
none_unreadable s [] every = refl
none_unreadable s (c ∷ cs) every = ap₂ (λ (x y : Bool). x || y) (every 0) (none_unreadable s cs (λ i. every (suc i)))

module _ (s : Settings) (lent : State) (e : (opening s lent).number ≡ 0) (ks : List Call) where
  abbrev after : State
  after = run s (opening s lent).state ks

  pub same_count : length after.clients ≡ length lent.clients
  unfolding opening opened
  same_count =
      count_run s ks (opening s lent).state
      ∙ on_choose (λ (st : State). length st.clients ≡ length lent.clients) (eqb (opening s lent).number 0) (opened lent) lent
      (λ _. length-replicate (length lent.clients) idle_client) (λ _. refl)

  -- the opening has tested 1 and 3
  settings_right : settings_outside s ≡ false
  unfolding opening
  settings_right = (opening_tested s (length lent.words) (length lent.clients) e).0

  clients_right : clients_outside (length after.clients) ≡ false
  unfolding opening
  clients_right = ap clients_outside same_count ∙ (opening_tested s (length lent.words) (length lent.clients) e).2

  readable : (c : ℕ) → unreadable s (own_client after.clients c).«record» (own_client after.clients c).clock ≡ false
  unfolding client_at
  readable = every_readable s lent e ks

  none : any_unreadable s after.clients ≡ false
  none = none_unreadable s after.clients readable

  -- ---- never refused by 6, whatever rows are lent and whichever client asks

  pub planners_not_6 : (rows : List Row) → (planners_page s after.clients rows).number ≢ 6
  unfolding NotNamed planners_page planners_number planners_tests
  planners_not_6 rows =
      never_named 6 (planners_tests s after.clients (length rows)) (λ z. omega arith)
      (inl (λ z. omega arith), (inl (λ z. omega arith), (inl (λ z. omega arith), (inr none, tt))))

  pub run_not_6 : (c : ℕ) → run_number s after.clients c ≢ 6
  unfolding NotNamed run_number run_tests client_tests
  run_not_6 c =
      never_named 6 (run_tests s after.clients c) (λ z. omega arith)
      (inl (λ z. omega arith), (inl (λ z. omega arith), (inl (λ z. omega arith), (inr (readable c), tt))))

  -- ---- given, where one row a client is lent, and where there is such a client

  pub planners_given : (rows : List Row) → length rows ≡ length after.clients → planners_page s after.clients rows ≡ page 0 (rows_of s after.clients)
  planners_given rows f =
      sym (planners_takes s after.clients rows 0 refl (sym (planners_passed s (length rows) (length after.clients) settings_right f clients_right))
      none)

  pub run_given : (c : ℕ) → c < length after.clients → run_page s after.clients c ≡ accepted_page (own_client after.clients c).«record» (held_count after.clients)
  unfolding own_page choose
  run_given c b =
      sym (run_takes s after.clients c (sym (run_passed s (length after.clients) c settings_right clients_right b)))
      ∙ ap (λ (x : Bool). choose x (refused_page 6) (accepted_page (own_client after.clients c).«record» (held_count after.clients))) (readable c)
