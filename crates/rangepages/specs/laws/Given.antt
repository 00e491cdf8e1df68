-- What `rangepages` prints of a schedule that is not refused is what the two pages give after its last call: for each client its row of the planners' page, then for each the record and the count
-- of its own page. Assumes nothing.
use Rattle.std.specs.Prelude.{◌≡◌, refl, ℕ, zero, suc, ◌+◌, ◌≤◌, ◌<◌, length, take}
use Rattle.std.proofs.Math.Path.{sym, ap, ap₂}
use Rattle.std.proofs.Common.{◌∙◌, arith, take_all}
use mathlib.Core.List.{List, [], ◌∷◌, ◌++◌, map}
use Rattle.std.proofs.Math.ListN.{get_or}
use Rattle.base.specs.laws.ChoiceLaws.{choose_eq}
use Rattle.lock.specs.declared.Client.{Client}
use Rattle.lock.specs.declared.Record.{Record}
use Rattle.lock.specs.rules.Records.{idle_client}
use Rattle.pages.specs.declared.Row.{Row}
use Rattle.pages.specs.declared.RunPage.{RunPage}
use Rattle.pages.specs.rules.Pages.{row_of, rows_of, page, planners_page, held_count, own_client, run_page}
use Rattle.pages.specs.laws.RunLaws.{accepted_page}
use Rattle.pages.proofs.laws.Histories.{planners_given, run_given}
use Rattle.schedule.specs.rules.Format.{settings_in, clients_in, calls_in, lent_for}
use Rattle.schedule.specs.rules.Running.{opening_in, after_calls}
use Rattle.schedule.specs.rules.Refusal.{refusal, unless_refused}
use Rattle.schedule.specs.laws.Refusing.{opening_passes}
use Rattle.rangepages.specs.rules.Printed.{row_text, row_line, record_line, line_each, pages_text, pages_of}
use Rattle.rangepages.specs.laws.Lines.{line_suc}
use Rattle.rangepages.specs.laws.Paging.{count_after}

-- the lines of the clients below n, by their numbers
unfoldable pub lines_below : ℕ → (ℕ → List ℕ) → List ℕ
lines_below zero line = []
lines_below (suc n) line = lines_below n line ++ line n

same_lines : (n : ℕ) (f g : ℕ → List ℕ) → ((c : ℕ) → c < n → f c ≡ g c) → lines_below n f ≡ lines_below n g
unfolding lines_below
same_lines zero f g e = refl
same_lines (suc n) f g e = ap₂ ◌++◌ (same_lines n f g (λ c b. e c (omega arith))) (e n (omega arith))

by_number : (line : ℕ → Record → List ℕ) (cs : List Client) (n : ℕ) → n ≤ length cs → line_each line 0 (take n cs) ≡ lines_below n (λ c. line c (own_client cs c).«record»)
unfolding line_each lines_below
by_number line cs zero b = refl
by_number line cs (suc n) b =
    sym (line_suc line 0 n cs idle_client b) ∙ ap (λ (m : ℕ). line_each line 0 (take n cs) ++ line m (own_client cs n).«record») (let e : 0 + n ≡ n = omega arith in e)
    ∙ ap (λ (l : List ℕ). l ++ line n (own_client cs n).«record») (by_number line cs n (omega arith))

all_by_number : (line : ℕ → Record → List ℕ) (cs : List Client) → line_each line 0 cs ≡ lines_below (length cs) (λ c. line c (own_client cs c).«record»)
all_by_number line cs = ap (line_each line 0) (sym (take_all (length cs) cs (omega arith))) ∙ by_number line cs (length cs) (omega arith)

row_at : (f : Client → Row) (cs : List Client) (i : ℕ) (d : Row) → i < length cs → f (own_client cs i) ≡ get_or (map f cs) i d
row_at f [] i d b = absurd (omega arith)
row_at f (c ∷ cs) zero d b = refl
row_at f (c ∷ cs) (suc i) d b = row_at f cs i d (omega arith)

module _ (bytes : List ℕ) (z : refusal bytes ≡ 0) (rows : List Row) (one_each : length rows ≡ clients_in bytes) where
  abbrev clients : List Client
  clients = (after_calls bytes).clients

  -- the planners' page of the table after the last call, lent one row a client
  abbrev planners : List Row
  planners = (planners_page (settings_in bytes) clients rows).rows

  -- a client's own page of it
  abbrev own : ℕ → RunPage
  own client = run_page (settings_in bytes) clients client

  planners_are : planners_page (settings_in bytes) clients rows ≡ page 0 (rows_of (settings_in bytes) clients)
  unfolding after_calls opening_in
  planners_are = planners_given (settings_in bytes) (lent_for (settings_in bytes) (clients_in bytes)) (opening_passes bytes z) (calls_in bytes) rows (one_each ∙ sym (count_after bytes z))

  own_is : (client : ℕ) → client < length clients → own client ≡ accepted_page (own_client clients client).«record» (held_count clients)
  unfolding after_calls opening_in
  own_is client b = run_given (settings_in bytes) (lent_for (settings_in bytes) (clients_in bytes)) (opening_passes bytes z) (calls_in bytes) client b

  row_printed : (d : Row) (c : ℕ) → c < length clients → row_line (settings_in bytes) c (own_client clients c).«record» ≡ row_text c (get_or planners c d)
  unfolding row_line rows_of
  row_printed d c b = ap (row_text c) (row_at (λ (own : Client). row_of (settings_in bytes) own.«record») clients c d b ∙ ap (λ p. get_or p.rows c d) (sym planners_are))

  record_printed : (c : ℕ) → c < length clients → record_line (held_count clients) c (own_client clients c).«record» ≡ record_line (own c).held c (own c).own
  record_printed c b = ap (λ (p : RunPage). record_line p.held c p.own) (sym (own_is c b))

  pub printed : (d : Row) → pages_of bytes ≡ lines_below (clients_in bytes) (λ c. row_text c (get_or planners c d)) ++ lines_below (clients_in bytes) (λ c. record_line (own c).held c (own c).own)
  unfolding pages_of unless_refused pages_text
  printed d =
      let whole : pages_of bytes ≡ line_each (row_line (settings_in bytes)) 0 clients ++ line_each (record_line (held_count clients)) 0 clients = choose_eq (refusal bytes) 0 _ _ z in
      whole
      ∙ ap₂ ◌++◌
      (all_by_number (row_line (settings_in bytes)) clients ∙ same_lines (length clients) _ _ (row_printed d) ∙ ap (λ (m : ℕ). lines_below m (λ c. row_text c (get_or planners c d))) (count_after bytes z))
      (all_by_number (record_line (held_count clients)) clients ∙ same_lines (length clients) _ _ record_printed ∙ ap (λ (m : ℕ). lines_below m (λ c. record_line (own c).held c (own c).own)) (count_after bytes z))

  -- neither page is refused
  pub given : ((planners_page (settings_in bytes) clients rows).number ≡ 0) × ((client : ℕ) → client < clients_in bytes → (own client).number ≡ 0)
  given = (ap (λ p. p.number) planners_are, λ client b. ap (λ (p : RunPage). p.number) (own_is client (omega (arith, count_after bytes z, b))))
