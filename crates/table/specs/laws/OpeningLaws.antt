-- An opening over the table: refused by 1, 2 or 3, or all zeroed. Assumes nothing.
use Rattle.std.specs.Prelude.{◌≡◌, List, ℕ, length, replicate}
use Rattle.std.proofs.Math.Path.{sym}
use Rattle.std.proofs.Common.{◌∙◌}
use Rattle.base.specs.laws.ChoiceLaws.{choose_eq, choose_ne}
use Rattle.lock.specs.declared.Client.{Client}
use Rattle.lock.specs.declared.Settings.{Settings}
use Rattle.lock.specs.rules.Records.{idle_client}
use Rattle.lock.specs.rules.Table.{State, opening_number, opened, opening}
use Rattle.table.specs.rules.Lent.{lent, left_with}

module _ (s : Settings) (clients : List Client) (words : List ℕ) where
  abbrev st : State
  st = lent clients words

  abbrev number : ℕ
  number = opening_number s (length words) (length clients)

  -- the state after a refused opening, and after an accepted one
  state_refused : (number ≡ 0 → ⊥) → st ≡ (opening s st).state
  unfolding opening
  state_refused d = sym (choose_ne number 0 _ st d)

  state_opened : number ≡ 0 → lent (replicate (length clients) idle_client) (replicate (length words) 0) ≡ (opening s st).state
  unfolding opening opened
  state_opened z = sym (choose_eq number 0 _ st z)

  pub opening_refuses : (n : ℕ) → n ≡ number → (n ≡ 0 → ⊥) → left_with n clients words ≡ opening s st
  unfolding opening
  opening_refuses n e d =
      let kept = state_refused (λ z. d (e ∙ z)) in
      λ i. record { number = e i; state = kept i }

  pub opening_takes : (n : ℕ) → n ≡ number → n ≡ 0 → left_with n (replicate (length clients) idle_client) (replicate (length words) 0) ≡ opening s st
  unfolding opening
  opening_takes n e z =
      let made = state_opened (sym e ∙ z) in
      λ i. record { number = e i; state = made i }
